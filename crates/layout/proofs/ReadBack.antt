-- What is written is read back: one law of every layout, through the line's LF and whatever follows it.
-- Assumes nothing.
use mathlib.Core.Path.{◌≡◌, ap, ◌∙◌}
use mathlib.Core.Bool.{true}
use mathlib.Core.List.{List, ◌++◌}
use Prim.Native.Nat.{ℕ, ◌≤◌}
use native.Mathlib.Omega.{arith}
use lib.ListN.{length}
use Rattle.layout.specs.Fault.{clean}
use Rattle.layout.specs.Kind.{printable}
use Rattle.layout.specs.Layout.{Item, Values, tiled, can_show, fault_of, values_of, show_line}
use Rattle.layout.specs.Line.{padded, trimmed, ended, line_of}
use Rattle.layout.proofs.Again.{shown-again}
use Rattle.layout.proofs.Layouts.{shown-wide, reads-back}
use Rattle.layout.proofs.Lines.{padded-trimmed, line-found, trimmed-shorter, trimmed-printable}

-- whatever is made of a written line's fault and values is made of no fault and the values that the line was shown by
pub line-back : {X : Type 0} (items : List Item) (make : ℕ → Values → X) (vs : Values) (rest : List ℕ) → tiled items ≡ true → can_show items vs ≡ true
    → let line = padded (line_of (ended (show_line items vs) ++ rest)) in make (fault_of items line) (values_of items line) ≡ make clean vs
line-back items make vs rest t c =
    let law = reads-back items vs t c in
    ap (λ (line : List ℕ). make (fault_of items (padded line)) (values_of items (padded line))) (line-found (show_line items vs) rest law.plain)
    ∙ ap (λ (line : List ℕ). make (fault_of items line) (values_of items line)) (padded-trimmed (show_line items vs) (shown-wide items vs t))
    ∙ ap (λ (fault : ℕ). make fault (values_of items (show_line items vs))) law.sound
    ∙ ap (make clean) law.back

-- a line that can be shown is written in bytes 32 to 126, 80 at most
pub record Written (items : List Item) (vs : Values) : Type 0 where
  pub plain : printable (trimmed (show_line items vs)) ≡ true
  pub short : length (trimmed (show_line items vs)) ≤ 80

pub written : (items : List Item) (vs : Values) → tiled items ≡ true → can_show items vs ≡ true → Written items vs
written items vs t c = record {
  plain = trimmed-printable (show_line items vs) (reads-back items vs t c).plain;
  short = omega (arith, trimmed-shorter (show_line items vs), shown-wide items vs t);
}

-- a line without fault, shown again, is read as what it was
pub line-again : {X : Type 0} (items : List Item) (make : ℕ → Values → X) (line rest : List ℕ) → length line ≡ 80 → printable line ≡ true → tiled items ≡ true
    → fault_of items line ≡ clean
    → let again = padded (line_of (ended (show_line items (values_of items line)) ++ rest)) in
    make (fault_of items again) (values_of items again) ≡ make clean (values_of items line)
line-again items make line rest w p t f = line-back items make (values_of items line) rest t (shown-again items line w p t f)
