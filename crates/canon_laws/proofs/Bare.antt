-- A canonical line without its LF: its bytes, its columns, and what it is read as. One law over layouts, cited for every record.
-- Assumes nothing.
use mathlib.Core.Path.{◌≡◌, refl, sym, ap, ap₂, ◌∙◌}
use mathlib.Core.Bool.{true}
use mathlib.Core.List.{List, [], ◌∷◌, ◌++◌, map, append-nil, append_assoc}
use Prim.Native.Nat.{ℕ, ◌≤◌}
use native.Mathlib.Omega.{arith}
use borrow.Author.Tests.{le-leb, eq-eqb}
use lib.Dec.{leb, eqb}
use lib.ListN.{length}
use Rattle.laws.specs.Texts.{every, is_printable}
use Rattle.laws.proofs.Bools.{and_both}
use Rattle.lines.specs.Lent.{flat}
use Rattle.lines.specs.Lines.{join_lines}
use Rattle.lines.proofs.Each.{Each}
use Rattle.layout.specs.Fault.{clean}
use Rattle.layout.specs.Layout.{Item, Values, tiled, can_show, show_line, fault_of, values_of}
use Rattle.layout.specs.Line.{padded, trimmed, line_of, ended}
use Rattle.layout.proofs.Lines.{line-found, padded-trimmed}
use Rattle.layout.proofs.Layouts.{shown-wide, reads-back}
use Rattle.layout.proofs.ReadBack.{line-back, written}
use Rattle.record.specs.LineKinds.{told_kind, kind_of, longest}
use Rattle.file.specs.Plain.{is_line, is_record}
use Rattle.header.specs.declared.types.Rules.{Rules}
use Rattle.record.specs.declared.types.LineKind.{LineKind}

-- a line with its LF
abbrev pub EndsLine : List ℕ → Type 0
EndsLine l = l ≡ line_of l ++ (10 ∷ [])

-- such lines one directly after another
pub lines-joined : (ls : List (List ℕ)) → Each EndsLine ls → flat ls ≡ join_lines (map line_of ls)
unfolding flat join_lines
lines-joined [] e = refl
lines-joined (l ∷ ls) e =
    ap₂ (λ (a b : List ℕ). a ++ b) e.0 (lines-joined ls e.1) ∙ append_assoc (line_of l) (10 ∷ []) (join_lines (map line_of ls))

-- the line that shows these values, with its LF
abbrev pub shown : List Item → Values → List ℕ
shown items vs = ended (show_line items vs)

module _ (items : List Item) (vs : Values) (t : tiled items ≡ true) (c : can_show items vs ≡ true) where
  pub bare-is : line_of (shown items vs) ≡ trimmed (show_line items vs)
  bare-is = ap line_of (sym (append-nil (shown items vs))) ∙ line-found (show_line items vs) [] (reads-back items vs t c).plain

  pub bare-printable : every is_printable (line_of (shown items vs)) ≡ true
  bare-printable = rw bare-is (written items vs t c).plain

  pub bare-short : length (line_of (shown items vs)) ≤ 80
  bare-short = rw bare-is (written items vs t c).short

  pub bare-padded : padded (line_of (shown items vs)) ≡ show_line items vs
  bare-padded = rw bare-is (padded-trimmed (show_line items vs) (shown-wide items vs t))

  -- its LF stands after it
  pub bare-ended : EndsLine (shown items vs)
  bare-ended = ap (λ (l : List ℕ). l ++ (10 ∷ [])) (sym bare-is)

  -- whatever is made of its fault and values is made of no fault and the values that it shows
  pub bare-back : {X : Type 0} (make : ℕ → Values → X)
      → make (fault_of items (padded (line_of (shown items vs)))) (values_of items (padded (line_of (shown items vs)))) ≡ make clean vs
  bare-back make =
      ap (λ (s : List ℕ). make (fault_of items (padded (line_of s))) (values_of items (padded (line_of s)))) (sym (append-nil (shown items vs)))
      ∙ line-back items make vs [] t c

  -- a line of a kind that may have 80 columns
  pub bare-line : (rules : Rules) (kind : LineKind) → longest rules kind ≡ 80 → kind_of rules (show_line items vs) ≡ kind
      → is_line rules kind (line_of (shown items vs)) ≡ true
  bare-line rules kind wide is =
      let l = line_of (shown items vs) in
      and_both (every is_printable l) _ bare-printable
      (and_both (leb (length l) (longest rules kind)) _ (le-leb (length l) (longest rules kind) (omega (arith, bare-short, wide)))
      (eq-eqb _ _ (ap (λ (s : List ℕ). told_kind (kind_of rules s)) bare-padded ∙ ap told_kind is)))

  -- and without fault
  pub bare-record : (rules : Rules) (kind : LineKind) (fault : ℕ) → longest rules kind ≡ 80 → kind_of rules (show_line items vs) ≡ kind → fault ≡ 0
      → is_record rules kind fault (line_of (shown items vs)) ≡ true
  bare-record rules kind fault wide is none =
      and_both (is_line rules kind (line_of (shown items vs))) (eqb fault 0) (bare-line rules kind wide is) (eq-eqb fault 0 none)
