-- A line put in place at the front of lent output: its items over the bytes up to its end, and its LF after them. One law for every writer.
-- Assumes nothing.
use mathlib.Core.Path.{◌≡◌, sym, ap, ◌∙◌}
use mathlib.Core.Bool.{true}
use mathlib.Core.List.{List, [], ◌∷◌, ◌++◌}
use Prim.Native.Nat.{ℕ, ◌+◌, ◌≤◌, ◌<◌}
use native.Mathlib.Numerals.{add-one}
use native.Mathlib.Omega.{arith}
use borrow.Author.Tests.{le-leb, lt-leb}
use lib.ListN.{length, take, drop, set, length-append}
use lib.Seq.{length-take-le}
use Rattle.layout.specs.Layout.{Item, Values, tiled, show_line}
use Rattle.layout.specs.Line.{Lays, trimmed, ended}
use Rattle.layout.specs.Inking.{line_end, inked}
use Rattle.layout.proofs.Lines.{copy_ended}
use Rattle.layout.proofs.Inking.{inked-line, end-bound}

-- n bytes and an LF
module _ (line out : List ℕ) (n : ℕ) (ends : n ≡ length line) where
  one_more : n + 1 ≡ length (line ++ (10 ∷ []))
  one_more = ap (λ (k : ℕ). k + 1) ends ∙ sym (length-append line (10 ∷ []))

  -- where there is no room the length is told and nothing laid
  pub no_room : length out ≤ n → Lays (line ++ (10 ∷ [])) out (n + 1) out
  no_room short = record { length-told = one_more; laid = rw (← one_more, lt-leb (n + 1) (length out) (omega arith)) }

  -- else they are laid over the first bytes
  pub laid-over : n < length out → Lays (line ++ (10 ∷ [])) out (n + 1) (set (line ++ drop n out) n 10)
  laid-over long = record {
    length-told = one_more;
    laid = rw (
      ends,
      copy_ended line out 10 (omega arith),
      length-append line (10 ∷ []),
      ← add-one (length line),
      le-leb (length line + 1) (length out) (omega arith),
    );
  }

-- the line of these items and values ends in column n
pub record EndsIn (items : List Item) (vs : Values) (n : ℕ) : Type 0 where
  pub tiles : tiled items ≡ true
  pub told : n ≡ line_end items vs

module _ {items : List Item} {vs : Values} {n : ℕ} (ends : EndsIn items vs n) where
  pub short : n ≤ 80
  short = omega (arith, ends.told, end-bound items vs ends.tiles)

  pub long : length (trimmed (show_line items vs)) ≡ n
  unfolding line_end
  long = sym ends.told

  -- the items put over n bytes are the line
  pub line_drawn : (old : List ℕ) {new : List ℕ} → length old ≡ n → new ≡ inked items vs old → new ≡ trimmed (show_line items vs)
  line_drawn old wide put = put ∙ inked-line items vs old ends.tiles (wide ∙ ends.told)

  -- put over the first n bytes of the output, and its LF after them, they lay the line
  pub put-line : (out : List ℕ) {part : List ℕ} → n < length out → part ≡ inked items vs (take n out)
      → Lays (ended (show_line items vs)) out (n + 1) (set (part ++ drop n out) n 10)
  put-line out room put =
      rw (line_drawn (take n out) (length-take-le n out (omega arith)) put) (laid-over (trimmed (show_line items vs)) out n (sym long) room)
