-- How far a line reaches: past its end a line counts as blank, and the last column of a decimal is a digit, so the line has that column.
-- Assumes nothing.
use mathlib.Core.Path.{◌≡◌, refl, sym, ap, ◌∙◌}
use mathlib.Core.Bool.{Bool, true, false≢true}
use mathlib.Core.List.{List, [], ◌∷◌, ◌++◌}
use Prim.Native.Nat.{ℕ, zero, suc, ◌+◌, ◌-◌, ◌<◌, ◌≤◌}
use native.Mathlib.Nat.{le_of_suc-le-suc, not-suc-le-zero}
use native.Mathlib.Decide.{dec_le}
use native.Mathlib.Omega.{arith}
use lib.ListN.{length, get_or, drop, get_or-replicate, length-drop}
use lib.Seq.{get_or-take, get_or-drop, get_or-append-add, length-take-le}
use Rattle.laws.specs.Texts.{every, blanks}
use Rattle.field.specs.Digits.{is_digit, point_of}
use Rattle.field.specs.Read.{decimal_of}
use Rattle.layout.specs.Fault.{clean}
use Rattle.layout.specs.Kind.{amount_fault, same_bytes, unless}
use Rattle.layout.specs.Line.{padded}
use Rattle.record.specs.Rows.{cut}
use Rattle.field.proofs.Accepted.{decimal-taken}
use Rattle.laws.proofs.Bools.{and_left, and_right}
use Rattle.layout.proofs.Again.{passed}
use Rattle.layout.proofs.Fields.{same-one}
use Rattle.layout.proofs.Lines.{padded-length}
use Rattle.std.specs.Prelude.{Option, Some, None}
use Rattle.field.specs.declared.Signed.{Signed}

-- past its end a line counts as blank
pub blank-past : (l : List ℕ) (i : ℕ) → length l ≤ i → i < 80 → get_or (padded l) i 0 ≡ 32
unfolding padded
blank-past l i h below =
    let m = i - length l in
    let place : i ≡ length l + m = omega arith in
    get_or-take 80 (l ++ blanks 80) i 0 below
    ∙ ap (λ (k : ℕ). get_or (l ++ blanks 80) k 0) place
    ∙ get_or-append-add l (blanks 80) m 0
    ∙ get_or-replicate 80 m 32 0 (omega arith)

-- so a column that is not blank is one that the line has
pub reaches : (l : List ℕ) (i : ℕ) → i < 80 → (get_or (padded l) i 0 ≡ 32 → ⊥) → i < length l
reaches l i below other = go (dec_le (length l) i)
  where
    go : Dec (length l ≤ i) → i < length l
    go (yes h) = absurd (other (blank-past l i h below))
    go (no h) = omega arith

-- a byte of a text of which every byte passes a test
every-at : (test : ℕ → Bool) (s : List ℕ) (i : ℕ) → every test s ≡ true → i < length s → test (get_or s i 0) ≡ true
every-at test [] i e h = absurd (not-suc-le-zero h)
every-at test (b ∷ s) zero e h = and_left (test b) (every test s) e
every-at test (b ∷ s) (suc i) e h = every-at test s i (and_right (test b) (every test s) e) (le_of_suc-le-suc h)

-- the last column of a decimal is a digit
last-digit : (s : List ℕ) (places : ℕ) (signed : Bool) (column low high : ℕ) (a : Option Signed) → decimal_of s places signed ≡ a → amount_fault column low high a ≡ clean
    → 1 ≤ places → is_digit (get_or s (length s - 1) 0) ≡ true
last-digit s places signed column low high (Some held) e f some =
    let t = decimal-taken s places signed held.negative held.magnitude e in
    let after = point_of places (length s) + 1 in
    let room = t.room in
    let place : after + (places - 1) ≡ length s - 1 = omega arith in
    ap (λ (k : ℕ). is_digit (get_or s k 0)) (sym place)
    ∙ ap is_digit (sym (get_or-drop after s (places - 1) 0))
    ∙ every-at is_digit (drop after s) (places - 1) t.parts.digits (omega (arith, length-drop after s))
last-digit s places signed column low high None e f some = absurd (omega arith)

-- so a line with a decimal in its columns up to `last` has that column
module _ (l : List ℕ) (first last : ℕ) (starts : 1 ≤ first) (ends : first ≤ last) (narrow : last ≤ 80) where
  column-is : get_or (cut first last (padded l)) (length (cut first last (padded l)) - 1) 0 ≡ get_or (padded l) (last - 1) 0
  column-is =
      let w = last - (first - 1) in
      let wide : length (cut first last (padded l)) ≡ w =
      length-take-le w (drop (first - 1) (padded l)) (omega (arith, length-drop (first - 1) (padded l), padded-length l)) in
      let place : first - 1 + (w - 1) ≡ last - 1 = omega arith in
      ap (λ (k : ℕ). get_or (cut first last (padded l)) (k - 1) 0) wide
      ∙ get_or-take w (drop (first - 1) (padded l)) (w - 1) 0 (omega arith)
      ∙ get_or-drop (first - 1) (padded l) (w - 1) 0
      ∙ ap (λ (k : ℕ). get_or (padded l) k 0) place

  pub decimal-reaches : (places : ℕ) (signed : Bool) (column low high : ℕ) → 1 ≤ places
      → amount_fault column low high (decimal_of (cut first last (padded l)) places signed) ≡ clean → last ≤ length l
  decimal-reaches places signed column low high some f =
      let s = cut first last (padded l) in
      let digit = last-digit s places signed column low high (decimal_of s places signed) refl f some in
      let there : last - 1 < length l =
      reaches l (last - 1) (omega arith) (λ blank. false≢true (ap is_digit (sym (column-is ∙ blank)) ∙ digit)) in
      omega arith

-- a line that begins with two bytes of which the second is no blank has both
pub symbol-reaches : (l : List ℕ) (a b number column : ℕ) → 0 < number → (b ≡ 32 → ⊥) → unless (same_bytes (cut 1 2 (padded l)) (a ∷ b ∷ [])) number column ≡ clean
    → 2 ≤ length l
symbol-reaches l a b number column some other f =
    let same = same-one (cut 1 2 (padded l)) (a ∷ b ∷ []) (passed (same_bytes (cut 1 2 (padded l)) (a ∷ b ∷ [])) number column some f) in
    reaches l 1 (omega arith) (λ blank. other (sym (sym (get_or-take 2 (padded l) 1 0 (omega arith)) ∙ ap (λ (s : List ℕ). get_or s 1 0) same) ∙ blank))
