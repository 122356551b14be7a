-- A decimal field that is known to be good: its bytes folded without a test make the number that reading it finds.
-- Assumes nothing.
use mathlib.Core.Path.{◌≡◌, refl, sym, ◌∙◌, ap}
use mathlib.Core.List.{List, [], ◌∷◌}
use mathlib.Core.Bool.{Bool, true, false, cond, ◌||◌, or_assoc, or-false}
use Prim.Native.Nat.{ℕ, suc, ◌+◌, ◌-◌, ◌*◌, ◌^◌, ◌<◌, ◌≤◌}
use native.Mathlib.Nat.{mul_assoc, mul_comm}
use native.Mathlib.Omega.{arith}
use borrow.Author.Tests.{eqb-true, ne_eqb, le-leb}
use lib.Dec.{eqb}
use lib.ListN.{length, take, drop, length-drop}
use Rattle.std.specs.List.{fold}
use Rattle.laws.specs.Texts.{every}
use Rattle.field.specs.Digits.{is_blank, blanks_of, trim, is_digit, all_digits, value_from, point_of}
use Rattle.field.specs.Read.{some_amount, whole_of, minus_first, integer_of, decimal_of}
use Rattle.field.specs.Known.{known_magnitude, has_minus, known_negative}
use Rattle.field.specs.Show.{sign_width}
use Rattle.std.specs.Prelude.{Some}
use Rattle.laws.proofs.Bools.{and_left, and_right}
use Rattle.field.proofs.Powers.{ten-more, ten-mono}
use Rattle.field.proofs.Texts.{trim-blank, first-digit}
use Rattle.field.proofs.Accepted.{digits-taken, number-taken, whole-taken, signed-taken, decimal-taken}

-- any byte counts for 207 at most, which is 9 * 23, so i columns of any bytes make 23 * 10 ^ i - 23 at most
pub figure-more : (v k i d : ℕ) → v + 23 ≤ 23 * 10 ^ (k + i) → d ≤ 207 → v * 10 + d + 23 ≤ 23 * 10 ^ (k + (i + 1))
figure-more v k i d h small =
    let room : k + (i + 1) ≡ k + i + 1 = omega arith in
    rw (room, ten-more (k + i)) (omega arith)

pub figure-wider : (v : ℕ) {i j : ℕ} → i ≤ j → v + 23 ≤ 23 * 10 ^ i → v + 23 ≤ 23 * 10 ^ j
figure-wider v {i} {j} le h = omega (arith, ten-mono {i = i} {j = j} le)

-- so what the bytes before the point make leaves room for those after it
pub figures-room : (v : ℕ) (s : List ℕ) (point : ℕ) → point < length s → length s ≤ 17 → v + 23 ≤ 23 * 10 ^ point
    → (length (drop (point + 1) s) ≤ 17) × (v + 23 ≤ 23 * 10 ^ (17 - length (drop (point + 1) s)))
figures-room v s point here narrow h =
    let after : length (drop (point + 1) s) ≡ length s - (point + 1) = length-drop (point + 1) s in
    rw after (omega arith, figure-wider v {i = point} (omega arith) h)

-- a minus looked for without an early end
pub minus_folded : (s : List ℕ) → fold (λ (found : Bool) (b : ℕ). found || eqb b 45) false s ≡ has_minus s
minus_folded s = from false s
  where
    from : (t : Bool) (s : List ℕ) → fold (λ (found : Bool) (b : ℕ). found || eqb b 45) t s ≡ (t || has_minus s)
    from t [] = sym (or-false t)
    from t (b ∷ s) = from (t || eqb b 45) s ∙ or_assoc t (eqb b 45) (has_minus s)

module _ (s : List ℕ) (places : ℕ) where
  pub known-folded : length s ≤ 17
      → value_from (value_from 0 (take (point_of places (length s)) s)) (drop (point_of places (length s) + 1) s) ≡ known_magnitude s places
  unfolding known_magnitude
  known-folded h = rw (le-leb (length s) 17 h)

-- the blanks before anything else count for nothing, and none is a minus
blanks-count-nothing : (s : List ℕ) → (value_from 0 s ≡ value_from 0 (trim s)) × (has_minus s ≡ has_minus (trim s))
blanks-count-nothing [] = (refl, refl)
blanks-count-nothing (b ∷ s) = past (eqb b 32) refl (blanks-count-nothing s)
  where
    past : (t : Bool) → eqb b 32 ≡ t → (value_from 0 s ≡ value_from 0 (trim s)) × (has_minus s ≡ has_minus (trim s))
        → (value_from 0 (b ∷ s) ≡ value_from 0 (drop (cond t (1 + blanks_of s) 0) (b ∷ s))) × (has_minus (b ∷ s) ≡ has_minus (drop (cond t (1 + blanks_of s) 0) (b ∷ s)))
    past true e h = let blank = trim-blank s in rw (eqb-true b 32 e, blank) h
    past false e h = (refl, refl)

digits-no-minus : (s : List ℕ) → all_digits s ≡ true → has_minus s ≡ false
digits-no-minus [] e = refl
digits-no-minus (b ∷ s) e =
    rw (ne_eqb b 45 (λ q. omega (arith, first-digit (b ∷ s) e (omega arith)))) (digits-no-minus s (and_right (is_digit b) _ e))

-- a minus before digits counts for nothing, and is the only one
minus-counts-nothing : (signed : Bool) (s : List ℕ) (n : Bool) → minus_first signed s ≡ n → all_digits (drop (sign_width n) s) ≡ true
    → (value_from 0 s ≡ value_from 0 (drop (sign_width n) s)) × (has_minus s ≡ n)
unfolding minus_first
minus-counts-nothing signed [] true e d = (refl, and_right signed _ e)
minus-counts-nothing signed (b ∷ s) true e d = rw (eqb-true b 45 (and_right signed _ e)) (refl, refl)
minus-counts-nothing signed s false e d = (refl, digits-no-minus s d)

-- so an integer that was read is its bytes folded, and its sign whether a minus stands among them
integer-known : (signed : Bool) (s : List ℕ) (n : Bool) (v : ℕ) → integer_of signed s ≡ some_amount n v → (value_from 0 s ≡ v) × (has_minus s ≡ n)
unfolding integer_of
integer-known signed s n v e =
    let t = signed-taken signed (trim s) n v e in
    let d = digits-taken (drop (sign_width n) (trim s)) v 0 (number-taken (drop (sign_width n) (trim s)) v t.1).1 in
    let b = blanks-count-nothing s in
    let p = minus-counts-nothing signed (trim s) n t.0 d.0 in
    (b.0 ∙ p.0 ∙ d.1, b.1 ∙ p.1)

-- an integer field that was read is its bytes folded, and no minus stands in it
pub whole-known : (s : List ℕ) (v : ℕ) → whole_of s ≡ Some v → (value_from 0 s ≡ v) × (has_minus s ≡ false)
whole-known s v e =
    let t = whole-taken s v e in
    let d = digits-taken (trim s) v 0 (number-taken (trim s) v t.1).1 in
    let b = blanks-count-nothing s in
    (b.0 ∙ d.1, b.1 ∙ digits-no-minus (trim s) d.0)

-- blanks carry a number on by zeros
pub blanks-carry : (s : List ℕ) (a : ℕ) → every is_blank s ≡ true → value_from a s ≡ a * 10 ^ length s
blanks-carry [] a e = omega arith
blanks-carry (b ∷ s) a e =
    let blank : b ≡ 32 = eqb-true b 32 (and_left (eqb b 32) _ e) in
    let more = blanks-carry s (a * 10 + (b - 48)) (and_right (eqb b 32) _ e) in
    let nothing : a * 10 + (b - 48) ≡ a * 10 = omega arith in
    let one : suc (length s) ≡ length s + 1 = omega arith in
    more
    ∙ ap (λ (n : ℕ). n * 10 ^ length s) nothing
    ∙ mul_assoc a 10 (10 ^ length s)
    ∙ ap (λ (n : ℕ). a * n) (sym (ap (λ (k : ℕ). 10 ^ k) one ∙ ten-more (length s) ∙ mul_comm (10 ^ length s) 10))

-- the magnitude of a decimal field that was read
pub known-magnitude : (s : List ℕ) (places : ℕ) (signed n : Bool) (m : ℕ) → length s ≤ 17 → decimal_of s places signed ≡ some_amount n m → known_magnitude s places ≡ m
known-magnitude s places signed n m narrow e =
    let c = (decimal-taken s places signed n m e).parts in
    let before = take (point_of places (length s)) s in
    sym (known-folded s places narrow)
    ∙ ap (λ (high : ℕ). value_from high (drop (point_of places (length s) + 1) s)) (integer-known signed before c.minus c.high c.integer).0
    ∙ c.value

-- and its sign
pub known-negative : (s : List ℕ) (places : ℕ) (signed n : Bool) (m : ℕ) → length s ≤ 17 → decimal_of s places signed ≡ some_amount n m → known_negative s places ≡ n
unfolding known_negative
known-negative s places signed n m narrow e =
    let c = (decimal-taken s places signed n m e).parts in
    let before = take (point_of places (length s)) s in
    rw (known-magnitude s places signed n m narrow e, (integer-known signed before c.minus c.high c.integer).1) c.sign
