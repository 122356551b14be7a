-- Text of digits: what it is made of, how long it is, and its value.
-- Assumes nothing.
use mathlib.Core.Path.{◌≡◌, refl, sym, ◌∙◌, ap}
use mathlib.Core.List.{List, [], ◌∷◌, ◌++◌}
use mathlib.Core.Bool.{Bool, true, false, cond}
use Prim.Native.Nat.{ℕ, zero, suc, ◌+◌, ◌-◌, ◌*◌, ◌/◌, ◌%◌, ◌^◌, ◌<◌, ◌≤◌}
use native.Mathlib.Nat.{div-lt_iff_lt-mul, div-add-mod', div-one, le-div_iff_mul-le}
use native.Mathlib.Omega.{arith}
use borrow.Author.Tests.{ltb-false, ltb-true, ne_eqb}
use lib.Dec.{ltb}
use lib.ListN.{length, get_or, drop}
use Rattle.laws.specs.Texts.{is_printable, blanks}
use Rattle.field.specs.Digits.{blanks_of, trim, is_digit, all_digits, value_from, value_of}
use Rattle.field.specs.Show.{last_digit, digits_in, fixed_digits}
use Rattle.laws.proofs.Bools.{and_left, and_right}
use Rattle.laws.proofs.Bounds.{within-true, true-within}
use Rattle.laws.proofs.Lists.{snoc-length, every_append}
use Rattle.field.proofs.Powers.{ten-suc, ten_pos, tenth-first, tenth-last}
use Rattle.field.proofs.Digits.{digit-is}

-- a number of two digits or more leaves a column before its last
pub column-before : (i v : ℕ) → 10 ≤ v → v < 10 ^ i → 1 < i
column-before zero v more h = absurd (omega arith)
column-before (suc zero) v more h = absurd (omega arith)
column-before (suc (suc i)) v more h = omega arith

pub tenth-below : (n v : ℕ) → v < 10 ^ suc n → v / 10 < 10 ^ n
tenth-below n v h = (div-lt_iff_lt-mul {k = 10} (omega arith)).1 (rw (ten-suc n) at h)

-- a number below 10 ^ n has n digits at most
pub digits-length : (k n v : ℕ) → 0 < n → v < 10 ^ n → length (digits_in k v) ≤ n
digits-length zero n v pos h = omega arith
digits-length (suc k) zero v pos h = absurd (omega arith)
digits-length (suc k) (suc n) v pos h =
    count (ltb v 10) refl (λ more. digits-length k n (v / 10) (omega (arith, column-before (suc n) v more h)) (tenth-below n v h))
  where
    count : (t : Bool) → ltb v 10 ≡ t → (10 ≤ v → length (digits_in k (v / 10)) ≤ n)
        → length (cond t (last_digit v ∷ []) (digits_in k (v / 10) ++ (last_digit v ∷ []))) ≤ suc n
    count true e more = omega arith
    count false e more = rw (snoc-length (digits_in k (v / 10)) (last_digit v)) (omega (arith, more (ltb-false v 10 e)))

-- the value of a text and what follows it
pub value-append : (a : ℕ) (s t : List ℕ) → value_from a (s ++ t) ≡ value_from (value_from a s) t
value-append a [] t = refl
value-append a (b ∷ s) t = value-append (a * 10 + (b - 48)) s t

-- the last digit is a digit, and has the number's last digit for its value
pub last-is-digit : (v : ℕ) → is_digit (last_digit v) ≡ true
last-is-digit v = digit-is (last_digit v) (omega arith) (omega arith)

last-value : (v : ℕ) → last_digit v - 48 ≡ v % 10
last-value v = omega arith

module _ (s : List ℕ) (v : ℕ) where
  snoc-value : (a : ℕ) → value_from a (s ++ (last_digit v ∷ [])) ≡ value_from a s * 10 + v % 10
  snoc-value a = value-append a s (last_digit v ∷ []) ∙ ap (λ (d : ℕ). value_from a s * 10 + d) (last-value v)

  snoc-digits : all_digits s ≡ true → all_digits (s ++ (last_digit v ∷ [])) ≡ true
  snoc-digits e = every_append is_digit s (last_digit v ∷ []) e (rw (last-is-digit v))

-- digits without leading zeros: digits, at least one, whose value is the number
pub digits-all : (k v : ℕ) → all_digits (digits_in k v) ≡ true
digits-all zero v = refl
digits-all (suc k) v = pick (ltb v 10) (digits-all k (v / 10))
  where
    pick : (t : Bool) → all_digits (digits_in k (v / 10)) ≡ true → all_digits (cond t (last_digit v ∷ []) (digits_in k (v / 10) ++ (last_digit v ∷ []))) ≡ true
    pick true e = rw (last-is-digit v)
    pick false e = snoc-digits (digits_in k (v / 10)) v e

pub digits-some : (k v : ℕ) → 0 < k → 0 < length (digits_in k v)
digits-some zero v pos = omega arith
digits-some (suc k) v pos = pick (ltb v 10)
  where
    pick : (t : Bool) → 0 < length (cond t (last_digit v ∷ []) (digits_in k (v / 10) ++ (last_digit v ∷ [])))
    pick true = omega arith
    pick false = omega (arith, snoc-length (digits_in k (v / 10)) (last_digit v))

pub digits_value : (k v : ℕ) → v < 10 ^ k → value_of (digits_in k v) ≡ v
digits_value zero v h = omega arith
digits_value (suc k) v h = pick (ltb v 10) refl (digits_value k (v / 10) (tenth-below k v h))
  where
    pick : (t : Bool) → ltb v 10 ≡ t → value_of (digits_in k (v / 10)) ≡ v / 10
        → value_of (cond t (last_digit v ∷ []) (digits_in k (v / 10) ++ (last_digit v ∷ []))) ≡ v
    pick true e more = omega (arith, ltb-true v 10 e)
    pick false e more = snoc-value (digits_in k (v / 10)) v 0 ∙ ap (λ (q : ℕ). q * 10 + v % 10) more ∙ div-add-mod' v 10

-- a number of n digits or more has more than n
pub digits-longer : (k n v : ℕ) → v < 10 ^ k → 10 ^ n ≤ v → n < length (digits_in k v)
digits-longer zero n v h low = absurd (omega (arith, ten_pos n))
digits-longer (suc k) zero v h low = digits-some (suc k) v (omega arith)
digits-longer (suc k) (suc n) v h low =
    pick (ltb v 10) refl (digits-longer k n (v / 10) (tenth-below k v h) ((le-div_iff_mul-le {k = 10} (omega arith)).1 (rw (ten-suc n) at low)))
  where
    pick : (t : Bool) → ltb v 10 ≡ t → n < length (digits_in k (v / 10))
        → suc n < length (cond t (last_digit v ∷ []) (digits_in k (v / 10) ++ (last_digit v ∷ [])))
    pick true e more = omega (arith, ltb-true v 10 e, rw (ten-suc n) at low, ten_pos n)
    pick false e more = omega (arith, snoc-length (digits_in k (v / 10)) (last_digit v))

-- so many lowest digits, zeros too
pub fixed-length : (n v : ℕ) → length (fixed_digits n v) ≡ n
fixed-length zero v = refl
fixed-length (suc n) v = snoc-length (fixed_digits n (v / 10)) (last_digit v) ∙ ap suc (fixed-length n (v / 10))

pub fixed-all : (n v : ℕ) → all_digits (fixed_digits n v) ≡ true
fixed-all zero v = refl
fixed-all (suc n) v = snoc-digits (fixed_digits n (v / 10)) v (fixed-all n (v / 10))

-- the lowest digits carry on what is left above them to the number
pub fixed-carries : (n v : ℕ) → value_from (v / 10 ^ n) (fixed_digits n v) ≡ v
fixed-carries zero v = div-one v
fixed-carries (suc n) v =
    snoc-value (fixed_digits n (v / 10)) v (v / 10 ^ suc n)
    ∙ ap (λ (a : ℕ). value_from a (fixed_digits n (v / 10)) * 10 + v % 10) (sym (tenth-first v n))
    ∙ ap (λ (q : ℕ). q * 10 + v % 10) (fixed-carries n (v / 10))
    ∙ div-add-mod' v 10

digit-bounds : (b : ℕ) → is_digit b ≡ true → (48 ≤ b) × (b ≤ 57)
digit-bounds b e = within-true 48 57 b e

pub digit-small : (b : ℕ) → is_digit b ≡ true → b - 48 < 10
digit-small b e = omega (arith, digit-bounds b e)

-- without the digits that were carried on, the value before them is left
pub carried_from : (s : List ℕ) (a : ℕ) → all_digits s ≡ true → value_from a s / 10 ^ length s ≡ a
carried_from [] a e = div-one a
carried_from (b ∷ s) a e =
    let next = a * 10 + (b - 48) in
    sym (tenth-last (value_from next s) (length s))
    ∙ ap (λ (q : ℕ). q / 10) (carried_from s next (and_right (is_digit b) _ e))
    ∙ last_off (digit-small b (and_left (is_digit b) _ e))
  where
    last_off : b - 48 < 10 → (a * 10 + (b - 48)) / 10 ≡ a
    last_off h = omega arith

-- a blank before a text
pub trim-blank : (s : List ℕ) → trim (32 ∷ s) ≡ trim s
trim-blank s =
    let one : 1 + blanks_of s ≡ suc (blanks_of s) = omega arith in
    ap (λ (k : ℕ). drop k (32 ∷ s)) one

-- blanks before a text
pub blanks-before : (n : ℕ) (s : List ℕ) → trim (blanks n ++ s) ≡ trim s
blanks-before zero s = refl
blanks-before (suc n) s = trim-blank (blanks n ++ s) ∙ blanks-before n s

pub trim-none : (b : ℕ) (s : List ℕ) → (b ≡ 32 → ⊥) → trim (b ∷ s) ≡ b ∷ s
trim-none b s n = rw (ne_eqb b 32 n)

-- a text of digits begins with no blank and no minus
pub first-digit : (s : List ℕ) → all_digits s ≡ true → 0 < length s → 48 ≤ get_or s 0 0
first-digit [] e some = absurd (omega arith)
first-digit (b ∷ s) e some = (digit-bounds b (and_left (is_digit b) (all_digits s) e)).0

pub digits-trim : (s : List ℕ) → all_digits s ≡ true → trim s ≡ s
digits-trim [] e = refl
digits-trim (b ∷ s) e = trim-none b s (λ q. omega (arith, first-digit (b ∷ s) e (omega arith)))

-- a digit may stand in a line
pub digit-printable : (b : ℕ) → is_digit b ≡ true → is_printable b ≡ true
digit-printable b e = true-within 32 126 b (omega (arith, digit-bounds b e)) (omega (arith, digit-bounds b e))
