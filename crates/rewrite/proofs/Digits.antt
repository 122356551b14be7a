-- The decimal digits of a number as `io` says them are those without leading zeros.
-- Assumes nothing.
use mathlib.Core.Path.{◌≡◌, refl, ap₂}
use mathlib.Core.Bool.{Bool, true, false, cond}
use mathlib.Core.List.{List, [], ◌∷◌, ◌++◌}
use Prim.Native.Nat.{ℕ, zero, suc, ◌+◌, ◌/◌, ◌%◌, ◌^◌, ◌≤◌, ◌<◌}
use native.Mathlib.Numerals.{unary_clauses}
use native.Mathlib.Omega.{arith}
use borrow.Author.Tests.{ltb-true, ltb-false, lt-ltb, le-ltb}
use lib.Dec.{ltb}
use lib.ListN.{length, length-append}
use Rattle.io.specs.Digits.{hex_digit_ascii, last_digits, IsDigitCount}
use Rattle.field.specs.Show.{last_digit, digits_in}

last_glyph : (n : ℕ) → hex_digit_ascii (n % 10) ≡ last_digit n
last_glyph n = rw (lt-ltb (n % 10) 10 (omega arith))

-- the least number of so many places
least-of : (k n : ℕ) → IsDigitCount 10 1 n (suc (suc k)) → 10 ^ suc k ≤ n
least-of k n f = let low = simp unary_clauses at (f.2 (omega arith)) in omega (arith, low)

-- a number of one digit has its fewest in one place
one_place : (k n : ℕ) → n < 10 → IsDigitCount 10 1 n (suc k) → k ≡ 0
one_place zero n h f = refl
one_place (suc k) n h f = absurd (omega (arith, least-of k n f, many k))
  where
    many : (k : ℕ) → 10 ≤ 10 ^ suc k
    many zero = omega arith
    many (suc k) = omega (arith, many k)

-- and one of more has those of its tenth in one place less
tenth : (k n : ℕ) → 10 ≤ n → IsDigitCount 10 1 n (suc k) → IsDigitCount 10 1 (n / 10) k
tenth zero n h f = absurd (omega (arith, f.1))
tenth (suc k) n h f = (omega arith, omega (arith, f.1), λ more. simp unary_clauses least)
  where
    least : 10 ^ k ≤ n / 10
    least = omega (arith, least-of k n f)

-- a last digit, and the others before it
one-digit : (most k n : ℕ) → n < 10 → IsDigitCount 10 1 n (suc k) → last_digits 10 (suc k) n ≡ digits_in (suc most) n
one-digit most k n h f = rw (lt-ltb n 10 h) (ap₂ (λ (j b : ℕ). last_digits 10 j (n / 10) ++ (b ∷ [])) (one_place k n h f) (last_glyph n))

more-digits : (most k n : ℕ) → 10 ≤ n → last_digits 10 k (n / 10) ≡ digits_in most (n / 10) → last_digits 10 (suc k) n ≡ digits_in (suc most) n
more-digits most k n h front = rw (le-ltb n 10 h) (ap₂ (λ (s : List ℕ) (b : ℕ). s ++ (b ∷ [])) front (last_glyph n))

pub digits-shown : (most k n : ℕ) → n < 10 ^ suc most → IsDigitCount 10 1 n k → last_digits 10 k n ≡ digits_in (suc most) n
digits-shown most zero n h f = absurd (omega (arith, f.0))
digits-shown zero (suc k) n h f = one-digit 0 k n (omega arith) f
digits-shown (suc most) (suc k) n h f = go (ltb n 10) refl (λ few. digits-shown most k (n / 10) (omega arith) few)
  where
    go : (b : Bool) → ltb n 10 ≡ b → (IsDigitCount 10 1 (n / 10) k → last_digits 10 k (n / 10) ≡ digits_in (suc most) (n / 10))
        → last_digits 10 (suc k) n ≡ digits_in (suc (suc most)) n
    go true e front = one-digit (suc most) k n (ltb-true n 10 e) f
    go false e front = let h = ltb-false n 10 e in more-digits (suc most) k n h (front (tenth k n h f))

-- they are as many as their places at most
pub digits-few : (most n : ℕ) → length (digits_in most n) ≤ most
digits-few zero n = omega arith
digits-few (suc most) n = go (ltb n 10) (digits-few most (n / 10))
  where
    go : (b : Bool) → length (digits_in most (n / 10)) ≤ most
        → length (cond b (last_digit n ∷ []) (digits_in most (n / 10) ++ (last_digit n ∷ []))) ≤ suc most
    go true few = omega arith
    go false few = omega (arith, length-append (digits_in most (n / 10)) (last_digit n ∷ []))
