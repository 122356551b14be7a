-- Powers of ten as the bounds of numbers of so many digits, and division by them one digit at a time.
-- Assumes nothing.
use mathlib.Core.Path.{◌≡◌, ◌∙◌, ap, sym}
use Prim.Native.Nat.{ℕ, suc, ◌+◌, ◌*◌, ◌/◌, ◌^◌, ◌<◌, ◌≤◌}
use native.Mathlib.Nat.{pow-suc, pow-le-pow_right, div-div-eq-div-mul, mul_comm}
use native.Mathlib.Numerals.{add-one}
use native.Mathlib.Omega.{arith}
use borrow.Author.Tests.{le-leb}
use Rattle.field.specs.Scale.{ten_to}

pub ten-suc : (n : ℕ) → 10 ^ suc n ≡ 10 ^ n * 10
ten-suc n = pow-suc 10 n

pub ten-more : (n : ℕ) → 10 ^ (n + 1) ≡ 10 ^ n * 10
ten-more n = rw add-one (pow-suc 10 n)

pub ten_pos : (n : ℕ) → 0 < 10 ^ n
ten_pos n = pow-le-pow_right {n = 10} (omega arith) {i = 0} (omega arith)

pub ten-mono : {i j : ℕ} → i ≤ j → 10 ^ i ≤ 10 ^ j
ten-mono h = pow-le-pow_right (omega arith) h

-- one digit more
pub digit-more : (n v d : ℕ) → v < 10 ^ n → d < 10 → v * 10 + d < 10 ^ (n + 1)
digit-more n v d hv hd = rw (ten-more n) (omega arith)

-- the last digit is taken off before the others, or after them
pub tenth-first : (v n : ℕ) → v / 10 / 10 ^ n ≡ v / 10 ^ suc n
tenth-first v n = div-div-eq-div-mul v 10 (10 ^ n) ∙ ap (λ (k : ℕ). v / k) (mul_comm 10 (10 ^ n) ∙ sym (ten-suc n))

pub tenth-last : (v n : ℕ) → v / 10 ^ n / 10 ≡ v / 10 ^ suc n
tenth-last v n = div-div-eq-div-mul v (10 ^ n) 10 ∙ ap (λ (k : ℕ). v / k) (sym (ten-suc n))

pub ten_to_is : (n : ℕ) → n ≤ 18 → ten_to n ≡ 10 ^ n
unfolding ten_to
ten_to_is n h = rw (le-leb n 18 h)

pub ten_13 : (n : ℕ) → n ≤ 13 → 10 ^ n ≤ 10 ^ 13
ten_13 n h = ten-mono h

-- with few places the unit is the power
pub ten_to_small : (n : ℕ) → n ≤ 13 → ten_to n ≡ 10 ^ n
ten_to_small n h = ten_to_is n (omega arith)
