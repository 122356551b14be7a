-- Numbers within their bounds fit their columns: what a layout asks of a whole number and of a decimal without minus.
-- Assumes nothing.
use mathlib.Core.Path.{◌≡◌}
use mathlib.Core.Bool.{true, false, ◌&&◌}
use Prim.Native.Nat.{ℕ, ◌+◌, ◌-◌, ◌^◌, ◌<◌, ◌≤◌}
use native.Mathlib.Nat.{sub-zero}
use native.Mathlib.Omega.{arith}
use Rattle.laws.specs.Tests.{within}
use Rattle.laws.proofs.Bools.{and_both}
use Rattle.laws.proofs.Bounds.{true-within}
use Rattle.field.specs.Show.{fits_whole, fits_decimal}
use Rattle.layout.proofs.Inked as inked
use Rattle.field.proofs.Fitting.{fits-true}

-- a whole number of w columns
pub whole-fits : (w n : ℕ) → w ≤ 18 → 0 < w → n < 10 ^ w → fits_whole w n ≡ true
whole-fits w n narrow some h = fits-true w false n narrow some (rw (sub-zero w) h)

pub can-whole : (w low high n : ℕ) → w ≤ 18 → 0 < w → low ≤ n → n ≤ high → n < 10 ^ w → (within low high n && fits_whole w n) ≡ true
can-whole w low high n narrow some least most h = and_both (within low high n) (fits_whole w n) (true-within low high n least most) (whole-fits w n narrow some h)

-- a decimal of w columns, q of them before the point
pub decimal-fits : (w places q m : ℕ) → w ≤ 18 → 0 < q → q + 1 + places ≡ w → m < 10 ^ (q + places) → fits_decimal w places false m ≡ true
decimal-fits w places q m narrow some wide h =
    let digits : w - 1 - 0 ≡ q + places = omega arith in
    inked.decimal-fits w places m narrow (omega arith) (omega arith) (rw digits h)

pub can-decimal : (w places q low high m : ℕ) → w ≤ 18 → 0 < q → q + 1 + places ≡ w → low ≤ m → m ≤ high → m < 10 ^ (q + places)
    → (within low high m && fits_decimal w places false m) ≡ true
can-decimal w places q low high m narrow some wide least most h =
    and_both (within low high m) (fits_decimal w places false m) (true-within low high m least most) (decimal-fits w places q m narrow some wide h)
