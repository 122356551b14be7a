-- The floats of a row. 01: "its three coordinates and the clock as f64 in the same units, exactly, or the word absent in place of either".
-- Assumes nothing.
use Rattle.std.proofs.Common.{◌≡◌, ℕ, zero, suc, ◌≤◌, Bool, true, false, not, ◌&&◌, eqb, ◌↔◌, ℤ, pos, negsuc, nat_abs, sym, refl, ap, subst, arith, eq-eqb}
use mathlib.Core.Bool.{false≢true}
use lib.Ieee.{nan, of_int, binary64}
use lib.Ieee.Back.{round_whole}
use Rattle.field.specs.Sign.{largest, signed_int}
use Rattle.field.specs.declared.Signed.{Signed}
use Rattle.record.specs.declared.types.Row.{Row}
use Rattle.laws.proofs.Bools.{and_both}
use Rattle.field.proofs.Signs.{magnitude-back}
use Rattle.record.proofs.Absent.{place-absent, clock-absent}
use Rattle.file.specs.Exact.{exact_signed}
use Rattle.file.proofs.Exact.{stored_exact}
use Rattle.float_row.specs.Floats.{Exactly, float_unless, float_row}

-- twelve digits fit: nothing is lost
exact : (n : ℤ) → nat_abs n ≤ largest → Exactly (of_int binary64 n) n
unfolding of_int
exact (pos n) h = round_whole binary64 false n (omega arith)
exact (negsuc n) h = round_whole binary64 true (suc n) (omega arith)

float-exact : (s : Signed) → s.magnitude ≤ largest → Exactly (float_unless false s) (exact_signed s)
unfolding float_unless
float-exact s h =
    subst (λ (n : ℤ). Exactly (of_int binary64 n) (exact_signed s)) (sym (stored_exact s.negative s.magnitude h))
    (exact (exact_signed s) (subst (λ (m : ℕ). m ≤ largest) (sym (magnitude-back s.negative s.magnitude)) h))

-- Where the place is there and within the bound, x, y and z are exactly its whole numbers.
pub place-float : (row : Row) → row.x.magnitude ≤ largest → row.y.magnitude ≤ largest → row.z.magnitude ≤ largest
    → (float_row row).place_absent ≡ false
    → Exactly (float_row row).x (exact_signed row.x) × Exactly (float_row row).y (exact_signed row.y) × Exactly (float_row row).z (exact_signed row.z)
unfolding float_row
place-float row x y z there = rw there (float-exact row.x x, float-exact row.y y, float-exact row.z z)

-- Where the clock is there and within the bound, it is exactly its whole number.
pub clock-float : (row : Row) → row.clock.magnitude ≤ largest → (float_row row).clock_absent ≡ false
    → Exactly (float_row row).clock (exact_signed row.clock)
unfolding float_row
clock-float row h there = rw there (float-exact row.clock h)

-- a number is zero where its magnitude is
zero_is : (negative : Bool) (m : ℕ) → (m ≡ 0) ↔ (signed_int negative m ≡ pos 0)
unfolding signed_int
zero_is true zero = (λ e. refl, λ e. refl)
zero_is true (suc m) = (λ e. absurd (omega arith), λ e. let z : ◌≡◌ {A = ℕ} 0 1 = cc in absurd (omega arith))
zero_is false m = (λ e. ap pos e, λ e. cc)

-- and plus twelve nines where its magnitude is and it has no minus
nines-are : (negative : Bool) (m : ℕ) → ((negative ≡ false) × (m ≡ largest)) ↔ (signed_int negative m ≡ pos largest)
unfolding signed_int
nines-are true zero = (λ e. absurd (false≢true (sym e.0)), λ e. let z : 0 ≡ largest = cc in absurd (omega arith))
nines-are true (suc m) = (λ e. absurd (false≢true (sym e.0)), λ e. let z : ◌≡◌ {A = ℕ} 0 1 = cc in absurd (omega arith))
nines-are false m = (λ e. ap pos e.1, λ e. (refl, cc))

-- The place is absent exactly when x, y and z are all zero, whatever the clock.
pub place-absent-exactly : (row : Row)
    → ((float_row row).place_absent ≡ true) ↔ ((exact_signed row.x ≡ pos 0) × (exact_signed row.y ≡ pos 0) × (exact_signed row.z ≡ pos 0))
unfolding float_row
place-absent-exactly row =
    let x = row.x.magnitude in
    let y = row.y.magnitude in
    let z = row.z.magnitude in
    let zx = zero_is row.x.negative x in
    let zy = zero_is row.y.negative y in
    let zz = zero_is row.z.negative z in (
      λ e. let zeros = place-absent x y z e in (zx.0 zeros.0, zy.0 zeros.1, zz.0 zeros.2),
      λ e.
          and_both (eqb x 0) (eqb y 0 && eqb z 0) (eq-eqb x 0 (zx.1 e.0))
          (and_both (eqb y 0) (eqb z 0) (eq-eqb y 0 (zy.1 e.1)) (eq-eqb z 0 (zz.1 e.2))),
    )

-- The clock is absent exactly at +999,999,999,999, whatever the place.
pub clock-absent-exactly : (row : Row) → ((float_row row).clock_absent ≡ true) ↔ (exact_signed row.clock ≡ pos 999_999_999_999)
unfolding float_row
clock-absent-exactly row =
    let negative = row.clock.negative in
    let m = row.clock.magnitude in
    let nines = nines-are negative m in (
      λ e. nines.0 (clock-absent negative m e),
      λ e. and_both (not negative) (eqb m largest) (ap not (nines.1 e).0) (eq-eqb m largest (nines.1 e).1),
    )

-- What is absent is no number.
pub place-nan : (row : Row) → (float_row row).place_absent ≡ true
    → ((float_row row).x ≡ nan) × ((float_row row).y ≡ nan) × ((float_row row).z ≡ nan)
unfolding float_row float_unless
place-nan row e = rw e (refl, refl, refl)

pub clock-nan : (row : Row) → (float_row row).clock_absent ≡ true → (float_row row).clock ≡ nan
unfolding float_row float_unless
clock-nan row e = rw e refl
