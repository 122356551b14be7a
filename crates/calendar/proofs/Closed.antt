-- Between 1980 and 2099 the calendar's rules in closed form.
-- Assumes nothing.
use mathlib.Core.Bool.{Bool, true, false, ◌&&◌, cond, beq}
use mathlib.Core.Path.{◌≡◌, sym, ap, ◌∙◌}
use Prim.Native.Nat.{ℕ, suc, ◌+◌, ◌-◌, ◌*◌, ◌/◌, ◌%◌, ◌≤◌, ◌<◌}
use native.Mathlib.Omega.{arith}
use borrow.Author.Tests.{lt-ltb, le-ltb}
use lib.Dec.{T, lit≤, eqb, eqb→eq, leb, leb→le, ltb, ltb→lt}
use Rattle.laws.specs.Tests.{every_below}
use Rattle.calendar.specs.Gregorian.{divides, leap, year_length, month_length, days_of_years, days_before}
use Rattle.calendar.specs.Facts.{InMonth}
use Rattle.laws.proofs.Bools.{both-passed, same_bool}
use Rattle.laws.proofs.Bounds.{below}

-- every fourth year is a leap year, 2000 too
fourth : ℕ → Bool
fourth k = beq (leap (1980 + k)) (divides 4 (1980 + k))

pub leap-after : (k : ℕ) → k < 120 → leap (1980 + k) ≡ divides 4 k
unfolding fourth leap
leap-after k h =
    let e : (1980 + k) % 4 ≡ k % 4 = omega arith in
    same_bool (leap (1980 + k)) (divides 4 (1980 + k)) (below 120 fourth tt k h) ∙ ap (λ (r : ℕ). eqb r 0) e

-- the same by the year
pub leap-fourth : (y : ℕ) → 1980 ≤ y → y ≤ 2099 → divides 4 y ≡ leap y
leap-fourth y p q =
    let e : 1980 + (y - 1980) ≡ y = omega arith in
    let f : y % 4 ≡ (y - 1980) % 4 = omega arith in
    ap (λ (r : ℕ). eqb r 0) f ∙ sym (leap-after (y - 1980) (omega arith)) ∙ ap leap e

-- the days of the years, a year being 365 days and a quarter
years_test : ℕ → Bool
years_test k = eqb (days_of_years k) ((1461 * k + 3) / 4)

pub years-closed : (k : ℕ) → k < 121 → days_of_years k ≡ (1461 * k + 3) / 4
unfolding years_test days_of_years year_length leap
years-closed k h = eqb→eq (days_of_years k) ((1461 * k + 3) / 4) (below 121 years_test tt k h)

-- the days before a month, as if February had 30 days, less those that it lacks
abbrev lacks : Bool → ℕ → ℕ
lacks l m = cond (ltb m 3) 0 (cond l 1 2)

before_test : Bool → ℕ → Bool
before_test l m = eqb (days_before l m) ((367 * m - 362) / 12 - lacks l m)

every-before : (l : Bool) → T (every_below 14 (before_test l))
unfolding before_test days_before month_length
every-before true = tt
every-before false = tt

pub before-closed : (l : Bool) (m : ℕ) → m ≤ 13 → days_before l m ≡ (367 * m - 362) / 12 - lacks l m
unfolding before_test
before-closed l m h =
    eqb→eq (days_before l m) ((367 * m - 362) / 12 - lacks l m) (below 14 (before_test l) (every-before l) m (omega arith))

-- the month of a day of the year
abbrev month_of : Bool → ℕ → ℕ
month_of l n = cond (ltb n 31) 1 ((12 * n + cond l 385 397) / 367)

-- the test that it is
in_month : Bool → ℕ → ℕ → Bool
in_month l n m = leb 1 m && leb m 12 && leb (days_before l m) n && ltb n (days_before l (suc m))

every-day : (l : Bool) → T (every_below (year_length l) (λ (n : ℕ). in_month l n (month_of l n)))
unfolding in_month year_length days_before month_length
every-day true = tt
every-day false = tt

month-found : (l : Bool) (n : ℕ) → n < year_length l → InMonth l n (month_of l n)
unfolding in_month
month-found l n h =
    let m = month_of l n in
    let t = below (year_length l) (λ (k : ℕ). in_month l k (month_of l k)) (every-day l) n h in
    let p = both-passed (leb 1 m && leb m 12 && leb (days_before l m) n) (ltb n (days_before l (suc m))) t in
    let q = both-passed (leb 1 m && leb m 12) (leb (days_before l m) n) p.0 in
    let r = both-passed (leb 1 m) (leb m 12) q.0 in
    omega (arith, leb→le, ltb→lt)

-- the two cases of the code
pub in-january : (l : Bool) (n : ℕ) → n < year_length l → n < 31 → InMonth l n 1
in-january l n h k = simp (lt-ltb _ _ k) at (month-found l n h)

pub in-later : (l : Bool) (n : ℕ) → n < year_length l → 31 ≤ n → InMonth l n ((12 * n + cond l 385 397) / 367)
in-later l n h k = simp (le-ltb _ _ k) at (month-found l n h)

-- no year has more than 366 days
pub year-most : (l : Bool) → year_length l ≤ 366
unfolding year_length
year-most true = lit≤ tt
year-most false = lit≤ tt
