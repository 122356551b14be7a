-- The order of dates is the order of their MJDs, so that no two dates share one.
-- Assumes nothing.
use mathlib.Core.Bool.{Bool, true, false}
use mathlib.Core.Path.{◌≡◌, refl, sym, ap, ◌∙◌, subst}
use Prim.Native.Nat.{ℕ, suc, ◌+◌, ◌-◌, ◌≤◌, ◌<◌}
use native.Mathlib.Omega.{arith}
use Rattle.calendar.specs.Gregorian.{leap, year_length, month_length, days_of_years, days_before, mjd_of, ymd}
use Rattle.calendar.specs.Facts.{Valid}
use Rattle.laws.proofs.Bounds.{level, climbs}

-- one year more, one month more
pub next-year : (k : ℕ) → days_of_years (suc k) ≡ days_of_years k + year_length (leap (1980 + k))
unfolding days_of_years
next-year k = refl

pub next-month : (l : Bool) (m : ℕ) → days_before l (suc m) ≡ days_before l m + month_length l m
unfolding days_before
next-month l m = refl

pub years-climb : (a b : ℕ) → a ≤ b → days_of_years a ≤ days_of_years b
years-climb = climbs days_of_years (λ k. omega (arith, next-year k))

months-climb : (l : Bool) (a b : ℕ) → a ≤ b → days_before l a ≤ days_before l b
months-climb l = climbs (days_before l) (λ m. omega (arith, next-month l m))

-- the twelve months make the year
pub whole-year : (l : Bool) → days_before l 13 ≡ year_length l
unfolding days_before month_length year_length
whole-year true = refl
whole-year false = refl

module _ {year month day : ℕ} (v : Valid year month day) where
  -- the day comes before the next month, and before the next year
  before-next-month : days_before (leap year) month + day ≤ days_before (leap year) (suc month)
  before-next-month = omega (arith, next-month (leap year) month)

  pub before-next-year : days_of_years (year - 1980) + (days_before (leap year) month + day) ≤ days_of_years (suc (year - 1980))
  before-next-year =
      let e : 1980 + (year - 1980) ≡ year = omega arith in
      let n : days_of_years (suc (year - 1980)) ≡ days_of_years (year - 1980) + year_length (leap year) =
      next-year (year - 1980) ∙ ap (λ (y : ℕ). days_of_years (year - 1980) + year_length (leap y)) e in
      omega
      (arith, before-next-month, months-climb (leap year) (suc month) 13 (omega arith), whole-year (leap year), n)

module _ {year month day year' month' day' : ℕ} (v : Valid year month day) (w : Valid year' month' day') where
  pub later-year : year < year' → mjd_of year month day < mjd_of year' month' day'
  unfolding mjd_of
  later-year h =
      omega (
        arith,
        before-next-year v,
        years-climb (suc (year - 1980)) (year' - 1980) (omega arith),
      )

module _ {year month day : ℕ} (v : Valid year month day) where
  pub later-month : (month' day' : ℕ) → month < month' → mjd_of year month day < mjd_of year month' day'
  unfolding mjd_of
  later-month month' day' h = omega (arith, before-next-month v, months-climb (leap year) (suc month) month' h)

  pub later-day : (day' : ℕ) → day < day' → mjd_of year month day < mjd_of year month day'
  unfolding mjd_of
  later-day day' h = omega arith

-- in one year
same-day : (y m d m' d' : ℕ) → Valid y m d → Valid y m' d' → mjd_of y m d ≡ mjd_of y m' d' → ymd y m d ≡ ymd y m' d'
same-day y m d m' d' v w e =
    let p : m ≡ m' =
    level m m' (λ h. omega (arith, later-month v m' d' h)) (λ h. omega (arith, later-month w m d h)) in
    let w' : Valid y m d' = subst (λ (n : ℕ). Valid y n d') (sym p) w in
    let e' : mjd_of y m d ≡ mjd_of y m d' = e ∙ ap (λ (n : ℕ). mjd_of y n d') (sym p) in
    let q : d ≡ d' = level d d' (λ h. omega (arith, later-day v d' h)) (λ h. omega (arith, later-day w' d h)) in
    cc

-- a date is told by its MJD
pub same-date : (y m d y' m' d' : ℕ) → Valid y m d → Valid y' m' d' → mjd_of y m d ≡ mjd_of y' m' d' → ymd y m d ≡ ymd y' m' d'
same-date y m d y' m' d' v w e =
    let p : y ≡ y' = level y y' (λ h. omega (arith, later-year v w h)) (λ h. omega (arith, later-year w v h)) in
    let w' : Valid y m' d' = subst (λ (n : ℕ). Valid n m' d') (sym p) w in
    let e' : mjd_of y m d ≡ mjd_of y m' d' = e ∙ ap (λ (n : ℕ). mjd_of n m' d') (sym p) in
    same-day y m d m' d' v w' e' ∙ ap (λ (n : ℕ). ymd n m' d') p
