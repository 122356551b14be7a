-- What the test `is_day` and the answers of `date` and `civil` say, and the closed forms that hold for days of the bounds.
-- Assumes nothing.
use mathlib.Core.Bool.{Bool, true, false}
use mathlib.Core.List.{[], ◌∷◌}
use mathlib.Core.Path.{◌≡◌, ap, ◌∙◌}
use Prim.Native.Nat.{ℕ, suc, ◌+◌, ◌-◌, ◌*◌, ◌/◌, ◌%◌, ◌≤◌, ◌<◌}
use native.Mathlib.Omega.{arith}
use borrow.Author.Tests.{le-leb, lt-leb, leb-true}
use lib.Dec.{lit≤, leb}
use Rattle.laws.specs.Tests.{within}
use Rattle.calendar.specs.Gregorian.{divides, leap, year_length, month_length, days_of_years, days_before, mjd_of, is_day, is_date, day_answer, date_answer, ymd, date_of, civil_answer}
use Rattle.calendar.specs.Facts.{Valid, InMonth}
use Rattle.calendar.specs.declared.types.Civil.{Civil}
use Rattle.laws.proofs.Answers.{accepted, refused}
use Rattle.laws.proofs.Bools.{both_true, three-true}
use Rattle.laws.proofs.Bounds.{within-true}
use Rattle.calendar.proofs.Told.{one-date}
use Rattle.calendar.proofs.Order.{next-year, next-month, before-next-year, years-climb}
use Rattle.calendar.proofs.Closed.{leap-after, years-closed}
use Rattle.calendar.proofs.After.{date-numbered}

-- the test as facts
pub day-is : (y m d : ℕ) → is_day y m d ≡ true → Valid y m d × (y ≤ 2099)
unfolding is_day
day-is y m d e =
    let p = three-true (within 1980 2099 y) (within 1 12 m) (within 1 (month_length (leap y) m) d) e in
    let r = within-true 1980 2099 y p.0 in
    let s = within-true 1 12 m p.1 in
    let t = within-true 1 (month_length (leap y) m) d p.2 in
    omega arith

-- the three answers of `date`
pub no-day : (y m d : ℕ) → is_day y m d ≡ false → date_answer y m d ≡ 7 ∷ []
unfolding date_answer is_date
no-day y m d e = simp e

pub too-early : (y m d : ℕ) → is_day y m d ≡ true → mjd_of y m d < 44244 → date_answer y m d ≡ 7 ∷ []
unfolding date_answer is_date
too-early y m d e h = simp (e, lt-leb _ _ h)

pub in_bounds : (y m d : ℕ) → is_day y m d ≡ true → 44244 ≤ mjd_of y m d → date_answer y m d ≡ day_answer (mjd_of y m d)
unfolding date_answer is_date
in_bounds y m d e h = simp (e, le-leb _ _ h)

module _ {y m d : ℕ} (v : Valid y m d) (h : y ≤ 2099) where
  -- the MJD in closed form
  pub mjd-closed : 44239 + (1461 * (y - 1980) + 3) / 4 + days_before (leap y) m + (d - 1) ≡ mjd_of y m d
  unfolding mjd_of
  mjd-closed = omega (arith, years-closed (y - 1980) (omega arith))

  -- no date is past 2099-12-31
  pub mjd-most : mjd_of y m d ≤ 88068
  unfolding mjd_of
  mjd-most =
      let e : days_of_years 120 ≡ 43830 = years-closed 120 (omega arith) in
      omega (arith, before-next-year v, years-climb (suc (y - 1980)) 120 (omega arith))

-- a date's MJD lies within the bounds
pub date-within : (y m d : ℕ) → is_date y m d ≡ true → (44244 ≤ mjd_of y m d) × (mjd_of y m d ≤ 88068)
unfolding is_date
date-within y m d e =
    let p = both_true (is_day y m d) (leb 44244 (mjd_of y m d)) e in
    let v = day-is y m d p.0 in
    (leb-true 44244 (mjd_of y m d) p.1, mjd-most v.0 v.1)

-- what a day handed back by `date` says
pub record DayTold (y m d j w s : ℕ) : Type 0 where
  pub is : is_date y m d ≡ true
  pub mjd : j ≡ mjd_of y m d
  pub least : 44244 ≤ j
  pub most : j ≤ 88068
  pub week : w ≡ (j - 44244) / 7
  pub seconds : s ≡ 86400 * ((j - 44244) % 7)

pub date-told : (y m d j w s : ℕ) → date_answer y m d ≡ 0 ∷ j ∷ w ∷ s ∷ [] → DayTold y m d j w s
unfolding date_answer day_answer
date-told y m d j w s q =
    let n = mjd_of y m d in
    let a = accepted 7 (lit≤ tt) (is_date y m d) (n ∷ (n - 44244) / 7 ∷ 86400 * ((n - 44244) % 7) ∷ []) (j ∷ w ∷ s ∷ []) q in
    let e : j ≡ n = cc in
    let f : w ≡ (n - 44244) / 7 = cc in
    let g : s ≡ 86400 * ((n - 44244) % 7) = cc in
    let b = date-within y m d a.0 in
    record { is = a.0; mjd = e; least = omega arith; most = omega arith; week = omega arith; seconds = omega arith }

-- what a refusal of `date` says
pub date-refused : (y m d : ℕ) → date_answer y m d ≡ 7 ∷ [] → is_date y m d ≡ false
unfolding date_answer day_answer
date-refused y m d q = refused 7 (lit≤ tt) (is_date y m d) _ q

-- the day n after 1980-01-01, and the years k before its own
module _ (n k : ℕ) (e : k ≡ 4 * n / 1461) (h : n < 43830) where
  -- the day lies in the year k, and is this day of it
  year-begun : days_of_years k ≤ n
  year-begun = omega (arith, years-closed k (omega arith))

  year-unended : n < days_of_years k + year_length (divides 4 k)
  year-unended =
      let s : days_of_years (suc k) ≡ days_of_years k + year_length (divides 4 k) =
      next-year k ∙ ap (λ (l : Bool). days_of_years k + year_length l) (leap-after k (omega arith)) in
      omega (arith, years-closed (suc k) (omega arith))

  pub year-day : n - (1461 * k + 3) / 4 < year_length (divides 4 k)
  year-day = omega (arith, years-closed k (omega arith), year-begun, year-unended)

  -- the month that holds the day of the year makes the date
  pub date-closed : (mjd m b : ℕ) → mjd ≡ 44239 + n → 44244 ≤ mjd →
      InMonth (divides 4 k) (n - (1461 * k + 3) / 4) m → b ≡ days_before (divides 4 k) m →
      ymd (1980 + k) m (n - (1461 * k + 3) / 4 - b + 1) ≡ date_of mjd
  unfolding mjd_of
  date-closed mjd m b g p i q =
      let l : leap (1980 + k) ≡ divides 4 k = leap-after k (omega arith) in
      let t : days_before (leap (1980 + k)) m ≡ days_before (divides 4 k) m = ap (λ (x : Bool). days_before x m) l in
      let s : month_length (leap (1980 + k)) m ≡ month_length (divides 4 k) m = ap (λ (x : Bool). month_length x m) l in
      let y : days_of_years (1980 + k - 1980) ≡ days_of_years k = ap days_of_years (omega arith) in
      date-numbered (1980 + k) m (n - (1461 * k + 3) / 4 - b + 1) mjd
      (omega (arith, next-month (divides 4 k) m))
      (omega (arith, years-closed k (omega arith), year-begun, i.begun))
      p

-- the two answers of `civil`
pub outside : (mjd : ℕ) → within 44244 88068 mjd ≡ false → civil_answer mjd ≡ 7 ∷ []
unfolding civil_answer
outside mjd e = rw e

pub inside : (mjd : ℕ) (c : Civil) → within 44244 88068 mjd ≡ true → c ≡ date_of mjd →
    civil_answer mjd ≡ 0 ∷ c.year ∷ c.month ∷ c.day ∷ []
unfolding civil_answer
inside mjd c e p = rw (e, p)

-- what a date handed back by `civil` says
pub record DateTold (mjd y m d : ℕ) : Type 0 where
  pub least : 44244 ≤ mjd
  pub most : mjd ≤ 88068
  pub is : date_of mjd ≡ ymd y m d

pub civil-told : (mjd y m d : ℕ) → civil_answer mjd ≡ 0 ∷ y ∷ m ∷ d ∷ [] → DateTold mjd y m d
unfolding civil_answer
civil-told mjd y m d q =
    let c = date_of mjd in
    let a = accepted 7 (lit≤ tt) (within 44244 88068 mjd) (c.year ∷ c.month ∷ c.day ∷ []) (y ∷ m ∷ d ∷ []) q in
    let p = within-true 44244 88068 mjd a.0 in
    record { least = p.0; most = p.1; is = one-date c (ymd y m d) (cc) (cc) (cc) }
