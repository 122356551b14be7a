-- What holds of the calendar as a whole: dates and MJDs are each other's inverse and in the same order, instants and times too.
-- Assumes nothing.
use mathlib.Core.Bool.{true}
use mathlib.Core.List.{[], ◌∷◌}
use mathlib.Core.Logic.{◌⊎◌, inl, inr, ⊎_elim}
use mathlib.Core.Path.{◌≡◌, refl, ap, ◌∙◌}
use Prim.Native.Nat.{ℕ, ◌-◌, ◌/◌, ◌%◌, ◌≤◌, ◌<◌}
use native.Mathlib.Omega.{arith}
use borrow.Author.Tests.{le-leb, lt-ltb}
use lib.Dec.{leb}
use Rattle.calendar.specs.Gregorian.{days_of_years, mjd_of, is_day, is_date, day_answer, date_answer, ymd, date_of, civil_answer}
use Rattle.calendar.specs.Facts.{Valid}
use Rattle.calendar.specs.Clock.{minute_units, hour_units, day_units, is_time, time_of, instant_answer, clock_of}
use Rattle.calendar.specs.declared.types.Civil.{Civil}
use Rattle.laws.proofs.Bools.{both_true}
use Rattle.laws.proofs.Bounds.{true-within, sides}
use Rattle.calendar.proofs.Closed.{years-closed}
use Rattle.calendar.proofs.Order.{years-climb, later-year, later-month, later-day}
use Rattle.calendar.proofs.After.{of-numbered, date-numbered}
use Rattle.calendar.proofs.Days.{day-is, date-within, in_bounds, inside, civil-told}
use Rattle.calendar.proofs.Instants.{instant-told, instant-at, clock-back}

-- a day of the calendar with an MJD up to 88068 is none past 2099
year-most : {y m d : ℕ} → Valid y m d → mjd_of y m d ≤ 88068 → y ≤ 2099
unfolding mjd_of
year-most {y} v h =
    let e : days_of_years 120 ≡ 43830 = years-closed 120 (omega arith) in
    let n : 2100 ≤ y → ⊥ = λ p. omega (arith, years-climb 120 (y - 1980) (omega arith)) in
    omega arith

-- such a day passes the test
valid-is-day : {y m d : ℕ} → Valid y m d → y ≤ 2099 → is_day y m d ≡ true
unfolding is_day
valid-is-day v h =
    simp (
      true-within _ _ _ v.since h,
      true-within _ _ _ v.january v.december,
      true-within _ _ _ v.first v.last,
    )

-- the date of an MJD is a date, and has that MJD, its week and its seconds of week
module _ (mjd : ℕ) (least : 44244 ≤ mjd) (most : mjd ≤ 88068) where
  number-of-civil : mjd_of (date_of mjd).year (date_of mjd).month (date_of mjd).day ≡ mjd
  number-of-civil = (of-numbered mjd least).number

  day-of-civil : is_day (date_of mjd).year (date_of mjd).month (date_of mjd).day ≡ true
  day-of-civil =
      let v = (of-numbered mjd least).valid in
      valid-is-day v (year-most v (omega (arith, number-of-civil)))

  pub civil-is-date : is_date (date_of mjd).year (date_of mjd).month (date_of mjd).day ≡ true
  unfolding is_date
  civil-is-date = simp (day-of-civil, number-of-civil, le-leb _ _ least)

  pub date-of-civil : date_answer (date_of mjd).year (date_of mjd).month (date_of mjd).day ≡ day_answer mjd
  date-of-civil =
      in_bounds (date_of mjd).year (date_of mjd).month (date_of mjd).day day-of-civil (omega (arith, number-of-civil))
      ∙ ap day_answer number-of-civil

-- the MJD of a date has that date
module _ (y m d : ℕ) (is : is_date y m d ≡ true) where
  pub date-of-mjd : ymd y m d ≡ date_of (mjd_of y m d)
  unfolding is_date
  date-of-mjd =
      let p = both_true (is_day y m d) (leb 44244 (mjd_of y m d)) is in
      date-numbered y m d (mjd_of y m d) (day-is y m d p.0).0 refl (date-within y m d is).0

  pub civil-of-date : civil_answer (mjd_of y m d) ≡ 0 ∷ y ∷ m ∷ d ∷ []
  civil-of-date =
      let b = date-within y m d is in
      inside (mjd_of y m d) (ymd y m d) (true-within 44244 88068 (mjd_of y m d) b.0 b.1) date-of-mjd

-- one date is earlier than another: by the year, or in one year by the month, or in one month by the day
abbrev pub Earlier : Civil → Civil → Type 0
Earlier a b =
    (a.year < b.year) ⊎ ((a.year ≡ b.year) × ((a.month < b.month) ⊎ ((a.month ≡ b.month) × (a.day < b.day))))

-- the MJD of a date
abbrev number : Civil → ℕ
number c = mjd_of c.year c.month c.day

-- in one month, and in one year
in-month : (y m d d' : ℕ) → mjd_of y m d < mjd_of y m d' → d < d'
unfolding mjd_of
in-month y m d d' h = omega arith

in-year : (y m d m' d' : ℕ) → Valid y m' d' → mjd_of y m d < mjd_of y m' d' → (m < m') ⊎ ((m ≡ m') × (d < d'))
in-year y m d m' d' w h =
    ⊎_elim inl
    (⊎_elim (λ e. inr (e, in-month y m' d d' (rw e at h))) (λ p. absurd (omega (arith, later-month w m d p))))
    (sides m m')

-- the earlier date has the lower MJD, and the lower MJD the earlier date
module _ (a b : Civil) (v : Valid a.year a.month a.day) (w : Valid b.year b.month b.day) where
  pub earlier-lower : Earlier a b → number a < number b
  earlier-lower =
      ⊎_elim (later-year v w)
      (λ p. rw (← p.0)
      (⊎_elim (later-month v b.month b.day) (λ q. rw (← q.0) (later-day v b.day q.1)) p.1))

  pub lower-earlier : number a < number b → Earlier a b
  lower-earlier h =
      ⊎_elim inl
      (⊎_elim
      (λ e. inr (e, in-year b.year a.month a.day b.month b.day w (rw e at h)))
      (λ p. absurd (omega (arith, later-year w v p))))
      (sides a.year b.year)

-- an instant gives its date and its time back
pub instant-back : (y m d h n s at : ℕ) → instant_answer y m d h n s ≡ 0 ∷ at ∷ [] →
    (clock_of at ≡ record { day = mjd_of y m d; hour = h; minute = n; second8 = s })
    × (civil_answer (mjd_of y m d) ≡ 0 ∷ y ∷ m ∷ d ∷ [])
instant-back y m d h n s at q =
    let p = instant-told y m d h n s at q in
    (ap clock_of p.sum ∙ clock-back (mjd_of y m d) h n s p.time, civil-of-date y m d p.date)

-- the time of an instant is a time of day
time-of-clock : (at : ℕ) → is_time (clock_of at).hour (clock_of at).minute (clock_of at).second8 ≡ true
unfolding clock_of is_time
time-of-clock at =
    simp (
      lt-ltb (at % day_units / hour_units) 24 (omega arith),
      lt-ltb (at % hour_units / minute_units) 60 (omega arith),
      lt-ltb (at % minute_units) minute_units (omega arith),
    )

-- the date and the time of an instant give it back
pub clock-forth : (at y m d : ℕ) → civil_answer (clock_of at).day ≡ 0 ∷ y ∷ m ∷ d ∷ [] →
    instant_answer y m d (clock_of at).hour (clock_of at).minute (clock_of at).second8 ≡ 0 ∷ at ∷ []
unfolding clock_of time_of
clock-forth at y m d q =
    let c = civil-told (at / day_units) y m d q in
    let e : is_date y m d ≡ true = rw c.is at (civil-is-date (at / day_units) c.least c.most) in
    let n : mjd_of y m d ≡ at / day_units = rw c.is at (number-of-civil (at / day_units) c.least c.most) in
    instant-at _ _ _ _ _ _ (time-of-clock at) e ∙ ap (λ (k : ℕ). 0 ∷ k ∷ []) (omega (arith, n))
