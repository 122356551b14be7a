-- 01, "What the build covers": "every date is plain calendar with days of 86,400 s, so a second of 60 is refused".
-- 01, "Records in order", record 2: "With D = MJD of the start date and S = its time of day in 10^-8 s: week = (D − 44244) / 7 rounded down;
-- seconds of week = 86,400 times the remainder, plus the time of day."
-- Instants are counted in 10^-8 s since MJD 0. In an answer 0 says accepted and is followed by the values.
use Rattle.std.specs.Prelude.{Option, Some, None, Bool, ◌&&◌, cond, List, [], ◌∷◌, ℕ, ◌+◌, ◌-◌, ◌*◌, ◌/◌, ◌%◌, ltb}
use Rattle.laws.specs.Tests.{within}
use Rattle.calendar.specs.Gregorian.{first_mjd, last_mjd, is_date, mjd_of}
use Rattle.calendar.specs.declared.types.Clock.{Clock}
use Rattle.calendar.specs.declared.types.Week.{Week}

-- a second, a minute, an hour and a day in 10^-8 s
abbrev pub second_units : ℕ
second_units = 100_000_000

abbrev pub minute_units : ℕ
minute_units = 60 * second_units

abbrev pub hour_units : ℕ
hour_units = 60 * minute_units

abbrev pub day_units : ℕ
day_units = 24 * hour_units

-- the time of day in 10^-8 s
unfoldable pub time_of : ℕ → ℕ → ℕ → ℕ
time_of hour minute second8 = hour * hour_units + minute * minute_units + second8

-- a time of day: an hour below 24, a minute below 60, and less than 60 seconds
unfoldable pub is_time : ℕ → ℕ → ℕ → Bool
is_time hour minute second8 = ltb hour 24 && ltb minute 60 && ltb second8 minute_units

-- a date and a time of day give the instant; no date or no time of day gives 7
unfoldable pub instant_answer : ℕ → ℕ → ℕ → ℕ → ℕ → ℕ → List ℕ
instant_answer year month day hour minute second8 =
    cond (is_time hour minute second8 && is_date year month day)
    (0 ∷ (mjd_of year month day * day_units + time_of hour minute second8) ∷ [])
    (7 ∷ [])

-- the number and the value of an instant
unfoldable pub told_instant : Option ℕ → List ℕ
told_instant (Some instant) = 0 ∷ instant ∷ []
told_instant None = 7 ∷ []

-- the MJD and the time of day of an instant
unfoldable pub clock_of : ℕ → Clock
clock_of at =
    record { day = at / day_units; hour = at % day_units / hour_units; minute = at % hour_units / minute_units; second8 = at % minute_units }

-- an instant on a day D of the bounds gives week and seconds of week, in 10^-8 s; any other gives 7
unfoldable pub week_answer : ℕ → List ℕ
week_answer at =
    let d = at / day_units in
    cond (within first_mjd last_mjd d) (0 ∷ (d - first_mjd) / 7 ∷ ((d - first_mjd) % 7 * day_units + at % day_units) ∷ []) (7 ∷ [])

-- the number and the values of a week
unfoldable pub told_week : Option Week → List ℕ
told_week (Some w) = 0 ∷ w.week ∷ w.second8 ∷ []
told_week None = 7 ∷ []
