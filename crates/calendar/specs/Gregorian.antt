-- 01, "What the build covers": "every date is plain calendar with days of 86,400 s", "dates 1980-01-06 to 2099-12-31".
-- 01, "Records in order": "A date (year, month, day) gives MJD, week and seconds of week, or 7." And from record 2, with D the MJD of the
-- date: "week = (D − 44244) / 7 rounded down; seconds of week = 86,400 times the remainder".
-- Which days there are, their numbers, and the date of a number. In an answer 0 says accepted and is followed by the values.
use Rattle.std.specs.Prelude.{Option, Some, None, Bool, not, ◌&&◌, ◌||◌, cond, List, [], ◌∷◌, ℕ, zero, suc, ◌+◌, ◌-◌, ◌*◌, ◌/◌, ◌%◌, leb, ltb, eqb, get_or}
use Rattle.laws.specs.Tests.{within}
use Rattle.calendar.specs.declared.types.Dated.{Dated}
use Rattle.calendar.specs.declared.types.Civil.{Civil}

-- the bounds: 1980-01-06, the first day of GPS week 0, and 2099-12-31
abbrev pub first_mjd : ℕ
first_mjd = 44244

abbrev pub last_mjd : ℕ
last_mjd = 88068

-- k divides n
abbrev pub divides : ℕ → ℕ → Bool
divides k n = eqb (n % k) 0

-- every fourth year is a leap year, but no hundredth, unless it is a four-hundredth
unfoldable pub leap : ℕ → Bool
leap year = (divides 4 year && not (divides 100 year)) || divides 400 year

-- the days of a year
unfoldable pub year_length : Bool → ℕ
year_length is_leap = cond is_leap 366 365

-- the days of a month, January being 1; a month 0 or past 12 has none
unfoldable pub month_length : Bool → ℕ → ℕ
month_length is_leap month =
    get_or (0 ∷ 31 ∷ cond is_leap 29 28 ∷ 31 ∷ 30 ∷ 31 ∷ 30 ∷ 31 ∷ 31 ∷ 30 ∷ 31 ∷ 30 ∷ 31 ∷ []) month 0

-- the days of the years 1980, 1981, .., as many years as asked
unfoldable pub days_of_years : ℕ → ℕ
days_of_years zero = 0
days_of_years (suc years) = days_of_years years + year_length (leap (1980 + years))

-- the days of the months before a month
unfoldable pub days_before : Bool → ℕ → ℕ
days_before is_leap zero = 0
days_before is_leap (suc month) = days_before is_leap month + month_length is_leap month

-- the MJD of a date from 1980 on: the days of the years and of the months before it, and of its own month; 1980-01-01 is 44239
unfoldable pub mjd_of : ℕ → ℕ → ℕ → ℕ
mjd_of year month day = 44239 + days_of_years (year - 1980) + days_before (leap year) month + (day - 1)

-- a day of the calendar in the years 1980 to 2099
unfoldable pub is_day : ℕ → ℕ → ℕ → Bool
is_day year month day = within 1980 2099 year && within 1 12 month && within 1 (month_length (leap year) month) day

-- a date of the bounds: such a day from 1980-01-06 on
unfoldable pub is_date : ℕ → ℕ → ℕ → Bool
is_date year month day = is_day year month day && leb first_mjd (mjd_of year month day)

-- the answer for a day D of the bounds: accepted, MJD, week, seconds of week in s
unfoldable pub day_answer : ℕ → List ℕ
day_answer mjd = 0 ∷ mjd ∷ (mjd - first_mjd) / 7 ∷ 86400 * ((mjd - first_mjd) % 7) ∷ []

-- a date (year, month, day) gives MJD, week and seconds of week, or 7
unfoldable pub date_answer : ℕ → ℕ → ℕ → List ℕ
date_answer year month day = cond (is_date year month day) (day_answer (mjd_of year month day)) (7 ∷ [])

-- the number and the values of what a date names
unfoldable pub told_date : Option Dated → List ℕ
told_date (Some d) = 0 ∷ d.mjd ∷ d.week ∷ d.seconds ∷ []
told_date None = 7 ∷ []

-- a date by its year, month and day
abbrev pub ymd : ℕ → ℕ → ℕ → Civil
ymd y m d = record { year = y; month = m; day = d }

-- the day after: the next of the month, or the first of the next month, or the first of the next year
unfoldable pub tomorrow : Civil → Civil
tomorrow c =
    cond (ltb c.day (month_length (leap c.year) c.month)) (ymd c.year c.month (c.day + 1))
    (cond (ltb c.month 12) (ymd c.year (c.month + 1) 1) (ymd (c.year + 1) 1 1))

-- the date so many days after 1980-01-06
unfoldable pub date_after : ℕ → Civil
date_after zero = ymd 1980 1 6
date_after (suc days) = tomorrow (date_after days)

-- the date of an MJD from 1980-01-06 on
unfoldable pub date_of : ℕ → Civil
date_of mjd = date_after (mjd - first_mjd)

-- an MJD of the bounds gives year, month and day; any other gives 7
unfoldable pub civil_answer : ℕ → List ℕ
civil_answer mjd =
    cond (within first_mjd last_mjd mjd) (0 ∷ (date_of mjd).year ∷ (date_of mjd).month ∷ (date_of mjd).day ∷ []) (7 ∷ [])

-- the number and the values of what an MJD names
unfoldable pub told_named : Option Civil → List ℕ
told_named (Some c) = 0 ∷ c.year ∷ c.month ∷ c.day ∷ []
told_named None = 7 ∷ []
