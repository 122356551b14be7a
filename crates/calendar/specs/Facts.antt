-- Facts about dates, as the functions within the crate ask for them and hand them on. No answer is defined by them.
use Rattle.std.specs.Prelude.{Bool, ℕ, suc, ◌≤◌, ◌<◌}
use Rattle.calendar.specs.Gregorian.{leap, month_length, days_before}

-- a day of the calendar from 1980 on, with no last year
pub record Valid (year month day : ℕ) : Type 0 where
  pub since : 1980 ≤ year
  pub january : 1 ≤ month
  pub december : month ≤ 12
  pub first : 1 ≤ day
  pub last : day ≤ month_length (leap year) month

-- the day of the year, counted from 0, lies in the month
pub record InMonth (is_leap : Bool) (year_day month : ℕ) : Type 0 where
  pub least : 1 ≤ month
  pub most : month ≤ 12
  pub begun : days_before is_leap month ≤ year_day
  pub unended : year_day < days_before is_leap (suc month)
