-- What the calendar told of a date, as the definition's own test.
-- Assumes nothing.
use mathlib.Core.Path.{◌≡◌, sym}
use mathlib.Core.Bool.{true, false}
use Prim.Native.Nat.{ℕ}
use Rattle.std.specs.Prelude.{Option, Some, None, is_some}
use Rattle.calendar.specs.Gregorian.{date_answer, told_date, is_date}
use Rattle.calendar.specs.declared.types.Dated.{Dated}
use Rattle.calendar.proofs.Days.{date-told, date-refused}

-- a date was told, or none
pub dated-case : (y m d : ℕ) (r : Option Dated) → told_date r ≡ date_answer y m d → is_some r ≡ true → is_date y m d ≡ true
unfolding told_date
dated-case y m d (Some found) e h = (date-told y m d found.mjd found.week found.seconds (sym e)).is
dated-case y m d None e h = cc

pub undated-case : (y m d : ℕ) (r : Option Dated) → told_date r ≡ date_answer y m d → is_some r ≡ false → is_date y m d ≡ false
unfolding told_date
undated-case y m d (Some found) e h = cc
undated-case y m d None e h = date-refused y m d (sym e)
