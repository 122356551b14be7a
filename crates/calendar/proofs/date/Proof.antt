-- `calendar::date` meets its contract: no day, a day before the bounds, or the day.
-- Assumes nothing.
use mathlib.Core.Bool.{true}
use mathlib.Core.Path.{◌≡◌, sym, ap, ◌∙◌}
use native.Mathlib.Omega.{arith}
use borrow.Author.Rules.{rules}
use Rattle.calendar.specs.Gregorian.{is_day, day_answer, told_date}
use Rattle.calendar.proofs.Days.{day-is, no-day, too-early, in_bounds}
use Rattle.calendar.proofs.date.Statement.{statement}
use Rattle.calendar.proofs.date.Tie as tie

returns : tie.Need-returns-then-not-is_day
unfolding told_date
returns c = sym (no-day _ _ _ (sym c.is_day.ensures ∙ c.if-not-is_day.true))

-- past the first test it is a day of the calendar
passed : (c : tie.Else-not-is_day) → is_day c.args.year c.args.month c.args.day ≡ true
passed c = sym c.is_day.ensures ∙ c.if-not-is_day.false

mjd-of-requires : tie.Need-mjd_of-mjd-requires
mjd-of-requires c κs = day-is _ _ _ (passed c)

returns-2 : tie.Need-returns-then-mjd-lt-FIRST_MJD
unfolding told_date
returns-2 c = sym (too-early _ _ _ (passed c.before.before) (omega (arith, c.mjd_of-mjd.ensures)))

returns-3 : tie.Need-returns
returns-3 c =
    let m = c in
    c.day_of.ensures
    ∙ ap day_answer m.mjd_of-mjd.ensures
    ∙ sym (in_bounds _ _ _ (passed c.before.before.before) (omega (arith, m.mjd_of-mjd.ensures)))

pub date_spec : {M : Type 1} → statement M
date_spec = tie.close (tie.spec (λ c κs. search rules) returns mjd-of-requires returns-2 (λ c κs. search rules) returns-3)
