-- `DateAnswer::from` what a date names meets its contract.
-- Assumes nothing.
use Rattle.std.proofs.Common.{sym, ap, Option}
use Rattle.calendar.specs.Gregorian.{told_date}
use Rattle.calendar.specs.declared.types.Dated.{Dated}
use Rattle.sp3.specs.Doors.{date_door}
use Rattle.sp3.proofs.asking.DateAnswerFromOptionDated.from.Goals as goal

pub returns-in-Some : goal.returns-in-Some
unfolding date_door told_date
returns-in-Some c = sym (ap (λ (f : Option Dated). date_door (told_date f)) c.in-Some.is)

pub returns-in-None : goal.returns-in-None
unfolding date_door told_date
returns-in-None c = sym (ap (λ (f : Option Dated). date_door (told_date f)) c.in-None.is)
