-- `machine::checks::instant_in` meets its contract: it is the calendar's answer.
-- Assumes nothing.
use Rattle.std.proofs.Common.{◌≡◌, sym, ◌∙◌, ℕ, Option, Some, None, unwrap_or}
use Rattle.calendar.specs.Clock.{told_instant, instant_answer}
use Rattle.header.specs.declared.types.Moment.{Moment}
use Rattle.header.proofs.Answers.{no-moment, moment-at}
use Rattle.record.specs.Agrees.{instant_in}
use Rattle.machine.proofs.checks.instant_in.Goals as goal

-- what the calendar tells of a moment, or 0
read : (m : Moment) (r : Option ℕ) → told_instant r ≡ instant_answer m.year m.month m.day m.hour m.minute m.second8 → unwrap_or r 0 ≡ instant_in m
unfolding told_instant instant_in
read m (Some at) e = let found = moment-at m at (sym e) in rw found.0 (sym found.1)
read m None e = rw (no-moment m (sym e))

pub returns : goal.returns
returns c = record { result = c.unwrap_or.ensures ∙ read c.args.m c.instant.result c.instant.ensures.result }
