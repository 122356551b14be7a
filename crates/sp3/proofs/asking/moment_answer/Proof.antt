-- `sp3::asking::moment_answer` meets its contract.
-- Assumes nothing.
use mathlib.Core.Path.{sym, ap}
use borrow.Author.Rules.{rules}
use Rattle.calendar.specs.Gregorian.{told_named}
use Rattle.std.specs.Prelude.{Option}
use Rattle.calendar.specs.declared.types.Civil.{Civil}
use Rattle.sp3.specs.Doors.{moment_door}
use Rattle.sp3.proofs.asking.moment_answer.Statement.{statement}
use Rattle.sp3.proofs.asking.moment_answer.Tie as tie

returns : tie.Need-returns-in-Some
unfolding moment_door told_named
returns c = sym (ap (λ (f : Option Civil). moment_door (told_named f) c.args.clock) c.in-Some.is)

returns-2 : tie.Need-returns-in-None
unfolding moment_door told_named
returns-2 c = sym (ap (λ (f : Option Civil). moment_door (told_named f) c.args.clock) c.in-None.is)

pub moment_answer_spec : {M : Type 1} → statement M
moment_answer_spec =
    tie.close
    (tie.spec
    (λ c. search rules)
    (λ c. search rules)
    returns
    returns-2)
