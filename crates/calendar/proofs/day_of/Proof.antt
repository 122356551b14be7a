-- `calendar::day_of` meets its contract.
-- Assumes nothing.
use mathlib.Core.Path.{refl}
use borrow.Author.Rules.{rules}
use Rattle.calendar.specs.Gregorian.{day_answer, told_date}
use Rattle.calendar.proofs.day_of.Statement.{statement}
use Rattle.calendar.proofs.day_of.Tie as tie

returns : tie.Need-returns
unfolding day_answer told_date
returns c = refl

pub day_of_spec : {M : Type 1} → statement M
day_of_spec = tie.close (tie.spec (λ c. search rules) (λ c. search rules) returns)
