-- `calendar::fraction_of` meets its contract: a time of day, or none.
-- Assumes nothing.
use mathlib.Core.Path.{sym}
use borrow.Author.Rules.{rules}
use Rattle.calendar.specs.Fraction.{told_fraction}
use Rattle.calendar.proofs.Fractions.{fraction-at, no_fraction}
use Rattle.calendar.proofs.fraction_of.Statement.{statement}
use Rattle.calendar.proofs.fraction_of.Tie as tie

returns : tie.Need-returns-then-s-lt-DAY
unfolding told_fraction
returns c = sym (fraction-at c.args.s c.if-s-lt-DAY.true)

returns-2 : tie.Need-returns
unfolding told_fraction
returns-2 c = sym (no_fraction c.args.s c.if-s-lt-DAY.false)

pub fraction_of_spec : {M : Type 1} → statement M
fraction_of_spec = tie.close (tie.spec (λ c. search rules) (λ c. search rules) returns returns-2)
