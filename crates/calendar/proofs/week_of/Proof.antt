-- `calendar::week_of` meets its contract: a day outside the bounds, or the week and the seconds of week.
-- Assumes nothing.
use mathlib.Core.Bool.{true}
use mathlib.Core.Path.{◌≡◌, sym, ◌∙◌}
use Prim.Native.Nat.{◌/◌}
use native.Mathlib.Omega.{arith}
use borrow.Author.Rules.{rules}
use Rattle.laws.specs.Tests.{within}
use Rattle.calendar.specs.Clock.{day_units, told_week}
use Rattle.laws.proofs.Bounds.{within-true}
use Rattle.calendar.proofs.Weeks.{no-week, week-at}
use Rattle.calendar.proofs.week_of.Statement.{statement}
use Rattle.calendar.proofs.week_of.Tie as tie

returns : tie.Need-returns-then-not-within
unfolding told_week
returns c = sym (no-week _ (sym c.within.ensures ∙ c.if-not-within.true))

-- past the test the day lies within the bounds
passed : (c : tie.Else-not-within) → within 44244 88068 (c.args.at / day_units) ≡ true
passed c = sym c.within.ensures ∙ c.if-not-within.false

sub-since : tie.Need-overflow_sub-since
sub-since c = omega (arith, within-true 44244 88068 (c.args.at / day_units) (passed c))

returns-2 : tie.Need-returns
unfolding told_week
returns-2 c = sym (week-at _ (passed c))

pub week_of_spec : {M : Type 1} → statement M
week_of_spec = tie.close (tie.spec (λ c κs. search rules) returns sub-since (λ c. search rules) (λ c. search rules) returns-2)
