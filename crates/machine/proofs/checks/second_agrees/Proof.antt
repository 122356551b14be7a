-- `machine::checks::second_agrees` meets its contract: each way out by the calendar's answer.
-- Assumes nothing.
use Rattle.std.proofs.Common.{sym, ap, ◌∙◌, rules}
use Rattle.calendar.specs.Clock.{told_week}
use Rattle.machine.proofs.Checking.{no-agreement, week-agreement}
use Rattle.machine.proofs.checks.second_agrees.Statement.{statement}
use Rattle.machine.proofs.checks.second_agrees.Tie as tie

returns : tie.Need-returns-in_default
unfolding told_week
returns c =
    let asked = c in
    let a = asked.args in
    sym (no-agreement a.start8 a.second (sym asked.week_of.ensures ∙ ap told_week c.in_default.is))

returns-2 : tie.Need-returns
unfolding told_week
returns-2 c =
    let fraction = c in
    let told = c in
    let asked = c in
    let a = asked.args in
    rw fraction.fraction_agrees-fraction.ensures
    (week-agreement a.start8 a.second _ _ (sym asked.week_of.ensures ∙ ap told_week told.in-Some.is))

pub second_agrees_spec : {M : Type 1} → statement M
second_agrees_spec =
    tie.close
    (tie.spec
    (λ c κs. search rules)
    (λ c. search rules)
    (λ c. search rules)
    returns
    (λ c κs. search rules)
    returns-2)
