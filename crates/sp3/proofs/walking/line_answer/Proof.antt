-- `sp3::walking::line_answer` meets its contract.
-- Assumes nothing.
use mathlib.Core.Path.{sym, ap, ◌∙◌}
use borrow.Author.Rules.{rules}
use Rattle.sp3.specs.Doors.{line_door}
use Rattle.sp3.proofs.walking.line_answer.Statement.{statement}
use Rattle.sp3.proofs.walking.line_answer.Tie as tie

returns : tie.Need-returns-in-NoLine
unfolding line_door
returns c = c.line_parts.ensures ∙ sym (ap (line_door c.args.spot) c.in-NoLine.is)

returns-2 : tie.Need-returns-in-Fault
unfolding line_door
returns-2 c = c.line_parts-in-Fault.ensures ∙ sym (ap (line_door c.args.spot) c.in-Fault.is)

returns-3 : tie.Need-returns-in-Next
unfolding line_door
returns-3 c = c.line_parts-in-Next.ensures ∙ sym (ap (line_door c.args.spot) c.in-Next.is)

returns-4 : tie.Need-returns-in-Finished
unfolding line_door
returns-4 c = c.line_parts-in-Finished.ensures ∙ sym (ap (line_door c.args.spot) c.in-Finished.is)

pub line_answer_spec : {M : Type 1} → statement M
line_answer_spec =
    tie.close
    (tie.spec
    (λ c. search rules)
    (λ c κs. search rules)
    (λ c. search rules)
    (λ c κs. search rules)
    (λ c. search rules)
    (λ c κs. search rules)
    (λ c. search rules)
    (λ c κs. search rules)
    returns
    returns-2
    returns-3
    returns-4)
