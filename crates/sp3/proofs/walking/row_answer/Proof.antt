-- `sp3::walking::row_answer` meets its contract.
-- Assumes nothing.
use mathlib.Core.Path.{sym, ap, ◌∙◌}
use borrow.Author.Rules.{rules}
use Rattle.sp3.specs.Doors.{row_door}
use Rattle.sp3.proofs.walking.row_answer.Statement.{statement}
use Rattle.sp3.proofs.walking.row_answer.Tie as tie

returns : tie.Need-returns-in-At
unfolding row_door
returns c = c.row_found.ensures ∙ sym (ap (row_door c.args.from) c.in-At.is)

returns-2 : tie.Need-returns-in-Absent
unfolding row_door
returns-2 c = c.row_found-in-Absent.ensures ∙ sym (ap (row_door c.args.from) c.in-Absent.is)

returns-3 : tie.Need-returns-in-End
unfolding row_door
returns-3 c = c.no_row.ensures ∙ sym (ap (row_door c.args.from) c.in-End.is)

returns-4 : tie.Need-returns-in-Refused
unfolding row_door
returns-4 c = c.no_row-in-Refused.ensures ∙ sym (ap (row_door c.args.from) c.in-Refused.is)

pub row_answer_spec : {M : Type 1} → statement M
row_answer_spec =
    tie.close
    (tie.spec
    (λ c. search rules)
    (λ c κs. search rules)
    (λ c. search rules)
    (λ c κs. search rules)
    (λ c. search rules)
    (λ c κs. search rules)
    (λ c. search rules)
    (λ c κs. search rules)
    returns
    returns-2
    returns-3
    returns-4)
