-- `sp3::walking::sp3_next_row` meets its contract.
-- Assumes nothing.
use mathlib.Core.Path.{ap, ◌∙◌}
use borrow.Author.Rules.{rules}
use Rattle.row_walk.proofs.Told.{told_step-one}
use Rattle.sp3.specs.Doors.{row_door}
use Rattle.sp3.proofs.walking.sp3_next_row.Statement.{statement}
use Rattle.sp3.proofs.walking.sp3_next_row.Tie as tie

returns : tie.Need-returns
returns c = c.row_answer.ensures ∙ ap (row_door _) (told_step-one _ _ c.next_row.ensures)

pub sp3_next_row_spec : {M : Type 1} → statement M
sp3_next_row_spec =
    tie.close
    (tie.spec
    (λ c κs. search rules)
    (λ c κs. search rules)
    returns)
