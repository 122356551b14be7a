-- `sp3::walking::sp3_next_line` meets its contract.
-- Assumes nothing.
use mathlib.Core.Path.{ap, ◌∙◌}
use borrow.Author.Rules.{rules}
use Rattle.machine.proofs.Told.{told_read-one}
use Rattle.sp3.specs.Doors.{line_door}
use Rattle.sp3.proofs.walking.sp3_next_line.Statement.{statement}
use Rattle.sp3.proofs.walking.sp3_next_line.Tie as tie

returns : tie.Need-returns
returns c = c.line_answer.ensures ∙ ap (line_door _) (told_read-one _ _ c.read_known-found.ensures)

pub sp3_next_line_spec : {M : Type 1} → statement M
sp3_next_line_spec =
    tie.close
    (tie.spec
    (λ c κs. search rules)
    (λ c κs. search rules)
    returns)
