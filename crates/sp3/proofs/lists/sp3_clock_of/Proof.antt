-- `sp3::lists::sp3_clock_of` meets its contract.
-- Assumes nothing.
use mathlib.Core.Path.{ap, ◌∙◌}
use borrow.Author.Rules.{rules}
use Rattle.stored_row.proofs.Told.{told_clock-one}
use Rattle.sp3.specs.Doors.{clock_door}
use Rattle.sp3.proofs.lists.sp3_clock_of.Statement.{statement}
use Rattle.sp3.proofs.lists.sp3_clock_of.Tie as tie

returns : tie.Need-returns
returns c = c.from.ensures ∙ ap clock_door (told_clock-one _ _ c.clock_of.ensures)

pub sp3_clock_of_spec : {M : Type 1} → statement M
sp3_clock_of_spec =
    tie.close
    (tie.spec
    (λ c κs. search rules)
    (λ c κs. search rules)
    returns)
