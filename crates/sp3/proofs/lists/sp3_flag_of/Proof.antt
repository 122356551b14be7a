-- `sp3::lists::sp3_flag_of` meets its contract.
-- Assumes nothing.
use mathlib.Core.Path.{ap, ◌∙◌}
use borrow.Author.Rules.{rules}
use Rattle.stored_row.proofs.Told.{told_flag-one}
use Rattle.sp3.specs.Doors.{flag_door}
use Rattle.sp3.proofs.lists.sp3_flag_of.Statement.{statement}
use Rattle.sp3.proofs.lists.sp3_flag_of.Tie as tie

returns : tie.Need-returns
returns c = c.from.ensures ∙ ap flag_door (told_flag-one _ _ c.flag_of.ensures)

pub sp3_flag_of_spec : {M : Type 1} → statement M
sp3_flag_of_spec =
    tie.close
    (tie.spec
    (λ c κs. search rules)
    (λ c κs. search rules)
    returns)
