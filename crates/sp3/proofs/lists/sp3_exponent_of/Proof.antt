-- `sp3::lists::sp3_exponent_of` meets its contract.
-- Assumes nothing.
use mathlib.Core.Path.{ap, ◌∙◌}
use borrow.Author.Rules.{rules}
use Rattle.stored_row.proofs.Told.{told_exponent_read-one}
use Rattle.sp3.specs.Doors.{exponent_door}
use Rattle.sp3.proofs.lists.sp3_exponent_of.Statement.{statement}
use Rattle.sp3.proofs.lists.sp3_exponent_of.Tie as tie

returns : tie.Need-returns
returns c = c.from.ensures ∙ ap exponent_door (told_exponent_read-one _ _ c.exponent_of.ensures)

pub sp3_exponent_of_spec : {M : Type 1} → statement M
sp3_exponent_of_spec =
    tie.close
    (tie.spec
    (λ c κs. search rules)
    (λ c κs. search rules)
    returns)
