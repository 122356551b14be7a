-- `sp3::lists::sp3_note_deviation_of` meets its contract.
-- Assumes nothing.
use mathlib.Core.Path.{ap, ◌∙◌}
use borrow.Author.Rules.{rules}
use Rattle.stored_row.proofs.Told.{told_note_deviation-one}
use Rattle.sp3.specs.Doors.{note_deviation_door}
use Rattle.sp3.proofs.lists.sp3_note_deviation_of.Statement.{statement}
use Rattle.sp3.proofs.lists.sp3_note_deviation_of.Tie as tie

returns : tie.Need-returns
returns c = c.from.ensures ∙ ap note_deviation_door (told_note_deviation-one _ _ c.note_deviation_of.ensures)

pub sp3_note_deviation_of_spec : {M : Type 1} → statement M
sp3_note_deviation_of_spec =
    tie.close
    (tie.spec
    (λ c κs. search rules)
    (λ c κs. search rules)
    returns)
