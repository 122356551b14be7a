-- `NoteDeviationAnswer::from` a `NoteDeviation` meets its contract.
-- Assumes nothing.
use mathlib.Core.Path.{sym, ap, ◌∙◌}
use Rattle.sp3.specs.Doors.{note_deviation_door}
use Rattle.sp3.proofs.lists.NoteDeviationAnswerFromNoteDeviation.from.Goals as goal

pub returns-in-Value : goal.returns-in-Value
unfolding note_deviation_door
returns-in-Value c = sym (ap note_deviation_door c.in-Value.is)

pub returns-in-Unknown : goal.returns-in-Unknown
unfolding note_deviation_door
returns-in-Unknown c = c.no_deviation.ensures ∙ sym (ap note_deviation_door c.in-Unknown.is)

pub returns-in-TooLarge : goal.returns-in-TooLarge
unfolding note_deviation_door
returns-in-TooLarge c = c.no_deviation-in-TooLarge.ensures ∙ sym (ap note_deviation_door c.in-TooLarge.is)

pub returns-in-NoRecord : goal.returns-in-NoRecord
unfolding note_deviation_door
returns-in-NoRecord c = c.no_deviation-in-NoRecord.ensures ∙ sym (ap note_deviation_door c.in-NoRecord.is)

pub returns-in-NotThere : goal.returns-in-NotThere
unfolding note_deviation_door
returns-in-NotThere c = c.no_deviation-in-NotThere.ensures ∙ sym (ap note_deviation_door c.in-NotThere.is)
