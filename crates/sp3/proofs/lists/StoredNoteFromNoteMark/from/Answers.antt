-- `StoredNote::from` a `NoteMark` meets its contract.
-- Assumes nothing.
use mathlib.Core.Path.{sym, ap, ◌∙◌}
use Rattle.sp3.specs.Doors.{note_door}
use Rattle.sp3.proofs.lists.StoredNoteFromNoteMark.from.Goals as goal

pub returns-in-Stands : goal.returns-in-Stands
unfolding note_door
returns-in-Stands c = c.note.ensures ∙ sym (ap note_door c.in-Stands.is)

pub returns-in-NoRecord : goal.returns-in-NoRecord
unfolding note_door
returns-in-NoRecord c = c.note-in-NoRecord.ensures ∙ sym (ap note_door c.in-NoRecord.is)

pub returns-in-NotThere : goal.returns-in-NotThere
unfolding note_door
returns-in-NotThere c = c.note-in-NotThere.ensures ∙ sym (ap note_door c.in-NotThere.is)
