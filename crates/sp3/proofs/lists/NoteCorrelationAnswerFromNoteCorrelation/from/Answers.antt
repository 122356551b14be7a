-- `NoteCorrelationAnswer::from` a `NoteCorrelation` meets its contract.
-- Assumes nothing.
use mathlib.Core.Path.{sym, ap, ◌∙◌}
use native.Mathlib.Omega.{arith}
use mir.Syntax.{w64}
use mir.ValLaws.{to_z-of_z}
use Rattle.sp3.specs.Doors.{note_correlation_door}
use Rattle.sp3.proofs.lists.NoteCorrelationAnswerFromNoteCorrelation.from.Goals as goal

pub returns-in-Value : goal.returns-in-Value
unfolding note_correlation_door
returns-in-Value c = rw (to_z-of_z w64 c.in-Value.value (record { sfits = omega arith })) (sym (ap note_correlation_door c.in-Value.is))

pub returns-in-Unknown : goal.returns-in-Unknown
unfolding note_correlation_door
returns-in-Unknown c = c.no_correlation.ensures ∙ sym (ap note_correlation_door c.in-Unknown.is)

pub returns-in-NoRecord : goal.returns-in-NoRecord
unfolding note_correlation_door
returns-in-NoRecord c = c.no_correlation-in-NoRecord.ensures ∙ sym (ap note_correlation_door c.in-NoRecord.is)

pub returns-in-NotThere : goal.returns-in-NotThere
unfolding note_correlation_door
returns-in-NotThere c = c.no_correlation-in-NotThere.ensures ∙ sym (ap note_correlation_door c.in-NotThere.is)
