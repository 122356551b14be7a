-- NOTHING LEFT OPEN. Any two outcomes that a contract allows agree, in the answer and in every lent place; so of each function that a user calls, and
-- of every other public function in its crate's `Determined`. The doors for C promise the same definitions under their own names. A place or clock that
-- a door does not mark absent is there; beside the mark stands a number that no field of a file can hold. So of a note's deviations and correlations and
-- each of their marks. A refused step of a walk is handed on with its number, its line and its column.
pub use Rattle.reader.proofs.Determined.{judge-determined, judge-front-determined, read-determined, read-front-determined}
pub use Rattle.writer.proofs.Determined.{write-determined}
pub use Rattle.divide.proofs.Determined.{divide-determined}
pub use Rattle.questions.proofs.Determined.{comment-determined, comment-answer-determined, satellite-of-determined, row-determined}
pub use Rattle.calendar.proofs.Determined.{date-determined}
pub use Rattle.header.proofs.Determined.{header-new-determined}
pub use Rattle.stored_row.proofs.Determined.{place-of-determined, clock-of-determined, exponent-of-determined, flag-of-determined, note-of-determined, note-deviation-of-determined, note-correlation-of-determined}
pub use Rattle.machine.proofs.Determined.{read-line-determined, due-at-determined}
pub use Rattle.line_walk.proofs.Determined.{new-determined, next-determined, moved-determined, after-lines-determined}
pub use Rattle.row_walk.proofs.Determined.{begin-determined, next-row-determined}
pub use Rattle.sp3.proofs.Determined.{sp3-judge-determined, sp3-judge-front-determined, sp3-read-determined, sp3-read-front-determined, sp3-write-determined, sp3-form-length-determined, sp3-divide-determined, sp3-comment-determined, sp3-identifier-determined, sp3-satellite-of-determined, sp3-row-determined, sp3-date-determined, sp3-moment-determined, sp3-header-determined, sp3-place-of-determined, sp3-clock-of-determined, sp3-exponent-of-determined, sp3-flag-of-determined, sp3-note-of-determined, sp3-note-deviation-of-determined, sp3-note-correlation-of-determined, sp3-first-spot-determined, sp3-read-line-determined, sp3-next-line-determined, sp3-due-determined, sp3-after-lines-determined, sp3-begin-determined, sp3-first-row-determined, sp3-next-row-determined}
pub use Rattle.sp3.proofs.Marks.{place-unmarked, place-marked, clock-unmarked, clock-marked, deviation-unmarked, deviation-marked-unknown, deviation-marked-large, deviation-marked-unrecorded, correlation-unmarked, correlation-marked-unknown, correlation-marked-unrecorded, no_field, no-row, refused-row}
