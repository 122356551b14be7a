-- The words of the front page: where each is defined. The definitions in reading order are in docs/READING.md.
pub use mathlib.Core.Path.{◌≡◌, ◌∙◌}
pub use mathlib.Core.Bool.{Bool, true, false, not, ◌&&◌, ◌||◌, cond}
pub use mathlib.Core.Logic.{◌↔◌, ◌⊎◌}
pub use mathlib.Core.List.{List, [], ◌∷◌, ◌++◌, map}
pub use Prim.Native.Nat.{ℕ, ◌+◌, ◌-◌, ◌*◌, ◌≤◌, ◌<◌, min}
pub use seplogic.Ra.Ura.{Ura}
pub use base.Logic.{SProp, ent}
pub use contract.Fact.{fact}
pub use contract.Lifetimes.{Lfts}
pub use contract.Monad.{Fun}
pub use denote.Ref.{Bor, MutBor}
pub use denote.Slice.{shr_slice_vals, mut_slice_vals}
pub use denote.Triple.Clauses.{AtExit}
pub use denote.Triple.Entry.{Args, Res}
pub use ghost.Atoms.{Atoms}
pub use prog.Memory.{Memory}
pub use prog.Routine.{Routine}
pub use prog.Wp.{Heap}
pub use lib.Dec.{eqb, leb}
pub use lib.IntN.{ℤ, pos, nat_abs}
pub use lib.ListN.{length, get_or, take, drop, replicate}
pub use Rattle.header.specs.Rules.{c, d, max_satellites, slot_lines}
pub use Rattle.header.specs.Versions.{told_version, rules_of, rules_in}
pub use Rattle.header.specs.declared.types.Version.{Version}
pub use Rattle.header.specs.Header.{letters_listed, header_of, refused as no_header_but}
pub use Rattle.header.specs.declared.types.Moment.{Moment}
pub use Rattle.header.specs.declared.types.Texts.{Texts}
pub use Rattle.header.specs.declared.types.Bases.{Bases}
pub use Rattle.lines.specs.Lent.{over}
pub use Rattle.lines.specs.Lines.{lines_of, join_lines, select, nth}
pub use Rattle.laws.specs.Texts.{every, is_printable}
pub use Rattle.file.specs.Kinds.{is_kind, is_note, kind_in, of_kind}
pub use Rattle.record.specs.LineKinds.{satellites_kind, accuracies_kind, comment_kind, epoch_kind}
pub use Rattle.file.specs.Plain.{Accepted}
pub use Rattle.file.specs.Table.{row_lines, rows_in, header_in, comments_in}
pub use Rattle.machine.specs.State.{no_identifiers}
pub use Rattle.machine.specs.Step.{line_known, line_read, line_identifiers, Overfull}
pub use Rattle.machine.specs.declared.types.State.{State}
pub use Rattle.machine.specs.declared.types.LineRead.TheVariants as found
pub use Rattle.scan.specs.Run.{IsFile, AnyFile, Going, at_first}
pub use Rattle.scan_laws.proofs.Which as which
pub use Rattle.reader.specs.Reading.{refused_with, accepted_as, front_of, file_of, filled, read_answer, judged, identifiers_of, identifiers_after, exponents_after, comments_after, rows_after}
pub use Rattle.canon.specs.Table.{Table, rows_of}
pub use Rattle.canon.specs.Table as table
pub use Rattle.canon.specs.Valid.{valid}
pub use Rattle.canon.specs.Canonical.{canonical, note_shown}
pub use Rattle.canon.specs.Measured.{refused_as, measured, measured_in}
pub use Rattle.writer.specs.Writing.{out_after}
pub use Rattle.canon_laws.proofs.Rewriting as rewriting
pub use Rattle.canon_laws.specs.Held.{Proper, Holds, table_in, rewritten as form_of}
pub use Rattle.canon_laws.proofs.Versions.{c-proper, d-proper, told-proper}
pub use Rattle.divide.specs.Dividing.{Divides, sum, division, divide_of, lengths_after}
pub use Rattle.line_walk.specs.Spots.{first_spot}
pub use Rattle.file.specs.Exact.{exact_signed, exact_note}
pub use Rattle.file_laws.proofs.Notes.{SameBut}
pub use Rattle.file_laws.proofs.Rule.{absent_in}
pub use Rattle.scan_laws.specs.Lines.{Stands}
pub use Rattle.laws.specs.Places.{PartAt}
pub use Rattle.laws.proofs.Places as places
pub use Rattle.questions.specs.Questions.{row_begins, no_row, comment_answer, text_in, comment_line, comment_words, no_comment, no_satellite, satellite_answer}
pub use Rattle.questions.proofs.Theorems as asking
pub use Rattle.questions.proofs.Theorems.{CommentPost}
pub use Rattle.theorems.proofs.Judging as judging
pub use Rattle.theorems.specs.Faults.{FirstFault, after, AllGoOn, Earned, Outside, refused_line, InColumns}
pub use Rattle.scan_laws.specs.Earned.{Among, Earns, items_at, byte_at, field_number, field_column}
pub use Rattle.layout.specs.Fault.{clean, keyed}
pub use Rattle.layout.specs.Kind.{is_unused}
pub use Rattle.layout.specs.Layout.{Item, columns, part_of, fault_at, show_line}
pub use Rattle.layout.specs.Kind.Kind.{signed, clock as clock_kind}
pub use Rattle.header.specs.declared.types.Rules.{Rules}
pub use Rattle.record.specs.declared.types.LineKind.{LineKind}
pub use Rattle.theorems.proofs.Columns as told-columns
pub use Rattle.theorems.proofs.Reading as reading
pub use Rattle.theorems.specs.Files.{header, row_at, There, RowOf, held, identifier, row_lines_of, line_asked, table_row, HasNote, deviation_field, correlation_field}
pub use Rattle.theorems.proofs.Floats as floats
pub use Rattle.theorems.specs.Asked.{asked, row_found, row_refused}
pub use Rattle.theorems.proofs.Room as room
pub use Rattle.theorems.specs.Room.{found_in, Room, Short, rows_needed, answer, fills, most_bytes, most_comments, most_rows}
pub use Rattle.theorems.proofs.RewriteRoom as rewrite_room
pub use Rattle.theorems.proofs.Writing as writing
pub use Rattle.theorems.proofs.Clocks as clocks
pub use Rattle.theorems.proofs.Clocks.{twelve_nines}
pub use Rattle.theorems.proofs.Rewritten as rewritten
pub use Rattle.theorems.specs.Again.{told_file, written_bytes, lent_table}
pub use Rattle.theorems.proofs.InVersion as in_version
pub use Rattle.theorems.proofs.CommentFaults as comment-faults
pub use Rattle.theorems.specs.Bounds.{comment_of, Keeps}
pub use Rattle.theorems.specs.Before.{satellites_before, before, found_before}
pub use Rattle.theorems.proofs.Larger as larger
pub use Rattle.theorems.proofs.Most as most
pub use Rattle.theorems.proofs.EveryNumber as every_number
pub use Rattle.theorems.specs.Made.{one_row, table_of_many}
pub use Rattle.record.specs.SlotLines.{count_item, satellites_of}
pub use Rattle.theorems.proofs.Correlations as correlations
pub use Rattle.theorems.proofs.LentNotes as lent-notes
pub use Rattle.theorems.proofs.WrittenNotes as written-notes
pub use Rattle.theorems.proofs.Dividing as dividing
pub use Rattle.theorems.specs.Divided.{AtFront, TooMany}
pub use Rattle.theorems.proofs.LineRoom as lent-list
pub use Rattle.theorems.proofs.Walks as walks
pub use Rattle.theorems.proofs.Walks.{After}
pub use Rattle.theorems.specs.Walked.{going_at, walked_from, over_lines, Identified, walk_step, begun, begun_list, spot_ahead}
pub use Rattle.line_walk.proofs.Promised as promised
pub use Rattle.line_walk.proofs.Promised.{Begins, Moves}
pub use Rattle.line_walk.specs.contracts.new as new
pub use Rattle.line_walk.specs.contracts.moved as moved
pub use Rattle.theorems.proofs.WalkedRows as walked
pub use Rattle.theorems.proofs.Beginning as beginning
pub use Rattle.theorems.proofs.Exist as exist
pub use Rattle.theorems.proofs.Cases as cases
pub use Rattle.theorems.proofs.Cases.{Case}
pub use Rattle.scan.specs.declared.Tally.{Tally}
pub use Rattle.scan.specs.Front as front
pub use Rattle.divide.specs.declared.Division.{Division}
pub use Rattle.line_walk.specs.declared.Walker.{Walker}
pub use Rattle.row_walk.specs.declared.types.RowWalk.{RowWalk}
pub use Rattle.row_walk.specs.Rows.{line_number, row_step, row_of_step}
pub use Rattle.sp3.specs.Doors.{clock_door, row_door}
pub use Rattle.sp3.proofs.Marks.{clock-mark, row-clock-mark}
pub use Rattle.row_walk.specs.declared.types.RowStep.TheVariants as step
pub use Rattle.layout.specs.Layout.{values_of}
pub use Rattle.layout.specs.Kind.{unnoted, is_blank}
pub use Rattle.layout.specs.Line.{padded, trimmed, ended}
pub use Rattle.record.specs.Rows.{cut, row_items, row_values, row_from, six_nines_in, shortest_row, bare_width, row_width}
pub use Rattle.field.specs.Digits.{all_digits}
pub use Rattle.field.specs.Read.{whole_of}
pub use Rattle.std.specs.Prelude.{Some}
pub use Rattle.field.specs.Clock.{is_six_nines}
pub use Rattle.record.specs.Notes.{correlation_items, correlation_symbol, largest_deviation, largest_correlation, note_from, note_of, note_line, deviation_at, correlation_at}
pub use Rattle.record.specs.Absence.{place_absent}
pub use Rattle.reader.specs.Reading as read_as
pub use Rattle.stored_row.specs.Stored.{is_there, number_at, place_in, clock_in, exponent_read_of, exponent_read_in, flag_in, note_in, note_deviation_of, note_deviation_in, note_correlation_in}
pub use Rattle.stored_row.specs.declared.types.Place.TheVariants as place
pub use Rattle.stored_row.specs.declared.types.ClockRead.TheVariants as clock
pub use Rattle.stored_row.specs.declared.types.ExponentRead.TheVariants as exponent_read
pub use Rattle.stored_row.specs.declared.types.Flag.TheVariants as flag
pub use Rattle.stored_row.specs.declared.types.NoteMark.TheVariants as note_mark
pub use Rattle.stored_row.specs.declared.types.NoteDeviation.TheVariants as note_deviation
pub use Rattle.stored_row.specs.declared.types.NoteCorrelation.TheVariants as note_correlation
pub use Rattle.theorems.proofs.Room.{header_to}
pub use Rattle.theorems.proofs.Answers as answers
pub use Rattle.theorems.proofs.Filled as filling
pub use Rattle.theorems.proofs.Lent as lent
pub use Rattle.record.specs.declared.types.Row.{Row}
pub use Rattle.float_row.specs.Floats.{Exactly}
