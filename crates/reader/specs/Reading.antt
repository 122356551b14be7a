-- What a reading gives. 01, "Numbers of the answers": 12 "lent room is too small"; "12 comes after all other checks, with line 0"; "Each refusal
-- leaves all lent memory unchanged. After success the places past those filled are unchanged too. A reading needs room for n identifiers and
-- exponents, for n times epochs rows (twice that in mode V) and 77 bytes for each comment, which are filled up with blanks."
use Rattle.std.specs.Prelude.{Bool, true, false, cond, ◌&&◌, List, [], ◌≡◌, ℕ, ◌/◌, ◌≤◌, leb, ℤ, length, take}
use Rattle.lines.specs.Lent.{over}
use Rattle.lines.specs.Lines.{lines_of}
use Rattle.header.specs.Header.{no_header}
use Rattle.record.specs.LineKinds.{comment_kind}
use Rattle.record.specs.Plain.{comment_width}
use Rattle.record.specs.Rows.{row_width}
use Rattle.file.specs.Kinds.{of_kind}
use Rattle.file.specs.Table.{count_of, header_in, slots_in, comments_in, row_lines, rows_in}
use Rattle.scan.specs.Run.{scan_of, whole_front}
use Rattle.header.specs.declared.types.Rules.{Rules}
use Rattle.scan.specs.declared.Tally.{Tally}
use Rattle.std.specs.Prelude.{Ok, Err}
use Rattle.scan.specs.Front.{Front}
use Rattle.scan.specs.Front as front
use Rattle.reader.specs.declared.types.Reading.{Reading}

-- what stands for no version: a blank
abbrev blank : ℕ
blank = 32

-- a refusal beside nothing
abbrev pub refused_with : ℕ → ℕ → ℕ → Reading
refused_with number line column = record { refusal = number; line = line; column = column; length = 0; header = no_header; version = blank }

-- the lines of the file at the front of some bytes, which ends at this byte
abbrev pub lines_to : ℕ → List ℕ → List (List ℕ)
lines_to end bytes = lines_of (take end bytes)

-- a file: its length, the header that its lines hold and the letter of its version
abbrev pub accepted_as : Rules → List ℕ → Tally → Reading
accepted_as rules bytes t = record { refusal = 0; line = 0; column = 0; length = t.end; header = header_in rules (lines_to t.end bytes); version = rules.letter }

-- what was found at the front of some bytes, as an answer
unfoldable pub judged : Rules → List ℕ → Front → Reading
judged rules bytes (Ok t) = accepted_as rules bytes t
judged rules bytes (Err refusal) = refused_with refusal.number refusal.line refusal.column

-- one file at the front of some bytes, and one whole file
abbrev pub front_of : Rules → List ℕ → Front
front_of rules bytes = scan_of rules bytes

abbrev pub file_of : Rules → List ℕ → Front
file_of rules bytes = whole_front (length bytes) (scan_of rules bytes)

-- the counts of a file that was found are those of its lines
abbrev pub Accounted : Rules → List ℕ → Front → Type 0
Accounted rules bytes (Ok t) =
    (t.end ≤ length bytes)
    × (t.comments ≡ length (of_kind rules comment_kind (lines_to t.end bytes)))
    × (t.rows ≡ length (row_lines rules (lines_to t.end bytes)))
Accounted rules bytes (Err refusal) = Unit

-- lent room: identifiers, exponents, bytes of comments, numbers of rows; whole comments and whole rows count
unfoldable pub room_for : ℕ → Tally → ℕ → ℕ → ℕ → ℕ → Bool
room_for n t i x c r = (leb n i && leb n x) && (leb t.comments (c / comment_width) && leb t.rows (r / row_width))

-- whether there is a file and room for its table
unfoldable pub enough : Rules → List ℕ → Front → ℕ → ℕ → ℕ → ℕ → Bool
enough rules bytes (Ok t) i x c r = room_for (count_of rules (lines_to t.end bytes)) t i x c r
enough rules bytes (Err refusal) i x c r = false

-- the answer where so much room is lent
unfoldable pub delivered : Rules → List ℕ → Front → ℕ → ℕ → ℕ → ℕ → Reading
delivered rules bytes (Ok t) i x c r =
    cond (room_for (count_of rules (lines_to t.end bytes)) t i x c r) (accepted_as rules bytes t) (refused_with 12 0 0)
delivered rules bytes (Err refusal) i x c r = refused_with refusal.number refusal.line refusal.column

-- the lines of what was found: those of the file, or none
abbrev pub lines_in : List ℕ → Front → List (List ℕ)
lines_in bytes (Ok t) = lines_to t.end bytes
lines_in bytes (Err refusal) = []

-- a lent list at the end: filled where there was room, else as it was
abbrev pub filled : {A : Type 0} → Bool → List A → List A → List A
filled room new old = cond room (over new old) old

-- the four lists of the table of what was found
abbrev pub identifiers_of : Rules → List (List ℕ) → List ℕ
identifiers_of rules lines = slots_in rules false (count_of rules lines) lines

abbrev pub exponents_of : Rules → List (List ℕ) → List ℕ
exponents_of rules lines = slots_in rules true (count_of rules lines) lines

-- A reading into these lists: its answer, and each list afterwards.
module _ (rules : Rules) (bytes : List ℕ) (found : Front) (identifiers exponents comments : List ℕ) (rows : List ℤ) where
  abbrev pub read_answer : Reading
  read_answer = delivered rules bytes found (length identifiers) (length exponents) (length comments) (length rows)

  -- there is a file, and room for its table
  abbrev pub fills : Bool
  fills = enough rules bytes found (length identifiers) (length exponents) (length comments) (length rows)

  abbrev pub identifiers_after : List ℕ
  identifiers_after = filled fills (identifiers_of rules (lines_in bytes found)) identifiers

  abbrev pub exponents_after : List ℕ
  exponents_after = filled fills (exponents_of rules (lines_in bytes found)) exponents

  abbrev pub comments_after : List ℕ
  comments_after = filled fills (comments_in rules (lines_in bytes found)) comments

  abbrev pub rows_after : List ℤ
  rows_after = filled fills (rows_in rules (lines_in bytes found)) rows
