-- The table that the lines of a file hold, by selecting lines, whatever the machine says. 01, "What the build covers": "A table holds the mode,
-- start, number of epochs, interval, four texts, identifiers with their exponents, file type, time system, two bases, the comments without
-- trailing blanks, and the rows in file order: numbers or absence, exponents, flags." 02, Ask 1: "A row now says whether such a record stood there".
use Rattle.std.specs.Prelude.{Bool, true, false, cond, List, [], ◌∷◌, map, ℕ, leb, ℤ, pos, length, take, replicate}
use Rattle.field.specs.Sign.{largest, signed_int}
use Rattle.header.specs.Header.{header_made}
use Rattle.layout.specs.Kind.{unnoted}
use Rattle.layout.specs.Line.{padded}
use Rattle.lines.specs.Lent.{flat}
use Rattle.lines.specs.Lines.{select}
use Rattle.lines.specs.Noted.{note_at, row_parts}
use Rattle.record.specs.LineKinds.{first_kind, second_kind, satellites_kind, accuracies_kind, characters_kind, floats_kind, comment_kind, velocity_kind}
use Rattle.record.specs.Opening.{first_of, second_of}
use Rattle.record.specs.SlotLines.{satellites_of, more_of}
use Rattle.record.specs.Descriptors.{descriptor_of, base_of}
use Rattle.record.specs.Plain.{comment_of}
use Rattle.record.specs.Rows.{row_of}
use Rattle.record.specs.Notes.{note_of}
use Rattle.record.specs.Agrees.{instant_in}
use Rattle.header.specs.declared.types.Rules.{Rules}
use Rattle.header.specs.declared.types.Header.{Header}
use Rattle.record.specs.declared.types.First.{First}
use Rattle.record.specs.declared.types.Descriptor.{Descriptor}
use Rattle.record.specs.declared.types.BaseLine.{BaseLine}
use Rattle.field.specs.declared.Signed.{Signed}
use Rattle.record.specs.declared.types.Row.{Row}
use Rattle.record.specs.declared.types.Note.{Note}
use Rattle.file.specs.Kinds.{is_kind, is_row, is_note, of_kind, first_of_kind}

-- the header of its first `#d`, `##`, `+ `, `%c` and `%f` lines, and the number of its comments
abbrev pub header_from : First → ℕ → ℕ → Descriptor → BaseLine → ℕ → Header
header_from f interval8 n d b comments =
    header_made f.mode (instant_in f.start) f.epochs interval8 f.texts n comments d.file_type d.time_system b.bases

-- the first line of a kind, padded to 80 columns
abbrev pub padded_first : Rules → ℕ → List (List ℕ) → List ℕ
padded_first rules kind lines = padded (first_of_kind rules kind lines)

abbrev pub first_in : Rules → List (List ℕ) → First
first_in rules lines = first_of rules (padded_first rules first_kind lines)

abbrev pub count_of : Rules → List (List ℕ) → ℕ
count_of rules lines = (satellites_of rules (padded_first rules satellites_kind lines)).count

abbrev pub header_with : Rules → List (List ℕ) → ℕ → Header
header_with rules lines comments =
    header_from
    (first_in rules lines)
    (second_of (padded_first rules second_kind lines)).interval8
    (count_of rules lines)
    (descriptor_of (padded_first rules characters_kind lines))
    (base_of (padded_first rules floats_kind lines))
    comments

unfoldable pub header_in : Rules → List (List ℕ) → Header
header_in rules lines = header_with rules lines (length (of_kind rules comment_kind lines))

-- the numbers in the seventeen slots of a `+ ` or `++` line: identifiers, or accuracy exponents
abbrev pub slot_numbers : Bool → List ℕ → List ℕ
slot_numbers accuracies line = (more_of accuracies 17 (padded line)).values

-- `+ ` lines, or `++` lines
abbrev pub slot_line_kind : Bool → ℕ
slot_line_kind true = accuracies_kind
slot_line_kind false = satellites_kind

-- the identifiers of n satellites, or their exponents
unfoldable pub slots_in : Rules → Bool → ℕ → List (List ℕ) → List ℕ
slots_in rules accuracies n lines = take n (flat (map (slot_numbers accuracies) (of_kind rules (slot_line_kind accuracies) lines)))

-- the text of a comment: columns 4 to 80, filled up with blanks
abbrev pub comment_text : List ℕ → List ℕ
comment_text line = comment_of (padded line)

-- the comments, 77 bytes each
unfoldable pub comments_in : Rules → List (List ℕ) → List ℕ
comments_in rules lines = flat (map comment_text (of_kind rules comment_kind lines))

-- the row of a P or V line
abbrev pub row_in : Rules → List ℕ → Row
row_in rules line = row_of (is_kind rules velocity_kind line) line

-- a number as it is stored; every magnitude of an accepted row is within the bound
unfoldable pub stored_int : Bool → ℕ → ℤ
stored_int negative m = cond (leb m largest) (signed_int negative m) (pos 0)

abbrev pub stored_signed : Signed → ℤ
stored_signed s = stored_int s.negative s.magnitude

abbrev pub stored_count : ℕ → ℤ
stored_count n = stored_int false n

-- a flag that is set is 1
abbrev pub mark_number : Bool → ℕ
mark_number set = cond set 1 0

abbrev pub stored_mark : Bool → ℤ
stored_mark set = stored_count (mark_number set)

-- the numbers of a P or V line: x, y, z, clock, their exponents, and the flags of columns 75, 76, 79 and 80
unfoldable pub row_numbers : Row → List ℤ
row_numbers p =
    stored_signed p.x
    ∷ stored_signed p.y
    ∷ stored_signed p.z
    ∷ stored_signed p.clock
    ∷ stored_count p.x_exponent
    ∷ stored_count p.y_exponent
    ∷ stored_count p.z_exponent
    ∷ stored_count p.clock_exponent
    ∷ stored_mark p.event
    ∷ stored_mark p.predicted
    ∷ stored_mark p.maneuver
    ∷ stored_mark p.orbit_predicted
    ∷ []

-- the numbers of an EP or EV line: 1, since it stands there, the deviations of x, y, z and clock, and the correlations xy, xz, xc, yz, yc and zc
unfoldable pub note_numbers : Note → List ℤ
note_numbers n =
    stored_mark true
    ∷ stored_count n.x_deviation
    ∷ stored_count n.y_deviation
    ∷ stored_count n.z_deviation
    ∷ stored_count n.clock_deviation
    ∷ stored_signed n.xy
    ∷ stored_signed n.xz
    ∷ stored_signed n.xc
    ∷ stored_signed n.yz
    ∷ stored_signed n.yc
    ∷ stored_signed n.zc
    ∷ []

-- where none stands: 0, and all ten unknown
unfoldable pub no_note : List ℤ
no_note = stored_mark false ∷ replicate 10 (stored_count unnoted)

-- what the lines directly after a row say of it: the numbers of the EP or EV line that stands first, or those of none
abbrev pub note_after : Rules → List (List ℕ) → List ℤ
note_after rules lines =
    note_at (is_row rules) (is_note rules) (λ line. row_numbers (row_in rules line)) (λ line. note_numbers (note_of line)) no_note lines

abbrev pub row_lines : Rules → List (List ℕ) → List (List ℕ)
row_lines rules lines = select (is_row rules) lines

-- the rows of some lines, in file order: the numbers of each P or V line, and of the EP or EV line directly after it
unfoldable pub rows_of_lines : Rules → List (List ℕ) → List (List ℤ)
rows_of_lines rules lines =
    row_parts (is_row rules) (is_note rules) (λ line. row_numbers (row_in rules line)) (λ line. note_numbers (note_of line)) no_note lines

abbrev pub rows_in : Rules → List (List ℕ) → List ℤ
rows_in rules lines = flat (rows_of_lines rules lines)
