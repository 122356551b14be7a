-- The length of a canonical form, and the answer of a writing, which is known before any byte is written. 01, "Numbers of the answers": 12 "lent
-- room is too small", 13 "the table to be written isn't valid"; "12 comes after all other checks ..; so does 13, but before 12".
use Rattle.std.specs.Prelude.{Bool, true, false, cond, not, ◌&&◌, List, ℕ, zero, suc, ◌+◌, ◌*◌, eqb, leb, ℤ, nat_abs, length, take, drop}
use Rattle.layout.specs.Kind.{unknown, unnoted}
use Rattle.layout.specs.Inking.{text_end}
use Rattle.header.specs.Rules.{d, slot_lines}
use Rattle.record.specs.Plain.{comment_width}
use Rattle.record.specs.Rows.{bare_width, row_width}
use Rattle.header.specs.declared.types.Rules.{Rules}
use Rattle.header.specs.declared.types.Header.{Header}
use Rattle.header.specs.declared.types.Texts.{Texts}
use Rattle.canon.specs.Table.{Table, cell_width, cells_in, comments_of, rows_of}
use Rattle.canon.specs.Valid.{entry, is_noted, valid}
use Rattle.canon.specs.Canonical.{canonical}
use Rattle.canon.specs.declared.types.Measured.{Measured}

-- A form is measured line by line, each with its LF; that it is as long as this says is a law of proofs/.

-- line 1 ends with its last text that has some, or in column 39
unfoldable pub first_length : Texts → ℕ
first_length t =
    text_end 56 t.agency (text_end 52 t.orbit (text_end 46 t.coordinates (text_end 40 t.data_used 39))) + 1

-- every line before the comments but the first has 60 columns: line 2, `+ ` and `++` lines, `%c`, `%f`, `%i`
unfoldable pub opening_length : Header → ℕ
opening_length h = first_length h.texts + 61 * (2 * slot_lines h.satellites + 7)

-- a comment ends with its text, or in column 2
unfoldable pub comment_length : List ℕ → ℕ
comment_length text = text_end 3 text 2 + 1

unfoldable pub comments_length : ℕ → List ℕ → ℕ
comments_length zero bytes = 0
comments_length (suc k) bytes = comment_length (take comment_width bytes) + comments_length k (drop comment_width bytes)

-- a P or V line ends with its last flag, or its last exponent that is known, or the clock
abbrev pub flag_end : ℕ → ℤ → ℕ → ℕ
flag_end column v earlier = cond (eqb (nat_abs v) 0) earlier column

abbrev pub exponent_end : ℕ → ℤ → ℕ → ℕ
exponent_end column v earlier = cond (eqb (nat_abs v) unknown) earlier column

unfoldable pub exponents_end : List ℤ → ℕ
exponents_end row =
    exponent_end 73 (entry row 7) (exponent_end 69 (entry row 6) (exponent_end 66 (entry row 5) (exponent_end 63 (entry row 4) 60)))

unfoldable pub row_length : List ℤ → ℕ
row_length row =
    flag_end 80 (entry row 11) (flag_end 79 (entry row 10) (flag_end 76 (entry row 9) (flag_end 75 (entry row 8) (exponents_end row)))) + 1

-- an EP or EV line ends with its last number that is known, or in column 2
abbrev pub noted_end : ℕ → ℤ → ℕ → ℕ
noted_end column v earlier = cond (eqb (nat_abs v) unnoted) earlier column

unfoldable pub deviations_end : List ℤ → ℕ
deviations_end note =
    noted_end 26 (entry note 4) (noted_end 18 (entry note 3) (noted_end 13 (entry note 2) (noted_end 8 (entry note 1) 2)))

unfoldable pub correlations_end : List ℤ → ℕ
correlations_end note =
    noted_end 80 (entry note 10)
    (noted_end 71 (entry note 9)
    (noted_end 62 (entry note 8) (noted_end 53 (entry note 7) (noted_end 44 (entry note 6) (noted_end 35 (entry note 5) (deviations_end note))))))

unfoldable pub note_length : List ℤ → ℕ
note_length note = cond (is_noted note) (correlations_end note + 1) 0

unfoldable pub noted_length : List ℤ → ℕ
noted_length row = row_length row + note_length (drop bare_width row)

-- the lines of one satellite in one epoch, and of so many
unfoldable pub cell_length : Bool → List ℤ → ℕ
cell_length true cell = noted_length (take row_width cell) + noted_length (drop row_width cell)
cell_length false cell = noted_length cell

unfoldable pub rows_length : Bool → ℕ → List ℤ → ℕ
rows_length velocity zero rows = 0
rows_length velocity (suc cells) rows =
    cell_length velocity (take (cell_width velocity) rows) + rows_length velocity cells (drop (cell_width velocity) rows)

-- an epoch line has 31 columns, EOF three
unfoldable pub form_length : Table → ℕ
form_length t =
    opening_length t.header
    + (comments_length t.header.comments (comments_of t)
    + (32 * t.header.epochs + (rows_length t.header.velocity (cells_in t.header) (rows_of t) + 4)))

-- a refusal beside no length
abbrev pub refused_as : ℕ → Measured
refused_as number = record { refusal = number; length = 0 }

-- a form of so many bytes, where so much room is lent
unfoldable pub fitted : ℕ → ℕ → Measured
fitted bytes room = cond (leb bytes room) (record { refusal = 0; length = bytes }) (refused_as 12)

-- the answer of writing a table into so much room
unfoldable pub measured : Rules → Table → ℕ → Measured
measured rules t room = cond (valid rules t) (fitted (length (canonical rules t)) room) (refused_as 13)

-- the answer of writing it in a version. 02, Ask 9: "a table outside c's bounds gives 17, after 13 and before 12": it is valid in SP3-d, but not by
-- the rules of the version
unfoldable pub measured_in : Rules → Table → ℕ → Measured
measured_in rules t room = cond (valid d t && not (valid rules t)) (refused_as 17) (measured rules t room)
