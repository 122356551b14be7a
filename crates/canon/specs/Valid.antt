-- Which tables are valid, over the rules of a version. 01, "The canonical form": "A table is valid exactly when some accepted file has it; lists
-- shorter than its counts make it invalid". Said here by the bounds of 01 one by one; that it is the same is a theorem.
use Rattle.std.specs.Prelude.{Bool, true, false, cond, not, ◌&&◌, ◌||◌, List, [], ℕ, zero, suc, ◌+◌, ◌-◌, ◌*◌, ◌/◌, min, eqb, leb, ℤ, pos, nat_abs, length, get_or, take, drop}
use Rattle.laws.specs.Tests.{within}
use Rattle.laws.specs.Texts.{every}
use Rattle.calendar.specs.Gregorian.{first_mjd, last_mjd}
use Rattle.calendar.specs.Clock.{day_units}
use Rattle.field.specs.Sign.{largest, largest_clock, is_negative}
use Rattle.layout.specs.Kind.{is_one_of, is_listed, is_identifier, printable, unknown, unnoted}
use Rattle.layout.specs.Line.{trimmed}
use Rattle.header.specs.Rules.{max_epochs}
use Rattle.header.specs.Header.{max_interval, max_place_base, max_clock_base}
use Rattle.header.specs.Letters.{file_types, time_systems}
use Rattle.record.specs.Absence.{largest_exponent}
use Rattle.record.specs.Agrees.{repeats, type_agrees}
use Rattle.record.specs.Plain.{comment_width}
use Rattle.record.specs.SlotLines.{max_accuracy}
use Rattle.record.specs.Rows.{bare_width, row_width}
use Rattle.record.specs.Notes.{largest_deviation, largest_correlation}
use Rattle.header.specs.declared.types.Rules.{Rules}
use Rattle.header.specs.declared.types.Header.{Header}
use Rattle.header.specs.declared.types.Texts.{Texts}
use Rattle.canon.specs.Table.{Table, cell_width, cells_in, table_identifiers, exponents_of, comments_of, rows_of}

-- an instant in 10^-8 s since MJD 0 on a day from 1980-01-06 to 2099-12-31
unfoldable pub is_instant : ℕ → Bool
is_instant at8 = within first_mjd last_mjd (at8 / day_units)

-- the instant of the last epoch: the start plus one interval less than there are epochs
abbrev pub last_epoch : Header → ℕ
last_epoch h = h.start8 + (h.epochs - 1) * h.interval8

-- a text fills its columns with bytes 32 to 126
abbrev pub text_fits : ℕ → List ℕ → Bool
text_fits w bytes = eqb (length bytes) w && printable bytes

unfoldable pub texts_fit : Texts → Bool
texts_fit t = text_fits 5 t.data_used && (text_fits 5 t.coordinates && (text_fits 3 t.orbit && text_fits 4 t.agency))

-- start, epochs and interval are within their bounds, and so is the last epoch
unfoldable pub times_valid : Header → Bool
times_valid h =
    (is_instant h.start8 && within 1 max_epochs h.epochs) && (within 1 max_interval h.interval8 && is_instant (last_epoch h))

-- so many satellites and comments as the version has
unfoldable pub counts_valid : Rules → Header → Bool
counts_valid rules h =
    within 1 rules.most_satellites h.satellites && within rules.fewest_comments rules.most_comments h.comments

-- texts of bytes 32 to 126, a listed file type and time system, bases that fit their columns
unfoldable pub words_valid : Header → Bool
words_valid h =
    texts_fit h.texts
    && (is_one_of h.file_type file_types
    && (is_listed h.time_system time_systems && (leb h.bases.place max_place_base && leb h.bases.clock max_clock_base)))

unfoldable pub header_valid : Rules → Header → Bool
header_valid rules h = times_valid h && (counts_valid rules h && words_valid h)

-- no list is shorter than its count: whole comments and whole rows count
unfoldable pub lists_long : Header → ℕ → ℕ → ℕ → ℕ → Bool
lists_long h i x c r =
    (leb h.satellites i && leb h.satellites x) && (leb h.comments (c / comment_width) && leb (cells_in h) (r / cell_width h.velocity))

-- a capital letter and a number from 1 to 99 each, all different, and as the file type says
unfoldable pub identifiers_valid : ℕ → List ℕ → Bool
identifiers_valid file_type identifiers = every is_identifier identifiers && (not (repeats [] identifiers) && type_agrees file_type identifiers)

-- exponents of the header, within their bound
unfoldable pub exponents_valid : List ℕ → Bool
exponents_valid exponents = every (λ n. leb n max_accuracy) exponents

-- the columns that the text of a comment may have in the version, from column 4 on
abbrev pub comment_columns : Rules → ℕ
comment_columns rules = min 80 rules.comment_columns - 3

-- a comment: bytes 32 to 126, and no longer than the version allows
unfoldable pub comment_valid : Rules → List ℕ → Bool
comment_valid rules text = printable text && leb (length (trimmed text)) (comment_columns rules)

-- so many comments of 77 bytes
unfoldable pub comments_valid : Rules → ℕ → List ℕ → Bool
comments_valid rules zero bytes = true
comments_valid rules (suc k) bytes = comment_valid rules (take comment_width bytes) && comments_valid rules k (drop comment_width bytes)

-- the number at a place of a row
abbrev pub entry : List ℤ → ℕ → ℤ
entry row i = get_or row i (pos 0)

-- x, y, z: "magnitude at most 999,999,999,999"
abbrev pub amount_valid : ℤ → Bool
amount_valid v = leb (nat_abs v) largest

-- a clock or rate: from −999,999,999,999 to the largest clock, or absent, which is twelve nines
abbrev pub clock_valid : ℤ → Bool
clock_valid v = cond (is_negative v) (leb (nat_abs v) largest) (leb (nat_abs v) largest_clock || eqb (nat_abs v) largest)

-- an exponent: 0 to 99, of the clock to 999, or unknown
abbrev pub exponent_valid : Bool → ℤ → Bool
exponent_valid clock v = not (is_negative v) && (leb (nat_abs v) (largest_exponent clock) || eqb (nat_abs v) unknown)

-- a flag is 1 or 0; V has none
abbrev pub most_flag : Bool → ℕ
most_flag true = 0
most_flag false = 1

abbrev pub flag_valid : Bool → ℤ → Bool
flag_valid velocity v = not (is_negative v) && leb (nat_abs v) (most_flag velocity)

-- the four numbers of a kind from a place on
abbrev pub four_valid : (ℤ → Bool) → (ℤ → Bool) → ℕ → List ℤ → Bool
four_valid test last at row =
    (test (entry row at) && test (entry row (at + 1))) && (test (entry row (at + 2)) && last (entry row (at + 3)))

-- the numbers of a P line, or of a V line
unfoldable pub row_valid : Bool → List ℤ → Bool
row_valid velocity row =
    four_valid amount_valid clock_valid 0 row
    && (four_valid (exponent_valid false) (exponent_valid true) 4 row && four_valid (flag_valid velocity) (flag_valid velocity) 8 row)

-- of a note: a deviation is 0 to 9999, of the clock to 9999999, or unknown
abbrev pub deviation_valid : Bool → ℤ → Bool
deviation_valid clock v = not (is_negative v) && (leb (nat_abs v) (largest_deviation clock) || eqb (nat_abs v) unnoted)

-- a correlation is −9999999 to 9999999, or unknown
abbrev pub is_unnoted : ℤ → Bool
is_unnoted v = not (is_negative v) && eqb (nat_abs v) unnoted

abbrev pub correlation_valid : ℤ → Bool
correlation_valid v = leb (nat_abs v) largest_correlation || is_unnoted v

-- the four deviations and the six correlations
abbrev pub ten_valid : (ℤ → Bool) → (ℤ → Bool) → (ℤ → Bool) → List ℤ → Bool
ten_valid deviation clock correlation note =
    four_valid deviation clock 1 note
    && (four_valid correlation correlation 5 note && (correlation (entry note 9) && correlation (entry note 10)))

-- whether a record stood there: its mark is not 0
abbrev pub is_noted : List ℤ → Bool
is_noted note = cond (eqb (nat_abs (entry note 0)) 0) false true

-- the mark is 1 or 0; where it is 0 all ten are unknown
unfoldable pub note_valid : List ℤ → Bool
note_valid note =
    flag_valid false (entry note 0)
    && cond (is_noted note)
    (ten_valid (deviation_valid false) (deviation_valid true) correlation_valid note)
    (ten_valid is_unnoted is_unnoted is_unnoted note)

-- a P row with its note, or a V row with its own
unfoldable pub noted_valid : Bool → List ℤ → Bool
noted_valid velocity row = row_valid velocity row && note_valid (drop bare_width row)

-- the rows of one satellite in one epoch
unfoldable pub cell_valid : Bool → List ℤ → Bool
cell_valid true cell = noted_valid false (take row_width cell) && noted_valid true (drop row_width cell)
cell_valid false cell = noted_valid false cell

-- and of so many
unfoldable pub rows_valid : Bool → ℕ → List ℤ → Bool
rows_valid velocity zero rows = true
rows_valid velocity (suc cells) rows =
    cell_valid velocity (take (cell_width velocity) rows) && rows_valid velocity cells (drop (cell_width velocity) rows)

-- the header and the lengths of the lists
unfoldable pub counts_hold : Rules → Table → Bool
counts_hold rules t =
    header_valid rules t.header && lists_long t.header (length t.identifiers) (length t.exponents) (length t.comments) (length t.rows)

-- a valid table
unfoldable pub valid : Rules → Table → Bool
valid rules t =
    counts_hold rules t
    && (identifiers_valid t.header.file_type (table_identifiers t)
    && (exponents_valid (exponents_of t)
    && (comments_valid rules t.header.comments (comments_of t)
    && rows_valid t.header.velocity (cells_in t.header) (rows_of t))))
