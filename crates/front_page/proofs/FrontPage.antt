-- THE FRONT PAGE: what is proved of the reader and writer, in the order of its three demands. Each statement has its sentence above it, and each proof
-- is one citation. `rules` are the rules of a version, any that is `Proper`, as those of SP3-c (`c`) and SP3-d (`d`) are. An accepted file of it is
-- `IsFile rules bytes`; it is exactly one with the paper's records in their order (`accepted-files`). Where each word is defined stands in
-- FrontPage/Words, in reading order in docs/READING.md. Assumes nothing.
mod Words
mod Once
mod Determined
use types.Logic.{Logic}
use denote.Slice.{shr_slice_vals}
use denote.Ref.{Bor}
use Words.*
pub use Once.*
pub use Determined.*

-- THE VERSIONS. The rules of SP3-c and those of SP3-d are proper, and so are those that some bytes tell by their first two, `#c` or any other.
pub c-is-proper : Proper c
c-is-proper = c-proper

pub d-is-proper : Proper d
d-is-proper = d-proper

pub told-is-proper : (bytes : List ℕ) → Proper (rules_in bytes)
told-is-proper bytes = told-proper bytes

-- No file is of both, and what is accepted by the rules that it tells (`AnyFile`) is a file of one of them.
pub not-both : (bytes : List ℕ) → IsFile c bytes → IsFile d bytes → ⊥
not-both bytes of_c of-d = which.not-both bytes of_c of-d

pub either : (bytes : List ℕ) → AnyFile bytes ↔ (IsFile c bytes ⊎ IsFile d bytes)
either bytes = which.either bytes

-- What follows an accepted file does not change the rules that it tells.
pub told-after : (a b : List ℕ) → AnyFile a → rules_in (a ++ b) ≡ rules_in a
told-after a b file = which.told-after a b file

-- THE FIRST DEMAND. Bytes of every kind and length, every table, room of every size are answered, since no public function asks anything of its caller. A
-- refusal has a number, a refused reading its line too, and changes nothing that was lent.

module _ {rules : Rules} (proper : Proper rules) where
  -- A reading that is refused leaves each list as it was, whatever it was to be filled with; whole files and files at the front at once.
  pub reading-keeps : (whole : Bool) (bytes : List ℕ) {A : Type 0} (i x c r : ℕ) (new old : List A) → ((answer rules whole bytes i x c r).refusal ≡ 0 → ⊥)
      → filled (fills rules whole bytes i x c r) new old ≡ old
  reading-keeps whole bytes i x c r new old refused = room.refusal-keeps proper whole bytes i x c r new old refused

  -- A writing that is refused changes no byte.
  pub writing-keeps : (t : Table) (out : List ℕ) → ((measured_in rules t (length out)).refusal ≡ 0 → ⊥) → out_after rules t out ≡ out
  writing-keeps t out refused = writing.refusal-keeps-out proper t out refused

  -- The beginning of a walk that is refused, by the file's own refusal or by 12, leaves the identifiers as they were.
  pub beginning-keeps : (bytes : List ℕ) (number line column : ℕ) → file_of rules bytes ≡ front.Refused number line column → (old : List ℕ)
      → (begun rules bytes (length old) ≡ refused_with number line column) × (begun_list rules bytes old ≡ old)
  beginning-keeps bytes number line column refused old = beginning.begin-refused proper bytes number line column refused old

  pub beginning-short : (bytes : List ℕ) (t : Tally) → file_of rules bytes ≡ front.File t → (old : List ℕ) → length old < (header rules bytes).satellites
      → (begun rules bytes (length old) ≡ refused_with 12 0 0) × (begun_list rules bytes old ≡ old)
  beginning-short bytes t accepted old short = beginning.begin-short proper bytes t accepted old short

  -- It answers 12 exactly then, and past the identifiers of a file that is begun the list is as it was.
  pub begin-twelve : (bytes : List ℕ) (old : List ℕ) → ((begun rules bytes (length old)).refusal ≡ 12) ↔ (IsFile rules bytes × (length old < (header rules bytes).satellites))
  begin-twelve bytes old = answers.begin-twelve proper bytes old

  pub beginning-rest : (bytes : List ℕ) (t : Tally) → file_of rules bytes ≡ front.File t → (old : List ℕ) → (header rules bytes).satellites ≤ length old
      → drop (header rules bytes).satellites (begun_list rules bytes old) ≡ drop (header rules bytes).satellites old
  beginning-rest bytes t accepted old enough = beginning.begin-keeps-rest proper bytes t accepted old enough

-- A division without room writes no length.
pub dividing-keeps : (bytes old : List ℕ) → (divide_of bytes (length old)).refusal ≡ 12 → lengths_after bytes old ≡ old
dividing-keeps bytes old twelve = dividing.refusal-keeps bytes old twelve

-- DEMAND 2, READING. Given room, reading gives exactly the table that the format gives to the file, and refuses exactly the files that break its rules.

module _ {rules : Rules} (proper : Proper rules) where
  -- A file is accepted exactly when it has the paper's records in their order, with their counts and conditions.
  pub accepted-files : (bytes : List ℕ) → IsFile rules bytes ↔ Accepted rules bytes
  accepted-files bytes = judging.accepts-exactly proper bytes

-- Accepted files of each version exist: one has the paper's own header and one row, one has `EP` alone after that row,
pub accepted-one : (v : Version) → (bytes : List ℕ) × IsFile (rules_of v) bytes × Holds (rules_of v) (lines_of bytes) (one_row (pos 1) (pos 0))
accepted-one v = exist.accepted-one v

pub accepted-noted : (v : Version) → (bytes : List ℕ) × IsFile (rules_of v) bytes × Holds (rules_of v) (lines_of bytes) (one_row (pos 1) (pos 1))
accepted-noted v = exist.accepted-noted v

-- and the tables of two of them differ.
pub tables-differ : (v : Version)
    → (a : List ℕ) × (b : List ℕ) × IsFile (rules_of v) a × IsFile (rules_of v) b × (rows_in (rules_of v) (lines_of a) ≡ rows_in (rules_of v) (lines_of b) → ⊥)
tables-differ v = exist.tables-differ v

module _ {rules : Rules} (proper : Proper rules) where
  -- Judging answers 0 exactly for an accepted file.
  pub judge-accepts : (bytes : List ℕ) → ((judged rules bytes (file_of rules bytes)).refusal ≡ 0) ↔ IsFile rules bytes
  judge-accepts bytes = answers.judge-accepts proper bytes

  -- A FILE IS REFUSED with number n, line l and column c, whole files (true) and files at the front (false) at once, exactly when l is the first line that
  -- earns a fault, and of the faults that it earns this has the lowest number and then the leftmost column; or its lines run out, which is 1. What a line
  -- earns, and which column each fault names, is `Earns` (scan_laws, Earned).
  pub refused-exactly : (whole : Bool) (bytes : List ℕ) (number line column : ℕ) → (number ≡ 11 → ⊥)
      → ((0 < number) × (judged rules bytes (found_in rules whole bytes) ≡ refused_with number line column)) ↔ FirstFault rules bytes number line column
  refused-exactly whole bytes number line column apart = answers.judged-exactly proper whole bytes number line column apart

  -- Its column, by its number: 2 names the first byte of that line that is outside 32 to 126,
  module _ (whole : Bool) (bytes : List ℕ) (number line column : ℕ) (refused : found_in rules whole bytes ≡ front.Refused number line column) where
    pub column-two : number ≡ 2 → Outside (refused_line bytes line) column × ((e : ℕ) → Outside (refused_line bytes line) e → column ≤ e)
    column-two n = told-columns.two-byte proper bytes number line column whole refused n

    -- 3 column 81, of a `/*` line the first after those that its version allows,
    pub column-three : number ≡ 3 → column ≡ cond (is_kind rules comment_kind (refused_line bytes line)) (min 80 rules.comment_columns) 80 + 1
    column-three n = told-columns.three-after proper bytes number line column whole refused n

    -- 5, 6 and 7 one of the 80 columns: an unused column that is not blank, the first column of a field (4 for year, month and day, also where they are no
    -- date),
    pub column-field : 5 ≤ number → number ≤ 7 → (1 ≤ column) × (column ≤ 80) × InColumns rules bytes (line - 1) number column
    column-field p q = told-columns.field-80 proper bytes number line column whole refused p q

    -- and every other number, 11 too, none.
    pub column-none : (number ≡ 1) ⊎ ((number ≡ 4) ⊎ (8 ≤ number)) → column ≡ 0
    column-none other = told-columns.others-none proper bytes number line column whole refused other

-- In SP3-d 3 names column 81 of every line.
pub column-81 : (whole : Bool) (bytes : List ℕ) (number line column : ℕ) → found_in d whole bytes ≡ front.Refused number line column → number ≡ 3 → column ≡ 81
column-81 whole bytes number line column refused n = told-columns.three-81 bytes number line column whole refused n

-- WHICH COLUMN EACH FIELD BLAMES, over every layout: of unused columns the one that is not blank, else what 02 says of the field's number (`field_column`).
module _ (k : LineKind) (rules : Rules) (s : State) (line : List ℕ) (item : Item) (listed : Among item (items_at k rules s line)) where
  pub unused-blames : is_unused item.kind ≡ true → 0 < fault_at item line
      → (column : ℕ) × (item.first ≤ column) × (column ≤ item.last) × (eqb (byte_at column line) 32 ≡ false) × (fault_at item line ≡ keyed 5 column)
  unused-blames u some = told-columns.unused-blames k rules s line item listed u some

  pub field-blames : is_unused item.kind ≡ false → 0 < field_number item line
      → fault_at item line ≡ keyed (field_number item line) (field_column k item (field_number item line))
  field-blames u some = told-columns.field-blames k rules s line item listed u some

-- AFTER THE POINT of x, y and z stand six digits: a blank or mixed fraction is 6 at the first column of its field.
pub place-fraction : (line : List ℕ) → length line ≡ 80
    → (all_digits (cut 13 18 line) ≡ false → fault_at (columns 5 18 (signed 6)) line ≡ keyed 6 5)
    × (all_digits (cut 27 32 line) ≡ false → fault_at (columns 19 32 (signed 6)) line ≡ keyed 6 19)
    × (all_digits (cut 41 46 line) ≡ false → fault_at (columns 33 46 (signed 6)) line ≡ keyed 6 33)
place-fraction line wide = clocks.place-fraction line wide

-- A clock passes with six nines, the point, and digits or blanks after it; any other fraction that is not all digits is 6 at column 47.
pub nines-pass : (line : List ℕ) → length line ≡ 80 → is_six_nines (whole_of (cut 47 53 line)) ≡ true → get_or line 53 0 ≡ 46
    → (all_digits (cut 55 60 line) || every is_blank (cut 55 60 line)) ≡ true → fault_at (columns 47 60 (clock_kind 6)) line ≡ clean
nines-pass line wide nines point rest = clocks.nines-pass line wide nines point rest

pub clock-fraction : (line : List ℕ) → length line ≡ 80 → all_digits (cut 55 60 line) ≡ false
    → (is_six_nines (whole_of (cut 47 53 line)) && every is_blank (cut 55 60 line)) ≡ false → fault_at (columns 47 60 (clock_kind 6)) line ≡ keyed 6 47
clock-fraction line wide inked other = clocks.clock-fraction line wide inked other

module _ {rules : Rules} (proper : Proper rules) where
  -- 11 comes exactly when an accepted file is followed by more, with the line after its last.
  pub eleven-exactly : (bytes : List ℕ) (line : ℕ) → (judged rules bytes (file_of rules bytes) ≡ refused_with 11 line 0)
      ↔ ((a : List ℕ) × (b : List ℕ) × (bytes ≡ a ++ b) × IsFile rules a × (0 < length b) × (line ≡ length (lines_of a) + 1))
  eleven-exactly bytes line = answers.eleven-exactly proper bytes line

  -- A file that is refused is answered by its own number, line and column, whatever the room; whole files (true) and files at the front (false) at once.
  pub refused-whatever-room : (whole : Bool) (bytes : List ℕ) (number line column : ℕ) → found_in rules whole bytes ≡ front.Refused number line column
      → (i x c r : ℕ) → answer rules whole bytes i x c r ≡ refused_with number line column
  refused-whatever-room whole bytes number line column e i x c r = answers.refused-whatever-room proper whole bytes number line column e i x c r

  -- An accepted file with room is answered by 0, its length and its header;
  pub enough-room : (whole : Bool) (bytes : List ℕ) (t : Tally) → found_in rules whole bytes ≡ front.File t → (i x c r : ℕ)
      → Room (header_to rules bytes t) i x c r → answer rules whole bytes i x c r ≡ accepted_as rules bytes t
  enough-room whole bytes t found i x c r enough = room.room-accepted proper whole bytes t found i x c r enough

  -- 12 comes exactly when there is a file and room for it is missing anywhere, and 13 never.
  pub reading-twelve : (whole : Bool) (bytes : List ℕ) (i x c r : ℕ)
      → ((answer rules whole bytes i x c r).refusal ≡ 12) ↔ ((t : Tally) × (found_in rules whole bytes ≡ front.File t) × Short (header_to rules bytes t) i x c r)
  reading-twelve whole bytes i x c r = answers.reading-twelve proper whole bytes i x c r

  pub twelve-line : (whole : Bool) (bytes : List ℕ) (t : Tally) → found_in rules whole bytes ≡ front.File t → (i x c r : ℕ)
      → Short (header_to rules bytes t) i x c r → answer rules whole bytes i x c r ≡ refused_with 12 0 0
  twelve-line whole bytes t found i x c r short = room.short-refused proper whole bytes t found i x c r short

  pub reading-never-13 : (whole : Bool) (bytes : List ℕ) (i x c r : ℕ) → (answer rules whole bytes i x c r).refusal ≡ 13 → ⊥
  reading-never-13 whole bytes i x c r = answers.reading-never-13 proper whole bytes i x c r

  -- THE TABLE. After a reading that answers 0 the header and the four lent lists are the table of the file: every part that the paper names.
  module _ (bytes : List ℕ) (accepted : IsFile rules bytes) (identifiers exponents comments : List ℕ) (rows : List ℤ)
      (read : (read_answer rules bytes (file_of rules bytes) identifiers exponents comments rows).refusal ≡ 0) where
    pub read_table : Holds rules (lines_of bytes) (lent_table rules true bytes identifiers exponents comments rows)
    read_table = rewritten.lent-held proper bytes accepted identifiers exponents comments rows read

    -- The answer is the header of the file's lines and its length,
    pub read-header : (read_answer rules bytes (file_of rules bytes) identifiers exponents comments rows).header ≡ header_in rules (lines_of bytes)
    read-header = filling.header-told proper bytes accepted identifiers exponents comments rows read

    pub read_length : (read_answer rules bytes (file_of rules bytes) identifiers exponents comments rows).length ≡ length bytes
    read_length = filling.length-told proper bytes accepted identifiers exponents comments rows read

    -- and each list has the file's own from its first place on, and past them what it had.
    pub read-identifiers : identifiers_after rules bytes (file_of rules bytes) identifiers exponents comments rows ≡ over (identifiers_of rules (lines_of bytes)) identifiers
    read-identifiers = filling.identifiers-filled proper bytes accepted identifiers exponents comments rows read

    pub read-exponents : exponents_after rules bytes (file_of rules bytes) identifiers exponents comments rows ≡ over (read_as.exponents_of rules (lines_of bytes)) exponents
    read-exponents = filling.exponents-filled proper bytes accepted identifiers exponents comments rows read

    pub read-comments : comments_after rules bytes (file_of rules bytes) identifiers exponents comments rows ≡ over (comments_in rules (lines_of bytes)) comments
    read-comments = filling.comments-filled proper bytes accepted identifiers exponents comments rows read

    pub read-rows : rows_after rules bytes (file_of rules bytes) identifiers exponents comments rows ≡ over (rows_in rules (lines_of bytes)) rows
    read-rows = filling.rows-filled proper bytes accepted identifiers exponents comments rows read

  -- A file at the front is read as the file alone, whatever follows it: the same answer, the same header and lists.
  pub front-as-alone : (a b : List ℕ) → IsFile rules a → (identifiers exponents comments : List ℕ) (rows : List ℤ)
      → (read_answer rules (a ++ b) (front_of rules (a ++ b)) identifiers exponents comments rows ≡ read_answer rules a (file_of rules a) identifiers exponents comments rows)
      × (lent_table rules false (a ++ b) identifiers exponents comments rows ≡ lent_table rules true a identifiers exponents comments rows)
  front-as-alone a b accepted identifiers exponents comments rows = (
    rewritten.front-as-alone proper a b accepted identifiers exponents comments rows,
    rewritten.front-table proper a b accepted identifiers exponents comments rows,
  )

  -- ITS ROWS, by epoch k and satellite j, P rows (false) and in mode V the V rows (true): what a row holds is what the columns of its line say, each field by
  -- its rule; and asked by name the lent rows give place, clock, exponents and flags of that line.
  module _ (bytes : List ℕ) (accepted : IsFile rules bytes) (identifiers exponents comments : List ℕ) (old : List ℤ)
      (read : (read_answer rules bytes (file_of rules bytes) identifiers exponents comments old).refusal ≡ 0) (k j : ℕ) (there : There rules bytes k j) (v : Bool)
      (mode : v ≡ true → (header rules bytes).velocity ≡ true) where
    abbrev rows : List ℤ
    rows = rows_after rules bytes (file_of rules bytes) identifiers exponents comments old

    abbrev row : Row
    row = held rules v bytes k j

    abbrev r : ℕ
    r = table_row rules v bytes k j

    pub row-columns : row ≡ row_from v (values_of (row_items v) (padded (line_asked rules v bytes k j)))
    row-columns = lent.row-columns proper bytes accepted identifiers exponents comments old read k j there v mode

    -- the place is absent where the three fields are zero, whatever the clock,
    pub row-place : place_in rows r
        ≡ cond (place_absent row.x.magnitude row.y.magnitude row.z.magnitude) place.Absent
        (place.At (exact_signed row.x) (exact_signed row.y) (exact_signed row.z))
    row-place = lent.lent-place proper bytes accepted identifiers exponents comments old read k j there v mode

    -- the clock (in a V row the rate) where columns 47 to 53 of the line hold 999999 without a minus, whatever the place, and the door for C marks it so;
    pub row-clock : clock_in rows r ≡ cond (six_nines_in (line_asked rules v bytes k j)) clock.Absent (clock.At (exact_signed row.clock))
    row-clock = lent.lent-clock proper bytes accepted identifiers exponents comments old read k j there v mode

    pub door-clock : (clock_door (clock_in rows r)).absent ≡ six_nines_in (line_asked rules v bytes k j)
    door-clock = clock-mark (clock_in rows r) (six_nines_in (line_asked rules v bytes k j)) (exact_signed row.clock) row-clock

    -- such a clock is stored as twelve nines,
    pub row-nines : six_nines_in (line_asked rules v bytes k j) ≡ true → number_at rows r 3 ≡ pos 999_999_999_999
    row-nines nines = lent.lent-nines proper bytes accepted identifiers exponents comments old read k j there v mode nines

    -- the exponents of x, y, z and clock are a value, unknown, or too large,
    pub row-exponents : (exponent_read_in rows r 0 ≡ exponent_read_of 0 row.x_exponent) × (exponent_read_in rows r 1 ≡ exponent_read_of 1 row.y_exponent)
        × (exponent_read_in rows r 2 ≡ exponent_read_of 2 row.z_exponent) × (exponent_read_in rows r 3 ≡ exponent_read_of 3 row.clock_exponent)
    row-exponents = lent.lent-exponents proper bytes accepted identifiers exponents comments old read k j there v mode

    -- and the flags are those of columns 75, 76, 79 and 80.
    pub row-flags : (flag_in rows r 0 ≡ cond row.event flag.Set flag.NotSet) × (flag_in rows r 1 ≡ cond row.predicted flag.Set flag.NotSet)
        × (flag_in rows r 2 ≡ cond row.maneuver flag.Set flag.NotSet) × (flag_in rows r 3 ≡ cond row.orbit_predicted flag.Set flag.NotSet)
    row-flags = lent.lent-flags proper bytes accepted identifiers exponents comments old read k j there v mode

    -- ITS NOTE: the row says that a record stood there exactly where the line directly after its own is EP (after a V line EV);
    pub row-note : (note_in rows r ≡ note_mark.Stands) ↔ ((line : List ℕ) × HasNote rules v bytes k j line)
    row-note = lent-notes.the-note proper bytes accepted identifiers exponents comments old read k j there v mode

    -- where none stands, it says so whatever is asked of it;
    pub row-no-note : ((line : List ℕ) → HasNote rules v bytes k j line → ⊥)
        → (note_in rows r ≡ note_mark.NoRecord)
        × ((which : ℕ) → which ≤ 3 → note_deviation_in rows r which ≡ note_deviation.NoRecord)
        × ((which : ℕ) → which ≤ 5 → note_correlation_in rows r which ≡ note_correlation.NoRecord)
    row-no-note none = lent-notes.none-recorded proper bytes accepted identifiers exponents comments old read k j there v mode none

    module _ (line : List ℕ) (has : HasNote rules v bytes k j line) where
      -- where one stands, the last eleven numbers of the row are 1 and what the columns of that line hold, each field by its rule, minus zero being zero.
      pub note-numbers : drop bare_width (take row_width (drop (row_width * r) rows)) ≡ exact_note (note_of line)
      note-numbers = lent-notes.lent-note proper bytes accepted identifiers exponents comments old read k j there v mode line has

      pub note-columns : note_of line ≡ note_from (values_of (correlation_items v) (padded line))
      note-columns = lent-notes.note-columns proper bytes accepted identifiers exponents comments old read k j there v mode line has

      -- The deviations of x, y, z and clock by 0 to 3: unknown exactly where the columns are blank, too large exactly at the largest, else the line's own,
      pub note-deviation : (which : ℕ) → which ≤ 3 → note_deviation_in rows r which ≡ note_deviation_of which (deviation_at (note_of line) which)
      note-deviation which few = lent-notes.lent-deviation proper bytes accepted identifiers exponents comments old read k j there v mode line has which few

      pub deviation-unknown : (which : ℕ) → which ≤ 3 → (note_deviation_in rows r which ≡ note_deviation.Unknown) ↔ (every is_blank (deviation_field which line) ≡ true)
      deviation-unknown which few = lent-notes.deviation-unknown proper bytes accepted identifiers exponents comments old read k j there v mode line has which few

      pub deviation-too-large : (which : ℕ) → which ≤ 3
          → (note_deviation_in rows r which ≡ note_deviation.TooLarge) ↔ (deviation_at (note_of line) which ≡ largest_deviation (eqb which 3))
      deviation-too-large which few = lent-notes.deviation-too-large proper bytes accepted identifiers exponents comments old read k j there v mode line has which few

      -- which is then less than 9999, of the clock than 9999999.
      pub deviation-value : (which : ℕ) → which ≤ 3 → (n : ℕ) → note_deviation_in rows r which ≡ note_deviation.Value n → n < largest_deviation (eqb which 3)
      deviation-value which few n e = lent-notes.deviation-value proper bytes accepted identifiers exponents comments old read k j there v mode line has which few n e

      -- The correlations xy, xz, xc, yz, yc and zc by 0 to 5: unknown exactly where the columns are blank, else the line's own in 10^-7,
      pub note-correlation : (which : ℕ) → which ≤ 5 → note_correlation_in rows r which
          ≡ cond (eqb (correlation_at (note_of line) which).magnitude unnoted) note_correlation.Unknown (note_correlation.Value (exact_signed (correlation_at (note_of line) which)))
      note-correlation which few = lent-notes.lent-correlation proper bytes accepted identifiers exponents comments old read k j there v mode line has which few

      pub correlation-unknown : (which : ℕ) → which ≤ 5
          → (note_correlation_in rows r which ≡ note_correlation.Unknown) ↔ (every is_blank (correlation_field which line) ≡ true)
      correlation-unknown which few = lent-notes.correlation-unknown proper bytes accepted identifiers exponents comments old read k j there v mode line has which few

      -- which is then from -9999999 to 9999999.
      pub correlation-value : (which : ℕ) → which ≤ 5 → (z : ℤ) → note_correlation_in rows r which ≡ note_correlation.Value z → nat_abs z ≤ largest_correlation
      correlation-value which few z e = lent-notes.correlation-value proper bytes accepted identifiers exponents comments old read k j there v mode line has which few z e

-- Asked by name a row is 13 exactly where the lent numbers do not have it, an exponent or a flag also where it is none of the four,
pub stored-thirteen : (rows : List ℤ) (k : ℕ)
    → ((place_in rows k ≡ place.NotThere) ↔ (is_there rows k ≡ false)) × ((clock_in rows k ≡ clock.NotThere) ↔ (is_there rows k ≡ false))
stored-thirteen rows k = answers.stored-thirteen rows k

pub stored-parts-thirteen : (rows : List ℤ) (k which : ℕ)
    → ((exponent_read_in rows k which ≡ exponent_read.NotThere) ↔ ((is_there rows k && leb which 3) ≡ false))
    × ((flag_in rows k which ≡ flag.NotThere) ↔ ((is_there rows k && leb which 3) ≡ false))
stored-parts-thirteen rows k which = answers.stored-parts-thirteen rows k which

-- a deviation of its note also where it is none of the four, a correlation where it is none of the six.
pub notes-thirteen : (rows : List ℤ) (k which : ℕ)
    → ((note_in rows k ≡ note_mark.NotThere) ↔ (is_there rows k ≡ false))
    × ((note_deviation_in rows k which ≡ note_deviation.NotThere) ↔ ((is_there rows k && leb which 3) ≡ false))
    × ((note_correlation_in rows k which ≡ note_correlation.NotThere) ↔ ((is_there rows k && leb which 5) ≡ false))
notes-thirteen rows k which = answers.notes-thirteen rows k which

module _ {rules : Rules} (proper : Proper rules) where
  module _ (bytes : List ℕ) (accepted : IsFile rules bytes) where
    -- EVERY SATELLITE OF THE HEADER STAYS IN EVERY EPOCH, IN HEADER ORDER: the P rows number satellites times epochs,
    pub rows-number : length (row_lines_of rules false bytes) ≡ (header rules bytes).satellites * (header rules bytes).epochs
    rows-number = reading.rows-number proper bytes accepted

    -- and row k * n + j is the P line of epoch k that names identifier j.
    pub the_row : (k j : ℕ) → There rules bytes k j → RowOf rules false bytes k j
    the_row k j there = reading.the_row proper bytes accepted k j there

    -- In mode V the V rows likewise.
    pub the-motion : (k j : ℕ) → There rules bytes k j → (header rules bytes).velocity ≡ true → RowOf rules true bytes k j
    the-motion k j there both = reading.the-motion proper bytes accepted k j there both

    -- A file has at least 55 bytes for each row (a line may end with the point of its clock, in column 54), 32 for each epoch and 3 for each comment.
    pub file-bytes : shortest_row * length (row_lines rules (lines_of bytes)) + 32 * (header rules bytes).epochs + 3 * (header rules bytes).comments ≤ length bytes
    file-bytes = reading.file-bytes proper bytes accepted

    -- The row question answers for each of them,
    pub row-answered : (k j : ℕ) → There rules bytes k j → (asked rules bytes k j).refusal ≡ 0
    row-answered k j there = floats.asked-answered proper bytes accepted k j there

    -- ABSENT IS A CASE: the row question marks a place absent exactly when its three fields are zero, whatever the clock,
    pub absent-exactly : (k j : ℕ) (there : There rules bytes k j) → ((asked rules bytes k j).row.place_absent ≡ true)
        ↔ ((exact_signed (held rules false bytes k j).x ≡ pos 0)
        × (exact_signed (held rules false bytes k j).y ≡ pos 0)
        × (exact_signed (held rules false bytes k j).z ≡ pos 0))
    absent-exactly k j there = floats.asked-no-place proper bytes accepted k j there

    -- a clock exactly when columns 47 to 53 of its line hold 999999 without a minus, whatever the place,
    pub six-nines-exactly : (k j : ℕ) (there : There rules bytes k j) → (asked rules bytes k j).row.clock_absent ≡ six_nines_in (line_asked rules false bytes k j)
    six-nines-exactly k j there = floats.asked-six-nines proper bytes accepted k j there

    -- which is when the number held is +999,999,999,999;
    pub no-clock-exactly : (k j : ℕ) (there : There rules bytes k j)
        → ((asked rules bytes k j).row.clock_absent ≡ true) ↔ (exact_signed (held rules false bytes k j).clock ≡ pos 999_999_999_999)
    no-clock-exactly k j there = floats.asked-no-clock proper bytes accepted k j there

    -- a place that is there comes as three floats that are exactly the whole numbers of its line.
    pub place-exact : (k j : ℕ) (there : There rules bytes k j) → (asked rules bytes k j).row.place_absent ≡ false
        → Exactly (asked rules bytes k j).row.x (exact_signed (held rules false bytes k j).x)
        × Exactly (asked rules bytes k j).row.y (exact_signed (held rules false bytes k j).y)
        × Exactly (asked rules bytes k j).row.z (exact_signed (held rules false bytes k j).z)
    place-exact k j there = floats.asked-place proper bytes accepted k j there

    -- and a clock that is there as exactly the picoseconds of its line.
    pub clock-exact : (k j : ℕ) (there : There rules bytes k j) → (asked rules bytes k j).row.clock_absent ≡ false
        → Exactly (asked rules bytes k j).row.clock (exact_signed (held rules false bytes k j).clock)
    clock-exact k j there = floats.asked-clock proper bytes accepted k j there

    -- The lines of the rows that the row question marks absent and the lines of the others are all of them.
    pub absent-line : (k j : ℕ) → There rules bytes k j → (asked rules bytes k j).row.place_absent ≡ absent_in rules (line_asked rules false bytes k j)
    absent-line k j there = floats.absent-line proper bytes accepted k j there

    pub with-and-without : length (select (absent_in rules) (row_lines_of rules false bytes)) + length (select (λ (l : List ℕ). not (absent_in rules l)) (row_lines_of rules false bytes))
        ≡ (header rules bytes).satellites * (header rules bytes).epochs
    with-and-without = reading.with-and-without proper bytes accepted

  -- QUESTIONS ABOUT A FILE give the file's own refusal first: the row,
  pub row-refused : (bytes : List ℕ) (number line column : ℕ) → file_of rules bytes ≡ front.Refused number line column
      → (k j : ℕ) → asked rules bytes k j ≡ row_refused number line column
  row-refused bytes number line column e k j = floats.row-refused proper bytes number line column e k j

  -- and where it begins,
  pub row-begins-refused : (bytes : List ℕ) (number line column : ℕ) → file_of rules bytes ≡ front.Refused number line column
      → (k j : ℕ) → row_begins rules bytes (file_of rules bytes) k j ≡ no_row number line column
  row-begins-refused bytes number line column e k j = floats.row-begins-refused proper bytes number line column e k j

  -- the comment, whose text is then empty,
  pub comment-refused : (bytes : List ℕ) (number line column : ℕ) → file_of rules bytes ≡ front.Refused number line column
      → (k : ℕ) → (comment_answer rules bytes (file_of rules bytes) k ≡ no_comment number line column) × (comment_words rules bytes (file_of rules bytes) k ≡ [])
  comment-refused bytes number line column e k = answers.comment-refused proper bytes number line column e k

  -- the satellite.
  pub satellite-refused : (bytes : List ℕ) (number line column : ℕ) → file_of rules bytes ≡ front.Refused number line column
      → (wanted : ℕ) → satellite_answer rules bytes (file_of rules bytes) wanted ≡ no_satellite number line column
  satellite-refused bytes number line column e wanted = answers.satellite-refused proper bytes number line column e wanted

  -- What is asked by number and is not there is 13: a row exactly where an accepted file has no such epoch or satellite, a comment exactly where it has no
  -- comment of that number. 12 is never the answer of a question.
  pub row-thirteen : (bytes : List ℕ) (k j : ℕ) → ((asked rules bytes k j).refusal ≡ 13) ↔ (IsFile rules bytes × (There rules bytes k j → ⊥))
  row-thirteen bytes k j = answers.row-thirteen proper bytes k j

  pub comment-thirteen : (bytes : List ℕ) (k : ℕ) → ((comment_answer rules bytes (file_of rules bytes) k).refusal ≡ 13) ↔ (IsFile rules bytes × ((header rules bytes).comments ≤ k))
  comment-thirteen bytes k = answers.comment-thirteen proper bytes k

  pub questions-never-12 : (bytes : List ℕ) (k j : ℕ)
      → ((asked rules bytes k j).refusal ≡ 12 → ⊥) × ((comment_answer rules bytes (file_of rules bytes) k).refusal ≡ 12 → ⊥)
      × ((satellite_answer rules bytes (file_of rules bytes) k).refusal ≡ 12 → ⊥)
  questions-never-12 bytes k j = answers.questions-never-12 proper bytes k j

  module _ (bytes : List ℕ) (accepted : IsFile rules bytes) where
    -- A comment of an accepted file is columns 4 on of its line without trailing blanks; one that is not there is 13 and empty.
    pub comment-text : (k : ℕ) → k < (header rules bytes).comments → comment_words rules bytes (file_of rules bytes) k ≡ text_in (comment_line rules (lines_of bytes) k)
    comment-text k h = answers.comment-text proper bytes accepted k h

    pub comment-not-there : (k : ℕ) → (header rules bytes).comments ≤ k
        → (comment_answer rules bytes (file_of rules bytes) k ≡ no_comment 13 0 0) × (comment_words rules bytes (file_of rules bytes) k ≡ [])
    comment-not-there k h = answers.comment-not-there proper bytes accepted k h

    -- A satellite that is found is in the header and has that identifier; 13 comes exactly where none has it.
    pub satellite-found : (wanted : ℕ) → (satellite_answer rules bytes (file_of rules bytes) wanted).refusal ≡ 0
        → ((satellite_answer rules bytes (file_of rules bytes) wanted).number < length (identifiers_of rules (lines_of bytes)))
        × (identifier rules bytes (satellite_answer rules bytes (file_of rules bytes) wanted).number ≡ wanted)
    satellite-found wanted zero = answers.satellite-found proper bytes accepted wanted zero

    pub satellite-thirteen : (wanted : ℕ) → (satellite_answer rules bytes (file_of rules bytes) wanted ≡ no_satellite 13 0 0)
        ↔ ((j : ℕ) → j < length (identifiers_of rules (lines_of bytes)) → identifier rules bytes j ≡ wanted → ⊥)
    satellite-thirteen wanted = answers.satellite-thirteen proper bytes accepted wanted

-- A comment's text is handed back as that stretch of the lent file: for every file and every number it is the part that `comment_answer` names, those
-- bytes at that address. So any two outcomes are one machine value, a pointer and a count.
pub comment-part : (κs : _) (a : _) (r : _) (s : _) → CommentPost κs a r s
    → let file = a.0.now in let answer = comment_answer (rules_in file) file (file_of (rules_in file) file) a.1.0 in PartAt a.0 answer.at answer.length r
comment-part κs a r s promised = asking.comment-part κs a r s promised

-- Of an accepted file these bytes are columns 4 on of that comment's line, without trailing blanks.
pub comment-says : (κs : _) (a : _) (r : _) (s : _) → CommentPost κs a r s → let file = a.0.now in AnyFile file → a.1.0 < (header (rules_in file) file).comments
    → r.now ≡ text_in (comment_line (rules_in file) (lines_of file) a.1.0)
comment-says κs a r s promised accepted there = promised.0 ∙ answers.comment-text (told-proper a.0.now) a.0.now accepted a.1.0 there

pub comment-one : (κs : _) (a : _) (r r' : _) (s s' : _) → CommentPost κs a r s → CommentPost κs a r' s' → shr_slice_vals r ≡ shr_slice_vals r'
comment-one κs a r r' s s' p q = places.same-value r r' (comment-determined κs a r r' s s' p q)

module _ {rules : Rules} (proper : Proper rules) where
  -- EP AND EV ARE PART OF THE TABLE. One that is replaced by another without fault leaves a file accepted;
  pub still-accepted : (a : List ℕ) (lines : List (List ℕ)) → IsFile rules a → SameBut rules (lines_of a) lines → IsFile rules (join_lines lines)
  still-accepted a lines accepted same = correlations.still-accepted proper a lines accepted same

  module _ (a : List ℕ) (accepted : IsFile rules a) (before rest : List (List ℕ)) (row note : List ℕ)
      (lines : lines_of a ≡ before ++ (row ∷ note ∷ rest)) (is : is_note rules note ≡ true) (b : List ℕ) (also : IsFile rules b) where
    -- two accepted files that differ only in what a field of one such line says have different rows,
    pub notes-differ : (other : List ℕ) → is_note rules other ≡ true → lines_of b ≡ before ++ (row ∷ other ∷ rest)
        → (exact_note (note_of note) ≡ exact_note (note_of other) → ⊥) → rows_in rules (lines_of a) ≡ rows_in rules (lines_of b) → ⊥
    notes-differ other is-other lines-b apart same = correlations.notes-differ proper a accepted before rest row note lines is b also other is-other lines-b apart same

    -- and so do one that has such a line, be it `EP` alone, and one without.
    pub note-or-none : lines_of b ≡ before ++ (row ∷ rest) → rows_in rules (lines_of a) ≡ rows_in rules (lines_of b) → ⊥
    note-or-none lines-b same = correlations.note-or-none proper a accepted before rest row note lines is b also lines-b same

  -- LINE BY LINE: after k lines of an accepted file the spot is the length of those lines, the state is the machine's after them, and there the line
  -- reader reads the next, for every k.
  pub stepping : (bytes : List ℕ) (t : Tally) → front_of rules bytes ≡ front.File t → (k : ℕ) → k < t.lines → Stands rules bytes k (after rules bytes k)
  stepping bytes t accepted k h = judging.stepping-file proper bytes t accepted k h

  -- THE LINE READER'S ROOM: lent a list for the identifiers, it answers 12 exactly at a `+ ` line without fault that brings more of them than fit behind those
  -- known; the list is then as it was, and at any other line its room makes no difference. The judge's own list is never short.
  pub line-twelve : (bytes : List ℕ) (at : ℕ) (s : State) (identifiers : List ℕ) → (line_read rules bytes at s identifiers ≡ found.Fault 12 0) ↔ Overfull rules bytes at s identifiers
  line-twelve bytes at s identifiers = lent-list.twelve-exactly rules bytes at s identifiers

  pub line-twelve-keeps : (bytes : List ℕ) (at : ℕ) (s : State) (identifiers : List ℕ) → Overfull rules bytes at s identifiers → line_identifiers rules bytes at s identifiers ≡ identifiers
  line-twelve-keeps bytes at s identifiers o = lent-list.twelve-keeps rules bytes at s identifiers o

  pub line-room : (bytes : List ℕ) (at : ℕ) (s : State) (identifiers : List ℕ) → (Overfull rules bytes at s identifiers → ⊥) → line_read rules bytes at s identifiers ≡ line_known rules bytes at s identifiers
  line-room bytes at s identifiers none = lent-list.room-enough rules bytes at s identifiers none

  pub judge-room : (bytes : List ℕ) (k : ℕ) → AllGoOn rules bytes k → k ≤ length (lines_of bytes)
      → let g = after rules bytes k in Overfull rules bytes g.at g.state g.identifiers → ⊥
  judge-room bytes k goes h o = lent-list.judge-room proper bytes k goes h o

  -- THE WALKER: after k steps from any spot, with any list lent, the spot, the state and the identifiers are those of the first k lines from there, for
  -- every k and any bytes; a line that is refused or ends the file is not passed.
  pub walker-lines : (bytes : List ℕ) (k : ℕ) (g : Going) → walked_from rules bytes g k ≡ over_lines rules g (take k (lines_of (drop g.at bytes)))
  walker-lines bytes k g = walks.walks rules bytes k g

  -- From the first line, with as many places as the judge has, they are those of the judge's run as long as its lines go on; of a file, after each of its
  -- lines.
  pub walker-steps : (bytes : List ℕ) (k : ℕ) → AllGoOn rules bytes k → k ≤ length (lines_of bytes) → walked_from rules bytes at_first k ≡ after rules bytes k
  walker-steps bytes k goes h = walks.walker-steps proper bytes k goes h

  pub walker-file : (bytes : List ℕ) (t : Tally) → front_of rules bytes ≡ front.File t → (k : ℕ) → k < t.lines → walked_from rules bytes at_first k ≡ after rules bytes k
  walker-file bytes t accepted k h = walks.file-steps proper bytes t accepted k h

  -- With a list that is too short it stays at the `+ ` line that brings more identifiers than fit.
  pub walker-short : (bytes : List ℕ) (g : Going) → Overfull rules bytes g.at g.state g.identifiers → (k : ℕ) → walked_from rules bytes g k ≡ g
  walker-short bytes g o k = walks.short-stays rules bytes g o k

-- By the promises of `new` and `moved`: k moves after a new walker at the first line it is where the judge's run is,
pub walker-walks : (file : Bor (List ℕ)) (from : Walker) → Begins file first_spot from → (k : ℕ) (w : Walker) (identifiers : List ℕ) → After from no_identifiers k w identifiers
    → let rules = rules_in file.now in AllGoOn rules file.now k → k ≤ length (lines_of file.now) → going_at w.spot identifiers ≡ after rules file.now k
walker-walks file from begins k w identifiers steps goes h = walks.walker-walks file from begins k w identifiers steps goes h

-- and the clauses of their contracts say just that of every outcome: that a walker begins so, and that it moves so.
module _ {M : Type 1} {𝓤 : Ura M} (𝓛 : Logic 𝓤) (mem : Memory → SProp 𝓤) (run : Routine → Fun 𝓤) where
  pub walker-begins : (κs : Lfts 1) (a : Args new.signature κs) (w : Res new.signature κs) (s : AtExit new.ended κs)
      → ent 𝓤 ((new.clauses 𝓛 mem run κs a).ensures tt w s) (fact 𝓤 (Begins a.0 a.1.0 w))
  walker-begins κs a w s = promised.new-begins 𝓛 mem run κs a w s

  pub walker-moves : (κs : Lfts 2) (a : Args moved.signature κs) (v : Res moved.signature κs) (s : AtExit moved.ended κs)
      → ent 𝓤 ((moved.clauses 𝓛 mem run κs a).ensures tt v s) (fact 𝓤 (Moves a.0 a.1.0.now v s.1.0.now))
  walker-moves κs a v s = promised.moved-moves 𝓛 mem run κs a v s

module _ {rules : Rules} (proper : Proper rules) where
  -- THE ADJUSTMENT'S LOOP: step k * n + j of a walk over the rows gives epoch k, satellite j and the row that the row question gives, as absent exactly
  -- when it is marked so,
  module _ (bytes : List ℕ) (t : Tally) (accepted : file_of rules bytes ≡ front.File t) (identifiers : List ℕ) (identified : Identified rules bytes identifiers) where
    pub walk-absent : (k j : ℕ) → There rules bytes k j → (asked rules bytes k j).row.place_absent ≡ true
        → (next : RowWalk) × (walk_step rules bytes identifiers (row_at rules bytes k j) ≡ step.Absent k j (asked rules bytes k j).row next)
    walk-absent k j there absent = walked.walk-absent proper bytes t accepted identifiers identified k j there absent

    pub walk_at : (k j : ℕ) → There rules bytes k j → (asked rules bytes k j).row.place_absent ≡ false
        → (next : RowWalk) × (walk_step rules bytes identifiers (row_at rules bytes k j) ≡ step.At k j (asked rules bytes k j).row next)
    walk_at k j there present = walked.walk_at proper bytes t accepted identifiers identified k j there present

    -- its clock marked absent exactly when columns 47 to 53 of its line hold 999999 without a minus, by the door for C too,
    pub walk-clock : (k j : ℕ) → There rules bytes k j → (row_of_step (walk_step rules bytes identifiers (row_at rules bytes k j))).clock_absent ≡ six_nines_in (line_asked rules false bytes k j)
    walk-clock k j there = walked.walk-clock proper bytes t accepted identifiers identified k j there

    pub door-walk-clock : (from : RowWalk) (k j : ℕ) → There rules bytes k j
        → (row_door from (walk_step rules bytes identifiers (row_at rules bytes k j))).row.clock_absent ≡ six_nines_in (line_asked rules false bytes k j)
    door-walk-clock from k j there = row-clock-mark from (walk_step rules bytes identifiers (row_at rules bytes k j)) (six_nines_in (line_asked rules false bytes k j)) (walk-clock k j there)

    -- and after all of them the end.
    pub walk_ends : walk_step rules bytes identifiers ((header rules bytes).satellites * (header rules bytes).epochs) ≡ step.End
    walk_ends = walked.walk_ends proper bytes t accepted identifiers identified

  -- Of any bytes: a line on the way to the next P line that is refused is the refusal of that step, with its number, its line and its column; where no line is
  -- left it is 1.
  module _ (bytes identifiers : List ℕ) (w : RowWalk) where
    pub walk_refused : (number column : ℕ) → line_known rules bytes (spot_ahead rules bytes identifiers w).at (spot_ahead rules bytes identifiers w).state identifiers ≡ found.Fault number column
        → row_step rules bytes identifiers w ≡ step.Refused number (line_number bytes (spot_ahead rules bytes identifiers w).at) column
    walk_refused number column e = walked.step-refused proper bytes identifiers w number column e

    pub walk-ran-out : line_known rules bytes (spot_ahead rules bytes identifiers w).at (spot_ahead rules bytes identifiers w).state identifiers ≡ found.NoLine
        → row_step rules bytes identifiers w ≡ step.Refused 1 (line_number bytes (spot_ahead rules bytes identifiers w).at) 0
    walk-ran-out e = walked.step-ran-out proper bytes identifiers w e

-- DEMAND 2, WRITING. Each valid table has one canonical form; writing makes it, reading it returns the table, writing what was read from canonical
-- bytes returns those bytes.

module _ {rules : Rules} (proper : Proper rules) where
  -- Tables that a file has have one canonical form, whatever stands past their counts.
  pub one_form : (lines : List (List ℕ)) (t u : Table) → Holds rules lines t → Holds rules lines u → canonical rules t ≡ canonical rules u
  one_form lines t u p q = rewriting.one_form rules lines t u p q

  -- A table is valid exactly when some accepted file has it.
  pub valid-exactly : (t : Table) → (valid rules t ≡ true) ↔ ((bytes : List ℕ) × IsFile rules bytes × Holds rules (lines_of bytes) t)
  valid-exactly t = rewritten.valid-exactly proper t

  -- Writing in a version answers 0 exactly when the table is valid there and its form has room, and then the form stands in the output.
  pub writes-exactly : (t : Table) (out : List ℕ) → ((measured_in rules t (length out)).refusal ≡ 0) ↔ ((valid rules t ≡ true) × (length (canonical rules t) ≤ length out))
  writes-exactly t out = writing.writes-exactly proper t out

  -- 13 exactly when the table is not valid in SP3-d, whatever the room; 17 exactly when it is and is not valid in the version, whatever the room; 12 exactly
  -- when it is valid in the version and its form is longer than the output.
  pub writing-thirteen : (t : Table) (out : List ℕ) → ((measured_in rules t (length out)).refusal ≡ 13) ↔ (valid d t ≡ false)
  writing-thirteen t out = writing.thirteen-exactly proper t out

  pub writing-seventeen : (t : Table) (out : List ℕ) → ((measured_in rules t (length out)).refusal ≡ 17) ↔ ((valid d t ≡ true) × (valid rules t ≡ false))
  writing-seventeen t out = writing.seventeen-exactly proper t out

  pub writing-twelve : (t : Table) (out : List ℕ) → ((measured_in rules t (length out)).refusal ≡ 12) ↔ ((valid rules t ≡ true) × (length out < length (canonical rules t)))
  writing-twelve t out = writing.twelve-exactly proper t out

  pub written-form : (t : Table) (out : List ℕ) → (measured_in rules t (length out)).refusal ≡ 0
      → take (measured_in rules t (length out)).length (out_after rules t out) ≡ canonical rules t
  written-form t out success = writing.written-form proper t out success

  -- Past the form no byte changes.
  pub written-rest : (t : Table) (out : List ℕ) → (measured_in rules t (length out)).refusal ≡ 0
      → drop (measured_in rules t (length out)).length (out_after rules t out) ≡ drop (measured_in rules t (length out)).length out
  written-rest t out success = writing.rest-kept proper t out success

  -- What was written is one accepted file that has exactly the table;
  pub written-accepted : (t : Table) (out : List ℕ) (success : (measured_in rules t (length out)).refusal ≡ 0) → IsFile rules (written_bytes rules t out)
  written-accepted t out success = rewritten.written-accepted proper t out success

  pub written-holds : (t : Table) (out : List ℕ) (success : (measured_in rules t (length out)).refusal ≡ 0) → Holds rules (lines_of (written_bytes rules t out)) t
  written-holds t out success = rewritten.written-holds proper t out success

  -- with EP or EV written directly after a row exactly where the table says that one stood there,
  pub written-note : (t : Table) (out : List ℕ) (success : (measured_in rules t (length out)).refusal ≡ 0) → let bytes = written_bytes rules t out in
      (k j : ℕ) → There rules bytes k j → (v : Bool) → (v ≡ true → (header rules bytes).velocity ≡ true)
      → (note_in (rows_of t) (table_row rules v bytes k j) ≡ note_mark.Stands) ↔ ((line : List ℕ) × HasNote rules v bytes k j line)
  written-note t out success k j there v mode = written-notes.note-written proper t out success k j there v mode

-- also where nothing is known of it: it is then `EP` (`EV`) alone. A clock that is absent is written as twelve nines in columns 47 to 60.
pub written_bare : (v : Bool) (mark : ℤ) → note_line v (note_shown (mark ∷ replicate 10 (pos unnoted))) ≡ ended (correlation_symbol v)
written_bare v mark = written-notes.bare-note v mark

pub written-nines : (v : Bool) (p : Row) → p.clock ≡ record { negative = false; magnitude = 999_999_999_999 }
    → cut 47 60 (show_line (row_items v) (row_values v p)) ≡ twelve_nines
written-nines v p absent = clocks.nines-written v p absent

module _ {rules : Rules} (proper : Proper rules) where
  -- A table with a clock above 999,998,999,999 that is not twelve nines is 13, whatever the room.
  pub clock-thirteen : (t : Table) (out : List ℕ) (r n : ℕ) → is_there (rows_of t) r ≡ true → number_at (rows_of t) r 3 ≡ pos n
      → 999_998_999_999 < n → (n ≡ 999_999_999_999 → ⊥) → (measured_in rules t (length out)).refusal ≡ 13
  clock-thirteen t out r n there is more other = clocks.clock-thirteen proper t out r n there is more other

  module _ (bytes : List ℕ) (accepted : IsFile rules bytes) (identifiers exponents comments : List ℕ) (rows : List ℤ)
      (read : (read_answer rules bytes (file_of rules bytes) identifiers exponents comments rows).refusal ≡ 0) where
    -- what was read is written as the form of the file, answered by 0 and its length,
    pub read-written : (out : List ℕ) → length (form_of rules bytes) ≤ length out
        → (measured_in rules (lent_table rules true bytes identifiers exponents comments rows) (length out) ≡ record { refusal = 0; length = length (form_of rules bytes) })
        × (out_after rules (lent_table rules true bytes identifiers exponents comments rows) out ≡ over (form_of rules bytes) out)
    read-written out enough = (
      rewritten.lent-answer proper bytes accepted identifiers exponents comments rows read out enough,
      rewritten.lent_written proper bytes accepted identifiers exponents comments rows read out enough,
    )

    -- by 12 exactly where the output is shorter than the form,
    pub read-written-twelve : (out : List ℕ)
        → ((measured_in rules (lent_table rules true bytes identifiers exponents comments rows) (length out)).refusal ≡ 12) ↔ (length out < length (form_of rules bytes))
    read-written-twelve out = rewritten.lent-twelve proper bytes accepted identifiers exponents comments rows read out

    -- and canonical bytes, read and written, come back: 0, their length, and those bytes.
    pub canonical-again : (t : Table) → valid rules t ≡ true → bytes ≡ canonical rules t → (out : List ℕ) → length bytes ≤ length out
        → (measured_in rules (lent_table rules true bytes identifiers exponents comments rows) (length out) ≡ record { refusal = 0; length = length bytes })
        × (out_after rules (lent_table rules true bytes identifiers exponents comments rows) out ≡ over bytes out)
    canonical-again t ok is out enough = rewritten.canonical-again proper bytes accepted identifiers exponents comments rows read t ok is out enough

-- UP TO 999 SATELLITES (02, Ask 6). `before` are the rules of before, of at most 255 satellites, all else as in `d`. Every table has the form that it had,
pub forms-stay : (t : Table) → canonical d t ≡ canonical before t
forms-stay t = larger.forms-stay t

-- one of up to 255 satellites, valid or not, is answered as it was, whatever the room, and leaves the same output;
pub writing-stays : (t : Table) → t.header.satellites ≤ satellites_before → (out : List ℕ)
    → (measured_in d t (length out) ≡ measured before t (length out)) × (out_after d t out ≡ out_after before t out)
writing-stays t few out = (larger.answer-stays t few (length out), larger.output-stays t few out)

-- so one that was valid, with room, by 0 and the length of the form of before, which stands from the first byte of the output on.
pub written-as-before : (t : Table) → valid before t ≡ true → (out : List ℕ) → length (canonical before t) ≤ length out
    → (measured_in d t (length out) ≡ record { refusal = 0; length = length (canonical before t) }) × (out_after d t out ≡ over (canonical before t) out)
written-as-before t ok out enough = larger.writing-stays t ok out enough

-- A file that was canonical is accepted, is its own form,
pub files-stay : (t : Table) → valid before t ≡ true → IsFile d (canonical before t) × (form_of d (canonical before t) ≡ canonical before t)
files-stay t ok = (larger.canonical-accepted t ok, larger.files-stay t ok)

-- and read and written it comes back: 0, its length, and its bytes.
pub files-come-back : (t : Table) → valid before t ≡ true → (identifiers exponents comments : List ℕ) (rows : List ℤ) → let bytes = canonical before t in
    (read_answer d bytes (file_of d bytes) identifiers exponents comments rows).refusal ≡ 0 → (out : List ℕ) → length bytes ≤ length out
    → (measured_in d (lent_table d true bytes identifiers exponents comments rows) (length out) ≡ record { refusal = 0; length = length bytes })
    × (out_after d (lent_table d true bytes identifiers exponents comments rows) out ≡ over bytes out)
files-come-back t ok identifiers exponents comments rows read out enough = larger.bytes-stay t ok identifiers exponents comments rows read out enough

-- What was accepted is accepted, and judging answers 0;
pub accepted-stays : (bytes : List ℕ) → IsFile before bytes → IsFile d bytes × ((judged d bytes (file_of d bytes)).refusal ≡ 0)
accepted-stays bytes accepted = (larger.accepted-stays bytes accepted, larger.judge-stays bytes accepted)

-- it has the table that it had, as the lines of any bytes have: header, identifiers, exponents, comments and rows;
pub table_stays : (bytes : List ℕ) → table_in d (lines_of bytes) ≡ table_in before (lines_of bytes)
table_stays bytes = larger.table_stays bytes

-- reading it gives the same answer, and leaves each list as it did.
module _ (bytes : List ℕ) (accepted : IsFile before bytes) (identifiers exponents comments : List ℕ) (rows : List ℤ) where
  pub reading-stays : read_answer d bytes (file_of d bytes) identifiers exponents comments rows
      ≡ read_answer before bytes (file_of before bytes) identifiers exponents comments rows
  reading-stays = larger.reading-stays bytes accepted identifiers exponents comments rows

  pub lists-stay : (identifiers_after d bytes (file_of d bytes) identifiers exponents comments rows
      ≡ identifiers_after before bytes (file_of before bytes) identifiers exponents comments rows)
      × (exponents_after d bytes (file_of d bytes) identifiers exponents comments rows
      ≡ exponents_after before bytes (file_of before bytes) identifiers exponents comments rows)
      × (comments_after d bytes (file_of d bytes) identifiers exponents comments rows
      ≡ comments_after before bytes (file_of before bytes) identifiers exponents comments rows)
      × (rows_after d bytes (file_of d bytes) identifiers exponents comments rows
      ≡ rows_after before bytes (file_of before bytes) identifiers exponents comments rows)
  lists-stay = larger.lists-stay bytes accepted identifiers exponents comments rows

-- A stretch that was divided is divided in the same way.
pub division-stays : {bytes lengths : List ℕ} → Divides (IsFile before) bytes lengths → Divides AnyFile bytes lengths
division-stays divides = larger.division-stays divides

-- NOTHING ELSE CHANGES: any bytes are judged as they were, by number, line, column, length and header, whole files (true) and files at the front (false) at
-- once, but those that were refused with 7 at column 4 of a `+ ` line whose columns 4 to 6 hold more than 255.
pub nothing-else : (bytes : List ℕ) (whole : Bool) → (judged d bytes (found_in d whole bytes) ≡ judged before bytes (found_before whole bytes))
    ⊎ ((line : ℕ)
    × (judged before bytes (found_before whole bytes) ≡ refused_with 7 line 4)
    × (kind_in d (refused_line bytes line) ≡ satellites_kind)
    × (satellites_before < (satellites_of d (padded (refused_line bytes line))).count))
nothing-else bytes whole = larger.nothing-else bytes whole

-- Every number of satellites from 1 to 999 has a valid table, and an accepted file has it;
pub every-number : (n : ℕ) → 1 ≤ n → n ≤ max_satellites
    → (valid d (table_of_many n) ≡ true) × ((bytes : List ℕ) × IsFile d bytes × Holds d (lines_of bytes) (table_of_many n) × ((header d bytes).satellites ≡ n))
every-number n some few = (every_number.many-valid n some few, every_number.every-number n some few)

-- a table of more is 13, whatever the room,
pub too-many-13 : (t : Table) → max_satellites < t.header.satellites → (room : ℕ) → measured_in d t room ≡ refused_as 13
too-many-13 t more room = most.too-many-13 t more room

-- and `Header::new` with more is 7, where its letters are listed.
pub new-too-many : (mode : ℕ) (start : Moment) (epochs interval8 : ℕ) (texts : Texts) (satellites comments file_type : ℕ) (time_system : List ℕ) (bases : Bases)
    → letters_listed mode texts file_type time_system ≡ true → max_satellites < satellites
    → header_of mode start epochs interval8 texts satellites comments file_type time_system bases ≡ no_header_but 7
new-too-many mode start epochs interval8 texts satellites comments file_type time_system bases listed more =
    most.new-too-many mode start epochs interval8 texts satellites comments file_type time_system bases listed more

-- An accepted file has as many `+ ` lines, and as many `++` lines, as its satellites ask for: 59 of each at 999.
pub lines-of-each : (bytes : List ℕ) → IsFile d bytes → (length (of_kind d satellites_kind (lines_of bytes)) ≡ slot_lines (header d bytes).satellites)
    × (length (of_kind d accuracies_kind (lines_of bytes)) ≡ slot_lines (header d bytes).satellites)
lines-of-each bytes accepted = most.lines-of-each d-proper bytes accepted

pub lines-most : (bytes : List ℕ) → IsFile d bytes → (header d bytes).satellites ≡ max_satellites
    → (length (of_kind d satellites_kind (lines_of bytes)) ≡ 59) × (length (of_kind d accuracies_kind (lines_of bytes)) ≡ 59)
lines-most bytes accepted e = most.lines-most d-proper bytes accepted e

-- More cannot be written in the field: whatever bytes a line has, the number that its columns 4 to 6 hold is at most 999, and where that field is 7 it is 0.
pub never-too-many : (line : List ℕ)
    → ((satellites_of d line).count ≤ max_satellites) × (fault_at (count_item d) line ≡ keyed 7 4 → (satellites_of d line).count ≡ 0)
never-too-many line = (most.never-too-many line, most.seven-is-none line)

-- FILES FOR THE OLDER STATIONS (02, Ask 9). An accepted file of SP3-c has at most 85 satellites, five lines of each kind, four comments, and comment lines
-- of at most 60 characters.
pub file-c : (bytes : List ℕ) → IsFile c bytes
    → ((header c bytes).satellites ≤ 85)
    × (length (of_kind c satellites_kind (lines_of bytes)) ≡ 5)
    × (length (of_kind c accuracies_kind (lines_of bytes)) ≡ 5)
    × ((header c bytes).comments ≡ 4)
    × ((i : ℕ) → i < 4 → length (nth i (of_kind c comment_kind (lines_of bytes))) ≤ 60)
file-c bytes accepted = in_version.file-c bytes accepted

-- In such a file 3 names column 61 of a `/*` line and column 81 of any other,
pub column-61 : (whole : Bool) (bytes : List ℕ) (number line column : ℕ) → found_in c whole bytes ≡ front.Refused number line column → number ≡ 3
    → column ≡ cond (is_kind c comment_kind (refused_line bytes line)) 61 81
column-61 whole bytes number line column refused n = told-columns.three-61 bytes number line column whole refused n

-- any `/*` line of more than 60 characters earns 3 with column 61, wherever it stands,
pub long-comment : (s : State) (identifiers line : List ℕ) → is_kind c comment_kind line ≡ true → 60 < length line → Earns c s identifiers line 3 61
long-comment s identifiers line is long = comment-faults.long-comment s identifiers line is long

-- and more than 85 satellites are 7 with column 4.
pub more-than-85 : (line : List ℕ) (n : ℕ) → whole_of (part_of (count_item c) line) ≡ Some n → 85 < n → fault_at (count_item c) line ≡ keyed 7 4
more-than-85 line n is more = in_version.more-satellites-7 c line n is more

-- One comment more than the version has earns 4, in SP3-c the fifth: a `/*` line behind lines without fault that have as many comments among them;
module _ {rules : Rules} (proper : Proper rules) (bytes : List ℕ) (k : ℕ) (goes : AllGoOn rules bytes k) where
  pub fifth-comment : rules.most_comments ≤ length (of_kind rules comment_kind (take k (lines_of bytes)))
      → is_kind rules comment_kind (nth k (lines_of bytes)) ≡ true → Earned rules bytes k 4 0
  fifth-comment all is = comment-faults.fifth-comment proper bytes k goes all is

  -- and so does an epoch before which one is missing, in SP3-c after three: a `* ` line behind lines that have fewer comments among them than the version wants.
  pub missing-comment : length (of_kind rules comment_kind (take k (lines_of bytes))) < rules.fewest_comments
      → is_kind rules epoch_kind (nth k (lines_of bytes)) ≡ true → Earned rules bytes k 4 0
  missing-comment few is = comment-faults.missing-comment proper bytes k goes few is

  -- Where that line has no byte outside 32 to 126 this is the answer of judging, whole files (true) and files at the front (false) at once: 3 for a comment
  -- longer than the version allows,
  module _ (whole : Bool) (there : k < length (lines_of bytes)) (printed : every is_printable (nth k (lines_of bytes)) ≡ true) where
    pub long-refused : is_kind rules comment_kind (nth k (lines_of bytes)) ≡ true → min 80 rules.comment_columns < length (nth k (lines_of bytes))
        → judged rules bytes (found_in rules whole bytes) ≡ refused_with 3 (k + 1) (min 80 rules.comment_columns + 1)
    long-refused is long = comment-faults.long-refused proper bytes k goes whole there printed is long

    -- else 4 for one too many,
    pub fifth-refused : rules.most_comments ≤ length (of_kind rules comment_kind (take k (lines_of bytes)))
        → is_kind rules comment_kind (nth k (lines_of bytes)) ≡ true → length (nth k (lines_of bytes)) ≤ min 80 rules.comment_columns
        → judged rules bytes (found_in rules whole bytes) ≡ refused_with 4 (k + 1) 0
    fifth-refused all is short = comment-faults.fifth-refused proper bytes k goes whole there printed all is short

    -- and 4 where one is missing.
    pub missing-refused : length (of_kind rules comment_kind (take k (lines_of bytes))) < rules.fewest_comments
        → is_kind rules epoch_kind (nth k (lines_of bytes)) ≡ true → length (nth k (lines_of bytes)) ≤ 80
        → judged rules bytes (found_in rules whole bytes) ≡ refused_with 4 (k + 1) 0
    missing-refused few is short = comment-faults.missing-refused proper bytes k goes whole there printed few is short

-- A table is valid in a version exactly when it is valid in SP3-d and keeps the bounds of the version,
pub keeps-exactly : {rules : Rules} → Proper rules → (t : Table) → (valid rules t ≡ true) ↔ ((valid d t ≡ true) × Keeps rules t)
keeps-exactly proper t = in_version.keeps-exactly proper t

-- in SP3-c when it has at most 85 satellites, four comments, and texts of at most 57 bytes.
pub valid-c : (t : Table) → (valid c t ≡ true)
    ↔ ((valid d t ≡ true) × (t.header.satellites ≤ 85) × (t.header.comments ≡ 4) × ((i : ℕ) → i < 4 → length (trimmed (comment_of t i)) ≤ 57))
valid-c t = in_version.valid-c t

-- Its form there is the form in SP3-d but for its second byte. 17 is never the answer of a writing in SP3-d.
pub form-c : (t : Table) → canonical c t ≡ 35 ∷ 99 ∷ drop 2 (canonical d t)
form-c t = in_version.form-c t

pub never-17 : (t : Table) (out : List ℕ) → (measured_in d t (length out)).refusal ≡ 17 → ⊥
never-17 t out e = writing.never-17 t out e

-- The table of an accepted file of SP3-c is valid in SP3-d too, and its form there is an accepted file that holds it;
pub c-in-d : (bytes : List ℕ) → IsFile c bytes → let t = table_in c (lines_of bytes) in
    (valid d t ≡ true) × IsFile d (canonical d t) × Holds d (lines_of (canonical d t)) t
c-in-d bytes accepted = in_version.c-in-d bytes accepted

-- read from the file and written in SP3-d, with room for that form, it gives 0, the length and the bytes of it.
pub c-written-in-d : (bytes : List ℕ) → IsFile c bytes → (identifiers exponents comments : List ℕ) (rows : List ℤ)
    → (read_answer c bytes (file_of c bytes) identifiers exponents comments rows).refusal ≡ 0
    → (out : List ℕ) → let form = canonical d (table_in c (lines_of bytes)) in let lent = lent_table c true bytes identifiers exponents comments rows in
    length form ≤ length out → (measured_in d lent (length out) ≡ record { refusal = 0; length = length form }) × (out_after d lent out ≡ over form out)
c-written-in-d bytes accepted identifiers exponents comments rows read out enough =
    in_version.c-written-in-d bytes accepted identifiers exponents comments rows read out enough

-- Reading tells the version: a file is judged and read by the rules of its own, and the answer has its letter,
pub tells : (v : Version) (bytes : List ℕ) → IsFile (rules_of v) bytes → rules_in bytes ≡ rules_of v
tells v bytes file = in_version.tells v bytes file

pub judge-tells : (v : Version) (bytes : List ℕ) → IsFile (rules_of v) bytes → (judged (rules_in bytes) bytes (file_of (rules_in bytes) bytes)).version ≡ told_version v
judge-tells v bytes file = in_version.judge-tells v bytes file

pub read-tells : (v : Version) (bytes : List ℕ) → IsFile (rules_of v) bytes → (identifiers exponents comments : List ℕ) (rows : List ℤ)
    → let answered = read_answer (rules_in bytes) bytes (file_of (rules_in bytes) bytes) identifiers exponents comments rows in
    answered.refusal ≡ 0 → answered.version ≡ told_version v
read-tells v bytes file identifiers exponents comments rows read = in_version.read-tells v bytes file identifiers exponents comments rows read

-- and beside a refusal, also of a reading without room, a blank, whole files (true) and files at the front (false) at once.
pub refused-tells-none : (rules : Rules) (whole : Bool) (bytes : List ℕ) → ((judged rules bytes (found_in rules whole bytes)).refusal ≡ 0 → ⊥)
    → (judged rules bytes (found_in rules whole bytes)).version ≡ 32
refused-tells-none rules whole bytes refused = in_version.refused-tells-none rules whole bytes refused

pub unread-tells-none : (rules : Rules) (whole : Bool) (bytes : List ℕ) (i x c r : ℕ) → ((answer rules whole bytes i x c r).refusal ≡ 0 → ⊥)
    → (answer rules whole bytes i x c r).version ≡ 32
unread-tells-none rules whole bytes i x c r refused = in_version.unread-tells-none rules whole bytes i x c r refused

-- What was written in a version tells that version,
pub written-tells : (v : Version) (t : Table) (out : List ℕ) → (measured_in (rules_of v) t (length out)).refusal ≡ 0
    → rules_in (written_bytes (rules_of v) t out) ≡ rules_of v
written-tells v t out success = in_version.written-tells v t out success

-- and read by the rules that it tells, with room for the table, it gives that version, its own length and the table back.
pub written-reads-back : (v : Version) (t : Table) (out : List ℕ) → (measured_in (rules_of v) t (length out)).refusal ≡ 0
    → (identifiers exponents comments : List ℕ) (rows : List ℤ) → Room t.header (length identifiers) (length exponents) (length comments) (length rows)
    → let again = written_bytes (rules_of v) t out in let rules = rules_in again in
    (read_answer rules again (file_of rules again) identifiers exponents comments rows ≡ told_file (told_version v) (length again) t.header)
    × (identifiers_after rules again (file_of rules again) identifiers exponents comments rows ≡ over (table.table_identifiers t) identifiers)
    × (exponents_after rules again (file_of rules again) identifiers exponents comments rows ≡ over (table.exponents_of t) exponents)
    × (comments_after rules again (file_of rules again) identifiers exponents comments rows ≡ over (table.comments_of t) comments)
    × (rows_after rules again (file_of rules again) identifiers exponents comments rows ≡ over (rows_of t) rows)
written-reads-back v t out success identifiers exponents comments rows enough =
    in_version.written-reads-back v t out success identifiers exponents comments rows enough

module _ {rules : Rules} (proper : Proper rules) where
  -- The program `rewrite` lends room for as many satellites as a file may name, 800 comments and 1,191 rows, and 65,536 bytes of output. Rows are never short
  -- in a file of at most 65,536 bytes; reading it answers 12 exactly where it has more than 800 comments, and writing what was read exactly where the form
  -- has more than 65,536 bytes, which it may have: a row of 55 bytes is written in 61.
  pub rewrite-rows : (bytes : List ℕ) → IsFile rules bytes → length bytes ≤ most_bytes → rows_needed (header rules bytes) ≤ most_rows * row_width
  rewrite-rows bytes accepted short = rewrite_room.rows_fit proper bytes accepted short

  pub rewrite-12 : (bytes : List ℕ) → IsFile rules bytes → length bytes ≤ most_bytes → ((rewrite_room.rewrite_reading rules bytes).refusal ≡ 12) ↔ (most_comments < (header rules bytes).comments)
  rewrite-12 bytes accepted short = rewrite_room.twelve-exactly proper bytes accepted short

  pub rewrite-output-12 : (bytes : List ℕ) (accepted : IsFile rules bytes) (identifiers exponents comments : List ℕ) (rows : List ℤ)
      → (read_answer rules bytes (file_of rules bytes) identifiers exponents comments rows).refusal ≡ 0 → (out : List ℕ) → length out ≡ most_bytes
      → ((measured_in rules (lent_table rules true bytes identifiers exponents comments rows) (length out)).refusal ≡ 12) ↔ (most_bytes < length (form_of rules bytes))
  rewrite-output-12 bytes accepted identifiers exponents comments rows read out room =
      rewrite_room.output-twelve proper bytes accepted identifiers exponents comments rows read out room

-- DEMAND 3, over accepted files of both versions mixed. No accepted file is the beginning of a longer accepted file, so a stretch divides into files in at
-- most one way; that division is given exactly when there is one, else the accepted files at the front and the refusal after them.

-- An accepted file followed by anything is read from the front, by the rules that it tells, as it is read whole, and its length is told.
pub then-anything : (a b : List ℕ) (t : Tally) → file_of (rules_in a) a ≡ front.File t → (front_of (rules_in (a ++ b)) (a ++ b) ≡ front.File t) × (t.end ≡ length a)
then-anything a b t accepted = dividing.file-then-anything a b t accepted

pub not-longer : (a b : List ℕ) → AnyFile a → AnyFile (a ++ b) → b ≡ []
not-longer a b f g = dividing.not-longer a b f g

pub one_way : {bytes ls ks : List ℕ} → Divides AnyFile bytes ls → Divides AnyFile bytes ks → ls ≡ ks
one_way x y = dividing.one_way x y

-- With room the answer is a division and its lengths are written exactly when it is one.
pub divides-exactly : (bytes old ls : List ℕ) → length ls ≤ length old
    → Divides AnyFile bytes ls ↔ ((divide_of bytes (length old) ≡ division (length ls) (length bytes) 0 0 0) × (lengths_after bytes old ≡ over ls old))
divides-exactly bytes old ls enough = dividing.divides-exactly bytes old ls enough

-- Wherever the answer is not 12 it tells the accepted files at the front, as many as there are, with their lengths written;
pub files-at-front : (bytes old : List ℕ) → ((divide_of bytes (length old)).refusal ≡ 12 → ⊥) → AtFront bytes old (divide_of bytes (length old))
files-at-front bytes old enough = dividing.front-found bytes old enough

-- what is left after them, if anything is, is refused, by the rules that it tells, with the number, line and column of the answer.
pub rest-refused : {bytes old : List ℕ} {answer : Division} (f : AtFront bytes old answer) → (answer.refusal ≡ 0 → ⊥)
    → (0 < length f.rest) × (front_of (rules_in f.rest) f.rest ≡ front.Refused answer.refusal answer.line answer.column)
rest-refused f some = dividing.rest-refused f some

-- 12 comes exactly where more accepted files stand at the front than there is room for, 11 and 13 never.
pub no_room : (bytes : List ℕ) (room : ℕ) → ((divide_of bytes room).refusal ≡ 12) ↔ TooMany bytes room
no_room bytes room = dividing.twelve-exactly bytes room

-- With 12 every other part of the answer is 0.
pub twelve-alone : (bytes : List ℕ) (room : ℕ) → (divide_of bytes room).refusal ≡ 12 → divide_of bytes room ≡ division 0 0 12 0 0
twelve-alone bytes room e = dividing.twelve-alone bytes room e

pub never-11 : (bytes : List ℕ) (room : ℕ) → (divide_of bytes room).refusal ≡ 11 → ⊥
never-11 bytes room e = dividing.never-11 bytes room e

pub never-13 : (bytes : List ℕ) (room : ℕ) → (divide_of bytes room).refusal ≡ 13 → ⊥
never-13 bytes room e = dividing.never-13 bytes room e

-- The file of number i begins at the sum of the first i lengths, and is an accepted file of the length of number i.
pub file-at-sum : (bytes old : List ℕ) (i : ℕ) → i < (divide_of bytes (length old)).count
    → AnyFile (take (get_or (lengths_after bytes old) i 0) (drop (sum (take i (lengths_after bytes old))) bytes))
file-at-sum bytes old i h = dividing.file-at-sum bytes old i h

-- THE PAPER'S TWELVE CASES, one table.
pub twelve-cases : (length cases.cases ≡ 12) × (map (λ (c : Case). c.found) cases.cases ≡ map (λ (c : Case). c.paper) cases.cases)
twelve-cases = cases.twelve-cases
