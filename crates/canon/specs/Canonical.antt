-- The canonical form of a table. 01, "The canonical form": "no leading zeros but one digit before a point, two digits in identifiers, F as
-- 125·S / 108 rounded to the nearest with halves upward, trailing blanks cut from each line. Each canonical line stands directly after the one before
-- in the lent output." 02, Ask 1: "the canonical form writes it there, even when all its fields are blank", an EP or EV record after its row.
-- How a record is shown in its line, with its LF, `record` defines.
use Rattle.std.specs.Prelude.{Bool, true, false, cond, List, [], ◌∷◌, ◌++◌, ℕ, zero, suc, ◌+◌, ◌-◌, ◌*◌, ◌/◌, ◌%◌, eqb, ℤ, nat_abs, length, take, drop, replicate}
use Rattle.calendar.specs.Gregorian.{first_mjd, date_of}
use Rattle.calendar.specs.Clock.{day_units, clock_of}
use Rattle.field.specs.Sign.{is_negative}
use Rattle.lines.specs.Lent.{flat}
use Rattle.header.specs.Rules.{slot_lines}
use Rattle.record.specs.Opening.{first_line, second_line, epoch_line}
use Rattle.record.specs.SlotLines.{satellites_line, more_line}
use Rattle.record.specs.Descriptors.{descriptor_line, character_items, base_line, float_items, integer_items, fixed_line}
use Rattle.record.specs.Plain.{comment_line, end_items, comment_width}
use Rattle.record.specs.Rows.{row_line, bare_width, row_width}
use Rattle.record.specs.Notes.{note_line}
use Rattle.header.specs.declared.types.Rules.{Rules}
use Rattle.header.specs.declared.types.Header.{Header}
use Rattle.header.specs.declared.types.Moment.{Moment}
use Rattle.record.specs.declared.types.First.{First}
use Rattle.record.specs.declared.types.Second.{Second}
use Rattle.record.specs.declared.types.Epoch.{Epoch}
use Rattle.record.specs.declared.types.Satellites.{Satellites}
use Rattle.record.specs.declared.types.Slots.{Slots}
use Rattle.record.specs.declared.types.Descriptor.{Descriptor}
use Rattle.record.specs.declared.types.BaseLine.{BaseLine}
use Rattle.field.specs.declared.Signed.{Signed}
use Rattle.record.specs.declared.types.Row.{Row}
use Rattle.record.specs.declared.types.Note.{Note}
use Rattle.canon.specs.Table.{Table, cell_width, table_identifiers, exponents_of, comments_of, rows_of}
use Rattle.canon.specs.Valid.{entry, is_noted}

-- the date and time of an instant in 10^-8 s since MJD 0
unfoldable pub moment_of : ℕ → Moment
moment_of at8 = record {
  year = (date_of (clock_of at8).day).year;
  month = (date_of (clock_of at8).day).month;
  day = (date_of (clock_of at8).day).day;
  hour = (clock_of at8).hour;
  minute = (clock_of at8).minute;
  second8 = (clock_of at8).second8;
}

-- line 1: P (80) or V (86), the start, the number of epochs and the texts
unfoldable pub first_shown : Header → First
first_shown h = record {
  fault = 0;
  mode = cond h.velocity 86 80;
  start = moment_of h.start8;
  epochs = h.epochs;
  texts = h.texts;
}

-- line 2: with D the day of the start and S its time of day, week and seconds of week, the interval, D, and F as 125·S / 108, halves upward
unfoldable pub second_shown : Header → Second
second_shown h =
    let day = h.start8 / day_units in
    let time = h.start8 % day_units in
    record {
      fault = 0;
      week = (day - first_mjd) / 7;
      seconds8 = (day - first_mjd) % 7 * day_units + time;
      interval8 = h.interval8;
      mjd = day;
      fraction13 = (125 * time + 54) / 108;
    }

-- the next seventeen numbers, zeros after the last
unfoldable pub seventeen : List ℕ → List ℕ
seventeen numbers = take 17 (numbers ++ replicate 17 0)

-- the first `+ ` line of n satellites
unfoldable pub satellites_shown : ℕ → List ℕ → Satellites
satellites_shown n identifiers = record { fault = 0; count = n; identifiers = seventeen identifiers }

-- so many further `+ ` lines, or `++` lines, with the slots of these satellites
abbrev pub slots_shown : List ℕ → Slots
slots_shown numbers = record { fault = 0; values = seventeen numbers }

unfoldable pub slot_lines_of : Bool → ℕ → List ℕ → List (List ℕ)
slot_lines_of accuracies zero numbers = []
slot_lines_of accuracies (suc lines) numbers =
    more_line accuracies (length numbers) (slots_shown numbers) ∷ slot_lines_of accuracies lines (drop 17 numbers)

-- the first `%c` line and the first `%f` line
unfoldable pub descriptor_shown : Header → Descriptor
descriptor_shown h = record { fault = 0; file_type = h.file_type; time_system = h.time_system }

unfoldable pub bases_shown : Header → BaseLine
bases_shown h = record { fault = 0; bases = h.bases }

-- both `%c`, both `%f` and both `%i` lines
unfoldable pub descriptor_lines : Header → List (List ℕ)
descriptor_lines h =
    descriptor_line (descriptor_shown h)
    ∷ fixed_line character_items
    ∷ base_line (bases_shown h)
    ∷ fixed_line float_items
    ∷ fixed_line integer_items
    ∷ fixed_line integer_items
    ∷ []

-- every line before the comments, of these identifiers and exponents
unfoldable pub lines_before : Rules → Header → List ℕ → List ℕ → List (List ℕ)
lines_before rules h identifiers exponents =
    first_line rules (first_shown h)
    ∷ second_line (second_shown h)
    ∷ satellites_line rules (satellites_shown h.satellites identifiers)
    ∷ (slot_lines_of false (slot_lines h.satellites - 1) (drop 17 identifiers)
    ++ (slot_lines_of true (slot_lines h.satellites) exponents ++ descriptor_lines h))

-- so many comments of 77 bytes
unfoldable pub comment_lines : ℕ → List ℕ → List (List ℕ)
comment_lines zero bytes = []
comment_lines (suc k) bytes = comment_line (take comment_width bytes) ∷ comment_lines k (drop comment_width bytes)

-- a number as its sign and magnitude
abbrev pub signed_shown : ℤ → Signed
signed_shown v = record { negative = is_negative v; magnitude = nat_abs v }

-- a flag that is set is not 0
abbrev pub flag_shown : ℤ → Bool
flag_shown v = cond (eqb (nat_abs v) 0) false true

-- the row of a satellite of its stored numbers
unfoldable pub row_shown : ℕ → List ℤ → Row
row_shown identifier row = record {
  satellite = identifier;
  x = signed_shown (entry row 0);
  y = signed_shown (entry row 1);
  z = signed_shown (entry row 2);
  clock = signed_shown (entry row 3);
  x_exponent = nat_abs (entry row 4);
  y_exponent = nat_abs (entry row 5);
  z_exponent = nat_abs (entry row 6);
  clock_exponent = nat_abs (entry row 7);
  event = flag_shown (entry row 8);
  predicted = flag_shown (entry row 9);
  maneuver = flag_shown (entry row 10);
  orbit_predicted = flag_shown (entry row 11);
}

-- a note of its stored numbers, after its mark
unfoldable pub note_shown : List ℤ → Note
note_shown note = record {
  x_deviation = nat_abs (entry note 1);
  y_deviation = nat_abs (entry note 2);
  z_deviation = nat_abs (entry note 3);
  clock_deviation = nat_abs (entry note 4);
  xy = signed_shown (entry note 5);
  xz = signed_shown (entry note 6);
  xc = signed_shown (entry note 7);
  yz = signed_shown (entry note 8);
  yc = signed_shown (entry note 9);
  zc = signed_shown (entry note 10);
}

-- its line, where it stood
unfoldable pub note_lines : Bool → List ℤ → List (List ℕ)
note_lines velocity note = cond (is_noted note) (note_line velocity (note_shown note) ∷ []) []

-- a P line and its EP line, or a V line and its EV line
unfoldable pub noted_lines : Bool → ℕ → List ℤ → List (List ℕ)
noted_lines velocity identifier row = row_line velocity (row_shown identifier row) ∷ note_lines velocity (drop bare_width row)

-- the lines of one satellite in one epoch: P, in mode V then V
unfoldable pub cell_lines : Bool → ℕ → List ℤ → List (List ℕ)
cell_lines true identifier cell = noted_lines false identifier (take row_width cell) ++ noted_lines true identifier (drop row_width cell)
cell_lines false identifier cell = noted_lines false identifier cell

-- those of each satellite, in header order
unfoldable pub cells_lines : Bool → List ℕ → List ℤ → List (List ℕ)
cells_lines velocity [] rows = []
cells_lines velocity (identifier ∷ identifiers) rows =
    cell_lines velocity identifier (take (cell_width velocity) rows) ++ cells_lines velocity identifiers (drop (cell_width velocity) rows)

-- the line of an epoch at an instant
unfoldable pub epoch_shown : ℕ → Epoch
epoch_shown at8 = record { fault = 0; moment = moment_of at8 }

-- so many epochs, the first of them at this instant, each an interval after the one before
unfoldable pub epochs_lines : Bool → List ℕ → ℕ → ℕ → ℕ → List ℤ → List (List ℕ)
epochs_lines velocity identifiers interval8 zero at8 rows = []
epochs_lines velocity identifiers interval8 (suc epochs) at8 rows =
    epoch_line (epoch_shown at8)
    ∷ (cells_lines velocity identifiers rows
    ++ epochs_lines velocity identifiers interval8 epochs (at8 + interval8) (drop (length identifiers * cell_width velocity) rows))

-- every line, each with its LF
unfoldable pub canonical_lines : Rules → Table → List (List ℕ)
canonical_lines rules t =
    lines_before rules t.header (table_identifiers t) (exponents_of t)
    ++ (comment_lines t.header.comments (comments_of t)
    ++ (epochs_lines t.header.velocity (table_identifiers t) t.header.interval8 t.header.epochs t.header.start8 (rows_of t)
    ++ (fixed_line end_items ∷ [])))

-- the canonical form: its lines one directly after another
unfoldable pub canonical : Rules → Table → List ℕ
canonical rules t = flat (canonical_lines rules t)
