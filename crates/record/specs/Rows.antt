-- P and V lines. 01, "P columns: identifier 2–4; x, y, z, clock in 5–18, 19–32, 33–46, 47–60 (F14.6); exponents 62–63, 65–66, 68–69, 71–73;
-- flags E in 75, P in 76, M in 79, P in 80, each that letter or blank. V is the same up to column 73, and 74 to 80 are blank."
-- 000, line thirty three, and line twenty six in example 2. Numbers are whole: mm and ps in P, 10^-4 mm/s and 10^-16 s/s in V.
use Rattle.std.specs.Prelude.{Bool, true, false, not, ◌&&◌, List, [], ◌∷◌, ◌++◌, ℕ, ◌+◌, ◌-◌, ◌*◌, eqb, get_or, take, drop}
use Rattle.field.specs.Read.{whole_of, exponent_of}
use Rattle.field.specs.Known.{known_magnitude, known_negative}
use Rattle.field.specs.Clock.{is_six_nines, clock_held}
use Rattle.layout.specs.Kind.{Kind, identifier_code, exponent_held, exponent}
use Rattle.layout.specs.Kind.Kind.{unused, fixed, signed, clock, flag, identifier}
use Rattle.layout.specs.Kind.Held.{one, amount, mark}
use Rattle.layout.specs.Layout.{Item, Values, columns, column, part_at, number_at, negative_at, magnitude_at, mark_at, fault_of, show_line}
use Rattle.layout.specs.Line.{padded, ended}
use Rattle.field.specs.declared.Signed.{Signed}
use Rattle.record.specs.declared.types.Row.{Row}

-- x, y, z (false) and the clock (true): F14.6
abbrev pub amount_kind : Bool → Kind
amount_kind true = clock 6
amount_kind false = signed 6

-- columns 2 to 73, the same in both: 2-4 Vehicle Id. A1,I2.2, 5-18, 19-32, 33-46 x, y, z F14.6, 47-60 clock F14.6, 62-63, 65-66, 68-69
-- sdev I2, 71-73 sdev I3; 61, 64, 67, 70 Unused
abbrev pub body_items : List Item
body_items =
    columns 2 4 identifier
    ∷ columns 5 18 (signed 6)
    ∷ columns 19 32 (signed 6)
    ∷ columns 33 46 (signed 6)
    ∷ columns 47 60 (clock 6)
    ∷ column 61 unused
    ∷ columns 62 63 exponent
    ∷ column 64 unused
    ∷ columns 65 66 exponent
    ∷ column 67 unused
    ∷ columns 68 69 exponent
    ∷ column 70 unused
    ∷ columns 71 73 exponent
    ∷ []

-- columns 74 to 80 of P: 75 Clock Event Flag, 76 Clock Pred. Flag, 79 Maneuver Flag, 80 Orbit Pred. Flag; 74, 77-78 Unused
abbrev pub flag_items : List Item
flag_items =
    column 74 unused
    ∷ column 75 (flag 69)
    ∷ column 76 (flag 80)
    ∷ columns 77 78 unused
    ∷ column 79 (flag 77)
    ∷ column 80 (flag 80)
    ∷ []

-- the columns of P, and those of V
abbrev pub row_items : Bool → List Item
row_items true = part_at 0 1 1 (fixed 4 (86 ∷ [])) ∷ (body_items ++ (columns 74 80 unused ∷ []))
row_items false = part_at 0 1 1 (fixed 4 (80 ∷ [])) ∷ (body_items ++ flag_items)

-- the entry at k as a sign and a magnitude
abbrev pub signed_at : Values → ℕ → Signed
signed_at vs k = record { negative = negative_at vs k; magnitude = magnitude_at vs k }

-- a row of a line's values; V has no flags
abbrev pub row_from : Bool → Values → Row
row_from velocity vs = record {
  satellite = number_at vs 0;
  x = signed_at vs 1;
  y = signed_at vs 2;
  z = signed_at vs 3;
  clock = signed_at vs 4;
  x_exponent = number_at vs 5;
  y_exponent = number_at vs 6;
  z_exponent = number_at vs 7;
  clock_exponent = number_at vs 8;
  event = not velocity && mark_at vs 9;
  predicted = not velocity && mark_at vs 10;
  maneuver = not velocity && mark_at vs 11;
  orbit_predicted = not velocity && mark_at vs 12;
}

-- the entries of columns 2 to 73
abbrev pub body_values : Row → Values
body_values p =
    one p.satellite
    ∷ amount p.x.negative p.x.magnitude
    ∷ amount p.y.negative p.y.magnitude
    ∷ amount p.z.negative p.z.magnitude
    ∷ amount p.clock.negative p.clock.magnitude
    ∷ one p.x_exponent
    ∷ one p.y_exponent
    ∷ one p.z_exponent
    ∷ one p.clock_exponent
    ∷ []

-- and those of the flags
abbrev pub flag_values : Row → Values
flag_values p = mark p.event ∷ mark p.predicted ∷ mark p.maneuver ∷ mark p.orbit_predicted ∷ []

abbrev pub row_values : Bool → Row → Values
row_values true p = body_values p
row_values false p = body_values p ++ flag_values p

-- the fault that decides a line
abbrev pub row_fault : Bool → List ℕ → ℕ
row_fault velocity line = fault_of (row_items velocity) line

-- the line that shows a row, with its LF
unfoldable pub row_line : Bool → Row → List ℕ
row_line velocity p = ended (show_line (row_items velocity) (row_values velocity p))

-- A line is judged first and its row taken afterwards, so what a row takes is defined for every line, and for a line without fault it is
-- what the layout holds (proofs/Taking). The columns first to last of a line:
abbrev pub cut : ℕ → ℕ → List ℕ → List ℕ
cut first last line = take (last - (first - 1)) (drop (first - 1) line)

-- a field of 14 columns with 6 places
abbrev pub signed_in : List ℕ → Signed
signed_in bytes = record { negative = known_negative bytes 6; magnitude = known_magnitude bytes 6 }

-- a clock or rate: such a field, and six nines with no minus are absent, which is held as twelve nines
abbrev pub clock_field_in : List ℕ → Signed
clock_field_in bytes = record { negative = known_negative bytes 6; magnitude = clock_held 6 (known_negative bytes 6) (known_magnitude bytes 6) }

-- an exponent, or the number that stands for unknown
abbrev pub exponent_in : List ℕ → ℕ
exponent_in bytes = exponent_held (exponent_of bytes)

-- a flag's column holds its letter; V has none
abbrev pub flag_in : Bool → ℕ → List ℕ → Bool
flag_in velocity sign bytes = not velocity && eqb (get_or bytes 0 0) sign

-- the row of a line of 80 columns
unfoldable pub row_taken : Bool → List ℕ → Row
row_taken velocity line = record {
  satellite = identifier_code (cut 2 4 line);
  x = signed_in (cut 5 18 line);
  y = signed_in (cut 19 32 line);
  z = signed_in (cut 33 46 line);
  clock = clock_field_in (cut 47 60 line);
  x_exponent = exponent_in (cut 62 63 line);
  y_exponent = exponent_in (cut 65 66 line);
  z_exponent = exponent_in (cut 68 69 line);
  clock_exponent = exponent_in (cut 71 73 line);
  event = flag_in velocity 69 (cut 75 75 line);
  predicted = flag_in velocity 80 (cut 76 76 line);
  maneuver = flag_in velocity 77 (cut 79 79 line);
  orbit_predicted = flag_in velocity 80 (cut 80 80 line);
}

-- the row of a line as it stands, a short one being padded
abbrev pub row_of : Bool → List ℕ → Row
row_of velocity line = row_taken velocity (padded line)

-- columns 47 to 53 of a line hold 999999 without a minus
abbrev pub six_nines_in : List ℕ → Bool
six_nines_in line = is_six_nines (whole_of (cut 47 53 (padded line)))

-- the bytes of the shortest P or V line with its LF: it ends with the point of a clock that is absent, in column 54
abbrev pub shortest_row : ℕ
shortest_row = 55

-- the numbers of a stored row: those of its line alone (x, y, z, clock, their exponents, and four flags) and those of its note; and those of a P row
-- with its V row
abbrev pub bare_width : ℕ
bare_width = 12

abbrev pub note_width : ℕ
note_width = 11

abbrev pub row_width : ℕ
row_width = bare_width + note_width

abbrev pub both_width : ℕ
both_width = 2 * row_width
