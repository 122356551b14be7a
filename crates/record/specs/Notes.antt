-- EP and EV lines, the notes of the P or V line before them. 02, Ask 1: "Columns 5–8, 10–13, 15–18 and 20–26 hold deviations, 0 to 9999 (the last 0
-- to 9999999, largest meaning too large); 28–35, 37–44, 46–53, 55–62, 64–71 and 73–80 hold correlations, in 10^-7, from −9999999 to 9999999,
-- where a minus may stand before the first digit and minus zero is zero. Any of them may be blank for unknown."
use Rattle.std.specs.Prelude.{Bool, true, false, List, [], ◌∷◌, ◌++◌, ℕ, get_or}
use Rattle.layout.specs.Kind.{Kind, Held, unnoted, number_in, negative_in, magnitude_in, held_in}
use Rattle.layout.specs.Kind.Kind.{unused, fixed, maybe, maybe_signed}
use Rattle.layout.specs.Kind.Held.{one, amount}
use Rattle.layout.specs.Layout.{Item, Values, columns, column, part_at, number_at, values_of, fault_of, show_line}
use Rattle.layout.specs.Line.{padded, ended}
use Rattle.record.specs.Rows.{signed_at}
use Rattle.field.specs.declared.Signed.{Signed}
use Rattle.record.specs.declared.types.Note.{Note}

-- a deviation: a whole number, or blank for unknown
abbrev pub deviation : Kind
deviation = maybe unnoted

-- the largest, which means too large: of x, y, z (false), of the clock (true)
abbrev pub largest_deviation : Bool → ℕ
largest_deviation true = 9_999_999
largest_deviation false = 9_999

-- a correlation: a whole number in 10^-7 that may have a minus, or blank for unknown
abbrev pub largest_correlation : ℕ
largest_correlation = 9_999_999

abbrev pub correlation : Kind
correlation = maybe_signed unnoted largest_correlation

abbrev pub correlation_symbol : Bool → List ℕ
correlation_symbol true = 69 ∷ 86 ∷ []
correlation_symbol false = 69 ∷ 80 ∷ []

-- 000, line twenty five in example 2: Columns 5-8 x-sdev, 10-13 y-sdev, 15-18 z-sdev I4, 20-26 clk-sdev I7; 3-4, 9, 14, 19 Unused
abbrev pub deviation_items : List Item
deviation_items =
    columns 3 4 unused
    ∷ columns 5 8 deviation
    ∷ column 9 unused
    ∷ columns 10 13 deviation
    ∷ column 14 unused
    ∷ columns 15 18 deviation
    ∷ column 19 unused
    ∷ columns 20 26 deviation
    ∷ []

-- 28-35 xy, 37-44 xz, 46-53 xc, 55-62 yz, 64-71 yc, 73-80 zc correlation I8; 27, 36, 45, 54, 63, 72 Unused
abbrev pub pair_items : List Item
pair_items =
    column 27 unused
    ∷ columns 28 35 correlation
    ∷ column 36 unused
    ∷ columns 37 44 correlation
    ∷ column 45 unused
    ∷ columns 46 53 correlation
    ∷ column 54 unused
    ∷ columns 55 62 correlation
    ∷ column 63 unused
    ∷ columns 64 71 correlation
    ∷ column 72 unused
    ∷ columns 73 80 correlation
    ∷ []

-- 1-2 Symbol A2: EP, or EV
abbrev pub correlation_items : Bool → List Item
correlation_items velocity = part_at 0 1 2 (fixed 4 (correlation_symbol velocity)) ∷ (deviation_items ++ pair_items)

-- a note of a line's values
abbrev pub note_from : Values → Note
note_from vs = record {
  x_deviation = number_at vs 0;
  y_deviation = number_at vs 1;
  z_deviation = number_at vs 2;
  clock_deviation = number_at vs 3;
  xy = signed_at vs 4;
  xz = signed_at vs 5;
  xc = signed_at vs 6;
  yz = signed_at vs 7;
  yc = signed_at vs 8;
  zc = signed_at vs 9;
}

abbrev pub deviation_values : Note → Values
deviation_values n = one n.x_deviation ∷ one n.y_deviation ∷ one n.z_deviation ∷ one n.clock_deviation ∷ []

abbrev pub pair_values : Note → Values
pair_values n =
    amount n.xy.negative n.xy.magnitude
    ∷ amount n.xz.negative n.xz.magnitude
    ∷ amount n.xc.negative n.xc.magnitude
    ∷ amount n.yz.negative n.yz.magnitude
    ∷ amount n.yc.negative n.yc.magnitude
    ∷ amount n.zc.negative n.zc.magnitude
    ∷ []

abbrev pub note_values : Note → Values
note_values n = deviation_values n ++ pair_values n

-- the deviations of a note by 0 to 3 (x, y, z, clock), and its correlations by 0 to 5 (xy, xz, xc, yz, yc, zc)
abbrev pub deviation_at : Note → ℕ → ℕ
deviation_at n which = get_or (n.x_deviation ∷ n.y_deviation ∷ n.z_deviation ∷ n.clock_deviation ∷ []) which 0

abbrev pub correlation_at : Note → ℕ → Signed
correlation_at n which = get_or (n.xy ∷ n.xz ∷ n.xc ∷ n.yz ∷ n.yc ∷ n.zc ∷ []) which n.xy

-- what a field of a correlation holds
abbrev pub correlation_in : List ℕ → Signed
correlation_in bytes = record { negative = negative_in (held_in correlation bytes); magnitude = magnitude_in (held_in correlation bytes) }

-- the note of a line of 80 columns: EP and EV have it in the same columns
unfoldable pub note_taken : List ℕ → Note
note_taken line = note_from (values_of (correlation_items false) line)

-- the note of a line as it stands, a short one being padded
abbrev pub note_of : List ℕ → Note
note_of line = note_taken (padded line)

-- the fault that decides a line
abbrev pub note_fault : Bool → List ℕ → ℕ
note_fault velocity line = fault_of (correlation_items velocity) line

-- the line that shows a note, with its LF
unfoldable pub note_line : Bool → Note → List ℕ
note_line velocity n = ended (show_line (correlation_items velocity) (note_values n))
