-- Lines 1 and 2, and the epoch line. 01, "Records in order", 1, 2 and 8.
-- Of a record X: `xItems` are its columns as the document lists them, `xFrom` makes it of a fault and the values of a line, `xValues` are the
-- values that it is shown by, `xOf` is what a line of 80 columns is read as, and `xLine` the line that shows it, with its LF.
use Rattle.std.specs.Prelude.{List, [], ◌∷◌, ◌++◌, ℕ}
use Rattle.header.specs.Rules.{max_epochs}
use Rattle.header.specs.Letters.{modes}
use Rattle.layout.specs.Fault.{lower}
use Rattle.layout.specs.Kind.Kind.{unused, fixed, whole, decimal, letter, text}
use Rattle.layout.specs.Kind.Held.{one, words}
use Rattle.layout.specs.Layout.{Item, Values, columns, column, part_at, part_of, number_at, words_at, fault_of, values_of, show_line}
use Rattle.layout.specs.Line.{ended}
use Rattle.record.specs.Times.{time_items, moment_at, moment_values, date_fault}
use Rattle.header.specs.declared.types.Rules.{Rules}
use Rattle.header.specs.declared.types.Texts.{Texts}
use Rattle.record.specs.declared.types.First.{First}
use Rattle.record.specs.declared.types.Second.{Second}
use Rattle.record.specs.declared.types.Epoch.{Epoch}

-- the four texts of line 1, from column 41 on: 41-45 Data Used A5, 47-51 Coordinate Sys A5, 53-55 Orbit Type A3, 57-60 Agency A4; 46, 52, 56
-- Unused
abbrev pub text_items : List Item
text_items =
    columns 41 45 text
    ∷ column 46 unused
    ∷ columns 47 51 text
    ∷ column 52 unused
    ∷ columns 53 55 text
    ∷ column 56 unused
    ∷ columns 57 60 text
    ∷ columns 61 80 unused
    ∷ []

abbrev pub text_values : Texts → Values
text_values t = words t.data_used ∷ words t.coordinates ∷ words t.orbit ∷ words t.agency ∷ []

-- 000, line one: Columns 1-2 Version Symbol A2, 3 Pos or Vel Flag A1, 4-31 the start, 33-39 Number of Epochs I7, 41-60 the texts; 32,
-- 40 Unused
abbrev pub first_items : Rules → List Item
first_items rules =
    part_at 0 1 2 (fixed 4 (35 ∷ rules.letter ∷ []))
    ∷ column 3 (letter modes)
    ∷ (time_items
    ++ (column 32 unused
    ∷ columns 33 39 (whole 1 max_epochs)
    ∷ column 40 unused
    ∷ text_items))

-- the four texts of a line of 80 columns
abbrev pub texts_of : List ℕ → Texts
texts_of line = record {
  data_used = part_of (columns 41 45 text) line;
  coordinates = part_of (columns 47 51 text) line;
  orbit = part_of (columns 53 55 text) line;
  agency = part_of (columns 57 60 text) line;
}

abbrev pub first_from : ℕ → Values → First
first_from fault vs = record {
  fault = lower fault (date_fault (moment_at vs 1));
  mode = number_at vs 0;
  start = moment_at vs 1;
  epochs = number_at vs 7;
  texts = record { data_used = words_at vs 8; coordinates = words_at vs 9; orbit = words_at vs 10; agency = words_at vs 11 };
}

abbrev pub first_values : First → Values
first_values f =
    one f.mode
    ∷ (moment_values f.start ++ (one f.epochs ∷ text_values f.texts))

abbrev pub first_of : Rules → List ℕ → First
first_of rules line = first_from (fault_of (first_items rules) line) (values_of (first_items rules) line)

unfoldable pub first_line : Rules → First → List ℕ
first_line rules f = ended (show_line (first_items rules) (first_values f))

-- 000, line two: Columns 1-2 Symbols A2, 4-7 GPS Week I4, 9-23 Seconds of week F15.8 (below 604,800), 25-38 Epoch Interval F14.8 (above 0),
-- 40-44 Mod Jul Day St I5, 46-60 Fractional Day F15.13 (below 1); 3, 8, 24, 39, 45 Unused
abbrev pub second_items : List Item
second_items =
    part_at 0 1 2 (fixed 4 (35 ∷ 35 ∷ []))
    ∷ column 3 unused
    ∷ columns 4 7 (whole 0 9999)
    ∷ column 8 unused
    ∷ columns 9 23 (decimal 8 0 60_479_999_999_999)
    ∷ column 24 unused
    ∷ columns 25 38 (decimal 8 1 9_999_999_999_999)
    ∷ column 39 unused
    ∷ columns 40 44 (whole 0 99_999)
    ∷ column 45 unused
    ∷ columns 46 60 (decimal 13 0 9_999_999_999_999)
    ∷ columns 61 80 unused
    ∷ []

abbrev pub second_from : ℕ → Values → Second
second_from fault vs = record {
  fault = fault;
  week = number_at vs 0;
  seconds8 = number_at vs 1;
  interval8 = number_at vs 2;
  mjd = number_at vs 3;
  fraction13 = number_at vs 4;
}

abbrev pub second_values : Second → Values
second_values s = one s.week ∷ one s.seconds8 ∷ one s.interval8 ∷ one s.mjd ∷ one s.fraction13 ∷ []

abbrev pub second_of : List ℕ → Second
second_of line = second_from (fault_of second_items line) (values_of second_items line)

unfoldable pub second_line : Second → List ℕ
second_line s = ended (show_line second_items (second_values s))

-- 000, line thirty two: Columns 1-2 Symbols A2, 4-31 the epoch; 3 Unused
abbrev pub epoch_items : List Item
epoch_items = part_at 0 1 2 (fixed 4 (42 ∷ 32 ∷ [])) ∷ column 3 unused ∷ (time_items ++ (columns 32 80 unused ∷ []))

abbrev pub epoch_from : ℕ → Values → Epoch
epoch_from fault vs = record { fault = lower fault (date_fault (moment_at vs 0)); moment = moment_at vs 0 }

abbrev pub epoch_values : Epoch → Values
epoch_values e = moment_values e.moment

abbrev pub epoch_of : List ℕ → Epoch
epoch_of line = epoch_from (fault_of epoch_items line) (values_of epoch_items line)

unfoldable pub epoch_line : Epoch → List ℕ
epoch_line e = ended (show_line epoch_items (epoch_values e))
