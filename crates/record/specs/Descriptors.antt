-- The `%c`, `%f` and `%i` lines. 01, "Records in order", 5 and 6: "All other text fields hold `c` in each column"; "the first carries two
-- bases (F10.7, F12.9); the other decimals are zero. Two `%i`: zeros." 000, lines twenty one to twenty six.
use Rattle.std.specs.Prelude.{List, [], ◌∷◌, ℕ, replicate}
use Rattle.header.specs.Header.{max_place_base, max_clock_base}
use Rattle.header.specs.Letters.{file_types, time_systems}
use Rattle.layout.specs.Kind.{Kind}
use Rattle.layout.specs.Kind.Kind.{unused, fixed, decimal, letter, listed, zero_whole, zero_decimal}
use Rattle.layout.specs.Kind.Held.{one, words}
use Rattle.layout.specs.Layout.{Item, Values, columns, column, part_at, number_at, words_at, fault_of, values_of, show_line}
use Rattle.layout.specs.Line.{ended}
use Rattle.record.specs.declared.types.Descriptor.{Descriptor}
use Rattle.record.specs.declared.types.BaseLine.{BaseLine}

-- a placeholder: so many `c` (99)
abbrev pub cs : ℕ → Kind
cs w = fixed 5 (replicate w 99)

-- both `%c` lines from column 13 on: 14-16 3 characters, 18-21, 23-26, 28-31, 33-36 4 characters, 38-42, 44-48, 50-54, 56-60 5 characters; 13,
-- 17, 22, 27, 32, 37, 43, 49, 55 Unused
abbrev pub later_characters : List Item
later_characters =
    column 13 unused
    ∷ columns 14 16 (cs 3)
    ∷ column 17 unused
    ∷ columns 18 21 (cs 4)
    ∷ column 22 unused
    ∷ columns 23 26 (cs 4)
    ∷ column 27 unused
    ∷ columns 28 31 (cs 4)
    ∷ column 32 unused
    ∷ columns 33 36 (cs 4)
    ∷ column 37 unused
    ∷ columns 38 42 (cs 5)
    ∷ column 43 unused
    ∷ columns 44 48 (cs 5)
    ∷ column 49 unused
    ∷ columns 50 54 (cs 5)
    ∷ column 55 unused
    ∷ columns 56 60 (cs 5)
    ∷ columns 61 80 unused
    ∷ []

-- the first `%c`: Columns 1-2 Symbols A2, 4-5 File Type A2, 7-8 2 characters, 10-12 Time System A3; 3, 6, 9 Unused
abbrev pub descriptor_items : List Item
descriptor_items =
    part_at 0 1 2 (fixed 4 (37 ∷ 99 ∷ []))
    ∷ column 3 unused
    ∷ columns 4 5 (letter file_types)
    ∷ column 6 unused
    ∷ columns 7 8 (cs 2)
    ∷ column 9 unused
    ∷ columns 10 12 (listed time_systems)
    ∷ later_characters

abbrev pub descriptor_from : ℕ → Values → Descriptor
descriptor_from fault vs = record { fault = fault; file_type = number_at vs 0; time_system = words_at vs 1 }

abbrev pub descriptor_values : Descriptor → Values
descriptor_values d = one d.file_type ∷ words d.time_system ∷ []

abbrev pub descriptor_of : List ℕ → Descriptor
descriptor_of line = descriptor_from (fault_of descriptor_items line) (values_of descriptor_items line)

unfoldable pub descriptor_line : Descriptor → List ℕ
descriptor_line d = ended (show_line descriptor_items (descriptor_values d))

-- the second `%c`: Columns 1-2 Symbols A2, 4-5 2 characters, 7-8 2 characters, 10-12 3 characters; 3, 6, 9 Unused
abbrev pub character_items : List Item
character_items =
    part_at 0 1 2 (fixed 4 (37 ∷ 99 ∷ []))
    ∷ column 3 unused
    ∷ columns 4 5 (cs 2)
    ∷ column 6 unused
    ∷ columns 7 8 (cs 2)
    ∷ column 9 unused
    ∷ columns 10 12 (cs 3)
    ∷ later_characters

-- both `%f` lines from column 27 on: 28-41 F14.11, 43-60 F18.15; 27, 42 Unused
abbrev pub later_floats : List Item
later_floats =
    column 27 unused
    ∷ columns 28 41 (zero_decimal 11)
    ∷ column 42 unused
    ∷ columns 43 60 (zero_decimal 15)
    ∷ columns 61 80 unused
    ∷ []

-- the first `%f`: Columns 1-2 Symbols A2, 4-13 Base for Pos/Vel F10.7, 15-26 Base for Clk/Rate F12.9; 3, 14 Unused. A base may be
-- whatever its columns hold
abbrev pub base_items : List Item
base_items =
    part_at 0 1 2 (fixed 4 (37 ∷ 102 ∷ []))
    ∷ column 3 unused
    ∷ columns 4 13 (decimal 7 0 max_place_base)
    ∷ column 14 unused
    ∷ columns 15 26 (decimal 9 0 max_clock_base)
    ∷ later_floats

abbrev pub base_from : ℕ → Values → BaseLine
base_from fault vs = record { fault = fault; bases = record { place = number_at vs 0; clock = number_at vs 1 } }

abbrev pub base_values : BaseLine → Values
base_values b = one b.bases.place ∷ one b.bases.clock ∷ []

abbrev pub base_of : List ℕ → BaseLine
base_of line = base_from (fault_of base_items line) (values_of base_items line)

unfoldable pub base_line : BaseLine → List ℕ
base_line b = ended (show_line base_items (base_values b))

-- the second `%f`: Columns 4-13 10-column float F10.7, 15-26 12-column float F12.9
abbrev pub float_items : List Item
float_items =
    part_at 0 1 2 (fixed 4 (37 ∷ 102 ∷ []))
    ∷ column 3 unused
    ∷ columns 4 13 (zero_decimal 7)
    ∷ column 14 unused
    ∷ columns 15 26 (zero_decimal 9)
    ∷ later_floats

-- `%i`: Columns 1-2 Symbols A2, 4-7, 9-12, 14-17, 19-22 4-column int I4, 24-29, 31-36, 38-43, 45-50 6-column int I6, 52-60 9-column int I9; 3,
-- 8, 13, 18, 23, 30, 37, 44, 51 Unused
abbrev pub integer_items : List Item
integer_items =
    part_at 0 1 2 (fixed 4 (37 ∷ 105 ∷ []))
    ∷ column 3 unused
    ∷ columns 4 7 zero_whole
    ∷ column 8 unused
    ∷ columns 9 12 zero_whole
    ∷ column 13 unused
    ∷ columns 14 17 zero_whole
    ∷ column 18 unused
    ∷ columns 19 22 zero_whole
    ∷ column 23 unused
    ∷ columns 24 29 zero_whole
    ∷ column 30 unused
    ∷ columns 31 36 zero_whole
    ∷ column 37 unused
    ∷ columns 38 43 zero_whole
    ∷ column 44 unused
    ∷ columns 45 50 zero_whole
    ∷ column 51 unused
    ∷ columns 52 60 zero_whole
    ∷ columns 61 80 unused
    ∷ []

-- a line that holds nothing is shown by no values
unfoldable pub fixed_line : List Item → List ℕ
fixed_line items = ended (show_line items [])
