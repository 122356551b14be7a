-- The lines of satellites: identifiers (`+ `) and accuracies (`++`), 17 slots to a line. 01, "Records in order", 3 and 4: "slots after n hold
-- `  0`"; "In both kinds anything else after n is 8 and not 6". 000, lines three to eleven and twelve to twenty.
use Rattle.std.specs.Prelude.{Bool, true, false, List, [], ◌∷◌, ◌++◌, ℕ}
use Rattle.layout.specs.Kind.{Kind, number_in}
use Rattle.layout.specs.Kind.Kind.{unused, fixed, whole, identifier}
use Rattle.layout.specs.Kind.Held.{one}
use Rattle.layout.specs.Layout.{Item, Values, columns, column, part_at, held_at, fault_from, fault_of, values_of, show_line, slots_from, numbers_of, ones_of}
use Rattle.layout.specs.Line.{ended}
use Rattle.header.specs.declared.types.Rules.{Rules}
use Rattle.record.specs.declared.types.Satellites.{Satellites}
use Rattle.record.specs.declared.types.Slots.{Slots}

-- the largest accuracy exponent of a header: three columns hold no more
abbrev pub max_accuracy : ℕ
max_accuracy = 999

-- a slot of a satellite: its accuracy exponent, I3, or its identifier, A1,I2.2
abbrev pub slot_kind : Bool → Kind
slot_kind true = whole 0 max_accuracy
slot_kind false = identifier

-- columns 10 to 60: 17 slots, of which the first `left` are of satellites
abbrev pub slot_items : Bool → ℕ → List Item
slot_items accuracies left = slots_from (slot_kind accuracies) 17 left 10

-- the slots of a line, read after a fault found before
abbrev pub slots_after : Bool → ℕ → ℕ → List ℕ → Slots
slots_after accuracies left lowest line = record {
  fault = fault_from lowest (slot_items accuracies left) line;
  values = numbers_of (values_of (slot_items accuracies left) line);
}

-- the first `+ `: Columns 1-2 Symbols A2, 4-6 Number of Sats I3, 10-60 Sat Ids; 3, 7-9 Unused
abbrev pub count_item : Rules → Item
count_item rules = columns 4 6 (whole 1 rules.most_satellites)

abbrev pub satellite_items : Rules → ℕ → List Item
satellite_items rules n =
    part_at 0 1 2 (fixed 4 (43 ∷ 32 ∷ []))
    ∷ column 3 unused
    ∷ count_item rules
    ∷ columns 7 9 unused
    ∷ (slot_items false n ++ (columns 61 80 unused ∷ []))

-- the entries are the number and then the slots
abbrev pub satellites_from : ℕ → Values → Satellites
satellites_from fault [] = record { fault = fault; count = 0; identifiers = [] }
satellites_from fault (n ∷ vs) = record { fault = fault; count = number_in n; identifiers = numbers_of vs }

-- the number of satellites that a line says, 0 where it is malformed
abbrev pub count_in : Rules → List ℕ → ℕ
count_in rules line = number_in (held_at (count_item rules) line)

-- the number that the line itself has decides which of its slots are of satellites
abbrev pub satellites_of : Rules → List ℕ → Satellites
satellites_of rules line =
    satellites_from (fault_of (satellite_items rules (count_in rules line)) line) (values_of (satellite_items rules (count_in rules line)) line)

abbrev pub satellites_values : Satellites → Values
satellites_values s = one s.count ∷ ones_of s.identifiers

unfoldable pub satellites_line : Rules → Satellites → List ℕ
satellites_line rules s = ended (show_line (satellite_items rules s.count) (satellites_values s))

-- the symbol of a further line: `++` of accuracies, `+ ` of identifiers
abbrev pub slot_symbol : Bool → List ℕ
slot_symbol true = 43 ∷ 43 ∷ []
slot_symbol false = 43 ∷ 32 ∷ []

-- the fault of a line that has another
abbrev pub symbol_fault : Bool → List ℕ → ℕ
symbol_fault accuracies line = fault_of (part_at 0 1 2 (fixed 4 (slot_symbol accuracies)) ∷ []) line

-- a further `+ ` line, and every `++` line: Columns 1-2 Symbols A2, 3-9 Unused, 10-60 the slots of what is left of the satellites
abbrev pub more_items : Bool → ℕ → List Item
more_items accuracies left =
    part_at 0 1 2 (fixed 4 (slot_symbol accuracies)) ∷ columns 3 9 unused ∷ (slot_items accuracies left ++ (columns 61 80 unused ∷ []))

abbrev pub more_from : ℕ → Values → Slots
more_from fault vs = record { fault = fault; values = numbers_of vs }

abbrev pub more_of : Bool → ℕ → List ℕ → Slots
more_of accuracies left line = more_from (fault_of (more_items accuracies left) line) (values_of (more_items accuracies left) line)

unfoldable pub more_line : Bool → ℕ → Slots → List ℕ
more_line accuracies left s = ended (show_line (more_items accuracies left) (ones_of s.values))
