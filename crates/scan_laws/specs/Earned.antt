-- What a line earns where it stands: every fault of 01, "Numbers of the answers", with the column that 02, "Tell the column", gives it, each test by
-- itself. 01: "The first faulty line decides; in a line the lowest number." 02: "Several faults of the deciding number: the leftmost." The machine finds
-- that one fault in one pass; that it is this one is a law (proofs/Lowest).
use Rattle.std.specs.Prelude.{◌≡◌, ◌⊎◌, Bool, true, false, cond, not, ◌&&◌, ◌||◌, List, [], ◌∷◌, ℕ, ◌+◌, ◌-◌, ◌≤◌, ◌<◌, eqb, length, get_or, take}
use Rattle.laws.specs.Tests.{within}
use Rattle.laws.specs.Texts.{is_printable}
use Rattle.layout.specs.Fault.{key_number}
use Rattle.layout.specs.Kind.{is_unused, fault_in, identifier_code}
use Rattle.layout.specs.Layout.{Item, part_of}
use Rattle.layout.specs.Line.{padded}
use Rattle.record.specs.LineKinds.{kind_of, told_kind, longest, first_kind, epoch_kind}
use Rattle.record.specs.Opening.{first_items, first_of, second_items, second_of, epoch_items, epoch_of}
use Rattle.record.specs.SlotLines.{satellite_items, count_in, more_items}
use Rattle.record.specs.Descriptors.{descriptor_items, descriptor_of, character_items, base_items, float_items, integer_items}
use Rattle.record.specs.Plain.{comment_items, end_items}
use Rattle.record.specs.Notes.{correlation_items}
use Rattle.record.specs.Rows.{row_items, cut}
use Rattle.calendar.specs.Gregorian.{is_date}
use Rattle.header.specs.declared.types.Moment.{Moment}
use Rattle.header.specs.declared.types.Rules.{Rules}
use Rattle.record.specs.declared.types.LineKind.{LineKind}
use Rattle.record.specs.declared.types.LineKind.TheVariants as kind
use Rattle.record.specs.Agrees.{instant_in, second_agrees, type_agrees}
use Rattle.machine.specs.State.{stands, identifier_due, is_first}
use Rattle.machine.specs.Faults.{names_again}
use Rattle.machine.specs.declared.types.State.{State}

-- one of some things
abbrev pub Among : {A : Type 0} → A → List A → Type 0
Among x [] = ⊥
Among x (y ∷ ys) = (x ≡ y) ⊎ Among x ys

-- The columns of a line, as the record of its kind lists them here:
abbrev pub items_at : LineKind → Rules → State → List ℕ → List Item
items_at kind.Other rules s line = []
items_at kind.First rules s line = first_items rules
items_at kind.Second rules s line = second_items
items_at kind.Satellites rules s line = cond (is_first s) (satellite_items rules (count_in rules line)) (more_items false s.left)
items_at kind.Accuracies rules s line = more_items true s.left
items_at kind.Characters rules s line = cond (eqb s.lines 2) descriptor_items character_items
items_at kind.Floats rules s line = cond (eqb s.lines 2) base_items float_items
items_at kind.Integers rules s line = integer_items
items_at kind.Comment rules s line = comment_items
items_at kind.Epoch rules s line = epoch_items
items_at kind.Position rules s line = row_items false
items_at kind.Velocity rules s line = row_items true
items_at kind.PositionCorrelation rules s line = correlation_items false
items_at kind.VelocityCorrelation rules s line = correlation_items true
items_at kind.EndOfFile rules s line = end_items

-- a test that a line must pass besides, and the number and column that it earns where it does not
pub record Check : Type 0 where
  pub passes : Bool
  pub number : ℕ
  pub column : ℕ

abbrev pub must : Bool → ℕ → ℕ → Check
must passes number column = record { passes = passes; number = number; column = column }

-- year, month and day are a date within the bounds: else 7, which names column 4
abbrev pub must_be_date : Moment → Check
must_be_date m = must (is_date m.year m.month m.day) 7 4

-- a row names the satellite that the header has here
abbrev pub must_name : State → List ℕ → List ℕ → Check
must_name s identifiers line = must (eqb (identifier_code (cut 2 4 line)) (identifier_due s identifiers)) 10 0

-- the tests of a line of 80 columns, by its kind
abbrev pub checks_at : LineKind → Rules → State → List ℕ → List ℕ → List Check
checks_at kind.Other rules s identifiers line = must false 4 0 ∷ []
checks_at kind.First rules s identifiers line = must_be_date (first_of rules line).start ∷ []
checks_at kind.Second rules s identifiers line = must (second_agrees s.at8 (second_of line)) 8 0 ∷ []
checks_at kind.Satellites rules s identifiers line = must (not (names_again rules s identifiers line)) 8 0 ∷ []
checks_at kind.Accuracies rules s identifiers line = []
checks_at kind.Characters rules s identifiers line =
    cond (eqb s.lines 2) (must (type_agrees (descriptor_of line).file_type (take s.satellites identifiers)) 8 0 ∷ []) []
checks_at kind.Floats rules s identifiers line = []
checks_at kind.Integers rules s identifiers line = []
checks_at kind.Comment rules s identifiers line = []
checks_at kind.Epoch rules s identifiers line =
    must_be_date (epoch_of line).moment ∷ must (eqb (instant_in (epoch_of line).moment) (s.at8 + s.gap8)) 9 0 ∷ []
checks_at kind.Position rules s identifiers line = must_name s identifiers line ∷ []
checks_at kind.Velocity rules s identifiers line = must_name s identifiers line ∷ []
checks_at kind.PositionCorrelation rules s identifiers line = []
checks_at kind.VelocityCorrelation rules s identifiers line = []
checks_at kind.EndOfFile rules s identifiers line = []

abbrev pub kind_at : Rules → List ℕ → LineKind
kind_at rules line = kind_of rules (padded line)

-- the byte in a column, counted from 1; past the end a blank
abbrev pub byte_at : ℕ → List ℕ → ℕ
byte_at column line = get_or line (column - 1) 32

-- the number that the bytes of a field earn by themselves, 0 for none
abbrev pub field_number : Item → List ℕ → ℕ
field_number item line = key_number (fault_in item.kind 0 (part_of item line))

-- year, month and day stand in columns 4 to 13 of `#d` and `* ` lines
abbrev pub in_date : LineKind → ℕ → Bool
in_date kind column = (eqb (told_kind kind) first_kind || eqb (told_kind kind) epoch_kind) && within 4 13 column

-- The column that a field's fault names. 02: "for 5 the unused column or the placeholder's first, the field's first column for 6 and 7 (column 4 for any
-- fault of year, month or day), otherwise 0".
abbrev pub field_column : LineKind → Item → ℕ → ℕ
field_column kind item number = cond (within 5 7 number) (cond (in_date kind item.first) 4 item.first) 0

-- an unused column of its record that is not blank
pub record NotBlank (rules : Rules) (s : State) (line : List ℕ) (column : ℕ) : Type 0 where
  pub item : Item
  pub listed : Among item (items_at (kind_at rules line) rules s (padded line))
  pub unused : is_unused item.kind ≡ true
  pub from : item.first ≤ column
  pub to : column ≤ item.last
  pub filled : eqb (byte_at column (padded line)) 32 ≡ false

-- a field of its record whose bytes earn this number, and the column that it names
pub record WrongField (rules : Rules) (s : State) (line : List ℕ) (number column : ℕ) : Type 0 where
  pub item : Item
  pub listed : Among item (items_at (kind_at rules line) rules s (padded line))
  pub used : is_unused item.kind ≡ false
  pub some : 0 < number
  pub earned : number ≡ field_number item (padded line)
  pub names : column ≡ field_column (kind_at rules line) item number

-- a test that it does not pass
pub record Failed (rules : Rules) (s : State) (identifiers line : List ℕ) (number column : ℕ) : Type 0 where
  pub check : Check
  pub asked : Among check (checks_at (kind_at rules line) rules s identifiers (padded line))
  pub fails : check.passes ≡ false
  pub earned : number ≡ check.number
  pub names : column ≡ check.column

-- The faults that a line earns, each by its number and its column: 2 by a byte outside 32 to 126, at that byte; 3 by its length, at the first column too
-- many; 4 by its kind, which may not stand here; 5 by an unused column, at that column; 5 to 8 by a field; 7 to 10 by a test.
pub data Earns (rules : Rules) (s : State) (identifiers line : List ℕ) (number column : ℕ) : Type 0 where
  by_byte : 1 ≤ column → column ≤ length line → is_printable (byte_at column line) ≡ false → number ≡ 2 → Earns rules s identifiers line number column
  by_length : longest rules (kind_at rules line) < length line → number ≡ 3 → column ≡ longest rules (kind_at rules line) + 1
      → Earns rules s identifiers line number column
  by_kind : stands s (kind_at rules line) ≡ false → number ≡ 4 → column ≡ 0 → Earns rules s identifiers line number column
  by-unused : NotBlank rules s line column → number ≡ 5 → Earns rules s identifiers line number column
  by_field : WrongField rules s line number column → Earns rules s identifiers line number column
  by-check : Failed rules s identifiers line number column → Earns rules s identifiers line number column

-- the lower number; of the same number the column that is not further right
abbrev pub Before : ℕ → ℕ → ℕ → ℕ → Type 0
Before number column m e = (number < m) ⊎ ((number ≡ m) × (column ≤ e))

-- The fault that decides a line: one that it earns, and before every other that it earns.
pub record Decides (rules : Rules) (s : State) (identifiers line : List ℕ) (number column : ℕ) : Type 0 where
  pub earned : Earns rules s identifiers line number column
  pub before : (m e : ℕ) → Earns rules s identifiers line m e → Before number column m e
