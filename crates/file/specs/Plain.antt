-- An accepted file said without the machine: the records 1 to 10 of 01 in their order, with their counts and conditions.
use Rattle.std.specs.Prelude.{Bool, true, false, ◌&&◌, List, [], ◌∷◌, ◌++◌, map, ◌≡◌, ℕ, zero, suc, ◌+◌, ◌-◌, ◌≤◌, eqb, leb, length, take}
use Rattle.laws.specs.Tests.{within}
use Rattle.laws.specs.Texts.{every, is_printable}
use Rattle.header.specs.Rules.{slot_lines, max_satellites}
use Rattle.layout.specs.Kind.{identifier_code}
use Rattle.layout.specs.Layout.{fault_of}
use Rattle.layout.specs.Line.{padded}
use Rattle.lines.specs.Lent.{flat}
use Rattle.lines.specs.Lines.{join_lines}
use Rattle.record.specs.LineKinds.{told_kind, longest}
use Rattle.record.specs.Opening.{first_of, second_of, epoch_of}
use Rattle.record.specs.SlotLines.{satellites_of, more_of}
use Rattle.record.specs.Descriptors.{descriptor_of, character_items, base_of, float_items, integer_items}
use Rattle.record.specs.Plain.{comment_items, end_items}
use Rattle.record.specs.Rows.{row_fault, cut}
use Rattle.record.specs.Notes.{note_fault}
use Rattle.record.specs.Agrees.{instant_in, second_agrees, repeats, type_agrees}
use Rattle.header.specs.declared.types.Rules.{Rules}
use Rattle.record.specs.declared.types.LineKind.{LineKind}
use Rattle.record.specs.declared.types.LineKind.TheVariants as kind
use Rattle.file.specs.Kinds.{is_kind}
use Rattle.file.specs.Table.{slot_numbers}

-- a line of a kind: characters 32 to 126, no more of them than it may have, and its symbol
abbrev pub is_line : Rules → LineKind → List ℕ → Bool
is_line rules kind l = every is_printable l && (leb (length l) (longest rules kind) && is_kind rules (told_kind kind) l)

-- such a line whose columns have no fault
abbrev pub is_record : Rules → LineKind → ℕ → List ℕ → Bool
is_record rules kind fault l = is_line rules kind l && eqb fault 0

-- every line passes the test
unfoldable pub every_line : (List ℕ → Bool) → List (List ℕ) → Bool
every_line test [] = true
every_line test (l ∷ ls) = test l && every_line test ls

-- 1: `#d`
abbrev pub is_first_line : Rules → List ℕ → Bool
is_first_line rules l = is_record rules kind.First (first_of rules (padded l)).fault l

-- 2: `##`, which agrees with the start
abbrev pub is_second_line : Rules → ℕ → List ℕ → Bool
is_second_line rules start8 l =
    is_record rules kind.Second (second_of (padded l)).fault l && second_agrees start8 (second_of (padded l))

-- 3: the first `+ `, which has the number of satellites
abbrev pub is_count_line : Rules → List ℕ → Bool
is_count_line rules l = is_record rules kind.Satellites (satellites_of rules (padded l)).fault l

-- 3 and 4: further `+ ` lines, or `++` lines, with the slots of so many satellites
abbrev pub slots_of_kind : Bool → LineKind
slots_of_kind true = kind.Accuracies
slots_of_kind false = kind.Satellites

unfoldable pub are_slots : Rules → Bool → ℕ → List (List ℕ) → Bool
are_slots rules accuracies left [] = true
are_slots rules accuracies left (l ∷ ls) =
    is_record rules (slots_of_kind accuracies) (more_of accuracies left (padded l)).fault l && are_slots rules accuracies (left - 17) ls

-- the identifiers of n satellites in some `+ ` lines
abbrev pub slot_identifiers : ℕ → List (List ℕ) → List ℕ
slot_identifiers n lines = take n (flat (map (slot_numbers false) lines))

-- 5: the first `%c`, whose file type agrees with the identifiers, and the second
abbrev pub is_descriptor_line : Rules → List ℕ → List ℕ → Bool
is_descriptor_line rules identifiers l =
    is_record rules kind.Characters (descriptor_of (padded l)).fault l && type_agrees (descriptor_of (padded l)).file_type identifiers

abbrev pub is_characters_line : Rules → List ℕ → Bool
is_characters_line rules l = is_record rules kind.Characters (fault_of character_items (padded l)) l

-- 6: the first `%f`, which has the bases, and the second; `%i`
abbrev pub is_bases_line : Rules → List ℕ → Bool
is_bases_line rules l = is_record rules kind.Floats (base_of (padded l)).fault l

abbrev pub is_floats_line : Rules → List ℕ → Bool
is_floats_line rules l = is_record rules kind.Floats (fault_of float_items (padded l)) l

abbrev pub is_integers_line : Rules → List ℕ → Bool
is_integers_line rules l = is_record rules kind.Integers (fault_of integer_items (padded l)) l

-- 7: a comment
abbrev pub is_comment_line : Rules → List ℕ → Bool
is_comment_line rules l = is_record rules kind.Comment (fault_of comment_items (padded l)) l

-- 8: an epoch that stands at this instant
abbrev pub is_epoch_line : Rules → ℕ → List ℕ → Bool
is_epoch_line rules at8 l =
    is_record rules kind.Epoch (epoch_of (padded l)).fault l && eqb (instant_in (epoch_of (padded l)).moment) at8

-- 9: a P or V line that names this satellite
abbrev pub row_kind : Bool → LineKind
row_kind true = kind.Velocity
row_kind false = kind.Position

abbrev pub is_row_line : Rules → Bool → ℕ → List ℕ → Bool
is_row_line rules velocity identifier l =
    is_record rules (row_kind velocity) (row_fault velocity (padded l)) l && eqb (identifier_code (cut 2 4 (padded l))) identifier

-- an EP line, or an EV line
abbrev pub note_kind : Bool → LineKind
note_kind true = kind.VelocityCorrelation
note_kind false = kind.PositionCorrelation

abbrev pub is_note_line : Rules → Bool → List ℕ → Bool
is_note_line rules velocity l = is_record rules (note_kind velocity) (note_fault velocity (padded l)) l

-- one of them at most
abbrev pub are_notes : Rules → Bool → List (List ℕ) → Bool
are_notes rules velocity ls = leb (length ls) 1 && every_line (is_note_line rules velocity) ls

-- P or V with what may stand after it
pub record Noted (rules : Rules) (velocity : Bool) (identifier : ℕ) (lines : List (List ℕ)) : Type 0 where
  pub row : List ℕ
  pub notes : List (List ℕ)
  pub lines_are : lines ≡ row ∷ notes
  pub is-row : is_row_line rules velocity identifier row ≡ true
  pub are-notes : are_notes rules velocity notes ≡ true

-- what follows in mode V: V; in mode P nothing
abbrev pub Rest : Rules → Bool → ℕ → List (List ℕ) → Type 0
Rest rules true identifier lines = Noted rules true identifier lines
Rest rules false identifier lines = lines ≡ []

-- the lines of one satellite in an epoch: P; in mode V then V
pub record Satellite (rules : Rules) (velocity : Bool) (identifier : ℕ) (lines : List (List ℕ)) : Type 0 where
  pub position : List (List ℕ)
  pub rest : List (List ℕ)
  pub lines_are : lines ≡ position ++ rest
  pub is-position : Noted rules false identifier position
  pub is-rest : Rest rules velocity identifier rest

-- the lines of each satellite in header order
abbrev pub Rows : Rules → Bool → List ℕ → List (List ℕ) → Type 0
Rows rules velocity [] lines = lines ≡ []
Rows rules velocity (identifier ∷ identifiers) lines =
    (own : List (List ℕ)) × (more : List (List ℕ)) × (lines ≡ own ++ more) × Satellite rules velocity identifier own × Rows rules velocity identifiers more

-- so many epochs, the first of them at this instant, each an interval after the one before
abbrev pub Epochs : Rules → Bool → List ℕ → ℕ → ℕ → ℕ → List (List ℕ) → Type 0
Epochs rules velocity identifiers interval8 zero at8 lines = lines ≡ []
Epochs rules velocity identifiers interval8 (suc n) at8 lines =
    (epoch : List ℕ)
    × (rows : List (List ℕ))
    × (more : List (List ℕ))
    × (lines ≡ epoch ∷ (rows ++ more))
    × (is_epoch_line rules at8 epoch ≡ true)
    × Rows rules velocity identifiers rows
    × Epochs rules velocity identifiers interval8 n (at8 + interval8) more

-- 10: EOF
abbrev pub is_last_line : Rules → List ℕ → Bool
is_last_line rules l = is_record rules kind.EndOfFile (fault_of end_items (padded l)) l

-- the lines of an accepted file, each with its number of 01, "Records in order"
pub record Plain (rules : Rules) (lines : List (List ℕ)) : Type 0 where
  -- 1: `#d`
  pub first : List ℕ
  -- 2: `##`
  pub second : List ℕ
  -- 3: the first `+ ` line, and the further ones
  pub count : List ℕ
  pub slots : List (List ℕ)
  -- 4: the `++` lines
  pub accuracies : List (List ℕ)
  -- 5: the first `%c`, and the second
  pub descriptor : List ℕ
  pub characters : List ℕ
  -- 6: the first `%f`, and the second; the two `%i`
  pub bases : List ℕ
  pub floats : List ℕ
  pub integers : List ℕ
  pub integers' : List ℕ
  -- 7: the comments
  pub comments : List (List ℕ)
  -- 8 and 9: the epochs, each with its rows
  pub epochs : List (List ℕ)
  -- 10: EOF
  pub last : List ℕ
  -- 1 to 10 in this order
  pub lines_are :
      lines
      ≡ first
      ∷ second
      ∷ count
      ∷ (slots
      ++ (accuracies
      ++ (descriptor ∷ characters ∷ bases ∷ floats ∷ integers ∷ integers' ∷ (comments ++ (epochs ++ (last ∷ []))))))
  -- 1
  pub is-first : is_first_line rules first ≡ true
  -- 2: it agrees with the start
  pub is-second : is_second_line rules (instant_in (first_of rules (padded first)).start) second ≡ true
  -- 3: as many lines as n asks for, the identifiers all different
  pub is-count : is_count_line rules count ≡ true
  pub are-slots : are_slots rules false ((satellites_of rules (padded count)).count - 17) slots ≡ true
  pub slots-many : suc (length slots) ≡ slot_lines (satellites_of rules (padded count)).count
  pub all-different : repeats [] (slot_identifiers (satellites_of rules (padded count)).count (count ∷ slots)) ≡ false
  -- 4: as many lines again
  pub are-accuracies : are_slots rules true (satellites_of rules (padded count)).count accuracies ≡ true
  pub accuracies-many : length accuracies ≡ slot_lines (satellites_of rules (padded count)).count
  -- 5: the file type agrees with the identifiers
  pub is-descriptor : is_descriptor_line rules (slot_identifiers (satellites_of rules (padded count)).count (count ∷ slots)) descriptor ≡ true
  pub is-characters : is_characters_line rules characters ≡ true
  -- 6
  pub is-bases : is_bases_line rules bases ≡ true
  pub is-floats : is_floats_line rules floats ≡ true
  pub is-integers : is_integers_line rules integers ≡ true
  pub is-integers' : is_integers_line rules integers' ≡ true
  -- 7: as many as the version asks for and allows
  pub are-comments : every_line (is_comment_line rules) comments ≡ true
  pub comments-many : within rules.fewest_comments rules.most_comments (length comments) ≡ true
  -- 8 and 9: as many epochs as line 1 says, from the start on, each an interval after the one before
  pub are-epochs :
      Epochs
      rules
      (eqb (first_of rules (padded first)).mode 86)
      (slot_identifiers (satellites_of rules (padded count)).count (count ∷ slots))
      (second_of (padded second)).interval8
      (first_of rules (padded first)).epochs
      (instant_in (first_of rules (padded first)).start)
      epochs
  -- 10
  pub is_last : is_last_line rules last ≡ true

-- the bytes of an accepted file
abbrev pub Accepted : Rules → List ℕ → Type 0
Accepted rules bytes = (lines : List (List ℕ)) × (bytes ≡ join_lines lines) × Plain rules lines

-- rules that a version can have: room for its identifiers, and no fewer comments at most than at least
pub record Sound (rules : Rules) : Type 0 where
  pub identifiers-fit : rules.most_satellites ≤ max_satellites
  pub comments-fit : rules.fewest_comments ≤ rules.most_comments
