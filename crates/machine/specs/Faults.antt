-- The fault of a line at its place. 01, "The first faulty line decides; in a line the lowest number": 2, 3, 4, then what the columns of its
-- record earn (5 to 8), then 8, 9 and 10 against header and start. A fault is a key of number and column (layout, Fault); that of 2 may lie
-- far past column 80 and is told as two numbers.
use Rattle.std.specs.Prelude.{ℕ, suc, ◌+◌, Bool, true, false, cond, not, List, [], ◌∷◌, take, ◌==◌}
use Rattle.laws.specs.Texts.{is_printable}
use Rattle.layout.specs.Fault.{keyed, lower}
use Rattle.layout.specs.Kind.{unless, identifier_code}
use Rattle.layout.specs.Layout.{fault_of}
use Rattle.record.specs.Opening.{first_of, second_of, epoch_of}
use Rattle.record.specs.SlotLines.{satellites_of, more_of}
use Rattle.record.specs.Descriptors.{descriptor_of, character_items, base_of, float_items, integer_items}
use Rattle.record.specs.Plain.{comment_items, end_items}
use Rattle.record.specs.Notes.{correlation_items}
use Rattle.record.specs.Rows.{row_fault, cut}
use Rattle.header.specs.declared.types.Rules.{Rules}
use Rattle.record.specs.declared.types.LineKind.{LineKind}
use Rattle.record.specs.declared.types.LineKind.TheVariants as kind
use Rattle.record.specs.Agrees.{instant_in, second_agrees, repeats, type_agrees}
use Rattle.machine.specs.State.{stands, known_identifiers, identifier_due, is_first, identifiers_in}
use Rattle.machine.specs.declared.types.State.{State}

-- the column of the first byte outside 32 to 126; where there is none, which is no fault, the length of the line
unfoldable pub first_unprintable : List ℕ → ℕ
first_unprintable [] = 0
first_unprintable (b ∷ bs) = cond (is_printable b) (suc (first_unprintable bs)) 1

-- line 2 agrees with the start
unfoldable pub second_fault : State → List ℕ → ℕ
second_fault s line = lower (second_of line).fault (unless (second_agrees s.at8 (second_of line)) 8 0)

-- the fault of the columns of a `+ ` line: the first, or a further one
abbrev pub slots_fault : Rules → State → List ℕ → ℕ
slots_fault rules s line = cond (is_first s) (satellites_of rules line).fault (more_of false s.left line).fault

-- it names an identifier again that stands before in it or in the lines before
abbrev pub names_again : Rules → State → List ℕ → List ℕ → Bool
names_again rules s identifiers line = repeats (known_identifiers s identifiers) (identifiers_in rules s line)

-- a `+ ` line: no identifier repeats
unfoldable pub satellites_fault : Rules → State → List ℕ → List ℕ → ℕ
satellites_fault rules s identifiers line = lower (slots_fault rules s line) (unless (not (names_again rules s identifiers line)) 8 0)

-- the first `%c` agrees with the identifiers; the second has placeholders alone
unfoldable pub characters_fault : State → List ℕ → List ℕ → ℕ
characters_fault s identifiers line =
    cond (s.lines == 2)
    (lower (descriptor_of line).fault (unless (type_agrees (descriptor_of line).file_type (take s.satellites identifiers)) 8 0))
    (fault_of character_items line)

-- the first `%f` has the bases; the second has placeholders alone
unfoldable pub floats_fault : State → List ℕ → ℕ
floats_fault s line = cond (s.lines == 2) (base_of line).fault (fault_of float_items line)

-- an epoch stands at its instant: the start, then an interval after the epoch before
unfoldable pub epoch_fault : State → List ℕ → ℕ
epoch_fault s line = lower (epoch_of line).fault (unless (instant_in (epoch_of line).moment == s.at8 + s.gap8) 9 0)

-- a P or V line names the satellite that the header has here
unfoldable pub named_fault : Bool → State → List ℕ → List ℕ → ℕ
named_fault velocity s identifiers line = lower (row_fault velocity line) (unless (identifier_code (cut 2 4 line) == identifier_due s identifiers) 10 0)

-- the fault of a line of 80 columns, by its kind
abbrev pub record_fault : LineKind → Rules → State → List ℕ → List ℕ → ℕ
record_fault kind.Other rules s identifiers line = keyed 4 0
record_fault kind.First rules s identifiers line = (first_of rules line).fault
record_fault kind.Second rules s identifiers line = second_fault s line
record_fault kind.Satellites rules s identifiers line = satellites_fault rules s identifiers line
record_fault kind.Accuracies rules s identifiers line = (more_of true s.left line).fault
record_fault kind.Characters rules s identifiers line = characters_fault s identifiers line
record_fault kind.Floats rules s identifiers line = floats_fault s line
record_fault kind.Integers rules s identifiers line = fault_of integer_items line
record_fault kind.Comment rules s identifiers line = fault_of comment_items line
record_fault kind.Epoch rules s identifiers line = epoch_fault s line
record_fault kind.Position rules s identifiers line = named_fault false s identifiers line
record_fault kind.Velocity rules s identifiers line = named_fault true s identifiers line
record_fault kind.PositionCorrelation rules s identifiers line = fault_of (correlation_items false) line
record_fault kind.VelocityCorrelation rules s identifiers line = fault_of (correlation_items true) line
record_fault kind.EndOfFile rules s identifiers line = fault_of end_items line

-- the fault of a line of 80 columns where it stands: 4 where its kind may not stand here
unfoldable pub standing_fault : LineKind → Rules → State → List ℕ → List ℕ → ℕ
standing_fault kind rules s identifiers line = cond (stands s kind) (record_fault kind rules s identifiers line) (keyed 4 0)
