-- What a line does at its place, and what the lines of some bytes do one after another. 01: "Readers go line by line. First they take plain
-- bytes and a place".
use Rattle.std.specs.Prelude.{◌≡◌, ℕ, ◌+◌, Bool, true, false, cond, List, [], ◌∷◌, length, drop, ◌==◌, nat_le}
use Rattle.laws.specs.Texts.{every, is_printable}
use Rattle.layout.specs.Fault.{key_number, column_of}
use Rattle.layout.specs.Line.{padded}
use Rattle.lines.specs.Lines.{lines_of}
use Rattle.record.specs.LineKinds.{kind_of, longest, satellites_kind}
use Rattle.header.specs.declared.types.Rules.{Rules}
use Rattle.record.specs.declared.types.LineKind.{LineKind}
use Rattle.machine.specs.State.{has_room, identifiers_joined}
use Rattle.machine.specs.Faults.{first_unprintable, standing_fault}
use Rattle.machine.specs.Next.{next_of}
use Rattle.machine.specs.declared.types.State.{State}
use Rattle.machine.specs.declared.types.Verdict.{Verdict}
use Rattle.machine.specs.declared.types.Verdict.TheVariants as verdict
use Rattle.machine.specs.declared.types.LineRead.{LineRead}
use Rattle.machine.specs.declared.types.LineRead.TheVariants as found

-- a fault by its key, or else what follows
unfoldable pub on_key : ℕ → Verdict → Verdict
on_key key next = cond (key == 0) next (verdict.Fault (key_number key) (column_of key))

-- a line that has only characters 32 to 126 and is not too long, by its kind
unfoldable pub judged_line : LineKind → Rules → State → List ℕ → List ℕ → Verdict
judged_line kind rules s identifiers line = on_key (standing_fault kind rules s identifiers line) (next_of kind rules s line)

-- a line of printable characters: 3 names the column after the last that it may have
unfoldable pub printed_line : LineKind → Rules → State → List ℕ → List ℕ → Verdict
printed_line kind rules s identifiers line =
    cond (nat_le (length line) (longest rules kind)) (judged_line kind rules s identifiers (padded line)) (verdict.Fault 3 (longest rules kind + 1))

-- what a line does
unfoldable pub step_of : Rules → State → List ℕ → List ℕ → Verdict
step_of rules s identifiers line =
    cond (every is_printable line) (printed_line (kind_of rules (padded line)) rules s identifiers line) (verdict.Fault 2 (first_unprintable line))

-- the identifiers after a line without fault: where a `+ ` line is due it brings some
unfoldable pub identifiers_brought : Rules → State → List ℕ → List ℕ → List ℕ
identifiers_brought rules s identifiers line = cond (s.due == satellites_kind) (identifiers_joined rules s identifiers (padded line)) identifiers

-- the identifiers after a line, by what it does; where there is no room for them `identifiers_joined` leaves the list as it was
abbrev pub kept_on : Verdict → Rules → State → List ℕ → List ℕ → List ℕ
kept_on (verdict.Fault number column) rules s identifiers line = identifiers
kept_on (verdict.Next s') rules s identifiers line = identifiers_brought rules s identifiers line
kept_on verdict.Finished rules s identifiers line = identifiers

unfoldable pub identifiers_kept : Rules → State → List ℕ → List ℕ → List ℕ
identifiers_kept rules s identifiers line = kept_on (step_of rules s identifiers line) rules s identifiers line

-- where a `+ ` line is due, the list has room for the identifiers that it brings; any other line needs none
abbrev pub finds_room : Rules → State → List ℕ → List ℕ → Bool
finds_room rules s identifiers line = cond (s.due == satellites_kind) (has_room rules s identifiers (padded line)) true

-- 12 where a line goes on and there is no room
abbrev pub if_room : Bool → Verdict → Verdict
if_room roomy (verdict.Fault number column) = verdict.Fault number column
if_room roomy (verdict.Next s) = cond roomy (verdict.Next s) (verdict.Fault 12 0)
if_room roomy verdict.Finished = verdict.Finished

-- what a line does where its identifiers are kept in a lent list. 01: 12 is "lent room is too small" and "comes after all other checks"
unfoldable pub step_within : Rules → State → List ℕ → List ℕ → Verdict
step_within rules s identifiers line = if_room (finds_room rules s identifiers line) (step_of rules s identifiers line)

-- what is found: a verdict at the byte after the line
abbrev pub read_as : Verdict → ℕ → LineRead
read_as (verdict.Fault number column) at = found.Fault number column
read_as (verdict.Next s) at = found.Next at s
read_as verdict.Finished at = found.Finished at

-- the first of the lines that are left, by what lines do
unfoldable pub read_first : (List ℕ → Verdict) → ℕ → List (List ℕ) → LineRead
read_first does at [] = found.NoLine
read_first does at (l ∷ ls) = read_as (does l) (at + length l + 1)

unfoldable pub identifiers_first : Rules → State → List ℕ → List (List ℕ) → List ℕ
identifiers_first rules s identifiers [] = identifiers
identifiers_first rules s identifiers (l ∷ ls) = identifiers_kept rules s identifiers l

-- the line of some bytes that begins at a byte, where the identifiers are known
abbrev pub line_known : Rules → List ℕ → ℕ → State → List ℕ → LineRead
line_known rules bytes at s identifiers = read_first (step_of rules s identifiers) at (lines_of (drop at bytes))

-- the same by the plain line reader, which keeps them in a lent list; and the list after it
abbrev pub line_read : Rules → List ℕ → ℕ → State → List ℕ → LineRead
line_read rules bytes at s identifiers = read_first (step_within rules s identifiers) at (lines_of (drop at bytes))

abbrev pub line_identifiers : Rules → List ℕ → ℕ → State → List ℕ → List ℕ
line_identifiers rules bytes at s identifiers = identifiers_first rules s identifiers (lines_of (drop at bytes))

-- the line at a byte brings more identifiers than fit: a `+ ` line is due there and has no fault, and the list has no room for those it brings
pub record Overfull (rules : Rules) (bytes : List ℕ) (at : ℕ) (s : State) (identifiers : List ℕ) : Type 0 where
  pub line : List ℕ
  pub after : List (List ℕ)
  pub stands : lines_of (drop at bytes) ≡ line ∷ after
  pub due : s.due ≡ satellites_kind
  pub next : State
  pub good : step_of rules s identifiers line ≡ verdict.Next next
  pub full : has_room rules s identifiers (padded line) ≡ false
