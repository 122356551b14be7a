-- The refusal of a file as the front page says it. 01: "The first faulty line decides; in a line the lowest number"; 02: "Several faults of the deciding
-- number: the leftmost"; 1 "no LF is left before the file's EOF line is complete".
use Rattle.std.specs.Prelude.{◌≡◌, ◌⊎◌, List, false, ℕ, ◌+◌, ◌-◌, ◌≤◌, ◌<◌, length}
use Rattle.header.specs.declared.types.Rules.{Rules}
use Rattle.lines.specs.Lines.{lines_of, nth}
use Rattle.scan.specs.Run.{Going, at_first}
use Rattle.machine.specs.declared.types.Verdict.TheVariants as verdict
use Rattle.laws.specs.Texts.{is_printable}
use Rattle.scan_laws.specs.Earned.{NotBlank, WrongField, Failed, Earns, Decides, byte_at}
use Rattle.scan_laws.specs.Lines.{judged, GoOn, behind}

-- where one is after the first k lines of some bytes: the spot, the state and the identifiers
abbrev pub after : Rules → List ℕ → ℕ → Going
after rules bytes k = behind rules at_first (lines_of bytes) k

-- each of the first k lines is read without fault and does not end the file
abbrev pub AllGoOn : Rules → List ℕ → ℕ → Type 0
AllGoOn rules bytes k = GoOn rules at_first (lines_of bytes) k

-- a fault, by its number and its column, that line k, counted from 0, earns where it stands
abbrev pub Earned : Rules → List ℕ → ℕ → ℕ → ℕ → Type 0
Earned rules bytes k number column = Earns rules (after rules bytes k).state (after rules bytes k).identifiers (nth k (lines_of bytes)) number column

-- the fault that decides that line: of those that it earns the lowest number, and of that number the leftmost column
abbrev pub Decided : Rules → List ℕ → ℕ → ℕ → ℕ → Type 0
Decided rules bytes k number column = Decides rules (after rules bytes k).state (after rules bytes k).identifiers (nth k (lines_of bytes)) number column

-- it earns no fault, and does not end the file
pub record Passes (rules : Rules) (bytes : List ℕ) (k : ℕ) : Type 0 where
  pub clean : (number column : ℕ) → Earned rules bytes k number column → ⊥
  pub unended : judged rules (after rules bytes k) (nth k (lines_of bytes)) ≡ verdict.Finished → ⊥

-- the line is the first that earns a fault, and this is the fault that decides it; or the lines run out, which is 1
pub record FirstFault (rules : Rules) (bytes : List ℕ) (number line column : ℕ) : Type 0 where
  pub k : ℕ
  pub line-is : line ≡ k + 1
  pub passes : (i : ℕ) → i < k → Passes rules bytes i
  pub why : ((k ≡ length (lines_of bytes)) × (number ≡ 1) × (column ≡ 0)) ⊎ ((k < length (lines_of bytes)) × Decided rules bytes k number column)

-- the line of this number, counted from 1
abbrev pub refused_line : List ℕ → ℕ → List ℕ
refused_line bytes line = nth (line - 1) (lines_of bytes)

-- a column of a line whose byte is outside 32 to 126
abbrev pub Outside : List ℕ → ℕ → Type 0
Outside line column = (1 ≤ column) × (column ≤ length line) × (is_printable (byte_at column line) ≡ false)

-- a fault that the columns of a line have: an unused column that is not blank (5), a field with the column that it names, or year, month and day that are
-- no date within the bounds (7, column 4)
abbrev pub InColumns : Rules → List ℕ → ℕ → ℕ → ℕ → Type 0
InColumns rules bytes k number column =
    (NotBlank rules (after rules bytes k).state (nth k (lines_of bytes)) column × (number ≡ 5))
    ⊎ (WrongField rules (after rules bytes k).state (nth k (lines_of bytes)) number column
    ⊎ Failed rules (after rules bytes k).state (after rules bytes k).identifiers (nth k (lines_of bytes)) number column)
