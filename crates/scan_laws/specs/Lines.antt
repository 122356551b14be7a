-- Line by line: where one is after the first k lines of a file, and what the line reader does there. 01: "Readers go line by line"; "each step's place
-- and state are defined by the records read so far".
use Rattle.std.specs.Prelude.{◌≡◌, List, ℕ, ◌+◌, ◌≤◌, ◌<◌, length, take}
use Rattle.lines.specs.Lines.{lines_of, join_lines, bytes_in, nth}
use Rattle.header.specs.declared.types.Rules.{Rules}
use Rattle.machine.specs.Step.{step_of, identifiers_kept, read_as, line_read, line_identifiers}
use Rattle.machine.specs.declared.types.State.{State}
use Rattle.machine.specs.declared.types.Verdict.{Verdict}
use Rattle.machine.specs.declared.types.Verdict.TheVariants as verdict
use Rattle.machine.specs.declared.types.LineRead.TheVariants as found
use Rattle.scan.specs.Run.{Going, stepped_over}

-- what the machine says of a line
abbrev pub judged : Rules → Going → List ℕ → Verdict
judged rules g l = step_of rules g.state g.identifiers l

-- the line is read without fault, and the file goes on after it
abbrev pub GoesOn : Rules → Going → List ℕ → Type 0
GoesOn rules g l = (s : State) × (judged rules g l ≡ verdict.Next s)

-- where one is after the first k lines
abbrev pub behind : Rules → Going → List (List ℕ) → ℕ → Going
behind rules g ls k = stepped_over rules g (take k ls)

-- each of the first k lines goes on
abbrev pub GoOn : Rules → Going → List (List ℕ) → ℕ → Type 0
GoOn rules g ls k = (i : ℕ) → i < k → GoesOn rules (behind rules g ls i) (nth i ls)

-- What the line reader does after k lines of some bytes: it stands behind them, and reads the next.
pub record Stands (rules : Rules) (bytes : List ℕ) (k : ℕ) (g : Going) : Type 0 where
  pub spot : g.at ≡ bytes_in (take k (lines_of bytes))
  pub joined : g.at ≡ length (join_lines (take k (lines_of bytes)))
  pub reads :
      k < length (lines_of bytes)
      → line_read rules bytes g.at g.state g.identifiers
      ≡ read_as (step_of rules g.state g.identifiers (nth k (lines_of bytes))) (g.at + length (nth k (lines_of bytes)) + 1)
  pub keeps :
      k < length (lines_of bytes) → line_identifiers rules bytes g.at g.state g.identifiers ≡ identifiers_kept rules g.state g.identifiers (nth k (lines_of bytes))
  pub ends : length (lines_of bytes) ≤ k → line_read rules bytes g.at g.state g.identifiers ≡ found.NoLine
