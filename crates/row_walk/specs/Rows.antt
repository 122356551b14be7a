-- A walk over the rows of a file. 01: "afterwards a walker that holds the file's bytes and its place serves the adjustment's loop"; "The adjustment asks
-- for a row of an accepted file and gets its three coordinates and the clock as f64 in the same units, exactly, or the word absent in place of either;
-- in mode V too this is the P row."
use Rattle.std.specs.Prelude.{ℕ, ◌+◌, ◌/◌, ◌%◌, ◌^◌, false, cond, List, [], ◌∷◌, length, take, drop, ◌==◌}
use Rattle.lines.specs.Lines.{lines_of}
use Rattle.record.specs.Rows.{row_of}
use Rattle.record.specs.LineKinds.{position_kind}
use Rattle.file.specs.Kinds.{is_kind}
use Rattle.machine.specs.Step.{step_of, line_known}
use Rattle.float_row.specs.Floats.{float_row, absent_row, line_from}
use Rattle.line_walk.specs.Spots.{first_spot, gone_to}
use Rattle.header.specs.declared.types.Rules.{Rules}
use Rattle.machine.specs.declared.types.State.{State}
use Rattle.machine.specs.declared.types.Verdict.{Verdict}
use Rattle.machine.specs.declared.types.Verdict.TheVariants as verdict
use Rattle.machine.specs.declared.types.LineRead.{LineRead}
use Rattle.machine.specs.declared.types.LineRead.TheVariants as found
use Rattle.float_row.specs.declared.FloatRow.{FloatRow}
use Rattle.line_walk.specs.declared.Spot.{Spot}
use Rattle.row_walk.specs.declared.types.RowWalk.{RowWalk}
use Rattle.row_walk.specs.declared.types.RowStep.{RowStep}
use Rattle.row_walk.specs.declared.types.RowStep.TheVariants as step

-- before the first line, no row passed
abbrev pub first_walk : RowWalk
first_walk = record { spot = first_spot; passed = 0 }

-- the spot after the line at a spot, where the identifiers are known
unfoldable pub spot_past : Rules → List ℕ → List ℕ → Spot → Spot
spot_past rules file identifiers p = gone_to (line_known rules file p.at p.state identifiers) p

-- a line that goes on leads to the lines after it; one that is refused or ends the file stays
abbrev pub onward : Verdict → Spot → (State → Spot) → Spot
onward (verdict.Fault number column) p more = p
onward (verdict.Next s) p more = more s
onward verdict.Finished p more = p

-- the spot of the next P line among the lines that follow a spot; or of the line before it that is refused or ends the file
unfoldable pub to_row : Rules → List ℕ → Spot → List (List ℕ) → Spot
to_row rules identifiers p [] = p
to_row rules identifiers p (l ∷ ls) =
    cond (is_kind rules position_kind l) p
    (onward (step_of rules p.state identifiers l) p (λ s. to_row rules identifiers (record { at = p.at + length l + 1; state = s }) ls))

abbrev pub row_ahead : Rules → List ℕ → List ℕ → Spot → Spot
row_ahead rules file identifiers p = to_row rules identifiers p (lines_of (drop p.at file))

-- the number of the line that begins at a spot, counted from 1
abbrev pub line_number : List ℕ → ℕ → ℕ
line_number file at = length (lines_of (take at file)) + 1

-- row k · n + j is that of epoch k and satellite j of n
unfoldable pub epoch_of : ℕ → ℕ → ℕ
epoch_of passed n = cond (n == 0) 0 (passed / n)

unfoldable pub satellite_of : ℕ → ℕ → ℕ
satellite_of passed n = cond (n == 0) 0 (passed % n)

-- a row: absence of its place is a case of its own
unfoldable pub shown : ℕ → ℕ → FloatRow → RowWalk → RowStep
shown epoch satellite row next = cond row.place_absent (step.Absent epoch satellite row next) (step.At epoch satellite row next)

-- the row of the P line at a spot
abbrev pub row_given : List ℕ → ℕ → ℕ → ℕ → RowWalk → RowStep
row_given file at n passed next = shown (epoch_of passed n) (satellite_of passed n) (float_row (row_of false (line_from at file))) next

-- one row more
abbrev pub walk_on : ℕ → State → ℕ → RowWalk
walk_on at s passed = record { spot = record { at = at; state = s }; passed = (passed + 1) % 2 ^ 64 }

-- what the line at a spot is to a walk over rows, where it is a P line, or the last, or refused
unfoldable pub step_at : List ℕ → Spot → ℕ → LineRead → RowStep
step_at file p passed found.NoLine = step.Refused 1 (line_number file p.at) 0
step_at file p passed (found.Fault number column) = step.Refused number (line_number file p.at) column
step_at file p passed (found.Next at s) = row_given file p.at p.state.satellites passed (walk_on at s passed)
step_at file p passed (found.Finished at) = step.End

-- the next row of a file from between two rows
unfoldable pub step_from : Rules → List ℕ → List ℕ → ℕ → Spot → RowStep
step_from rules file identifiers passed p = step_at file p passed (line_known rules file p.at p.state identifiers)

abbrev pub row_step : Rules → List ℕ → List ℕ → RowWalk → RowStep
row_step rules file identifiers w = step_from rules file identifiers w.passed (row_ahead rules file identifiers w.spot)

-- the row that a step gives; one that gives none has it absent in both parts
abbrev pub row_of_step : RowStep → FloatRow
row_of_step (step.At epoch satellite row next) = row
row_of_step (step.Absent epoch satellite row next) = row
row_of_step step.End = absent_row
row_of_step (step.Refused number line column) = absent_row
