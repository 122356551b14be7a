-- Walks as the front page speaks of them: over the lines of any bytes, and over the rows of an accepted file.
use Rattle.std.specs.Prelude.{◌≡◌, List, [], ◌∷◌, ℕ, zero, suc, ◌+◌, length, take}
use Rattle.lines.specs.Lines.{lines_of}
use Rattle.machine.specs.Step.{step_within, identifiers_brought}
use Rattle.scan.specs.Run.{Going}
use Rattle.reader.specs.Reading.{file_of, judged, identifiers_of}
use Rattle.line_walk.specs.Spots.{spots_after, identifiers_past}
use Rattle.row_walk.specs.Begin.{begun_as, identifiers_begun}
use Rattle.row_walk.specs.Rows.{row_step, first_walk, row_ahead}
use Rattle.header.specs.declared.types.Rules.{Rules}
use Rattle.machine.specs.declared.types.State.{State}
use Rattle.machine.specs.declared.types.Verdict.{Verdict}
use Rattle.machine.specs.declared.types.Verdict.TheVariants as verdict
use Rattle.line_walk.specs.declared.Spot.{Spot}
use Rattle.reader.specs.declared.types.Reading.{Reading}
use Rattle.row_walk.specs.declared.types.RowWalk.{RowWalk}
use Rattle.row_walk.specs.declared.types.RowStep.{RowStep}
use Rattle.row_walk.specs.declared.types.RowStep.TheVariants as step
use Rattle.theorems.specs.Files.{header}

-- where one is, without the identifiers, and with them
abbrev pub spot_of : Going → Spot
spot_of g = record { at = g.at; state = g.state }

abbrev pub going_at : Spot → List ℕ → Going
going_at p identifiers = record { at = p.at; state = p.state; identifiers = identifiers }

-- what the line reader makes of a line
abbrev pub read : Rules → Going → List ℕ → Verdict
read rules g l = step_within rules g.state g.identifiers l

-- a line that goes on leads to the lines after it; one that is refused or ends the file stays
abbrev pub on_from : Verdict → Going → (State → Going) → Going
on_from (verdict.Fault number column) g more = g
on_from (verdict.Next s) g more = more s
on_from verdict.Finished g more = g

-- one is behind a line
abbrev pub past : Rules → Going → List ℕ → State → Going
past rules g l s = record { at = g.at + length l + 1; state = s; identifiers = identifiers_brought rules g.state g.identifiers l }

-- after some lines, read one after another: one stays where a line is refused, 12 among the refusals, or ends the file
unfoldable pub over_lines : Rules → Going → List (List ℕ) → Going
over_lines rules g [] = g
over_lines rules g (l ∷ ls) = on_from (read rules g l) g (λ s. over_lines rules (past rules g l s) ls)

-- where the walker is after k steps
abbrev pub walked_from : Rules → List ℕ → Going → ℕ → Going
walked_from rules bytes g k = going_at (spots_after rules bytes g.identifiers (spot_of g) k) (identifiers_past rules bytes g.identifiers (spot_of g) k)

-- what `begin` answers where so much room is lent, and the list afterwards
abbrev pub begun : Rules → List ℕ → ℕ → Reading
begun rules bytes room = begun_as (judged rules bytes (file_of rules bytes)) room

abbrev pub begun_list : Rules → List ℕ → List ℕ → List ℕ
begun_list rules bytes old = identifiers_begun rules (judged rules bytes (file_of rules bytes)) bytes old

-- a list begins with the identifiers of a file
abbrev pub Identified : Rules → List ℕ → List ℕ → Type 0
Identified rules bytes identifiers = take (header rules bytes).satellites identifiers ≡ identifiers_of rules (lines_of bytes)

-- the answer of step i of a walk over the rows of some bytes with these identifiers, counted from 0: a step at a row leads to the next
abbrev pub on_row : RowStep → (RowWalk → RowStep) → RowStep
on_row (step.At epoch satellite row next) more = more next
on_row (step.Absent epoch satellite row next) more = more next
on_row step.End more = step.End
on_row (step.Refused number line column) more = step.Refused number line column

unfoldable pub steps_from : Rules → List ℕ → List ℕ → RowWalk → ℕ → RowStep
steps_from rules bytes identifiers w zero = row_step rules bytes identifiers w
steps_from rules bytes identifiers w (suc i) = on_row (row_step rules bytes identifiers w) (λ next. steps_from rules bytes identifiers next i)

abbrev pub walk_step : Rules → List ℕ → List ℕ → ℕ → RowStep
walk_step rules bytes identifiers i = steps_from rules bytes identifiers first_walk i

-- the spot at which the next step of a walk is decided: that of the next P line, or of the line before it that is refused or ends the file
abbrev pub spot_ahead : Rules → List ℕ → List ℕ → RowWalk → Spot
spot_ahead rules bytes identifiers w = row_ahead rules bytes identifiers w.spot
