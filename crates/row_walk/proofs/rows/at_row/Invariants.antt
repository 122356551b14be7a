-- The next row from here is the next row from the start.
use Rattle.std.proofs.Common.{◌≡◌, ◌-◌, length}
use Rattle.row_walk.specs.Rows.{row_ahead}
use Rattle.row_walk.proofs.rows.at_row.Given as goal

abbrev pub invariant-loop-rules : goal.invariant-loop-rules
invariant-loop-rules l = row_ahead l.rules l.file l.identifiers l.spot ≡ row_ahead l.rules l.file l.identifiers l.fn.from

abbrev pub decreases-loop-rules : goal.decreases-loop-rules
decreases-loop-rules l = length l.file - l.spot.at
