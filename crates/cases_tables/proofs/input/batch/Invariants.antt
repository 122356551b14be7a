-- `cases_tables::input::batch` ends: a case takes a part of what is left.
use Rattle.std.proofs.Common.{length}
use Rattle.cases_tables.proofs.input.batch.Given as goal

abbrev pub decreases-loop-line : goal.decreases-loop-line
decreases-loop-line g l = length l.rest
