-- `cases_forms::input::batch` ends: a case takes a part of what is left.
use Rattle.std.proofs.Common.{length}
use Rattle.cases_forms.proofs.input.batch.Given as goal

abbrev pub decreases-loop-rest : goal.decreases-loop-rest
decreases-loop-rest g l = length l.rest
