use Rattle.marks.proofs.Marking.{Marking}
use Rattle.marks.proofs.mark_identifiers.Given as goal

abbrev pub invariant-loop-identifier : goal.invariant-loop-identifier
invariant-loop-identifier l = Marking l.initial.marks l.identifiers l.marks l.all l.identifier-index
