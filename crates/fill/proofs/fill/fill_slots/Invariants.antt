-- The slots of the lines left are still to be laid.
use Rattle.lines.specs.Lines.{lines_of}
use Rattle.file.specs.Kinds.{is_kind}
use Rattle.file.specs.Table.{slots_in}
use Rattle.fill.proofs.Filling.{Filling}
use Rattle.fill.proofs.FillingSlots.{slots_left}
use Rattle.fill.proofs.fill.fill_slots.Given as goal

abbrev pub invariant-loop-line : goal.invariant-loop-line
invariant-loop-line l =
    Filling (is_kind l.rules l.kind) (slots_left l.accuracies) (slots_in l.rules l.accuracies l.n (lines_of l.bytes)) l.fn.out l.out (lines_of l.line-iterator.rest.now) l.stored l.left
