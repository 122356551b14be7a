use Rattle.std.proofs.Common.{◌-◌}
use Rattle.canon.specs.Canonical.{slot_lines_of}
use Rattle.writer.proofs.Laying.{Laying}
use Rattle.writer.proofs.heads.put_slots.Given as goal

abbrev pub invariant-loop : goal.invariant-loop
invariant-loop l = Laying (slot_lines_of l.accuracies l.lines l.numbers) l.fn.out l.at l.out (slot_lines_of l.accuracies (l.lines - l.counter) l.rest)
