-- There is a `+ ` line at least.
use Rattle.std.proofs.Common.{arith}
use Rattle.header.specs.Rules.{slot_lines}
use Rattle.machine.proofs.next.after_count.Goals as goal

pub overflow_sub-result : goal.overflow_sub-result
unfolding slot_lines
overflow_sub-result c = omega (arith, c.slot_lines.ensures)
