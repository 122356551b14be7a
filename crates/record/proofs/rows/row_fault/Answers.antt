use Rattle.std.proofs.Common.{true, false}
use Rattle.record.specs.Rows.{row_items}
use Rattle.record.proofs.Reading.{judged}
use Rattle.record.proofs.rows.row_fault.Goals as goal

pub returns-then-velocity : goal.returns-then-velocity
returns-then-velocity c = record { result = rw c.if-velocity.true (judged (row_items true) c.unused.new.self c.of-judge.ensures cc) }

pub returns-else-velocity : goal.returns-else-velocity
returns-else-velocity c = record { result = rw c.if-velocity.false (judged (row_items false) c.flags.new.self c.of-judge.ensures cc) }
