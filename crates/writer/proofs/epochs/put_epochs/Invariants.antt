use Rattle.std.proofs.Common.{◌≡◌, ◌-◌, ◌*◌, length}
use Rattle.canon.specs.Table.{cell_width}
use Rattle.canon.specs.Canonical.{epochs_lines}
use Rattle.writer.proofs.Laying.{Laying}
use Rattle.writer.proofs.Times.{Clocked}
use Rattle.writer.proofs.epochs.put_epochs.Given as goal

abbrev pub invariant-loop : goal.invariant-loop
invariant-loop l = record {
  left : length l.rest ≡ (l.h.epochs - l.counter) * (length l.identifiers * cell_width l.h.velocity);
  clocked : Clocked l.h l.at8 (l.h.epochs - l.counter);
  laying : Laying (epochs_lines l.h.velocity l.identifiers l.h.interval8 l.h.epochs l.h.start8 l.rows) l.fn.out l.at l.out
      (epochs_lines l.h.velocity l.identifiers l.h.interval8 (l.h.epochs - l.counter) l.at8 l.rest);
}
