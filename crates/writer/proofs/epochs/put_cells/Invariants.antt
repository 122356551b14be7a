use Rattle.std.proofs.Common.{◌≡◌, ◌-◌, ◌*◌, length, drop}
use Rattle.canon.specs.Table.{cell_width}
use Rattle.canon.specs.Canonical.{cells_lines}
use Rattle.writer.proofs.Laying.{Laying}
use Rattle.writer.proofs.epochs.put_cells.Given as goal

abbrev pub invariant-loop-identifier : goal.invariant-loop-identifier
invariant-loop-identifier l = record {
  left : length l.rest ≡ (length l.identifiers - l.identifier-index) * cell_width l.velocity;
  laying : Laying (cells_lines l.velocity l.identifiers l.rows) l.fn.out l.at l.out (cells_lines l.velocity (drop l.identifier-index l.identifiers) l.rest);
}
