use Rattle.std.proofs.Common.{◌≡◌}
use Rattle.std.specs.Slice.Iter.{chunks_exact_size, chunks_exact_rest}
use Rattle.canon.specs.Table.{cell_width}
use Rattle.canon.specs.Valid.{rows_valid}
use Rattle.canon.specs.Measured.{rows_length}
use Rattle.canon.specs.Spent.{spent}
use Rattle.canon.proofs.Spending.{Spending}
use Rattle.canon.proofs.numbers.rows_spent.Given as goal

abbrev pub invariant-loop-cell : goal.invariant-loop-cell
invariant-loop-cell l = record {
  can_next : (goal.iterator-loop-cell).can_next l.cell-iterator;
  is_finite : (goal.iterator-loop-cell).is_finite l.cell-iterator;
  size : chunks_exact_size l.cell-iterator ≡ cell_width l.velocity;
  spending : Spending (rows_valid l.velocity) (rows_length l.velocity) (cell_width l.velocity)
      (spent (rows_valid l.velocity l.cells l.rows) l.room (rows_length l.velocity l.cells l.rows)) l.left (chunks_exact_rest l.cell-iterator);
}
