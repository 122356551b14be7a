-- The rows of the lines left that have room are still to be laid; those lines are behind the ones that were passed.
use Rattle.std.proofs.Common.{◌≡◌, length, drop}
use Rattle.lines.specs.Lines.{lines_of}
use Rattle.fill.proofs.FillingRows.{RowsFilling, rows_for}
use Rattle.fill.proofs.fill.fill_rows.Given as goal

abbrev pub invariant-loop-line : goal.invariant-loop-line
invariant-loop-line l = record {
  behind : lines_of (drop l.behind l.bytes) ≡ lines_of l.line-iterator.rest.now;
  filling : RowsFilling l.rules (rows_for l.rules l.bytes (length l.fn.out)) l.fn.out l.out (lines_of l.line-iterator.rest.now) l.stored;
}
