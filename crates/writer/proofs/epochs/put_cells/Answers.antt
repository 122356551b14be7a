use Rattle.std.proofs.Common.{◌≡◌, ℕ, List, ◌+◌, ◌-◌, ◌*◌, ◌<◌, length, ap, arith}
use Rattle.canon.specs.Table.{cell_width}
use Rattle.canon.specs.Canonical.{cells_lines}
use Rattle.laws.proofs.Lists.{rest-none}
use Rattle.writer.proofs.Blocks.{less_one, cell-fits, cell-laid}
use Rattle.writer.proofs.Laying.{laying-as, laying-fits, laying-end}
use Rattle.writer.proofs.epochs.put_cells.Goals as goal

pub put_cell-at-requires-clause-cell_in_bounds : goal.put_cell-at-requires-clause-cell_in_bounds
put_cell-at-requires-clause-cell_in_bounds c =
    let front = rw c.cell_width-width.ensures.result at c.split_at.ensures.front in
    rw front (cell-fits c.args.velocity c.args.identifiers.now c.loop-identifier.rest.now _ c.loop-identifier-test.true c.loop-identifier.invariant.laying)

pub overflow_add-at : goal.overflow_add-at
overflow_add-at c =
    let front = rw c.cell_width-width.ensures.result at c.split_at.ensures.front in
    let lines = rw front at c.put_cell-at.ensures in
    omega (
      arith,
      c.well_formed,
      laying-fits (cell-laid c.args.velocity c.args.identifiers.now c.loop-identifier.rest.now _ c.loop-identifier-test.true c.loop-identifier.invariant.laying lines),
    )

pub loop-identifier-preserved : goal.loop-identifier-preserved
loop-identifier-preserved c =
    let v = c.args.velocity in
    let n = length c.args.identifiers.now in
    let j = c.loop-identifier.identifier-index in
    let some : 0 < n - j = omega (arith, c.loop-identifier-test.true) in
    let next : n - j - 1 ≡ n - (j + 1) = omega arith in
    let front = rw c.cell_width-width.ensures.result at c.split_at.ensures.front in
    let back = rw c.cell_width-width.ensures.result at c.split_at.ensures.back in
    let lines = rw front at c.put_cell-at.ensures in
    record {
      left = omega (
        arith,
        c.split_at.ensures.back_len,
        c.cell_width-width.ensures.result,
        c.loop-identifier.invariant.left,
        less_one (n - j) (cell_width v) some,
        ap (λ (k : ℕ). k * cell_width v) next,
      );
      laying = rw back (cell-laid v c.args.identifiers.now c.loop-identifier.rest.now _ c.loop-identifier-test.true c.loop-identifier.invariant.laying lines);
    }

pub returns : goal.returns
unfolding cells_lines
returns c =
    let none = rest-none c.args.identifiers.now c.loop-identifier.identifier-index c.loop-identifier-test.false in
    laying-end
    (laying-as (ap (λ (identifiers : List ℕ). cells_lines c.args.velocity identifiers c.loop-identifier.rest.now) none) c.loop-identifier.invariant.laying)
