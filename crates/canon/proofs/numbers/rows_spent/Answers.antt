use Rattle.std.proofs.Common.{refl, ◌∙◌, rules}
use Rattle.canon.specs.Table.{cell_width}
use Rattle.canon.specs.Valid.{cell_valid, rows_valid}
use Rattle.canon.specs.Measured.{cell_length, rows_length}
use Rattle.canon.proofs.Counting.{some-width}
use Rattle.canon.proofs.Spending.{spending-next, spending-none, spending-last}
use Rattle.canon.proofs.numbers.rows_spent.Goals as goal

pub returns-in_err-left : goal.returns-in_err-left
unfolding rows_valid rows_length
returns-in_err-left c =
    let v = c.args.velocity in
    let i = c.loop-cell.invariant in
    let steps = rw c.in-Some.is at c.next.ensures.steps in
    c.from_residual.ensures
    ∙ spending-none (rows_valid v) (rows_length v) (cell_width v) (cell_valid v) (cell_length v) i.spending
    (λ k s. refl) (λ k s. refl) (some-width v) c.in-Some.cell.now _ steps.1.0 (steps.1.1 ∙ i.size) c.in_err-left.ensures

pub loop-cell-preserved : goal.loop-cell-preserved
unfolding rows_valid rows_length
loop-cell-preserved c =
    let v = c.args.velocity in
    let i = c.loop-cell.invariant in
    let steps = rw c.in-Some.is at c.next.ensures.steps in
    record {
      can_next = search rules;
      is_finite = tt;
      size = steps.0 ∙ i.size;
      spending = spending-next (rows_valid v) (rows_length v) (cell_width v) (cell_valid v) (cell_length v) i.spending
          (λ k s. refl) (λ k s. refl) (some-width v) c.in-Some.cell.now _ steps.1.0 (steps.1.1 ∙ i.size) c.in_ok-left.left c.in_ok-left.ensures;
    }

pub returns : goal.returns
unfolding rows_valid rows_length
returns c =
    let v = c.args.velocity in
    let i = c.loop-cell.invariant in
    let steps = rw c.in-None.is at c.next.ensures.steps in
    spending-last (rows_valid v) (rows_length v) (cell_width v) i.spending (λ s. refl) (λ s. refl) (rw (← i.size) steps.1.0)
