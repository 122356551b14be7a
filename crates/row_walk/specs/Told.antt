-- The paper's number of each answer of a walk over rows, then which case it is (0 the end, 1 a row with a place, 2 a row without one, 3 a refusal), then
-- its values.
use Rattle.std.specs.Prelude.{ℕ}
use Rattle.float_row.specs.Floats.{absent_row}
use Rattle.float_row.specs.declared.FloatRow.{FloatRow}
use Rattle.row_walk.specs.Rows.{first_walk}
use Rattle.row_walk.specs.declared.types.RowWalk.{RowWalk}
use Rattle.row_walk.specs.declared.types.RowStep.{RowStep}
use Rattle.row_walk.specs.declared.types.RowStep.TheVariants as step

pub record ToldStep : Type 0 where
  pub number : ℕ
  pub which : ℕ
  pub line : ℕ
  pub column : ℕ
  pub epoch : ℕ
  pub satellite : ℕ
  pub row : FloatRow
  pub next : RowWalk

unfoldable pub told_step : RowStep → ToldStep
told_step (step.At epoch satellite row next) =
    record { number = 0; which = 1; line = 0; column = 0; epoch = epoch; satellite = satellite; row = row; next = next }
told_step (step.Absent epoch satellite row next) =
    record { number = 0; which = 2; line = 0; column = 0; epoch = epoch; satellite = satellite; row = row; next = next }
told_step step.End = record { number = 0; which = 0; line = 0; column = 0; epoch = 0; satellite = 0; row = absent_row; next = first_walk }
told_step (step.Refused number line column) =
    record { number = number; which = 3; line = line; column = column; epoch = 0; satellite = 0; row = absent_row; next = first_walk }
