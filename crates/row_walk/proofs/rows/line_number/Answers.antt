-- There are fewer lines than a number can say.
use Rattle.std.proofs.Common.{take, arith, length-take}
use Rattle.row_walk.proofs.Going.{few-lines}
use Rattle.row_walk.proofs.rows.line_number.Goals as goal

pub overflow_add-result : goal.overflow_add-result
overflow_add-result c = omega (arith, c.count_lines.ensures, few-lines (take c.min.result c.args.file.now), length-take c.min.result c.args.file.now)
