use Rattle.std.proofs.Common.{◌*◌, ◌≤◌, length, arith}
use Rattle.canon.specs.Table.{cells_in}
use Rattle.canon.proofs.Counting.{cells_fit}
use Rattle.canon.proofs.types.Table.lines_spent.Goals as goal

pub overflow_mul-cells : goal.overflow_mul-cells
overflow_mul-cells c =
    let t = c.args.self in
    let few = cells_fit (cells_in t.header) (length t.rows.now) t.header.velocity c.requires.1 in
    omega arith

pub overflow_mul-rows : goal.overflow_mul-rows
overflow_mul-rows c =
    let t = c.args.self in
    let few : cells_in t.header * c.cell_width.result ≤ length t.rows.now = rw c.cell_width.ensures.result c.requires.1 in
    omega arith
