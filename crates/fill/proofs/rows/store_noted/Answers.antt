-- What stands behind a row is stored behind its numbers.
use Rattle.std.proofs.Common.{drop}
use Rattle.lines.specs.Lines.{lines_of}
use Rattle.fill.proofs.After.{noted-stored}
use Rattle.fill.proofs.rows.store_noted.Goals as goal

pub returns : goal.returns
returns c rules =
    let a = c.args in
    noted-stored a.row rules (lines_of (drop a.at a.bytes.now)) a.out.now c.requires c.store_row.ensures (c.store_after.ensures rules)
