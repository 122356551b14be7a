-- A row is given by whether it has a place.
use Rattle.row_walk.proofs.Stepping.{given-absent, given-at}
use Rattle.row_walk.proofs.rows.row_given.Goals as goal

pub returns-then-row : goal.returns-then-row
returns-then-row c =
    let a = c.args in
    given-absent a.file.now a.at a.satellites a.passed a.next _ _ _ _ _ c.line_at-line.ensures.result c.row_of.ensures.result
    c.float_row-row.ensures.result c.epoch_of-epoch.ensures c.satellite_of-satellite.ensures c.if-row.true

pub returns : goal.returns
returns c =
    let a = c.args in
    given-at a.file.now a.at a.satellites a.passed a.next _ _ _ _ _ c.line_at-line.ensures.result c.row_of.ensures.result
    c.float_row-row.ensures.result c.epoch_of-epoch.ensures c.satellite_of-satellite.ensures c.if-row.false
