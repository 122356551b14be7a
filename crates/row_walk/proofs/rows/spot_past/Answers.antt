-- What was read at the spot leads on from it.
use Rattle.std.proofs.Common.{refl, ◌∙◌}
use Rattle.line_walk.proofs.Spots.{gone-so}
use Rattle.machine.specs.Step.{line_known}
use Rattle.row_walk.specs.Rows.{spot_past}
use Rattle.row_walk.proofs.rows.spot_past.Goals as goal

pub returns : goal.returns
unfolding spot_past
returns c =
    let a = c.args in
    let found = c.read_by.result in
    c.gone_to.ensures.result ∙ gone-so a.spot found found (line_known a.rules a.file.now a.spot.at a.spot.state a.identifiers.now) c.read_by.ensures refl
