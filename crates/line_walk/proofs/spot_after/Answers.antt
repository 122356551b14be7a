-- What was read at the spot leads to the spot after the line.
use Rattle.std.proofs.Common.{refl, ◌∙◌}
use Rattle.header.specs.Versions.{rules_in}
use Rattle.line_walk.proofs.Spots.{spot-read}
use Rattle.line_walk.proofs.spot_after.Goals as goal

pub returns-clause-result : goal.returns-clause-result
returns-clause-result c =
    let a = c.args in
    let found = c.read_at.result in
    c.gone_to.ensures.result ∙ spot-read (rules_in a.file.now) a.file.now a.identifiers.now a.spot found found c.read_at.ensures.result refl
