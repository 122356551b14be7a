-- A comment or a row is one more of its kind.
use Rattle.std.proofs.Common.{◌≡◌, cond, eqb, ◌||◌, rules}
use Rattle.record.specs.LineKinds.{comment_kind, position_kind, velocity_kind}
use Rattle.scan.proofs.Turn.{counted-as, more-by}
use Rattle.scan.proofs.count_line.Goals as goal

pub returns : goal.returns
returns c =
    let a = c.args in
    let kind = c.kind_told-kind.result in
    let comment : c.from.result ≡ cond (eqb kind comment_kind) 1 0 = search rules in
    let row : c.from-2.result ≡ cond (eqb kind position_kind || eqb kind velocity_kind) 1 0 = search rules in
    counted-as a.rules a.tally a.line.now kind _ _ c.kind_told-kind.ensures (more-by _ a.tally.comments _ comment) (more-by _ a.tally.rows _ row)
