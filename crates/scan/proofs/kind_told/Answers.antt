-- P in the first column is the kind of rows.
use Rattle.std.proofs.Common.{◌≡◌, get_or, rules}
use Rattle.scan.proofs.Turn.{position-first}
use Rattle.scan.proofs.kind_told.Goals as goal

pub returns-then-eq : goal.returns-then-eq
returns-then-eq c =
    let first : get_or c.args.line.now 0 0 ≡ 80 = search rules in
    position-first c.args.rules c.args.line.now first
