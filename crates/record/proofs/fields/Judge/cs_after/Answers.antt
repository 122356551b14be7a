use Rattle.std.proofs.Common.{◌-◌, arith}
use Rattle.laws.proofs.Lists.{first-same}
use Rattle.record.proofs.fields.Judge.cs_after.Goals as goal

pub returns : goal.returns
returns c =
    let short = first-same (c.args.last - c.args.blank) 5 99 (omega arith) in
    cc
