use Rattle.std.proofs.Common.{rules}
use Rattle.layout.proofs.Ends.{line-end}
use Rattle.record.specs.Opening.{first_items, first_values}
use Rattle.record.proofs.Tiled.{first-tiled}
use Rattle.draw.proofs.opening.first_end.Goals as goal

pub returns : goal.returns
returns c = rw (line-end (first_items c.args.rules) (first_values c.args.f) (first-tiled c.args.rules)) (search rules)
