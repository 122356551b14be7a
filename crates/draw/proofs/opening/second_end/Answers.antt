use Rattle.std.proofs.Common.{rules}
use Rattle.layout.proofs.Ends.{line-end}
use Rattle.record.specs.Opening.{second_items, second_values}
use Rattle.record.proofs.Tiled.{second-tiled}
use Rattle.draw.proofs.opening.second_end.Goals as goal

pub returns : goal.returns
returns c = rw (line-end second_items (second_values c.args.s) second-tiled) (search rules)
