use Rattle.std.proofs.Common.{◌≡◌, ℕ, rules}
use Rattle.layout.specs.Inking.{line_end}
use Rattle.record.specs.Opening.{second_items, second_values, second_line}
use Rattle.record.specs.declared.types.Second.{Second}
use Rattle.record.proofs.Tiled.{second-tiled}
use Rattle.draw.proofs.Laying.{EndsIn, short, long, line_drawn}
use Rattle.draw.proofs.opening.write_second.Goals as goal

ends : (s : Second) {n : ℕ} → n ≡ line_end (second_items) (second_values s) → EndsIn (second_items) (second_values s) n
ends s told = record { tiles = second-tiled; told = told }

pub lay_ended-requires-clause-short : goal.lay_ended-requires-clause-short
lay_ended-requires-clause-short c = let a = c.args in short (ends a.s c.second_end.ensures)

pub returns : goal.returns
unfolding second_line
returns c =
    let a = c.args in
    let there = ends a.s c.second_end.ensures in
    record { lays = c.lay_ended.ensures _ (long there) (λ old new wide met. line_drawn there old wide (search rules)) }
