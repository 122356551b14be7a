use Rattle.std.proofs.Common.{◌≡◌, ℕ, rules}
use Rattle.layout.specs.Inking.{line_end}
use Rattle.record.specs.Opening.{first_items, first_values, first_line}
use Rattle.header.specs.declared.types.Rules.{Rules}
use Rattle.record.specs.declared.types.First.{First}
use Rattle.record.proofs.Tiled.{first-tiled}
use Rattle.draw.proofs.Laying.{EndsIn, short, long, line_drawn}
use Rattle.draw.proofs.opening.write_first.Goals as goal

ends : (rules : Rules) (f : First) {n : ℕ} → n ≡ line_end (first_items rules) (first_values f) → EndsIn (first_items rules) (first_values f) n
ends rules f told = record { tiles = first-tiled rules; told = told }

pub lay_ended-requires-clause-short : goal.lay_ended-requires-clause-short
lay_ended-requires-clause-short c = let a = c.args in short (ends a.rules a.f c.first_end.ensures)

pub returns : goal.returns
unfolding first_line
returns c =
    let a = c.args in
    let there = ends a.rules a.f c.first_end.ensures in
    record { lays = c.lay_ended.ensures _ (long there) (λ old new wide met. line_drawn there old wide (search rules)) }
