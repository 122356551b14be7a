use Rattle.std.proofs.Common.{◌≡◌, ℕ, rules}
use Rattle.layout.specs.Inking.{line_end}
use Rattle.record.specs.SlotLines.{satellite_items, satellites_values, satellites_line}
use Rattle.header.specs.declared.types.Rules.{Rules}
use Rattle.record.specs.declared.types.Satellites.{Satellites}
use Rattle.record.proofs.Tiled.{satellites-tiled}
use Rattle.draw.proofs.Laying.{EndsIn, short, long, line_drawn}
use Rattle.draw.proofs.slots.write_satellites.Goals as goal

ends : (rules : Rules) (s : Satellites) {n : ℕ} → n ≡ line_end (satellite_items rules s.count) (satellites_values s) → EndsIn (satellite_items rules s.count) (satellites_values s) n
ends rules s told = record { tiles = satellites-tiled rules s.count; told = told }

pub lay_ended-requires-clause-short : goal.lay_ended-requires-clause-short
lay_ended-requires-clause-short c = let a = c.args in short (ends a.rules a.s c.satellites_end-end.ensures)

pub returns : goal.returns
unfolding satellites_line
returns c =
    let a = c.args in
    let there = ends a.rules a.s c.satellites_end-end.ensures in
    record { lays = c.lay_ended.ensures _ (long there) (λ old new wide met. line_drawn there old wide (search rules)) }
