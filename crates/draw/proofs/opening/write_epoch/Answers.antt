use Rattle.std.proofs.Common.{◌≡◌, ℕ, rules}
use Rattle.layout.specs.Inking.{end_from}
use Rattle.record.specs.Times.{time_items, moment_values}
use Rattle.record.specs.Opening.{epoch_items, epoch_values, epoch_line}
use Rattle.record.specs.declared.types.Epoch.{Epoch}
use Rattle.record.proofs.Tiled.{epoch-tiled}
use Rattle.layout.proofs.Ends.{line-end}
use Rattle.draw.proofs.Laying.{EndsIn, short, long, line_drawn}
use Rattle.draw.proofs.opening.write_epoch.Goals as goal

ends : (e : Epoch) {n : ℕ} → n ≡ end_from 1 time_items (moment_values e.moment) → EndsIn (epoch_items) (epoch_values e) n
ends e told = record { tiles = epoch-tiled; told = rw (line-end epoch_items (epoch_values e) epoch-tiled) (search rules) }

pub lay_ended-requires-clause-short : goal.lay_ended-requires-clause-short
lay_ended-requires-clause-short c = let a = c.args in short (ends a.e c.moment_end-end.ensures)

pub returns : goal.returns
unfolding epoch_line
returns c =
    let a = c.args in
    let there = ends a.e c.moment_end-end.ensures in
    record { lays = c.lay_ended.ensures _ (long there) (λ old new wide met. line_drawn there old wide (search rules)) }
