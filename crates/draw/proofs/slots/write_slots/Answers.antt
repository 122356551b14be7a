use Rattle.std.proofs.Common.{◌≡◌, ℕ, rules, Bool}
use Rattle.layout.specs.Inking.{line_end}
use Rattle.layout.specs.Layout.{ones_of}
use Rattle.record.specs.SlotLines.{more_items, more_line}
use Rattle.record.specs.declared.types.Slots.{Slots}
use Rattle.record.proofs.Tiled.{more-tiled}
use Rattle.draw.proofs.Laying.{EndsIn, short, long, line_drawn}
use Rattle.draw.proofs.slots.write_slots.Goals as goal

ends : (s : Slots) (accuracies : Bool) (left : ℕ) {n : ℕ} → n ≡ line_end (more_items accuracies left) (ones_of s.values) → EndsIn (more_items accuracies left) (ones_of s.values) n
ends s accuracies left told = record { tiles = more-tiled accuracies left; told = told }

pub lay_ended-requires-clause-short : goal.lay_ended-requires-clause-short
lay_ended-requires-clause-short c = let a = c.args in short (ends a.s a.accuracies a.left c.more_end-end.ensures)

pub returns : goal.returns
unfolding more_line
returns c =
    let a = c.args in
    let there = ends a.s a.accuracies a.left c.more_end-end.ensures in
    record { lays = c.lay_ended.ensures _ (long there) (λ old new wide met. line_drawn there old wide (search rules)) }
