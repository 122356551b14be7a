use Rattle.std.proofs.Common.{◌≡◌, ◌+◌, ◌*◌, ◌-◌, drop}
use Rattle.layout.specs.Layout.{slots_from, ones_of}
use Rattle.layout.specs.Inking.{inked}
use Rattle.record.specs.SlotLines.{slot_kind}
use Rattle.draw.proofs.slots.put_slots.Given as goal

-- the slots from k on, put over the line so far, finish the line
abbrev pub invariant-loop-k : goal.invariant-loop-k
invariant-loop-k l =
    inked (slots_from (slot_kind l.accuracies) 17 l.left 10) (ones_of l.fn.values) l.initial.line
    ≡ inked (slots_from (slot_kind l.accuracies) (17 - l.k) (l.left - l.k) (10 + 3 * l.k)) (ones_of (drop l.k l.fn.values)) l.line
