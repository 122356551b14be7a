use Rattle.std.proofs.Common.{◌≡◌, ◌+◌, ◌*◌, ◌-◌, drop}
use Rattle.layout.specs.Layout.{slots_from, ones_of}
use Rattle.layout.specs.Inking.{end_from}
use Rattle.record.specs.SlotLines.{slot_kind}
use Rattle.draw.proofs.slots.slots_end.Given as goal

-- the slots from k on, after the end so far, give the end
abbrev pub invariant-loop-k : goal.invariant-loop-k
invariant-loop-k l =
    end_from l.fn.earlier (slots_from (slot_kind l.accuracies) 17 l.left 10) (ones_of l.fn.values)
    ≡ end_from l.end (slots_from (slot_kind l.accuracies) (17 - l.k) (l.left - l.k) (10 + 3 * l.k)) (ones_of (drop l.k l.fn.values))
