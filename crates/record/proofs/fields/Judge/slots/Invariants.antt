use Rattle.std.proofs.Common.{◌≡◌, ◌-◌, ◌+◌, ◌*◌, ◌++◌, length, take}
use Rattle.layout.specs.Layout.{values_of, slots_from, numbers_of}
use Rattle.record.specs.SlotLines.{slot_kind}
use Rattle.record.specs.Steps.{after_all}
use Rattle.record.proofs.fields.Judge.slots.Given as goal

-- the slots from k on, judged after those before them, finish the judging, and their numbers stand after those read
abbrev pub invariant-loop-k : goal.invariant-loop-k
invariant-loop-k l = record {
  wide : length l.values ≡ 17;
  judged : after_all (slots_from (slot_kind l.accuracies) 17 l.left 10) l.fn.self ≡ after_all (slots_from (slot_kind l.accuracies) (17 - l.k) (l.left - l.k) (10 + 3 * l.k)) l.self;
  read : numbers_of (values_of (slots_from (slot_kind l.accuracies) 17 l.left 10) l.fn.self.line.now)
      ≡ take l.k l.values ++ numbers_of (values_of (slots_from (slot_kind l.accuracies) (17 - l.k) (l.left - l.k) (10 + 3 * l.k)) l.fn.self.line.now);
  same_line : l.self.line ≡ l.fn.self.line;
}
