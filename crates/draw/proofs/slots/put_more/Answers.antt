use Rattle.layout.specs.Layout.{ones_of}
use Rattle.record.specs.SlotLines.{slot_items, more_items}
use Rattle.layout.proofs.Inking.{ink, ink-several, inked-all, inks}
use Rattle.draw.proofs.slots.put_more.Goals as goal

pub returns : goal.returns
returns c =
    let a = c.args in
    inks (more_items a.accuracies a.left) (ones_of a.s.values) a.line.now
    (ink (rw (← c.symbol_of-symbol.ensures) c.ink_fixed.ensures)
    (ink c.ink_blank.ensures
    (ink-several (slot_items a.accuracies a.left) c.put_slots.ensures
    (ink c.ink_blank-2.ensures
    inked-all))))
