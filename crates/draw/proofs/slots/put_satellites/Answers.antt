use Rattle.std.proofs.Common.{false}
use Rattle.record.specs.SlotLines.{slot_items, satellite_items, satellites_values}
use Rattle.layout.proofs.Inking.{ink, ink-several, inked-all, inks}
use Rattle.draw.proofs.slots.put_satellites.Goals as goal

pub returns : goal.returns
returns c =
    let a = c.args in
    inks (satellite_items a.rules a.s.count) (satellites_values a.s) a.line.now
    (ink c.ink_fixed.ensures
    (ink c.ink_blank.ensures
    (ink c.ink_whole.ensures
    (ink c.ink_blank-2.ensures
    (ink-several (slot_items false a.s.count) c.put_slots.ensures
    (ink c.ink_blank-3.ensures
    inked-all))))))
