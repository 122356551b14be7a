use Rattle.std.proofs.Common.{false, refl}
use Rattle.record.specs.SlotLines.{slot_items, satellite_items, satellites_values}
use Rattle.layout.proofs.Ends.{end-item, end-several, ended-all, line-ends}
use Rattle.record.proofs.Tiled.{satellites-tiled}
use Rattle.draw.proofs.slots.satellites_end.Goals as goal

pub returns : goal.returns
returns c =
    let a = c.args in
    line-ends (satellite_items a.rules a.s.count) (satellites_values a.s) (satellites-tiled a.rules a.s.count)
    (end-item refl
    (end-item refl
    (end-item c.whole_end-count.ensures
    (end-item refl
    (end-several (slot_items false a.s.count) c.slots_end.ensures
    (end-item refl
    ended-all))))))
