use Rattle.std.proofs.Common.{◌≡◌, ◌+◌, ◌*◌, ◌-◌, suc, ◌∙◌, arith}
use Rattle.record.specs.SlotLines.{slot_kind}
use Rattle.layout.proofs.Repeats.{next-end, no_slot}
use Rattle.record.proofs.SlotKinds.{loud}
use Rattle.draw.proofs.slots.slots_end.Goals as goal

pub loop-k-preserved : goal.loop-k-preserved
loop-k-preserved c =
    let a = c.args in
    let k = c.loop-k.k in
    let one_less : 17 - k ≡ suc (17 - (k + 1)) = omega arith in
    let further : 10 + 3 * (k + 1) ≡ 10 + 3 * k + 3 = omega arith in
    c.loop-k.invariant
    ∙ next-end (slot_kind a.accuracies) (loud a.accuracies) (17 - k) (17 - (k + 1)) a.left k (10 + 3 * k) (omega arith) one_less a.values.now (omega arith) c.loop-k.end
    ∙ rw (c.slot_end-end.ensures, further)

pub returns : goal.returns
returns c =
    let a = c.args in
    let k = c.loop-k.k in
    rw (c.loop-k.invariant, no_slot (slot_kind a.accuracies) (17 - k) (a.left - k) (10 + 3 * k) (omega arith))
