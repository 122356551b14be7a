use Rattle.std.proofs.Common.{◌≡◌, ℕ, List, ◌∷◌, suc, ◌+◌, ◌-◌, ◌*◌, ◌<◌, ◌++◌, length, take, ap, sym, ◌∙◌, arith}
use mathlib.Core.Path.{ap₂}
use mathlib.Core.List.{append-nil}
use lib.ListN.{length-set}
use lib.Seq.{take_all}
use Rattle.layout.specs.Layout.{Item, values_of, slots_from, numbers_of}
use Rattle.record.specs.SlotLines.{slot_kind}
use Rattle.record.specs.Steps.{after_all}
use Rattle.record.specs.declared.fields.Judge.{Judge}
use Rattle.layout.proofs.Repeats.{next-slot, next-numbers, no_slot, stored}
use Rattle.record.proofs.Reading.{line_after}
use Rattle.record.proofs.SlotKinds.{loud}
use Rattle.record.proofs.fields.Judge.slots.Goals as goal

pub loop-k-preserved : goal.loop-k-preserved
loop-k-preserved c =
    let kind = slot_kind c.args.accuracies in
    let left = c.args.left in
    let line = c.args.self.now.line.now in
    let l = c.loop-k in
    let k = l.k in
    let one_less : 17 - k ≡ suc (17 - (k + 1)) = omega arith in
    let more : k < length l.values = omega arith in
    let place : 10 + 3 * k + 3 ≡ 10 + 3 * (k + 1) = omega arith in
    let value = rw l.invariant.same_line at c.slot.ensures.value in
    let rest = λ (p : ℕ). slots_from kind (17 - (k + 1)) (left - (k + 1)) p in
    record {
      wide = simp length-set l.invariant.wide;
      judged =
          l.invariant.judged
          ∙ ap (λ (items : List Item). after_all items l.self) (next-slot kind (17 - k) (17 - (k + 1)) left k (10 + 3 * k) one_less)
          ∙ ap₂ (λ (p : ℕ) (j : Judge). after_all (rest p) j) place (sym c.slot.ensures.judged);
      read =
          l.invariant.read
          ∙ ap (λ (ns : List ℕ). take k l.values ++ ns)
          (next-numbers kind (loud c.args.accuracies) (17 - k) (17 - (k + 1)) left k (10 + 3 * k) one_less line
          ∙ ap₂ (λ (v p : ℕ). v ∷ numbers_of (values_of (rest p) line)) (sym value) place)
          ∙ stored l.values k c.slot.result _ more;
      same_line = ap (λ (j : Judge). j.line) c.slot.ensures.judged ∙ line_after _ _ ∙ l.invariant.same_line;
    }

pub returns-clause-judged : goal.returns-clause-judged
returns-clause-judged c =
    let l = c.loop-k in
    sym
    (l.invariant.judged
    ∙ ap (λ (items : List Item). after_all items l.self)
    (no_slot (slot_kind c.args.accuracies) (17 - l.k) (c.args.left - l.k) (10 + 3 * l.k) (omega arith)))

pub returns-clause-value : goal.returns-clause-value
returns-clause-value c =
    let l = c.loop-k in
    sym
    (l.invariant.read
    ∙ ap (λ (items : List Item). take l.k l.values ++ numbers_of (values_of items c.args.self.now.line.now))
    (no_slot (slot_kind c.args.accuracies) (17 - l.k) (c.args.left - l.k) (10 + 3 * l.k) (omega arith))
    ∙ append-nil (take l.k l.values)
    ∙ take_all l.k l.values (omega arith))
