use Rattle.std.proofs.Common.{[], ◌∷◌, take, ap, sym, ◌∙◌}
use mathlib.Core.List.{append-nil}
use Rattle.layout.specs.Kind.Kind.{unused}
use Rattle.layout.specs.Layout.{columns, values_of, numbers_of}
use Rattle.record.specs.SlotLines.{slot_items, more_items}
use Rattle.layout.proofs.Reading.{values-parts}
use Rattle.record.proofs.Reading.{judged, kept, after-parts}
use Rattle.record.proofs.slots.read_slots.Goals as goal

pub returns : goal.returns
returns c =
    let line = c.args.line.now in
    let start = c.of-judge.ensures in
    let items = more_items c.args.accuracies c.args.left in
    let own = slot_items c.args.accuracies c.args.left in
    let end = columns 61 80 unused ∷ [] in
    let slots = after-parts own end c.unused.new.self in
    let fault = judged items c.unused-2.new.self start cc in
    let read = rw (kept (take 2 items) c.unused.new.self start cc) at c.slots-values.ensures.value in
    let values = read ∙ ap numbers_of (sym (values-parts own end line ∙ append-nil (values_of own line))) in
    record { result = λ i. record { fault = fault i; values = values i } }
