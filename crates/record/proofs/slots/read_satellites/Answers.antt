use Rattle.std.proofs.Common.{ℕ, false, [], ◌∷◌, take, ap, sym, ◌∙◌}
use mathlib.Core.List.{append-nil}
use Rattle.layout.specs.Kind.Kind.{unused}
use Rattle.layout.specs.Layout.{columns, fault_of, values_of, numbers_of}
use Rattle.record.specs.SlotLines.{slot_items, satellite_items, satellites_from}
use Rattle.layout.proofs.Reading.{values-parts}
use Rattle.record.proofs.Reading.{judged, kept, after-parts}
use Rattle.record.proofs.slots.read_satellites.Goals as goal

-- the slots' loop is one step of the judging, and the line's own number decides them
pub returns : goal.returns
returns c =
    let line = c.args.line.now in
    let start = c.of-judge.ensures in
    let n = c.whole-count.result in
    let items = satellite_items c.args.rules n in
    let end = columns 61 80 unused ∷ [] in
    let slots = after-parts (slot_items false n) end c.unused-2.new.self in
    let fault = judged items c.unused-3.new.self start cc in
    let count = rw (kept (take 2 items) c.unused.new.self start cc) at c.whole-count.ensures.value in
    let read = rw (kept (take 4 items) c.unused-2.new.self start cc) at c.slots-identifiers.ensures.value in
    let identifiers = read ∙ ap numbers_of (sym (values-parts (slot_items false n) end line ∙ append-nil (values_of (slot_items false n) line))) in
    record {
      result =
          (λ i. record { fault = fault i; count = count i; identifiers = identifiers i })
          ∙ ap (λ (m : ℕ). satellites_from (fault_of (satellite_items c.args.rules m) line) (values_of (satellite_items c.args.rules m) line)) count;
    }
