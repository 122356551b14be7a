use Rattle.std.proofs.Common.{take}
use Rattle.record.specs.Opening.{first_items}
use Rattle.record.proofs.Reading.{judged, kept, dated}
use Rattle.record.proofs.opening.read_first.Goals as goal

pub returns : goal.returns
returns c =
    let items = first_items c.args.rules in
    let line = c.of-judge.ensures in
    let fault = judged items c.texts-texts.new.self line cc in
    let mode = rw (kept (take 1 items) c.symbols.new.self line cc) at c.mode-mode.ensures.value in
    let start = rw (kept (take 2 items) c.mode-mode.new.self line cc) at c.moment-start.ensures.value in
    let texts = rw (kept (take 16 items) c.unused-2.new.self line cc) at c.texts-texts.ensures.value in
    let epochs = rw (kept (take 14 items) c.unused.new.self line cc) at c.whole-epochs.ensures.value in
    record {
      result = λ i. record {
        fault = dated c.date.ensures fault start i;
        mode = mode i;
        start = start i;
        epochs = epochs i;
        texts = texts i;
      };
    }
