use Rattle.std.proofs.Common.{take}
use Rattle.record.specs.Opening.{epoch_items}
use Rattle.record.proofs.Reading.{judged, kept, dated}
use Rattle.record.proofs.opening.read_epoch.Goals as goal

pub returns : goal.returns
returns c =
    let start = c.of-judge.ensures in
    let fault = judged epoch_items c.unused-2.new.self start cc in
    let moment = rw (kept (take 2 epoch_items) c.unused.new.self start cc) at c.moment-moment.ensures.value in
    record { result = λ i. record { fault = dated c.date.ensures fault moment i; moment = moment i } }
