use Rattle.std.proofs.Common.{take}
use Rattle.record.specs.Opening.{second_items}
use Rattle.record.proofs.Reading.{judged, kept}
use Rattle.record.proofs.opening.read_second.Goals as goal

pub returns : goal.returns
returns c =
    let start = c.of-judge.ensures in
    let fault = judged second_items c.unused-6.new.self start cc in
    let week = kept (take 2 second_items) c.unused.new.self start cc in
    let seconds = kept (take 4 second_items) c.unused-2.new.self start cc in
    let interval = kept (take 6 second_items) c.unused-3.new.self start cc in
    let mjd = kept (take 8 second_items) c.unused-4.new.self start cc in
    let fraction = kept (take 10 second_items) c.unused-5.new.self start cc in
    record { result = cc }
