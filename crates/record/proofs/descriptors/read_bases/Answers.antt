use Rattle.std.proofs.Common.{take}
use Rattle.record.specs.Descriptors.{base_items}
use Rattle.record.proofs.Reading.{judged, kept}
use Rattle.record.proofs.descriptors.read_bases.Goals as goal

pub returns : goal.returns
returns c =
    let start = c.of-judge.ensures in
    let fault = judged base_items c.later_floats.new.self start cc in
    let place = kept (take 2 base_items) c.unused.new.self start cc in
    let clock = kept (take 4 base_items) c.unused-2.new.self start cc in
    record { result = cc }
