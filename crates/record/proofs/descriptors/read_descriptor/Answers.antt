use Rattle.std.proofs.Common.{take}
use Rattle.record.specs.Descriptors.{descriptor_items}
use Rattle.record.proofs.Reading.{judged, kept}
use Rattle.record.proofs.descriptors.read_descriptor.Goals as goal

pub returns : goal.returns
returns c =
    let start = c.of-judge.ensures in
    let fault = judged descriptor_items c.later_characters.new.self start cc in
    let file_type = rw (kept (take 2 descriptor_items) c.unused.new.self start cc) at c.file_type-file_type.ensures.value in
    record { result = λ i. record { fault = fault i; file_type = file_type i; time_system = c.text.ensures i } }
