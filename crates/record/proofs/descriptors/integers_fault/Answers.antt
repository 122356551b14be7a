use Rattle.record.specs.Descriptors.{integer_items}
use Rattle.record.proofs.Reading.{judged}
use Rattle.record.proofs.descriptors.integers_fault.Goals as goal

pub returns : goal.returns
returns c = record { result = judged integer_items c.unused.new.self c.of-judge.ensures cc }
