use Rattle.record.specs.Descriptors.{float_items}
use Rattle.record.proofs.Reading.{judged}
use Rattle.record.proofs.descriptors.floats_fault.Goals as goal

pub returns : goal.returns
returns c = record { result = judged float_items c.later_floats.new.self c.of-judge.ensures cc }
