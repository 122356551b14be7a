use Rattle.record.specs.Descriptors.{character_items}
use Rattle.record.proofs.Reading.{judged}
use Rattle.record.proofs.descriptors.characters_fault.Goals as goal

pub returns : goal.returns
returns c = record { result = judged character_items c.later_characters.new.self c.of-judge.ensures cc }
