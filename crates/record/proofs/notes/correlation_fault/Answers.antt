use Rattle.record.specs.Notes.{correlation_items}
use Rattle.record.proofs.Reading.{judged}
use Rattle.record.proofs.notes.correlation_fault.Goals as goal

pub returns : goal.returns
returns c = record { result = judged (correlation_items c.args.velocity) c.pairs.new.self c.of-judge.ensures cc }
