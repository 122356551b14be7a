-- Line 1 is read from the first line of its kind.
use Rattle.std.proofs.Common.{ap, ◌∙◌}
use Rattle.record.specs.Opening.{first_of}
use Rattle.file.proofs.records.first_of.Goals as goal

pub returns : goal.returns
returns c = record { result = c.read_first.ensures.result ∙ ap (first_of c.args.rules) c.padded_line-line.ensures.result }
