-- Of a line that is not too long the blanks behind it are plain too.
use Rattle.std.proofs.Common.{ap, ◌∙◌}
use Rattle.laws.specs.Texts.{every, is_printable}
use Rattle.machine.proofs.Stepping.{padded-plain}
use Rattle.machine.proofs.step.is_plain.Goals as goal

pub returns : goal.returns
returns c = c.is_printable-2.ensures.result ∙ ap (every is_printable) c.requires ∙ padded-plain c.args.line.now c.if-line-gt80.false
