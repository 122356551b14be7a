-- Where an LF is left, the first line of the bytes from there on.
use Rattle.std.proofs.Common.{◌∙◌}
use Rattle.file.proofs.Finding.{no-line-at, line-there}
use Rattle.file.proofs.line_at.Goals as goal

pub returns-then-bytes-end-clause-result : goal.returns-then-bytes-end-clause-result
returns-then-bytes-end-clause-result c =
    let a = c.args in
    c.nothing_at.ensures.result ∙ no-line-at a.bytes.now a.at c.line_end-end.result c.line_end-end.ensures.result c.if-bytes-end.true

pub returns-clause-result : goal.returns-clause-result
returns-clause-result c =
    let a = c.args in
    line-there a.bytes.now a.at c.line_end-end.result c.line_end-end.ensures.result c.if-bytes-end.false
