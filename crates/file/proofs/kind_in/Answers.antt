-- The first three columns of a line tell its kind.
use Rattle.std.proofs.Common.{ap, ◌∙◌}
use Rattle.record.specs.LineKinds.{told_kind}
use Rattle.file.proofs.Finding.{kind-told}
use Rattle.file.proofs.kind_in.Goals as goal

pub returns : goal.returns
returns c =
    let a = c.args in
    let kind = kind-told a.rules a.line.now _ _ _ c.byte_at.ensures c.byte_at-2.ensures c.byte_at-3.ensures in
    record { result = c.kind_number.ensures.result ∙ c.kind_by-kind.ensures.result ∙ ap told_kind kind }
