-- The line at the byte where the k-th of its kind begins, which lies within the bytes.
use Rattle.std.proofs.Common.{◌≡◌, length, drop, min, ap, ◌∙◌, arith}
use Rattle.laws.specs.Places.{byte_of}
use Rattle.lines.specs.Lines.{lines_of, nth, begins_from}
use Rattle.file.specs.Kinds.{is_kind}
use Rattle.file.proofs.Finding.{line-at-place, line-within}
use Rattle.file.proofs.line_of.Goals as goal

pub returns-clause-result : goal.returns-clause-result
returns-clause-result c =
    let a = c.args in
    c.line_at.ensures.result
    ∙ ap (λ n. nth 0 (lines_of (drop n a.bytes.now))) c.line_begins-at.ensures.result
    ∙ line-at-place (is_kind a.rules a.kind) a.k a.bytes.now

pub returns-clause-lies : goal.returns-clause-lies
returns-clause-lies c =
    let a = c.args in
    let test = is_kind a.rules a.kind in
    let here : min c.line_begins-at.result (length a.bytes.now) ≡ begins_from test a.k 0 (lines_of a.bytes.now) =
    omega (arith, c.line_begins-at.ensures.result, line-within test a.k a.bytes.now) in
    c.line_at.ensures.lies ∙ ap (byte_of a.bytes) here
