-- The text of the comment's line lies within the bytes.
use Rattle.std.proofs.Common.{◌≡◌, min, length, arith}
use Rattle.lines.specs.Lines.{lines_of}
use Rattle.questions.proofs.Asking.{comment-told, text-within}
use Rattle.questions.proofs.comments.comment_at.Goals as goal

pub overflow_add-result : goal.overflow_add-result
overflow_add-result c =
    let a = c.args in
    let indent : c.min-indent.result ≡ min 3 (length c.line_of-line.result.now) = omega (arith, c.min-indent.ensures) in
    omega (
      arith,
      text-within a.rules a.bytes.now a.k c.line_begins-place.result c.min-indent.result c.line_of-line.result.now
          c.line_begins-place.ensures.result c.line_of-line.ensures.result indent,
    )

pub returns : goal.returns
returns c =
    let a = c.args in
    let indent : c.min-indent.result ≡ min 3 (length c.line_of-line.result.now) = omega (arith, c.min-indent.ensures) in
    comment-told a.rules (lines_of a.bytes.now) a.k c.line_begins-place.result c.min-indent.result c.line_of-line.result.now c.text_of-text.result.now
    c.line_begins-place.ensures.result c.line_of-line.ensures.result indent c.text_of-text.ensures.result
