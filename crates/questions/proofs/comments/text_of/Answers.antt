-- The text stands behind three columns, or at the end of a line that has no more.
use Rattle.std.proofs.Common.{◌≡◌, ◌+◌, min, length, sym, ap, ◌∙◌, arith}
use Rattle.laws.specs.Places.{byte_of}
use Rattle.laws.proofs.Lists.{rest-none}
use Rattle.layout.specs.Line.{trimmed}
use Rattle.questions.proofs.Asking.{text-fits, text-told}
use Rattle.questions.proofs.comments.text_of.Goals as goal

pub returns-then-line-lt3 : goal.returns-then-line-lt3
returns-then-line-lt3 c =
    let line = c.args.line in
    let here : min (length line.now) (length line.now) ≡ min 3 (length line.now) = omega arith in
    record {
      result = c.nothing_at.ensures.result ∙ ap trimmed (sym (rest-none line.now 3 (omega arith)));
      lies = c.nothing_at.ensures.lies ∙ ap (byte_of line) here;
    }

pub slice_bounds-result-end : goal.slice_bounds-result-end
slice_bounds-result-end c = omega (arith, text-fits c.args.line.now c.trimmed_length-n.result c.trimmed_length-n.ensures.result)

pub returns : goal.returns
returns c =
    let line = c.args.line in
    let here : 3 ≡ min 3 (length line.now) = omega arith in
    let first : 0 + (3 + line.ref_ptr.1) ≡ 3 + line.ref_ptr.1 = omega arith in
    record {
      result = text-told line.now c.trimmed_length-n.result c.trimmed_length-n.ensures.result;
      lies = ap (λ n. (line.ref_ptr.0, n)) first ∙ ap (byte_of line) here;
    }
