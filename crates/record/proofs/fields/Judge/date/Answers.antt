use Rattle.std.proofs.Common.{ap, ◌∙◌, not}
use Rattle.record.proofs.Answers.{dated-case, undated-case}
use Rattle.record.proofs.fields.Judge.date.Goals as goal

pub returns-then-is_none : goal.returns-then-is_none
returns-then-is_none c =
    let m = c.args.m in
    rw (undated-case m.year m.month m.day _ c.date.ensures.result (c.is_none.ensures ∙ ap not c.if-is_none.true)) c.found.ensures

pub returns-else-is_none : goal.returns-else-is_none
returns-else-is_none c =
    let m = c.args.m in
    rw (dated-case m.year m.month m.day _ c.date.ensures.result (c.is_none.ensures ∙ ap not c.if-is_none.false))
