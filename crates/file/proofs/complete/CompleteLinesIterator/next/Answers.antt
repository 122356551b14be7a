-- What a call gives is the first complete line of the bytes that are left.
use Rattle.std.proofs.Common.{length, ap, rules}
use Rattle.file.proofs.FirstLine.{none-complete, one-complete}
use Rattle.file.proofs.complete.CompleteLinesIterator.next.Goals as goal

pub returns-then-end-rest-clause-steps : goal.returns-then-end-rest-clause-steps
returns-then-end-rest-clause-steps c =
    let none = none-complete c.args.self.now.rest.now _ c.line_end-end.ensures.result c.if-end-rest.true in
    (none, none)

pub returns-clause-steps : goal.returns-clause-steps
returns-clause-steps c = one-complete c.args.self.now.rest.now _ c.line_end-end.ensures.result c.if-end-rest.false

pub returns-clause-goes : goal.returns-clause-goes
returns-clause-goes c =
    let one = one-complete c.args.self.now.rest.now _ c.line_end-end.ensures.result c.if-end-rest.false in
    let fewer = ap length one in
    search rules
