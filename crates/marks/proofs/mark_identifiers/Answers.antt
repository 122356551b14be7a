use Rattle.marks.proofs.Marking.{marking-one}
use Rattle.marks.proofs.mark_identifiers.Goals as goal

pub loop-identifier-preserved : goal.loop-identifier-preserved
loop-identifier-preserved c =
    let l = c.loop-identifier in
    marking-one c.args.marks.now c.args.identifiers.now l.marks l.all l.identifier-index l.invariant c.loop-identifier-test.true c.mark-all.result c.mark-all.new.marks
    c.mark-all.ensures.result
    c.mark-all.ensures.lent
