use Rattle.std.proofs.Common.{arith}
use Rattle.canon.proofs.Counting.{begun, last_within}
use Rattle.canon.proofs.bounds.times_valid.Goals as goal

pub overflow_add-h : goal.overflow_add-h
overflow_add-h c =
    let tests = rw (c.is_instant.ensures, c.within.ensures.result, c.within-2.ensures.result) at c.if-begun.true in
    let b = begun c.args.h tests in
    omega (arith, b.started, last_within c.args.h b)
