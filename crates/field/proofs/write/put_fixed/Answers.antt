use Rattle.std.proofs.Common.{arith}
use Rattle.field.proofs.Backward.{fixed-pair}
use Rattle.field.proofs.write.put_fixed.Goals as goal

pub loop-i-preserved : goal.loop-i-preserved
loop-i-preserved c =
    let l = c.loop-i in
    record {
      within = omega (arith, c.put_pair.auto.out);
      text = fixed-pair l.out _ l.i l.rest c.loop-i-test.true l.invariant.within c.put_pair.ensures _ l.invariant.text;
    }
