use Rattle.std.proofs.Common.{length, arith}
use Rattle.field.proofs.Bounds.{wider}
use Rattle.field.proofs.Fitting.{fits-facts}
use Rattle.field.proofs.Written.{integer-plain, minus-column, integer-minus}
use Rattle.field.proofs.write.put_integer.Goals as goal

pub put_digits-start-requires : goal.put_digits-start-requires
put_digits-start-requires c =
    let facts = fits-facts _ c.args.negative c.args.v c.requires in
    (omega (arith, c.fill_blanks.auto.out), wider (omega (arith, c.fill_blanks.auto.out)) facts.2)

pub overflow_sub-out : goal.overflow_sub-out
overflow_sub-out c =
    let a = c.args in
    let d = c.put_digits-start in
    omega (arith, minus-column (length a.out.now) a.v _ _ _ a.negative c.fill_blanks.ensures.lent d.ensures.value d.ensures.out_after c.if-negative.true c.requires)

pub bounds-out-start : goal.bounds-out-start
bounds-out-start c =
    let a = c.args in
    let d = c.put_digits-start in
    omega (
      arith,
      minus-column (length a.out.now) a.v _ _ _ a.negative c.fill_blanks.ensures.lent d.ensures.value d.ensures.out_after c.if-negative.true c.requires,
      d.auto.out,
      c.fill_blanks.auto.out,
    )

pub returns-then-negative : goal.returns-then-negative
returns-then-negative c =
    let a = c.args in
    let d = c.put_digits-start in
    integer-minus (length a.out.now) a.v _ _ _ a.negative c.fill_blanks.ensures.lent d.ensures.value d.ensures.out_after c.if-negative.true c.requires

pub returns-else-negative : goal.returns-else-negative
returns-else-negative c =
    let a = c.args in
    let d = c.put_digits-start in
    integer-plain (length a.out.now) a.v _ _ _ a.negative c.fill_blanks.ensures.lent d.ensures.value d.ensures.out_after c.if-negative.false
