use Rattle.std.proofs.Common.{◌+◌, ◌-◌, ◌*◌, ℕ, length, drop, sym, ap, ◌∙◌, arith}
use Rattle.field.specs.Digits.{value_from}
use Rattle.field.proofs.Digits.{value-step}
use Rattle.field.proofs.KnownGood.{figure-more, figure-wider}
use Rattle.field.proofs.known.figures_from.Goals as goal

-- in a turn the value so far leaves room for one digit more
pub overflow_mul-value : goal.overflow_mul-value
overflow_mul-value c =
    let l = c.loop-b in
    let n = length c.args.s.now in
    omega (arith, figure-wider l.value {i = 17 - n + l.b-index} {j = 16} (omega arith) (l.invariant.bound (17 - n) c.requires.1))

pub overflow_add-value : goal.overflow_add-value
overflow_add-value c =
    let l = c.loop-b in
    let n = length c.args.s.now in
    omega (arith, figure-wider l.value {i = 17 - n + l.b-index} {j = 16} (omega arith) (l.invariant.bound (17 - n) c.requires.1), c.type_inv.s l.b-index)

pub loop-b-preserved : goal.loop-b-preserved
loop-b-preserved c =
    let l = c.loop-b in
    let s = c.args.s.now in
    record {
      same =
          ap (λ (d : ℕ). value_from (l.value * 10 + d) (drop (l.b-index + 1) s)) c.figure.ensures.result
          ∙ sym (value-step s l.b-index l.value c.loop-b-test.true)
          ∙ l.invariant.same;
      bound = λ k h. figure-more l.value k l.b-index c.figure.result (l.invariant.bound k h) (omega (arith, c.type_inv.s l.b-index));
    }
