-- A byte that is no digit ends the reading; a digit carries it on.
use Rattle.std.proofs.Common.{◌≡◌, ◌+◌, ◌-◌, ◌*◌, length, get_or, drop, sym, ap, ◌∙◌, arith}
use Rattle.std.proofs.Math.Nat.{lt_of_lt_of_le}
use Rattle.field.specs.Digits.{widest}
use Rattle.field.specs.Read.{digits_from}
use Rattle.field.proofs.Digits.{digits-over, digits_step, digits-stop}
use Rattle.field.proofs.Powers.{ten-mono, digit-more}
use Rattle.field.proofs.Texts.{digit-small}
use Rattle.field.proofs.read.digits_from.Goals as goal

pub returns-then-not-is_ascii_digit : goal.returns-then-not-is_ascii_digit
returns-then-not-is_ascii_digit c =
    let l = c.loop-b in
    digits-stop c.args.s.now l.b-index l.value c.loop-b-test.true (sym c.is_ascii_digit.ensures.value ∙ c.if-not-is_ascii_digit.true) ∙ l.invariant.same

pub overflow_mul-value : goal.overflow_mul-value
overflow_mul-value c =
    let l = c.loop-b in
    let small = lt_of_lt_of_le l.invariant.small (ten-mono {j = 17} (omega arith)) in
    omega arith

pub overflow_add-value : goal.overflow_add-value
overflow_add-value c =
    let l = c.loop-b in
    let small = lt_of_lt_of_le l.invariant.small (ten-mono {j = 17} (omega arith)) in
    omega arith

pub loop-b-preserved : goal.loop-b-preserved
loop-b-preserved c =
    let l = c.loop-b in
    let s = c.args.s.now in
    let room : widest - length s + (l.b-index + 1) ≡ widest - length s + l.b-index + 1 = omega arith in
    let is_one = sym c.is_ascii_digit.ensures.value ∙ c.if-not-is_ascii_digit.false in
    let digit : c.from.result ≡ get_or s l.b-index 0 - 48 = omega arith in
    record {
      narrow = l.invariant.narrow;
      small = rw room (digit-more (widest - length s + l.b-index) l.value c.from.result l.invariant.small (omega (arith, digit-small (get_or s l.b-index 0) is_one)));
      same =
          ap (λ d. digits_from (l.value * 10 + d) (drop (l.b-index + 1) s)) digit
          ∙ sym (digits_step s l.b-index l.value c.loop-b-test.true is_one)
          ∙ l.invariant.same;
    }

pub returns : goal.returns
returns c = digits-over c.args.s.now c.loop-b.b-index c.loop-b.value c.loop-b-test.false ∙ c.loop-b.invariant.same
