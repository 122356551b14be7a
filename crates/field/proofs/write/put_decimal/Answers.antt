-- Once the number fits, the part before the point and the part from it on are written each in its own columns.
use Rattle.std.proofs.Common.{◌≡◌, ◌-◌, ◌∙◌, length, sym, arith}
use Rattle.field.proofs.Powers.{ten_pos, ten_to_is}
use Rattle.field.proofs.Fitting.{decimal-facts}
use Rattle.field.proofs.Written.{decimal-text}
use Rattle.field.proofs.write.put_decimal.Goals as goal

pub overflow_sub-width : goal.overflow_sub-width
overflow_sub-width c = omega (arith, decimal-facts _ _ _ _ (sym c.if-not-fits_decimal.ensures.result))

pub overflow_sub-width-2 : goal.overflow_sub-width-2
overflow_sub-width-2 c = omega (arith, decimal-facts _ _ _ _ (sym c.if-not-fits_decimal.ensures.result))

pub nonzero_rem-magnitude : goal.nonzero_rem-magnitude
nonzero_rem-magnitude c =
    let facts = decimal-facts _ _ _ _ (sym c.if-not-fits_decimal.ensures.result) in
    rw (c.ten_to-unit.ensures.result, ten_to_is c.args.places (omega (arith, facts.0, facts.1))) (ten_pos c.args.places)

pub nonzero_div-magnitude : goal.nonzero_div-magnitude
nonzero_div-magnitude c =
    let facts = decimal-facts _ _ _ _ (sym c.if-not-fits_decimal.ensures.result) in
    rw (c.ten_to-unit.ensures.result, ten_to_is c.args.places (omega (arith, facts.0, facts.1))) (ten_pos c.args.places)

pub put_point-requires : goal.put_point-requires
put_point-requires c =
    let parts = c.split_at_mut-before.ensures in
    omega (arith, decimal-facts _ _ _ _ (sym c.if-not-fits_decimal.ensures.result), parts.front_len, parts.back_len)

pub put_integer-requires : goal.put_integer-requires
put_integer-requires c =
    let facts = decimal-facts _ _ _ _ (sym c.if-not-fits_decimal.ensures.result) in
    let unit = c.ten_to-unit.ensures.result ∙ ten_to_is c.args.places (omega (arith, facts.0, facts.1)) in
    rw (c.split_at_mut-before.ensures.front_len, c.shown_negative.ensures, unit) facts.2

pub returns-clause-lent : goal.returns-clause-lent
returns-clause-lent c =
    let a = c.args in
    let parts = c.split_at_mut-before.ensures in
    let facts = decimal-facts _ _ _ _ (sym c.if-not-fits_decimal.ensures.result) in
    let unit = c.ten_to-unit.ensures.result ∙ ten_to_is a.places (omega (arith, facts.0, facts.1)) in
    let rest : length c.split_at_mut-before.result.1.now - 1 ≡ a.places = omega (arith, facts.1, parts.front_len, parts.back_len) in
    rw (sym c.if-not-fits_decimal.ensures.result)
    (decimal-text (length a.out.now) a.places a.negative a.magnitude _ _ _ _ _ _ parts.front_len rest c.shown_negative.ensures unit c.put_integer.ensures c.put_point.ensures)
