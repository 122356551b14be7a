-- The digits after the point carry on the integer before it.
use Rattle.std.proofs.Common.{◌∙◌, ap, sym}
use Rattle.field.specs.Read.{told_amount}
use Rattle.field.proofs.Accepted.{carried_none, carried_some}
use Rattle.field.proofs.Bounds.{high_room}
use Rattle.field.proofs.Reading.{decimal_from}
use Rattle.field.proofs.read.decimal.Goals as goal

pub returns-in_err-high : goal.returns-in_err-high
returns-in_err-high c = record {
  result =
      ap told_amount
      (c.from_residual-in_err-high.ensures
      ∙ decimal_from c.args.s.now c.args.places c.args.signed _ _ c.in_ok-before.ensures _ (sym c.in_err-high.was ∙ c.integer.ensures));
}

pub digits_from-requires : goal.digits_from-requires
digits_from-requires c =
    let high = c.in_ok-high.high in
    high_room c.args.s.now c.args.places _ _ c.in_ok-before.ensures c.args.signed high.negative high.magnitude (sym c.integer.ensures ∙ c.in_ok-high.was)

pub returns-in_err-magnitude : goal.returns-in_err-magnitude
returns-in_err-magnitude c =
    let high = c.in_ok-high.high in
    record {
      result =
          ap told_amount
          (c.from_residual-in_err-magnitude.ensures
          ∙ carried_none high.negative high.magnitude _ (sym c.digits_from.ensures ∙ c.in_err-magnitude.was)
          ∙ decimal_from c.args.s.now c.args.places c.args.signed _ _ c.in_ok-before.ensures _ (sym c.in_ok-high.was ∙ c.integer.ensures));
    }

pub returns : goal.returns
returns c =
    let high = c.in_ok-high.high in
    record {
      result =
          ap told_amount
          (c.settle.ensures
          ∙ carried_some high.negative high.magnitude _ _ (sym c.digits_from.ensures ∙ c.in_ok-magnitude.was)
          ∙ decimal_from c.args.s.now c.args.places c.args.signed _ _ c.in_ok-before.ensures _ (sym c.in_ok-high.was ∙ c.integer.ensures));
    }
