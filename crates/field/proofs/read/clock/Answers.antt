use Rattle.std.proofs.Common.{◌∙◌, ap, sym}
use Rattle.field.specs.Read.{some_amount, told_amount}
use Rattle.field.proofs.Told.{told_amount-one}
use Rattle.field.proofs.Clocks.{clock-decimal, clock-bare}
use Rattle.field.proofs.read.clock.Goals as goal

pub returns-in-Some : goal.returns-in-Some
returns-in-Some c =
    let a = c.args in
    let r = c.in-Some.read in
    record {
      result =
          ap told_amount
          (ap (some_amount r.negative) c.clock_held.ensures.result
          ∙ sym (clock-decimal a.s.now a.places r.negative r.magnitude (sym (told_amount-one _ _ c.decimal.ensures.result) ∙ c.in-Some.is)));
    }

pub returns-in-None : goal.returns-in-None
returns-in-None c =
    let a = c.args in
    record { result = ap told_amount (c.bare_clock.ensures ∙ sym (clock-bare a.s.now a.places (sym (told_amount-one _ _ c.decimal.ensures.result) ∙ c.in-None.is))) }
