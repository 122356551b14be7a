use Rattle.std.proofs.Common.{Bool, ℕ, ◌&&◌, ltb, take, ap, ◌∙◌}
use Rattle.field.specs.Known.{has_minus}
use Rattle.field.proofs.KnownGood.{minus_folded}
use Rattle.field.proofs.known.is_negative.Goals as goal

pub returns : goal.returns
returns c =
    let a = c.args in
    record {
      result =
          c.shown_negative.ensures
          ∙ ap (λ (minus : Bool). minus && ltb 0 a.magnitude)
          (c.has_minus-minus.ensures ∙ minus_folded (take c.point_of-point.result a.s.now) ∙ ap (λ (point : ℕ). has_minus (take point a.s.now)) c.point_of-point.ensures);
    }
