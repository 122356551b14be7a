use Rattle.std.proofs.Common.{◌≡◌, ◌-◌, ◌∙◌, ap, ℕ, length, set, take, drop, arith}
use lib.ListN.{length-set, length-take, length-drop}
use Rattle.field.specs.Show.{fixed_digits}
use Rattle.field.proofs.Written.{point-text}
use Rattle.field.proofs.write.put_point.Goals as goal

pub returns : goal.returns
returns c =
    let a = c.args in
    let out = a.out.now in
    let rest = drop 1 (set out 0 46) in
    let long : length (take (length (set out 0 46) - 1) rest) ≡ length out - 1 =
    omega (arith, length-take (length (set out 0 46) - 1) rest, length-drop 1 (set out 0 46), length-set out 0 46) in
    point-text out c.put_fixed.new.out a.v c.requires (c.put_fixed.ensures ∙ ap (λ (k : ℕ). fixed_digits k a.v) long)
