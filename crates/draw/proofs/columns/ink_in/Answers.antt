use Rattle.std.proofs.Common.{◌≡◌, ◌-◌, refl, sym, arith, length, take, drop, length-take, length-drop}
use Rattle.layout.proofs.Inking.{past-whole, reached}
use Rattle.draw.proofs.columns.ink_in.Goals as goal

pub returns-then-last-line : goal.returns-then-last-line
returns-then-last-line g c = λ bytes leaves.
    let a = c.args in
    let from = a.first - 1 in
    let part = take (a.last - from) (drop from a.line.now) in
    let wide : length part ≡ a.last - from = omega (arith, length-drop from a.line.now, length-take (a.last - from) (drop from a.line.now)) in
    rw (leaves part c.put.new.arg2 wide (record { shown = _; shows = refl; left = _; met = c.put.ensures; leaves = refl }))
    (reached a.first a.last bytes a.line.now c.if-last-line.true)

pub returns-else-last-line : goal.returns-else-last-line
returns-else-last-line g c = λ bytes leaves. sym (past-whole c.args.first c.args.last bytes c.args.line.now (omega arith))
