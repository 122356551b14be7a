use Rattle.std.proofs.Common.{◌≡◌, sym, refl, arith, length, take}
use lib.Seq.{length-take-le}
use Rattle.draw.proofs.Laying.{no_room, laid-over}
use Rattle.draw.proofs.ended.lay_ended.Goals as goal

pub returns-then-n-out : goal.returns-then-n-out
returns-then-n-out g c = λ line long leaves. no_room line c.args.out.now c.args.n (sym long) c.if-n-out.true

pub returns : goal.returns
returns g c = λ line long leaves.
    let a = c.args in
    let wide : length (take a.n a.out.now) ≡ a.n = length-take-le a.n a.out.now (omega arith) in
    rw (leaves (take a.n a.out.now) c.put.new.arg2 wide (record { shown = _; shows = refl; left = _; met = c.put.ensures; leaves = refl }))
    (laid-over line a.out.now a.n (sym long) c.if-n-out.false)
