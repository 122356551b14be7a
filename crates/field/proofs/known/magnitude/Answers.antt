-- What the bytes before the point make leaves room for those after it.
use Rattle.std.proofs.Common.{◌+◌, length, sym, arith}
use Rattle.std.proofs.Math.Seq.{length-take-le}
use borrow.Author.Tests.{eqb-false}
use Rattle.laws.proofs.Lists.{rest_part}
use Rattle.field.proofs.KnownGood.{figure-wider, figures-room}
use Rattle.field.proofs.known.magnitude.Goals as goal

pub figures_from-high-requires : goal.figures_from-high-requires
figures_from-high-requires c =
    let before = length-take-le c.point_of-point.result c.args.s.now (omega arith) in
    (omega arith, figure-wider 0 {i = 0} (omega arith) (omega arith))

pub figures_from-requires : goal.figures_from-requires
figures_from-requires c =
    let s = c.args.s.now in
    let point = c.point_of-point.result in
    let high = c.figures_from-high.result in
    let before = length-take-le point s (omega arith) in
    let some = eqb-false (length s) 0 (sym c.if-is_empty.ensures) in
    rw (rest_part s (point + 1))
    (figures-room high s point (omega arith) c.if-s-gt-KNOWN_WIDEST.false
    (figure-wider high {j = point} (omega arith) (c.figures_from-high.ensures.bound 0 (omega arith))))
