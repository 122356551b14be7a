use Rattle.std.proofs.Common.{◌≡◌, ℕ, ◌+◌, ◌-◌, ◌<◌, length, drop, min, ap, arith}
use Rattle.canon.specs.Canonical.{slot_lines_of}
use Rattle.writer.proofs.Blocks.{slots-laid}
use Rattle.writer.proofs.Laying.{laying-as, laying-fits, laying-end}
use Rattle.writer.proofs.heads.put_slots.Goals as goal

pub overflow_add-at : goal.overflow_add-at
overflow_add-at c =
    let more : 0 < c.args.lines - c.loop.counter = omega arith in
    let line = rw c.seventeen.ensures at c.write_slots-at.ensures.lays in
    omega (arith, c.well_formed, laying-fits (slots-laid c.args.accuracies _ c.loop.rest.now more c.loop.invariant line))

pub loop-preserved : goal.loop-preserved
loop-preserved c =
    let more : 0 < c.args.lines - c.loop.counter = omega arith in
    let line = rw c.seventeen.ensures at c.write_slots-at.ensures.lays in
    let next : c.args.lines - c.loop.counter - 1 ≡ c.args.lines - (c.loop.counter + 1) = omega arith in
    rw (c.split_at.ensures.back, c.min.ensures)
    (laying-as (ap (λ (n : ℕ). slot_lines_of c.args.accuracies n (drop (min (length c.loop.rest.now) 17) c.loop.rest.now)) next)
    (slots-laid c.args.accuracies _ c.loop.rest.now more c.loop.invariant line))

pub returns : goal.returns
unfolding slot_lines_of
returns c =
    let none : c.args.lines - c.loop.counter ≡ 0 = omega arith in
    laying-end (laying-as (ap (λ (n : ℕ). slot_lines_of c.args.accuracies n c.loop.rest.now) none) c.loop.invariant)
