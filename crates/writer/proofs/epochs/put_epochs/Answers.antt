use Rattle.std.proofs.Common.{◌≡◌, ℕ, ◌+◌, ◌-◌, ◌*◌, ◌<◌, length, drop, ap, arith}
use Rattle.canon.specs.Table.{cell_width}
use Rattle.canon.specs.Canonical.{epochs_lines}
use Rattle.canon.proofs.HeaderBounds.{timed}
use Rattle.writer.proofs.Blocks.{less_one, epoch-fits, epoch-laid}
use Rattle.writer.proofs.Times.{clocked-instant, clocked-fits, clocked-next}
use Rattle.writer.proofs.Laying.{laying-as, laying-fits, laying-end}
use Rattle.writer.proofs.epochs.put_epochs.Goals as goal

pub overflow_mul-width : goal.overflow_mul-width
overflow_mul-width c =
    let h = c.args.h in
    let n = length c.args.identifiers.now in
    let wide : n * c.cell_width.result ≡ n * cell_width h.velocity = ap (λ (w : ℕ). n * w) c.cell_width.ensures.result in
    omega (arith, c.well_formed, c.requires.rows_len, less_one h.epochs (n * cell_width h.velocity) (timed h c.requires.h_value).epochs.0, wide)

pub put_epoch-at-requires-clause-at8_value : goal.put_epoch-at-requires-clause-at8_value
put_epoch-at-requires-clause-at8_value c =
    let more : 0 < c.args.h.epochs - c.loop.counter = omega arith in
    clocked-instant (timed c.args.h c.requires.h_value) c.loop.invariant.clocked more

pub put_epoch-at-requires-clause-rows_in_bounds : goal.put_epoch-at-requires-clause-rows_in_bounds
put_epoch-at-requires-clause-rows_in_bounds c =
    let h = c.args.h in
    let more : 0 < h.epochs - c.loop.counter = omega arith in
    let wide = ap (λ (w : ℕ). length c.args.identifiers.now * w) c.cell_width.ensures.result in
    rw c.split_at.ensures.front
    (epoch-fits h.velocity c.args.identifiers.now h.interval8 (h.epochs - c.loop.counter) c.loop.at8 c.loop.rest.now _ wide more c.loop.invariant.laying)

pub overflow_add-at : goal.overflow_add-at
overflow_add-at c =
    let h = c.args.h in
    let more : 0 < h.epochs - c.loop.counter = omega arith in
    let wide = ap (λ (w : ℕ). length c.args.identifiers.now * w) c.cell_width.ensures.result in
    let lines = rw c.split_at.ensures.front at c.put_epoch-at.ensures in
    omega (
      arith,
      c.well_formed,
      laying-fits (epoch-laid h.velocity c.args.identifiers.now h.interval8 (h.epochs - c.loop.counter) c.loop.at8 c.loop.rest.now _ wide more c.loop.invariant.laying lines),
    )

pub overflow_add-at8 : goal.overflow_add-at8
overflow_add-at8 c =
    let more : 0 < c.args.h.epochs - c.loop.counter = omega arith in
    record { fits = clocked-fits (timed c.args.h c.requires.h_value) c.loop.invariant.clocked more }

pub loop-preserved : goal.loop-preserved
loop-preserved c =
    let h = c.args.h in
    let n = length c.args.identifiers.now in
    let more : 0 < h.epochs - c.loop.counter = omega arith in
    let next : h.epochs - c.loop.counter - 1 ≡ h.epochs - (c.loop.counter + 1) = omega arith in
    let wide : n * c.cell_width.result ≡ n * cell_width h.velocity = ap (λ (w : ℕ). n * w) c.cell_width.ensures.result in
    let lines = rw c.split_at.ensures.front at c.put_epoch-at.ensures in
    record {
      left = omega (
        arith,
        c.split_at.ensures.back_len,
        c.loop.invariant.left,
        less_one (h.epochs - c.loop.counter) (n * cell_width h.velocity) more,
        ap (λ (k : ℕ). k * (n * cell_width h.velocity)) next,
        wide,
      );
      clocked = rw (← next) (clocked-next (timed h c.requires.h_value) c.loop.invariant.clocked more);
      laying = rw c.split_at.ensures.back
          (laying-as (ap (λ (k : ℕ). epochs_lines h.velocity c.args.identifiers.now h.interval8 k (c.loop.at8 + h.interval8) (drop (n * c.cell_width.result) c.loop.rest.now)) next)
          (epoch-laid h.velocity c.args.identifiers.now h.interval8 (h.epochs - c.loop.counter) c.loop.at8 c.loop.rest.now _ wide more c.loop.invariant.laying lines));
    }

pub returns : goal.returns
unfolding epochs_lines
returns c =
    let h = c.args.h in
    let none : h.epochs - c.loop.counter ≡ 0 = omega arith in
    laying-end (laying-as (ap (λ (k : ℕ). epochs_lines h.velocity c.args.identifiers.now h.interval8 k c.loop.at8 c.loop.rest.now) none) c.loop.invariant.laying)
