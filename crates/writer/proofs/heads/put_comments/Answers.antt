use Rattle.std.proofs.Common.{◌≡◌, ℕ, ◌+◌, ◌-◌, ◌<◌, drop, ap, arith}
use Rattle.record.specs.Plain.{comment_width}
use Rattle.canon.specs.Canonical.{comment_lines}
use Rattle.writer.proofs.Blocks.{comment-laid}
use Rattle.writer.proofs.Laying.{laying-as, laying-fits, laying-end}
use Rattle.writer.proofs.heads.put_comments.Goals as goal

pub overflow_add-at : goal.overflow_add-at
overflow_add-at c =
    let more : 0 < c.args.count - c.loop.counter = omega arith in
    let line = rw c.split_at.ensures.front at c.write_comment-at.ensures.lays in
    omega (arith, c.well_formed, laying-fits (comment-laid _ c.loop.rest.now more c.loop.invariant.laying line))

pub loop-preserved : goal.loop-preserved
loop-preserved c =
    let more : 0 < c.args.count - c.loop.counter = omega arith in
    let line = rw c.split_at.ensures.front at c.write_comment-at.ensures.lays in
    let next : c.args.count - c.loop.counter - 1 ≡ c.args.count - (c.loop.counter + 1) = omega arith in
    record {
      left = omega (arith, c.split_at.ensures.back_len, c.loop.invariant.left);
      laying = rw c.split_at.ensures.back
          (laying-as (ap (λ (n : ℕ). comment_lines n (drop comment_width c.loop.rest.now)) next) (comment-laid _ c.loop.rest.now more c.loop.invariant.laying line));
    }

pub returns : goal.returns
unfolding comment_lines
returns c =
    let none : c.args.count - c.loop.counter ≡ 0 = omega arith in
    laying-end (laying-as (ap (λ (n : ℕ). comment_lines n c.loop.rest.now) none) c.loop.invariant.laying)
