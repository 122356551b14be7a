use Rattle.std.proofs.Common.{◌∙◌, sym}
use Rattle.marks.proofs.Comparing.{repeats-start, repeats-step, repeats-end}
use Rattle.marks.proofs.compare_each.Goals as goal
use Rattle.marks.proofs.compare_each.Goals.{then-contains-via-then-contains, then-contains-via-else-contains+then-contains-2}

pub loop-i-init : goal.loop-i-init
loop-i-init c = repeats-start c.args.known.now c.args.new.now

pub returns-then-contains : goal.returns-then-contains
returns-then-contains c =
    let step = sym c.loop-i.invariant ∙ repeats-step c.args.known.now c.args.new.now c.loop-i.i c.loop-i-test.true in
    elim c.then-contains.branch [
      | then-contains-via-then-contains w ↦
          let first = sym c.contains.ensures.value ∙ w.if-contains.true in
          sym (rw first at step)
      | then-contains-via-else-contains+then-contains-2 w ↦
          let first = sym c.contains.ensures.value ∙ w.if-contains.false in
          let second = sym w.contains-else-contains.ensures.value ∙ w.if-contains-2.true in
          sym (rw (first, second) at step)
    ]

pub loop-i-preserved : goal.loop-i-preserved
loop-i-preserved c =
    let step = sym (repeats-step c.args.known.now c.args.new.now c.loop-i.i c.loop-i-test.true) ∙ c.loop-i.invariant in
    let first = sym c.contains.ensures.value ∙ c.if-contains.false in
    let second = sym c.contains-else-contains.ensures.value ∙ c.if-contains-2.false in
    rw (first, second) at step

pub returns : goal.returns
returns c = sym (repeats-end c.args.known.now c.args.new.now c.loop-i.i c.loop-i-test.false) ∙ c.loop-i.invariant
