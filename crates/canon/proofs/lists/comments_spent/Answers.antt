use Rattle.std.proofs.Common.{refl, ◌∙◌, lit≤, rules}
use Rattle.record.specs.Plain.{comment_width}
use Rattle.canon.specs.Valid.{comment_valid, comments_valid}
use Rattle.canon.specs.Measured.{comment_length, comments_length}
use Rattle.canon.proofs.Spending.{spending-next, spending-none, spending-last}
use Rattle.canon.proofs.lists.comments_spent.Goals as goal

pub returns-in_err-left : goal.returns-in_err-left
unfolding comments_valid comments_length
returns-in_err-left c =
    let i = c.loop-text.invariant in
    let steps = rw c.in-Some.is at c.next.ensures.steps in
    c.from_residual.ensures
    ∙ spending-none (comments_valid c.args.rules) comments_length comment_width (comment_valid c.args.rules) comment_length i.spending
    (λ k s. refl) (λ k s. refl) (lit≤ tt) c.in-Some.text.now _ steps.1.0 (steps.1.1 ∙ i.size) c.in_err-left.ensures

pub loop-text-preserved : goal.loop-text-preserved
unfolding comments_valid comments_length
loop-text-preserved c =
    let i = c.loop-text.invariant in
    let steps = rw c.in-Some.is at c.next.ensures.steps in
    record {
      can_next = search rules;
      is_finite = tt;
      size = steps.0 ∙ i.size;
      spending = spending-next (comments_valid c.args.rules) comments_length comment_width (comment_valid c.args.rules) comment_length i.spending
          (λ k s. refl) (λ k s. refl) (lit≤ tt) c.in-Some.text.now _ steps.1.0 (steps.1.1 ∙ i.size) c.in_ok-left.left c.in_ok-left.ensures;
    }

pub returns : goal.returns
unfolding comments_valid comments_length
returns c =
    let i = c.loop-text.invariant in
    let steps = rw c.in-None.is at c.next.ensures.steps in
    spending-last (comments_valid c.args.rules) comments_length comment_width i.spending (λ s. refl) (λ s. refl) (rw (← i.size) steps.1.0)
