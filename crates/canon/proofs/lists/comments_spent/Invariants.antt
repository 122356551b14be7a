use Rattle.std.proofs.Common.{◌≡◌}
use Rattle.std.specs.Slice.Iter.{chunks_exact_size, chunks_exact_rest}
use Rattle.record.specs.Plain.{comment_width}
use Rattle.canon.specs.Valid.{comments_valid}
use Rattle.canon.specs.Measured.{comments_length}
use Rattle.canon.specs.Spent.{spent}
use Rattle.canon.proofs.Spending.{Spending}
use Rattle.canon.proofs.lists.comments_spent.Given as goal

abbrev pub invariant-loop-text : goal.invariant-loop-text
invariant-loop-text l = record {
  can_next : (goal.iterator-loop-text).can_next l.text-iterator;
  is_finite : (goal.iterator-loop-text).is_finite l.text-iterator;
  size : chunks_exact_size l.text-iterator ≡ comment_width;
  spending : Spending (comments_valid l.rules) comments_length comment_width
      (spent (comments_valid l.rules l.count l.bytes) l.room (comments_length l.count l.bytes)) l.left (chunks_exact_rest l.text-iterator);
}
