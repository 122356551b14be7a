use Rattle.std.proofs.Common.{◌≡◌, ◌-◌, ◌*◌, length}
use Rattle.record.specs.Plain.{comment_width}
use Rattle.canon.specs.Canonical.{comment_lines}
use Rattle.writer.proofs.Laying.{Laying}
use Rattle.writer.proofs.heads.put_comments.Given as goal

abbrev pub invariant-loop : goal.invariant-loop
invariant-loop l = record {
  left : length l.rest ≡ (l.count - l.counter) * comment_width;
  laying : Laying (comment_lines l.count l.bytes) l.fn.out l.at l.out (comment_lines (l.count - l.counter) l.rest);
}
