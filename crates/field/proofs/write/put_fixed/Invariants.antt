-- What is left to write, before what stands, is the whole text.
use Rattle.std.proofs.Common.{◌≡◌, ◌≤◌, ◌++◌, length, drop}
use Rattle.field.specs.Show.{fixed_digits}
use Rattle.field.proofs.write.put_fixed.Given as goal

abbrev pub invariant-loop-i : goal.invariant-loop-i
invariant-loop-i l = record {
  within : l.i ≤ length l.out;
  text : fixed_digits (length l.initial.out) l.v ≡ fixed_digits l.i l.rest ++ drop l.i l.out;
}

abbrev pub decreases-loop-i : goal.decreases-loop-i
decreases-loop-i l = l.i
