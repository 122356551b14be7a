-- What is left to write, before what stands, is the whole text and has its columns, and what stands before that is as it was.
use Rattle.std.proofs.Common.{◌≡◌, ◌<◌, ◌≤◌, ◌^◌, ◌++◌, length, take, drop}
use Rattle.field.specs.Show.{digits_in}
use Rattle.field.proofs.write.put_digits.Given as goal

abbrev pub invariant-loop-rest : goal.invariant-loop-rest
invariant-loop-rest l = record {
  some : 0 < l.i;
  within : l.i ≤ length l.out;
  fits : l.rest < 10 ^ l.i;
  text : digits_in (length l.initial.out) l.v ≡ digits_in l.i l.rest ++ drop l.i l.out;
  kept : take l.i l.out ≡ take l.i l.initial.out;
}

abbrev pub decreases-loop-rest : goal.decreases-loop-rest
decreases-loop-rest l = l.i
