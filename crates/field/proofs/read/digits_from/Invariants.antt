-- Reading on from the value so far gives the answer of the whole, and that value leaves room for the digits that are left.
use Rattle.std.proofs.Common.{◌≡◌, ◌<◌, ◌≤◌, ◌+◌, ◌-◌, ◌^◌, length, drop}
use Rattle.field.specs.Digits.{widest}
use Rattle.field.specs.Read.{digits_from}
use Rattle.field.proofs.read.digits_from.Given as goal

abbrev pub invariant-loop-b : goal.invariant-loop-b
invariant-loop-b l = record {
  narrow : length l.s ≤ widest;
  small : l.value < 10 ^ (widest - length l.s + l.b-index);
  same : digits_from l.value (drop l.b-index l.s) ≡ digits_from l.fn.high l.s;
}
