-- The first k bytes are copied, and the rest is as it was.
use Rattle.std.proofs.Common.{◌≡◌, ◌++◌, length, take, drop}
use Rattle.layout.proofs.copy_front.Given as goal

abbrev pub invariant-loop-k : goal.invariant-loop-k
invariant-loop-k l = record {
  kept : length l.out ≡ length l.fn.out;
  copied : l.out ≡ take l.k l.bytes ++ drop l.k l.fn.out;
}
