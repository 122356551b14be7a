-- The rest, read on from the value so far, gives the value of the whole, and that value leaves room for what is left.
use Rattle.std.proofs.Common.{◌≡◌, ◌≤◌, ◌+◌, ◌*◌, ◌^◌, ℕ, drop}
use Rattle.field.specs.Digits.{value_from}
use Rattle.field.proofs.known.figures_from.Given as goal

abbrev pub invariant-loop-b : goal.invariant-loop-b
invariant-loop-b l = record {
  same : value_from l.value (drop l.b-index l.s) ≡ value_from l.fn.high l.s;
  bound : (k : ℕ) → l.fn.high + 23 ≤ 23 * 10 ^ k → l.value + 23 ≤ 23 * 10 ^ (k + l.b-index);
}
