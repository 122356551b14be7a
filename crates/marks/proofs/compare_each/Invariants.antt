use Rattle.std.proofs.Common.{◌≡◌, ◌++◌, take, drop}
use Rattle.record.specs.Agrees.{repeats}
use Rattle.marks.proofs.compare_each.Given as goal

abbrev pub invariant-loop-i : goal.invariant-loop-i
invariant-loop-i l = repeats (l.known ++ take l.i l.new) (drop l.i l.new) ≡ repeats l.known l.new
