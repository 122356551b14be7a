-- `cases_forms::words::filled`: what is left is no longer than the text.
use Rattle.std.proofs.Common.{length, ◌≤◌}
use Rattle.cases_forms.proofs.words.filled.Given as goal

abbrev pub invariant-loop-place : goal.invariant-loop-place
invariant-loop-place g l = goal.F-IsAlwaysCallable g l.value_of × (length l.rest ≤ length l.fn.text)
