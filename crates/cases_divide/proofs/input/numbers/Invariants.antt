-- `cases_divide::input::numbers`: what is left is no longer than the text.
use Rattle.std.proofs.Common.{length, ◌≤◌}
use Rattle.cases_divide.proofs.input.numbers.Given as goal

abbrev pub invariant-loop-place : goal.invariant-loop-place
invariant-loop-place l = length l.rest ≤ length l.fn.text
