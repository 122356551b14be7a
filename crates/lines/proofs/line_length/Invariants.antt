use Rattle.std.proofs.Common.{◌≡◌, ◌+◌, ◌-◌, ◌≤◌, length}
use Rattle.lines.specs.Lines.{line_length}
use Rattle.lines.proofs.line_length.Given as goal

abbrev pub invariant-loop-block : goal.invariant-loop-block
invariant-loop-block l = record { within : length l.rest ≤ length l.bytes; whole : length l.bytes - length l.rest + line_length l.rest ≡ line_length l.bytes }

abbrev pub decreases-loop-block : goal.decreases-loop-block
decreases-loop-block l = length l.rest
