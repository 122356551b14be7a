-- Among the lines left, from the byte that they begin at, so many lines on, begins the line that is asked for; and they lie within the bytes.
use Rattle.std.proofs.Common.{◌≡◌, ◌+◌, ◌≤◌, length}
use Rattle.lines.specs.Lines.{lines_of, bytes_in, begins_from}
use Rattle.file.specs.Kinds.{is_kind}
use Rattle.file.proofs.line_begins.Given as goal

abbrev pub invariant-loop-line : goal.invariant-loop-line
invariant-loop-line l = record {
  same : begins_from (is_kind l.rules l.kind) l.left l.at (lines_of l.line-iterator.rest.now) ≡ begins_from (is_kind l.rules l.kind) l.k 0 (lines_of l.bytes);
  within : l.at + bytes_in (lines_of l.line-iterator.rest.now) ≤ length l.bytes;
}
