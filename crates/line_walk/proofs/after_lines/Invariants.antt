-- The walker w holds the file that was passed, and the lines left lead from its spot, with the identifiers as they are now, where all the lines from the first spot lead, in spot and names.
use Rattle.std.proofs.Common.{◌≡◌, ◌-◌}
use Rattle.header.specs.Versions.{rules_in}
use Rattle.line_walk.specs.Spots.{spots_after, identifiers_past}
use Rattle.line_walk.proofs.after_lines.Given as goal

abbrev pub invariant-loop-line : goal.invariant-loop-line
invariant-loop-line l = record {
  same : l.w.file.now ≡ l.fn.file;
  holds : spots_after (rules_in l.fn.file) l.fn.file l.identifiers l.w.spot (l.lines - l._line) ≡ spots_after (rules_in l.fn.file) l.fn.file l.fn.identifiers l.fn.spot l.lines;
  keeps : identifiers_past (rules_in l.fn.file) l.fn.file l.identifiers l.w.spot (l.lines - l._line) ≡ identifiers_past (rules_in l.fn.file) l.fn.file l.fn.identifiers l.fn.spot l.lines;
}
