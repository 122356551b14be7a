-- A comment is asked for still, and those of the lines left are to be laid.
use Rattle.std.proofs.Common.{◌<◌, map, take}
use Rattle.lines.specs.Lent.{flat}
use Rattle.lines.specs.Lines.{lines_of}
use Rattle.record.specs.LineKinds.{comment_kind}
use Rattle.file.specs.Kinds.{is_kind, of_kind}
use Rattle.file.specs.Table.{comment_text}
use Rattle.fill.proofs.Filling.{Filling, parts_left}
use Rattle.fill.proofs.fill.fill_comments.Given as goal

abbrev pub invariant-loop-line : goal.invariant-loop-line
invariant-loop-line l = record {
  some : 0 < l.left;
  filling : Filling (is_kind l.rules comment_kind) (parts_left comment_text) (flat (map comment_text (take l.count (of_kind l.rules comment_kind (lines_of l.bytes))))) l.fn.out l.out (lines_of l.line-iterator.rest.now) l.stored l.left;
}
