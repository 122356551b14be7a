-- There are no more lines than bytes.
use Rattle.std.proofs.Common.{◌≡◌, ◌≤◌, length, arith}
use mathlib.Core.Logic.{inl}
use Rattle.lines.specs.Lines.{lines_of}
use Rattle.row_walk.proofs.Going.{few-lines}
use Rattle.row_walk.proofs.rows.count_lines.Goals as goal

pub count-requires-clause-fits : goal.count-requires-clause-fits
count-requires-clause-fits c =
    let all : c.complete_lines.result.rest ≡ c.args.bytes = c.complete_lines.ensures in
    let few : length (lines_of c.complete_lines.result.rest.now) ≤ length c.args.bytes.now = rw all (few-lines c.args.bytes.now) in
    inl (omega arith)
