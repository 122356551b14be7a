use Rattle.std.proofs.Common.{◌≡◌, ℕ, rules, Bool}
use Rattle.layout.specs.Inking.{line_end}
use Rattle.record.specs.Rows.{row_items, row_values, row_line}
use Rattle.record.specs.declared.types.Row.{Row}
use Rattle.record.proofs.Tiled.{rows-tiled}
use Rattle.draw.proofs.Laying.{EndsIn, short, long, line_drawn}
use Rattle.draw.proofs.rows.write_row.Goals as goal

ends : (p : Row) (velocity : Bool) {n : ℕ} → n ≡ line_end (row_items velocity) (row_values velocity p) → EndsIn (row_items velocity) (row_values velocity p) n
ends p velocity told = record { tiles = rows-tiled velocity; told = told }

pub lay_ended-requires-clause-short : goal.lay_ended-requires-clause-short
lay_ended-requires-clause-short c = let a = c.args in short (ends a.p a.velocity c.row_end-end.ensures)

pub returns : goal.returns
unfolding row_line
returns c =
    let a = c.args in
    let there = ends a.p a.velocity c.row_end-end.ensures in
    record { lays = c.lay_ended.ensures _ (long there) (λ old new wide met. line_drawn there old wide (search rules)) }
