use Rattle.std.proofs.Common.{[], ◌∷◌, arith}
use Rattle.record.specs.Opening.{epoch_line}
use Rattle.canon.specs.Canonical.{epoch_shown, cells_lines}
use Rattle.writer.proofs.Laying.{laying-first, laying-alone, laying-within, laying-fits, laying-room, laying-more, laying-end, one_line}
use Rattle.writer.proofs.epochs.put_epoch.Goals as goal

pub slice_bounds-put_cells-count : goal.slice_bounds-put_cells-count
unfolding epoch_shown
slice_bounds-put_cells-count c =
    let a = c.args in
    let line = epoch_line (epoch_shown a.at8) in
    let cells = cells_lines a.velocity a.identifiers.now a.rows.now in
    let s1 = laying-alone (laying-first (line ∷ []) cells c.requires.rows_in_bounds (one_line line (rw c.moment_of.ensures at c.write_epoch-at.ensures.lays))) in
    laying-within s1

pub slice_bounds-put_cells-start : goal.slice_bounds-put_cells-start
unfolding epoch_shown
slice_bounds-put_cells-start c =
    let a = c.args in
    let line = epoch_line (epoch_shown a.at8) in
    let cells = cells_lines a.velocity a.identifiers.now a.rows.now in
    let s1 = laying-alone (laying-first (line ∷ []) cells c.requires.rows_in_bounds (one_line line (rw c.moment_of.ensures at c.write_epoch-at.ensures.lays))) in
    laying-within s1

pub put_cells-requires-clause-rows_in_bounds : goal.put_cells-requires-clause-rows_in_bounds
unfolding epoch_shown
put_cells-requires-clause-rows_in_bounds c =
    let a = c.args in
    let line = epoch_line (epoch_shown a.at8) in
    let cells = cells_lines a.velocity a.identifiers.now a.rows.now in
    let s1 = laying-alone (laying-first (line ∷ []) cells c.requires.rows_in_bounds (one_line line (rw c.moment_of.ensures at c.write_epoch-at.ensures.lays))) in
    laying-room cells [] s1

pub overflow_add-result : goal.overflow_add-result
unfolding epoch_shown
overflow_add-result c =
    let a = c.args in
    let line = epoch_line (epoch_shown a.at8) in
    let cells = cells_lines a.velocity a.identifiers.now a.rows.now in
    let s1 = laying-alone (laying-first (line ∷ []) cells c.requires.rows_in_bounds (one_line line (rw c.moment_of.ensures at c.write_epoch-at.ensures.lays))) in
    let s2 = laying-more cells [] s1 c.put_cells.ensures in
    omega (arith, c.well_formed, laying-fits s2)

pub returns : goal.returns
unfolding epoch_shown
returns c =
    let a = c.args in
    let line = epoch_line (epoch_shown a.at8) in
    let cells = cells_lines a.velocity a.identifiers.now a.rows.now in
    let s1 = laying-alone (laying-first (line ∷ []) cells c.requires.rows_in_bounds (one_line line (rw c.moment_of.ensures at c.write_epoch-at.ensures.lays))) in
    let s2 = laying-more cells [] s1 c.put_cells.ensures in
    laying-end s2
