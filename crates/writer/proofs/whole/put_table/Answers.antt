use Rattle.std.proofs.Common.{ℕ, ◌*◌, [], ◌++◌, sym, ap, arith}
use Rattle.std.proofs.Math.Seq.{length-take-le}
use Rattle.record.specs.Descriptors.{fixed_line}
use Rattle.record.specs.Plain.{end_items, comment_width}
use Rattle.canon.specs.Table.{cells_in}
use Rattle.canon.specs.Canonical.{canonical_lines, canonical}
use Rattle.canon.specs.Spent.{lent_table}
use Rattle.canon.proofs.HeaderBounds.{timed}
use Rattle.writer.proofs.Fitting.{valid-fits, many-rows}
use Rattle.writer.proofs.Forming.{comments, epochs, ending, opening-fits, opening-laid}
use Rattle.writer.proofs.Laying.{lays-over, laying-within, laying-fits, laying-room, laying-more, laying-end, one_line}
use Rattle.writer.proofs.whole.put_table.Goals as goal

pub slice_bounds-identifiers-end : goal.slice_bounds-identifiers-end
slice_bounds-identifiers-end c =
    let t = lent_table c.args.table in
    let f = valid-fits c.args.rules t c.requires.table_value in
    sym (length-take-le t.header.satellites t.identifiers f.listed)

pub overflow_mul-comments : goal.overflow_mul-comments
overflow_mul-comments c =
    let t = lent_table c.args.table in
    let f = valid-fits c.args.rules t c.requires.table_value in
    omega (arith, c.ranges.table, f.comments)

pub slice_bounds-comments-end : goal.slice_bounds-comments-end
slice_bounds-comments-end c =
    let t = lent_table c.args.table in
    let f = valid-fits c.args.rules t c.requires.table_value in
    sym (length-take-le (t.header.comments * comment_width) t.comments f.comments)

pub overflow_mul-rows : goal.overflow_mul-rows
overflow_mul-rows c =
    let t = lent_table c.args.table in
    let f = valid-fits c.args.rules t c.requires.table_value in
    omega (arith, c.ranges.table, f.cells)

pub overflow_mul-rows-2 : goal.overflow_mul-rows-2
overflow_mul-rows-2 c =
    let t = lent_table c.args.table in
    let f = valid-fits c.args.rules t c.requires.table_value in
    let wide = ap (λ (w : ℕ). cells_in t.header * w) c.cell_width.ensures.result in
    omega (arith, c.ranges.table, wide, f.rows)

pub slice_bounds-rows-end : goal.slice_bounds-rows-end
slice_bounds-rows-end c =
    let t = lent_table c.args.table in
    let f = valid-fits c.args.rules t c.requires.table_value in
    sym (length-take-le (cells_in t.header * c.cell_width.result) t.rows (rw c.cell_width.ensures.result f.rows))

pub slice_bounds-put_opening-end : goal.slice_bounds-put_opening-end
slice_bounds-put_opening-end c =
    let t = lent_table c.args.table in
    let f = valid-fits c.args.rules t c.requires.table_value in
    sym (length-take-le t.header.satellites t.exponents f.exponents)

pub put_opening-at-requires-clause-start8_value : goal.put_opening-at-requires-clause-start8_value
put_opening-at-requires-clause-start8_value c =
    let t = lent_table c.args.table in
    let f = valid-fits c.args.rules t c.requires.table_value in
    (timed t.header f.times).start

pub put_opening-at-requires-clause-exponents_in_bounds : goal.put_opening-at-requires-clause-exponents_in_bounds
put_opening-at-requires-clause-exponents_in_bounds c =
    let t = lent_table c.args.table in
    opening-fits c.args.rules t c.args.out.now c.requires.table_in_bounds

pub slice_bounds-put_comments-count : goal.slice_bounds-put_comments-count
slice_bounds-put_comments-count c =
    let t = lent_table c.args.table in
    let s1 = opening-laid c.args.rules t c.requires.table_in_bounds c.put_opening-at.ensures in
    laying-within s1

pub slice_bounds-put_comments-start : goal.slice_bounds-put_comments-start
slice_bounds-put_comments-start c =
    let t = lent_table c.args.table in
    let s1 = opening-laid c.args.rules t c.requires.table_in_bounds c.put_opening-at.ensures in
    laying-within s1

pub put_comments-at-requires-clause-bytes_len : goal.put_comments-at-requires-clause-bytes_len
put_comments-at-requires-clause-bytes_len c =
    let t = lent_table c.args.table in
    let f = valid-fits c.args.rules t c.requires.table_value in
    length-take-le (t.header.comments * comment_width) t.comments f.comments

pub put_comments-at-requires-clause-bytes_in_bounds : goal.put_comments-at-requires-clause-bytes_in_bounds
put_comments-at-requires-clause-bytes_in_bounds c =
    let t = lent_table c.args.table in
    let s1 = opening-laid c.args.rules t c.requires.table_in_bounds c.put_opening-at.ensures in
    laying-room (comments t) (epochs t ++ ending) s1

pub overflow_add-at : goal.overflow_add-at
overflow_add-at c =
    let t = lent_table c.args.table in
    let s1 = opening-laid c.args.rules t c.requires.table_in_bounds c.put_opening-at.ensures in
    let s2 = laying-more (comments t) (epochs t ++ ending) s1 c.put_comments-at.ensures in
    omega (arith, c.well_formed, laying-fits s2)

pub slice_bounds-put_epochs-count : goal.slice_bounds-put_epochs-count
slice_bounds-put_epochs-count c =
    let t = lent_table c.args.table in
    let s1 = opening-laid c.args.rules t c.requires.table_in_bounds c.put_opening-at.ensures in
    let s2 = laying-more (comments t) (epochs t ++ ending) s1 c.put_comments-at.ensures in
    laying-within s2

pub slice_bounds-put_epochs-start : goal.slice_bounds-put_epochs-start
slice_bounds-put_epochs-start c =
    let t = lent_table c.args.table in
    let s1 = opening-laid c.args.rules t c.requires.table_in_bounds c.put_opening-at.ensures in
    let s2 = laying-more (comments t) (epochs t ++ ending) s1 c.put_comments-at.ensures in
    laying-within s2

pub put_epochs-at-requires-clause-h_value : goal.put_epochs-at-requires-clause-h_value
put_epochs-at-requires-clause-h_value c =
    let t = lent_table c.args.table in
    let f = valid-fits c.args.rules t c.requires.table_value in
    f.times

pub put_epochs-at-requires-clause-rows_len : goal.put_epochs-at-requires-clause-rows_len
put_epochs-at-requires-clause-rows_len c =
    let t = lent_table c.args.table in
    let f = valid-fits c.args.rules t c.requires.table_value in
    rw c.cell_width.ensures.result (many-rows t f)

pub put_epochs-at-requires-clause-rows_in_bounds : goal.put_epochs-at-requires-clause-rows_in_bounds
put_epochs-at-requires-clause-rows_in_bounds c =
    let t = lent_table c.args.table in
    let s1 = opening-laid c.args.rules t c.requires.table_in_bounds c.put_opening-at.ensures in
    let s2 = laying-more (comments t) (epochs t ++ ending) s1 c.put_comments-at.ensures in
    rw c.cell_width.ensures.result (laying-room (epochs t) ending s2)

pub overflow_add-at-2 : goal.overflow_add-at-2
overflow_add-at-2 c =
    let t = lent_table c.args.table in
    let s1 = opening-laid c.args.rules t c.requires.table_in_bounds c.put_opening-at.ensures in
    let s2 = laying-more (comments t) (epochs t ++ ending) s1 c.put_comments-at.ensures in
    let s3 = laying-more (epochs t) ending s2 (rw c.cell_width.ensures.result at c.put_epochs-at.ensures) in
    omega (arith, c.well_formed, laying-fits s3)

pub slice_bounds-write_end-count : goal.slice_bounds-write_end-count
slice_bounds-write_end-count c =
    let t = lent_table c.args.table in
    let s1 = opening-laid c.args.rules t c.requires.table_in_bounds c.put_opening-at.ensures in
    let s2 = laying-more (comments t) (epochs t ++ ending) s1 c.put_comments-at.ensures in
    let s3 = laying-more (epochs t) ending s2 (rw c.cell_width.ensures.result at c.put_epochs-at.ensures) in
    laying-within s3

pub slice_bounds-write_end-start : goal.slice_bounds-write_end-start
slice_bounds-write_end-start c =
    let t = lent_table c.args.table in
    let s1 = opening-laid c.args.rules t c.requires.table_in_bounds c.put_opening-at.ensures in
    let s2 = laying-more (comments t) (epochs t ++ ending) s1 c.put_comments-at.ensures in
    let s3 = laying-more (epochs t) ending s2 (rw c.cell_width.ensures.result at c.put_epochs-at.ensures) in
    laying-within s3

pub returns : goal.returns
unfolding canonical canonical_lines
returns c =
    let t = lent_table c.args.table in
    let s1 = opening-laid c.args.rules t c.requires.table_in_bounds c.put_opening-at.ensures in
    let s2 = laying-more (comments t) (epochs t ++ ending) s1 c.put_comments-at.ensures in
    let s3 = laying-more (epochs t) ending s2 (rw c.cell_width.ensures.result at c.put_epochs-at.ensures) in
    lays-over (canonical c.args.rules t) c.args.out.now c.requires.table_in_bounds
    (laying-end (laying-more ending [] s3 (one_line (fixed_line end_items) c.write_end.ensures.lays)))
