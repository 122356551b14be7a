-- `writer::epochs::put_cell` meets its contract: the lines of P, in mode V those of V directly after them.
-- Assumes nothing.
use mathlib.Core.Path.{◌≡◌}
use mathlib.Core.Bool.{true, false}
use mathlib.Core.List.{List, [], ◌++◌}
use Prim.Native.Nat.{ℕ, ◌+◌}
use native.Mathlib.Omega.{arith}
use borrow.Author.Rules.{rules}
use lib.ListN.{take, drop, length-take, length-drop}
use Rattle.record.specs.Rows.{row_width}
use Rattle.canon.specs.Canonical.{noted_lines}
use Rattle.writer.proofs.Blocks.{cell-long, cell-wide, cell-placed, cell-moved, cell_room}
use Rattle.writer.proofs.Laying.{Laying, then, laying-first, laying-alone, laying-within, laying-fits, laying-room, laying-more, laying-end}
use Rattle.writer.proofs.epochs.put_cell.Statement.{statement}
use Rattle.writer.proofs.epochs.put_cell.Tie as tie

abbrev placed : tie.Start → List (List ℕ)
placed c = noted_lines false c.args.identifier (take row_width c.args.cell.now)

abbrev moved : tie.Start → List (List ℕ)
moved c = noted_lines true c.args.identifier (take row_width (drop row_width c.args.cell.now))

abbrev Laid : tie.Start → ℕ → List ℕ → List (List ℕ) → Type 0
Laid c at now rest = Laying (placed c ++ moved c) c.args.out.now at now rest

put-noted-requires : tie.Need-put_noted-at-requires
put-noted-requires c κs =
    let start = c in
    let cell = start.args.cell.now in (
      omega (arith, length-take row_width cell, cell-long start.args.velocity cell start.requires.0),
      cell_room start.args.velocity cell start.requires.0 start.args.identifier start.args.out.now start.requires.1,
    )

returns : tie.Need-returns-then-not-velocity
returns c =
    let start = c in
    rw (cell-placed start.args.velocity start.args.cell.now start.requires.0 start.args.identifier (c.if-not-velocity.true)) c.put_noted-at.ensures

moving : (c : tie.Else-not-velocity) → c.args.velocity ≡ true
moving c = c.if-not-velocity.false

first-laid : (c : tie.Else-not-velocity) → Laid c.before.before.before.before.before.before.before c.put_noted-at.result c.put_noted-at.new.out (moved c.before.before.before.before.before.before.before ++ [])
first-laid c =
    let start = c.before.before.before.before.before.before.before in
    laying-alone
    (laying-first (placed start) (moved start)
    (rw (cell-moved start.args.velocity start.args.cell.now start.requires.0 start.args.identifier (moving c)) at start.requires.1)
    c.put_noted-at.ensures)

part-motion-end : tie.Need-slice_bounds-motion-end
part-motion-end c =
    let start = c in
    omega (arith, cell-wide start.args.velocity start.args.cell.now start.requires.0 (moving c))

put-noted-requires-2 : tie.Need-put_noted-requires
put-noted-requires-2 c κs =
    let start = c.before.before.before.before.before.before.before.before.before in
    let cell = start.args.cell.now in (
      omega (arith, length-take row_width (drop row_width cell), length-drop row_width cell, cell-wide start.args.velocity cell start.requires.0 (moving c.before.before)),
      laying-room (moved start) [] (first-laid c.before.before),
    )

both-laid : (c : tie.After-put_noted)
    → Laid c.before.before.before.before.before.before.before.before.before.before (c.put_noted-at.result + c.put_noted.result)
    (then c.put_noted-at.result c.put_noted-at.new.out c.put_noted.new.out) []
both-laid c = laying-more (moved c.before.before.before.before.before.before.before.before.before.before) [] (first-laid c.before.before.before) c.put_noted.ensures

returns-2 : tie.Need-returns
returns-2 c =
    let start = c in
    rw (cell-moved start.args.velocity start.args.cell.now start.requires.0 start.args.identifier (moving c.before.before.before.before.before))
    (laying-end (both-laid c.before.before))

pub put_cell_spec : {M : Type 1} → statement M
put_cell_spec =
    tie.close
    (tie.spec
    (λ c. search rules)
    (λ c. search rules)
    (λ c. cell-long c.args.velocity c.args.cell.now c.requires.0)
    put-noted-requires
    (λ c. search rules)
    returns
    (λ c. search rules)
    (λ c. search rules)
    part-motion-end
    (λ c. laying-within (first-laid c.before))
    (λ c. laying-within (first-laid c.before))
    (λ c. search rules)
    put-noted-requires-2
    (λ c. omega (arith, c.well_formed, laying-fits (both-laid c.before.before)))
    (λ c. search rules)
    returns-2)
