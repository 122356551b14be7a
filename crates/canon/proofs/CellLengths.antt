-- How long the lines of all epochs are: an epoch line each, and the lines of every satellite as its rows are measured.
-- Assumes nothing.
use mathlib.Core.Bool.{Bool, true, false}
use mathlib.Core.List.{List, [], ◌∷◌, ◌++◌}
use mathlib.Core.Path.{◌≡◌, refl, ap, ◌∙◌}
use Prim.Native.Nat.{ℕ, zero, suc, ◌+◌, ◌*◌}
use native.Mathlib.Nat.{suc-mul, mul-suc}
use native.Mathlib.Omega.{arith}
use lib.IntN.{ℤ}
use lib.ListN.{length, take, drop, length-append}
use lib.Seq.{drop-drop}
use Rattle.lines.specs.Lent.{flat}
use Rattle.record.specs.Opening.{epoch_line}
use Rattle.record.specs.Rows.{row_line, bare_width, row_width}
use Rattle.canon.specs.Table.{cell_width}
use Rattle.canon.specs.Valid.{row_valid, note_valid, noted_valid, cell_valid, rows_valid}
use Rattle.canon.specs.Canonical.{row_shown, note_lines, noted_lines, cell_lines, cells_lines, epoch_shown, epochs_lines}
use Rattle.canon.specs.Measured.{noted_length, cell_length, rows_length}
use Rattle.lines.proofs.Picking.{flat_append}
use Rattle.laws.proofs.Bools.{both_true}
use Rattle.canon.proofs.FixedLengths.{epoch-length}
use Rattle.canon.proofs.RowLengths.{row-length}
use Rattle.canon.proofs.NoteLengths.{note-lines-length}

-- lines one after another are as long as all of them
pub flat-length : (a b : List (List ℕ)) → length (flat (a ++ b)) ≡ length (flat a) + length (flat b)
flat-length a b = ap length (flat_append a b) ∙ length-append (flat a) (flat b)

-- a row's line and its note's
pub noted-length : (velocity : Bool) (identifier : ℕ) (row : List ℤ) → noted_valid velocity row ≡ true
    → length (flat (noted_lines velocity identifier row)) ≡ noted_length row
unfolding flat noted_lines noted_valid noted_length
noted-length velocity identifier row e =
    let note = drop bare_width row in
    let both = both_true (row_valid velocity row) (note_valid note) e in
    omega (
      arith,
      length-append (row_line velocity (row_shown identifier row)) (flat (note_lines velocity note)),
      row-length velocity identifier row both.0,
      note-lines-length velocity note both.1,
    )

cell-length : (velocity : Bool) (identifier : ℕ) (cell : List ℤ) → cell_valid velocity cell ≡ true
    → length (flat (cell_lines velocity identifier cell)) ≡ cell_length velocity cell
unfolding cell_lines cell_valid cell_length
cell-length true identifier cell e =
    let p = take row_width cell in
    let v = drop row_width cell in
    let both = both_true (noted_valid false p) (noted_valid true v) e in
    omega (
      arith,
      flat-length (noted_lines false identifier p) (noted_lines true identifier v),
      noted-length false identifier p both.0,
      noted-length true identifier v both.1,
    )
cell-length false identifier cell e = noted-length false identifier cell e

module _ (velocity : Bool) where
  -- the satellites of an epoch, and the cells after them
  record Cut (identifiers : List ℕ) (more count : ℕ) (rows : List ℤ) : Type 0 where
    long : length (flat (cells_lines velocity identifiers rows)) + rows_length velocity more (drop (length identifiers * cell_width velocity) rows)
        ≡ rows_length velocity count rows
    good : rows_valid velocity more (drop (length identifiers * cell_width velocity) rows) ≡ true

  cut : (identifiers : List ℕ) (more count : ℕ) (rows : List ℤ) → count ≡ length identifiers + more → rows_valid velocity count rows ≡ true → Cut identifiers more count rows
  unfolding flat cells_lines rows_length rows_valid
  cut [] more count rows e g =
      let none : 0 * cell_width velocity ≡ 0 = omega arith in
      let same : count ≡ more = omega arith in
      record { long = rw (none, same) (omega arith); good = rw (none, ← same) g }
  cut (identifier ∷ identifiers) more count rows e g =
      let w = cell_width velocity in
      let next : count ≡ suc (length identifiers + more) = omega arith in
      let both = both_true (cell_valid velocity (take w rows)) (rows_valid velocity (length identifiers + more) (drop w rows)) (rw next at g) in
      let later = cut identifiers more (length identifiers + more) (drop w rows) refl both.1 in
      let all : w + length identifiers * w ≡ suc (length identifiers) * w = omega (arith, suc-mul (length identifiers) w) in
      let same : drop (length identifiers * w) (drop w rows) ≡ drop (suc (length identifiers) * w) rows =
      drop-drop (length identifiers * w) w rows ∙ ap (λ (n : ℕ). drop n rows) all in
      record {
        long = omega (
          arith,
          flat-length (cell_lines velocity identifier (take w rows)) (cells_lines velocity identifiers (drop w rows)),
          cell-length velocity identifier (take w rows) both.0,
          later.long,
          ap (rows_length velocity more) same,
          ap (λ (n : ℕ). rows_length velocity n rows) next,
        );
        good = rw (← same) later.good;
      }

  pub epochs-length : (identifiers : List ℕ) (interval8 epochs at8 : ℕ) (rows : List ℤ) → rows_valid velocity (length identifiers * epochs) rows ≡ true
      → length (flat (epochs_lines velocity identifiers interval8 epochs at8 rows)) ≡ 32 * epochs + rows_length velocity (length identifiers * epochs) rows
  unfolding flat epochs_lines rows_length
  epochs-length identifiers interval8 zero at8 rows g =
      let none : length identifiers * 0 ≡ 0 = omega arith in
      rw none
  epochs-length identifiers interval8 (suc epochs) at8 rows g =
      let n = length identifiers in
      let all : n * suc epochs ≡ n + n * epochs = omega (arith, mul-suc n epochs) in
      let here = cut identifiers (n * epochs) (n * suc epochs) rows all g in
      let rest = drop (n * cell_width velocity) rows in
      let later = epochs_lines velocity identifiers interval8 epochs (at8 + interval8) rest in
      omega (
        arith,
        length-append (epoch_line (epoch_shown at8)) (flat (cells_lines velocity identifiers rows ++ later)),
        epoch-length at8,
        flat-length (cells_lines velocity identifiers rows) later,
        epochs-length identifiers interval8 epochs (at8 + interval8) rest here.good,
        here.long,
      )
