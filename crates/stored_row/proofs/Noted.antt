-- A stored note gives back what was stored: each deviation is unknown exactly where it stands for that, too large exactly at the largest, each
-- correlation unknown exactly where it stands for that; where none was stored there is no record, whatever is asked.
-- Assumes nothing.
use mathlib.Core.Path.{◌≡◌, refl, sym, ◌∙◌, ap}
use mathlib.Core.List.{List, ◌++◌}
use mathlib.Core.Bool.{Bool, true, false, cond}
use Prim.Native.Nat.{ℕ, zero, suc, ◌+◌, ◌*◌, ◌≤◌}
use native.Mathlib.Omega.{arith}
use borrow.Author.Tests.{le-leb, eq-eqb, eqb-true, ne_eqb}
use lib.Dec.{eqb}
use lib.IntN.{ℤ, pos, nat_abs}
use lib.ListN.{length, get_or}
use lib.Seq.{get_or-append-add}
use Rattle.field.specs.Sign.{largest, signed_int}
use Rattle.field.proofs.Signs.{magnitude-back}
use Rattle.layout.specs.Kind.{unnoted}
use Rattle.record.specs.Notes.{largest_deviation, deviation_at, correlation_at}
use Rattle.record.specs.Rows.{bare_width, note_width, row_width}
use Rattle.record.specs.declared.types.Note.{Note}
use Rattle.record.specs.declared.types.Row.{Row}
use Rattle.file.proofs.Exact.{stored_exact}
use Rattle.file.proofs.Wide.{row-wide, note-wide, no-note-wide}
use Rattle.file.specs.Table.{stored_int, stored_signed, stored_count, row_numbers, note_numbers, no_note}
use Rattle.stored_row.specs.Stored.{is_there, number_at, has_note, note_in, note_deviation_of, note_deviation_in, note_correlation_in}
use Rattle.stored_row.specs.declared.types.NoteMark.TheVariants as note_mark
use Rattle.stored_row.specs.declared.types.NoteDeviation.TheVariants as note_deviation
use Rattle.stored_row.specs.declared.types.NoteCorrelation.TheVariants as note_correlation
use Rattle.stored_row.proofs.Theorems.{row-there, number-back}

-- the k-th row among the lent numbers
module _ (before more : List ℤ) (p : Row) (k : ℕ) (at : length before ≡ k * row_width) where
  abbrev rows_with : List ℤ → List ℤ
  rows_with note = before ++ (row_numbers p ++ (note ++ more))

  -- the numbers of a note by their places behind the row's
  behind : (note : List ℤ) → length note ≡ note_width → (i : ℕ) → number_at (rows_with note) k (bare_width + i) ≡ get_or (note ++ more) i (pos 0)
  behind note wide i =
      number-back before note more p k at wide (bare_width + i)
      ∙ ap (λ (w : ℕ). get_or (row_numbers p ++ (note ++ more)) (w + i) (pos 0)) (sym (row-wide p))
      ∙ get_or-append-add (row_numbers p) (note ++ more) i (pos 0)

  -- a note that stands there
  module _ (n : Note) where
    abbrev noted : List ℤ
    noted = rows_with (note_numbers n)

    there : is_there noted k ≡ true
    there = row-there before (note_numbers n) more p k at (note-wide n)

    number-noted : (i : ℕ) → number_at noted k (bare_width + i) ≡ get_or (note_numbers n ++ more) i (pos 0)
    number-noted i = behind (note_numbers n) (note-wide n) i

    has : has_note noted k ≡ true
    unfolding note_numbers stored_int signed_int
    has = let one : number_at noted k bare_width ≡ pos 1 = number-noted 0 in rw one

    pub note-stands : note_in noted k ≡ note_mark.Stands
    unfolding note_in
    note-stands = rw (there, has)

    -- a deviation
    module _ (which : ℕ) (few : which ≤ 3) (bound : deviation_at n which ≤ largest) where
      size-noted : nat_abs (number_at noted k (13 + which)) ≡ deviation_at n which
      unfolding note_numbers
      size-noted = ap nat_abs (go which few) ∙ ap nat_abs (stored_exact false (deviation_at n which) bound) ∙ magnitude-back false (deviation_at n which)
        where
          go : (w : ℕ) → w ≤ 3 → number_at noted k (13 + w) ≡ stored_count (deviation_at n w)
          go zero h = number-noted 1
          go (suc zero) h = number-noted 2
          go (suc (suc zero)) h = number-noted 3
          go (suc (suc (suc zero))) h = number-noted 4
          go (suc (suc (suc (suc w)))) h = absurd (omega arith)

      pub deviation-back : note_deviation_in noted k which ≡ note_deviation_of which (deviation_at n which)
      unfolding note_deviation_in
      deviation-back = rw (there, le-leb which 3 few, has, size-noted)

      -- unknown exactly where it stands for that
      pub deviation-unknown-at : deviation_at n which ≡ unnoted → note_deviation_in noted k which ≡ note_deviation.Unknown
      deviation-unknown-at e = deviation-back ∙ rw (eq-eqb (deviation_at n which) unnoted e) refl

      pub deviation-unknown-only : note_deviation_in noted k which ≡ note_deviation.Unknown → deviation_at n which ≡ unnoted
      deviation-unknown-only e =
          go (eqb (deviation_at n which) unnoted) (eqb (deviation_at n which) (largest_deviation (eqb which 3))) refl (sym deviation-back ∙ e)
        where
          go : (u l : Bool) → eqb (deviation_at n which) unnoted ≡ u
              → cond u note_deviation.Unknown (cond l note_deviation.TooLarge (note_deviation.Value (deviation_at n which))) ≡ note_deviation.Unknown
              → deviation_at n which ≡ unnoted
          go true l h q = eqb-true (deviation_at n which) unnoted h
          go false true h q = let z : ◌≡◌ {A = ℕ} 0 1 = cc in absurd (omega arith)
          go false false h q = let z : ◌≡◌ {A = ℕ} 0 1 = cc in absurd (omega arith)

      -- too large exactly at the largest
      pub deviation-large-at : deviation_at n which ≡ largest_deviation (eqb which 3) → note_deviation_in noted k which ≡ note_deviation.TooLarge
      deviation-large-at e = deviation-back ∙ go (eqb which 3) e
        where
          go : (clock : Bool) → deviation_at n which ≡ largest_deviation clock
              → cond (eqb (deviation_at n which) unnoted) note_deviation.Unknown
              (cond (eqb (deviation_at n which) (largest_deviation clock)) note_deviation.TooLarge (note_deviation.Value (deviation_at n which)))
              ≡ note_deviation.TooLarge
          go true h = rw h refl
          go false h = rw h refl

      pub deviation-large-only : note_deviation_in noted k which ≡ note_deviation.TooLarge → deviation_at n which ≡ largest_deviation (eqb which 3)
      deviation-large-only e =
          go (eqb (deviation_at n which) unnoted) (eqb (deviation_at n which) (largest_deviation (eqb which 3))) refl (sym deviation-back ∙ e)
        where
          go : (u l : Bool) → eqb (deviation_at n which) (largest_deviation (eqb which 3)) ≡ l
              → cond u note_deviation.Unknown (cond l note_deviation.TooLarge (note_deviation.Value (deviation_at n which))) ≡ note_deviation.TooLarge
              → deviation_at n which ≡ largest_deviation (eqb which 3)
          go true l h q = let z : ◌≡◌ {A = ℕ} 0 1 = cc in absurd (omega arith)
          go false true h q = eqb-true (deviation_at n which) (largest_deviation (eqb which 3)) h
          go false false h q = let z : ◌≡◌ {A = ℕ} 0 1 = cc in absurd (omega arith)

      -- else the value
      pub deviation-value : (deviation_at n which ≡ unnoted → ⊥) → (deviation_at n which ≡ largest_deviation (eqb which 3) → ⊥)
          → note_deviation_in noted k which ≡ note_deviation.Value (deviation_at n which)
      deviation-value u l =
          deviation-back ∙ rw (ne_eqb (deviation_at n which) unnoted u, ne_eqb (deviation_at n which) (largest_deviation (eqb which 3)) l) refl

    -- a correlation
    module _ (which : ℕ) (few : which ≤ 5) (bound : (correlation_at n which).magnitude ≤ largest) where
      abbrev found : ℤ
      found = signed_int (correlation_at n which).negative (correlation_at n which).magnitude

      value-noted : number_at noted k (17 + which) ≡ found
      unfolding note_numbers
      value-noted = go which few ∙ stored_exact (correlation_at n which).negative (correlation_at n which).magnitude bound
        where
          go : (w : ℕ) → w ≤ 5 → number_at noted k (17 + w) ≡ stored_signed (correlation_at n w)
          go zero h = number-noted 5
          go (suc zero) h = number-noted 6
          go (suc (suc zero)) h = number-noted 7
          go (suc (suc (suc zero))) h = number-noted 8
          go (suc (suc (suc (suc zero)))) h = number-noted 9
          go (suc (suc (suc (suc (suc zero))))) h = number-noted 10
          go (suc (suc (suc (suc (suc (suc w)))))) h = absurd (omega arith)

      pub correlation-back : note_correlation_in noted k which
          ≡ cond (eqb (correlation_at n which).magnitude unnoted) note_correlation.Unknown (note_correlation.Value found)
      unfolding note_correlation_in
      correlation-back =
          rw (there, le-leb which 5 few, has, value-noted, magnitude-back (correlation_at n which).negative (correlation_at n which).magnitude)

      -- unknown exactly where it stands for that
      pub correlation-unknown-at : (correlation_at n which).magnitude ≡ unnoted → note_correlation_in noted k which ≡ note_correlation.Unknown
      correlation-unknown-at e = correlation-back ∙ rw (eq-eqb (correlation_at n which).magnitude unnoted e) refl

      pub correlation-unknown-only : note_correlation_in noted k which ≡ note_correlation.Unknown → (correlation_at n which).magnitude ≡ unnoted
      correlation-unknown-only e = go (eqb (correlation_at n which).magnitude unnoted) refl (sym correlation-back ∙ e)
        where
          go : (u : Bool) → eqb (correlation_at n which).magnitude unnoted ≡ u
              → cond u note_correlation.Unknown (note_correlation.Value found) ≡ note_correlation.Unknown → (correlation_at n which).magnitude ≡ unnoted
          go true h q = eqb-true (correlation_at n which).magnitude unnoted h
          go false h q = let z : ◌≡◌ {A = ℕ} 0 1 = cc in absurd (omega arith)

      -- else the value
      pub correlation-value : ((correlation_at n which).magnitude ≡ unnoted → ⊥) → note_correlation_in noted k which ≡ note_correlation.Value found
      correlation-value u = correlation-back ∙ rw (ne_eqb (correlation_at n which).magnitude unnoted u) refl

  -- no note
  abbrev unnoted_rows : List ℤ
  unnoted_rows = rows_with no_note

  there-unnoted : is_there unnoted_rows k ≡ true
  there-unnoted = row-there before no_note more p k at no-note-wide

  has-none : has_note unnoted_rows k ≡ false
  unfolding no_note stored_int signed_int
  has-none = let none : number_at unnoted_rows k bare_width ≡ pos 0 = behind no_note no-note-wide 0 in rw none

  pub no_record : note_in unnoted_rows k ≡ note_mark.NoRecord
  unfolding note_in
  no_record = rw (there-unnoted, has-none)

  pub no-deviation-recorded : (which : ℕ) → which ≤ 3 → note_deviation_in unnoted_rows k which ≡ note_deviation.NoRecord
  unfolding note_deviation_in
  no-deviation-recorded which few = rw (there-unnoted, le-leb which 3 few, has-none)

  pub no-correlation-recorded : (which : ℕ) → which ≤ 5 → note_correlation_in unnoted_rows k which ≡ note_correlation.NoRecord
  unfolding note_correlation_in
  no-correlation-recorded which few = rw (there-unnoted, le-leb which 5 few, has-none)
