-- Stored numbers: a number in bounds is stored with its sign and read back as it is.
-- Assumes nothing.
use mathlib.Core.Path.{◌≡◌, refl, sym, ◌∙◌, ap}
use mathlib.Core.List.{List, [], ◌∷◌}
use mathlib.Core.Bool.{Bool, true, false, cond, ◌&&◌}
use Prim.Native.Nat.{ℕ, zero, suc, ◌+◌, ◌*◌, ◌/◌, ◌^◌, ◌<◌, ◌≤◌}
use native.Mathlib.Omega.{arith}
use borrow.Author.Tests.{leb-true, ltb-true}
use lib.Dec.{eqb, leb, ltb}
use lib.IntN.{ℤ, pos, neg_ℤ, nat_abs}
use lib.ListN.{get_or}
use lib.Signed.{mag}
use mir.Syntax.{w64}
use mir.Val.{SFits, hbits, to_z, of_z}
use mir.ValLaws.{to_z-of_z}
use Rattle.field.specs.Sign.{largest, signed_int, is_negative, told_number, number_answer}
use Rattle.field.proofs.Told.{number_is}
use Rattle.record.specs.Absence.{place_absent, clock_absent, is_unknown, is_too_large}
use Rattle.layout.specs.Kind.{unnoted}
use Rattle.record.specs.Notes.{largest_deviation}
use Rattle.record.specs.Rows.{bare_width, row_width}
use Rattle.file.specs.Table.{stored_int}
use Rattle.stored_row.specs.Stored.{is_there, number_at, is_place_absent, place_in, clock_in, exponent_read_of, exponent_read_in, flag_in, has_note, note_in, note_deviation_of, note_deviation_in, note_correlation_in}
use Rattle.stored_row.specs.declared.types.Place.TheVariants as place
use Rattle.stored_row.specs.declared.types.ClockRead.TheVariants as clock
use Rattle.stored_row.specs.declared.types.ExponentRead.TheVariants as exponent_read
use Rattle.stored_row.specs.declared.types.Flag.TheVariants as flag
use Rattle.stored_row.specs.declared.types.NoteMark.TheVariants as note_mark
use Rattle.stored_row.specs.declared.types.NoteDeviation.TheVariants as note_deviation
use Rattle.stored_row.specs.declared.types.NoteCorrelation.TheVariants as note_correlation
use Rattle.std.specs.Prelude.{Option, Some, None}

module _ (negative : Bool) (m : ℕ) (r : Option ℤ) (e : told_number r ≡ number_answer negative m) where
  -- the value that is answered
  pub stored_is : (v : ℤ) → r ≡ Some v → v ≡ stored_int negative m
  unfolding stored_int number_answer
  stored_is v is = go (leb m largest) refl
    where
      go : (b : Bool) → leb m largest ≡ b → v ≡ stored_int negative m
      go true h =
          let same : Some v ≡ Some (signed_int negative m) = sym is ∙ number_is negative m (leb-true m largest h) r e in
          let value : v ≡ signed_int negative m = cc in
          rw h value
      go false h =
          let told : told_number (Some v) ≡ 7 ∷ [] = ap told_number (sym is) ∙ rw h at e in
          let z : ◌≡◌ {A = ℕ} 0 1 = cc in absurd (omega arith)

  -- nothing is answered out of bounds
  pub stored-none : r ≡ None → pos 0 ≡ stored_int negative m
  unfolding stored_int number_answer
  stored-none is = go (leb m largest) refl
    where
      go : (b : Bool) → leb m largest ≡ b → pos 0 ≡ stored_int negative m
      go true h =
          let same : None ≡ Some (signed_int negative m) = sym is ∙ number_is negative m (leb-true m largest h) r e in
          let z : ◌≡◌ {A = ℕ} 0 1 = cc in absurd (omega arith)
      go false h = rw h refl

-- a stored number fits 64 bits, so that what the machine reads back is the number
stored-fits : (negative : Bool) (m : ℕ) → SFits w64 (stored_int negative m)
unfolding stored_int signed_int
stored-fits negative m = go (leb m largest) refl
  where
    turned : (n : ℕ) → mag (neg_ℤ (pos n)) ≤ n
    turned zero = omega arith
    turned (suc n) = omega arith

    fit : (b : Bool) → m ≤ largest → SFits w64 (signed_int b m)
    fit true h = record { sfits = omega (arith, turned m) }
    fit false h = record { sfits = omega arith }

    go : (b : Bool) → leb m largest ≡ b → SFits w64 (stored_int negative m)
    go true h = rw h (fit negative (leb-true m largest h))
    go false h = rw h (record { sfits = omega arith })

pub stored-kept : (negative : Bool) (m : ℕ) {v : ℤ} → v ≡ stored_int negative m → to_z w64 (of_z w64 v) ≡ stored_int negative m
stored-kept negative m e = ap (λ (z : ℤ). to_z w64 (of_z w64 z)) e ∙ to_z-of_z w64 (stored_int negative m) (stored-fits negative m)
