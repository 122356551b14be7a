-- How long the line of a note is: a valid one ends with its last number that is known, or in column 2.
-- Assumes nothing.
use mathlib.Core.Bool.{Bool, true, false, cond, not, ◌&&◌, ◌||◌}
use mathlib.Core.List.{List, [], ◌∷◌}
use mathlib.Core.Path.{◌≡◌, refl, ap, ◌∙◌}
use Prim.Native.Nat.{ℕ, ◌+◌, ◌≤◌}
use native.Mathlib.Omega.{arith}
use borrow.Author.Tests.{leb-true}
use lib.Dec.{eqb, leb}
use lib.IntN.{ℤ, nat_abs}
use lib.ListN.{length, length-append}
use Rattle.laws.specs.Texts.{blanks}
use Rattle.field.specs.Sign.{is_negative}
use Rattle.field.specs.Show.{shown_negative, fits_integer, fits_signed, put_whole, put_signed}
use Rattle.layout.specs.Kind.{unnoted}
use Rattle.lines.specs.Lent.{flat}
use Rattle.record.specs.Notes.{largest_deviation, largest_correlation, correlation_symbol, correlation_items, note_values, note_line}
use Rattle.layout.specs.Inking.{text_end}
use Rattle.canon.specs.Valid.{entry, deviation_valid, is_unnoted, correlation_valid, four_valid, ten_valid, is_noted, note_valid, flag_valid}
use Rattle.canon.specs.Canonical.{note_shown, note_lines}
use Rattle.canon.specs.Measured.{noted_end, deviations_end, correlations_end, note_length}
use Rattle.laws.proofs.Bools.{and_left, and_right, and-false, both_true}
use Rattle.field.proofs.Fitting.{fits-true}
use Rattle.record.proofs.Tiled.{correlation-tiled}
use Rattle.layout.proofs.Ends.{line-length}
use Rattle.layout.proofs.Inked.{signed-ends}
use Rattle.canon.proofs.RowLengths.{maybe-end, known-ends, four}

-- where a field ends: a number of so many columns, unless it is unknown
abbrev field_end : ℕ → ℕ → ℤ → List ℕ → ℕ → ℕ
field_end before w v text earlier = text_end before (cond (eqb (nat_abs v) unnoted) (blanks w) text) earlier

-- a deviation of four columns, and that of the clock
deviation-end : (before : ℕ) (v : ℤ) {earlier other : ℕ} → deviation_valid false v ≡ true → earlier ≡ other
    → field_end before 4 v (put_whole (nat_abs v) (blanks 4)) earlier ≡ noted_end (before + 4) v other
deviation-end before v e =
    maybe-end before 3 (eqb (nat_abs v) unnoted) (put_whole (nat_abs v) (blanks 4))
    (known-ends 3 (largest_deviation false) unnoted (nat_abs v) (omega arith) (omega arith) (and_right (not (is_negative v)) _ e))

clock-end : (before : ℕ) (v : ℤ) {earlier other : ℕ} → deviation_valid true v ≡ true → earlier ≡ other
    → field_end before 7 v (put_whole (nat_abs v) (blanks 7)) earlier ≡ noted_end (before + 7) v other
clock-end before v e =
    maybe-end before 6 (eqb (nat_abs v) unnoted) (put_whole (nat_abs v) (blanks 7))
    (known-ends 6 (largest_deviation true) unnoted (nat_abs v) (omega arith) (omega arith) (and_right (not (is_negative v)) _ e))

-- a correlation, with its minus
correlation-fits : (negative : Bool) (m : ℕ) → m ≤ largest_correlation → fits_signed 8 negative m ≡ true
correlation-fits negative m h = go (shown_negative negative m)
  where
    go : (minus : Bool) → fits_integer 8 minus m ≡ true
    go true = fits-true 8 true m (omega arith) (omega arith) (omega arith)
    go false = fits-true 8 false m (omega arith) (omega arith) (omega arith)

pub correlation-within : (v : ℤ) → correlation_valid v ≡ true → eqb (nat_abs v) unnoted ≡ false → nat_abs v ≤ largest_correlation
correlation-within v e u = leb-true (nat_abs v) largest_correlation (go (leb (nat_abs v) largest_correlation) (rw (u, and-false (not (is_negative v))) at e))
  where
    go : (t : Bool) → (t || false) ≡ true → t ≡ true
    go true h = refl
    go false h = h

correlation-end : (before : ℕ) (v : ℤ) {earlier other : ℕ} → correlation_valid v ≡ true → earlier ≡ other
    → field_end before 8 v (put_signed (is_negative v) (nat_abs v) (blanks 8)) earlier ≡ noted_end (before + 8) v other
correlation-end before v e =
    maybe-end before 7 (eqb (nat_abs v) unnoted) (put_signed (is_negative v) (nat_abs v) (blanks 8))
    (λ u. signed-ends 7 (is_negative v) (nat_abs v) (correlation-fits (is_negative v) (nat_abs v) (correlation-within v e u)))

-- what ten valid numbers are, one by one
pub record Ten (deviation clock correlation : ℤ → Bool) (note : List ℤ) : Type 0 where
  pub x : deviation (entry note 1) ≡ true
  pub y : deviation (entry note 2) ≡ true
  pub z : deviation (entry note 3) ≡ true
  pub c : clock (entry note 4) ≡ true
  pub xy : correlation (entry note 5) ≡ true
  pub xz : correlation (entry note 6) ≡ true
  pub xc : correlation (entry note 7) ≡ true
  pub yz : correlation (entry note 8) ≡ true
  pub yc : correlation (entry note 9) ≡ true
  pub zc : correlation (entry note 10) ≡ true

pub ten : (deviation clock correlation : ℤ → Bool) (note : List ℤ) → ten_valid deviation clock correlation note ≡ true → Ten deviation clock correlation note
ten deviation clock correlation note e =
    let deviations = four_valid deviation clock 1 note in
    let first = four_valid correlation correlation 5 note in
    let last = correlation (entry note 9) && correlation (entry note 10) in
    let d = four (deviation (entry note 1)) (deviation (entry note 2)) (deviation (entry note 3)) (clock (entry note 4)) (and_left deviations (first && last) e) in
    let rest = and_right deviations (first && last) e in
    let f = four (correlation (entry note 5)) (correlation (entry note 6)) (correlation (entry note 7)) (correlation (entry note 8)) (and_left first last rest) in
    let l = both_true (correlation (entry note 9)) (correlation (entry note 10)) (and_right first last rest) in
    record { x = d.0; y = d.1; z = d.2; c = d.3; xy = f.0; xz = f.1; xc = f.2; yz = f.3; yc = l.0; zc = l.1 }

-- EP or EV stands in columns 1 and 2
begun : (velocity : Bool) → text_end 0 (correlation_symbol velocity) 0 ≡ 2
begun true = refl
begun false = refl

pub note-length : (velocity : Bool) (note : List ℤ) → ten_valid (deviation_valid false) (deviation_valid true) correlation_valid note ≡ true
    → length (note_line velocity (note_shown note)) ≡ correlations_end note + 1
unfolding note_line note_shown deviations_end correlations_end
note-length velocity note e =
    let t = ten (deviation_valid false) (deviation_valid true) correlation_valid note e in
    line-length (correlation_items velocity) (note_values (note_shown note)) (correlation-tiled velocity)
    ∙ ap (λ (n : ℕ). n + 1)
    (correlation-end 72 (entry note 10) t.zc
    (correlation-end 63 (entry note 9) t.yc
    (correlation-end 54 (entry note 8) t.yz
    (correlation-end 45 (entry note 7) t.xc
    (correlation-end 36 (entry note 6) t.xz
    (correlation-end 27 (entry note 5) t.xy
    (clock-end 19 (entry note 4) t.c
    (deviation-end 14 (entry note 3) t.z (deviation-end 9 (entry note 2) t.y (deviation-end 4 (entry note 1) t.x (begun velocity)))))))))))

-- its line where it stood, else none
pub note-lines-length : (velocity : Bool) (note : List ℤ) → note_valid note ≡ true → length (flat (note_lines velocity note)) ≡ note_length note
unfolding note_valid note_lines note_length flat
note-lines-length velocity note e = go (is_noted note) (and_right (flag_valid false (entry note 0)) _ e)
  where
    go : (t : Bool)
        → cond t (ten_valid (deviation_valid false) (deviation_valid true) correlation_valid note) (ten_valid is_unnoted is_unnoted is_unnoted note) ≡ true
        → length (flat (cond t (note_line velocity (note_shown note) ∷ []) [])) ≡ cond t (correlations_end note + 1) 0
    go true h = omega (arith, length-append (note_line velocity (note_shown note)) [], note-length velocity note h)
    go false h = refl
