-- A P line of the usual kind has no fault. Assumes nothing.
use mathlib.Core.Path.{◌≡◌, refl, subst}
use mathlib.Core.Bool.{true, false, not, ◌&&◌}
use mathlib.Core.List.{List, [], ◌∷◌}
use Prim.Native.Nat.{ℕ, ◌<◌}
use native.Mathlib.Omega.{arith}
use lib.Dec.{eqb}
use borrow.Author.Tests.{eqb-true}
use lib.ListN.{length, get_or}
use Rattle.laws.specs.Tests.{every_below}
use Rattle.laws.proofs.Bools.{and_left, and_right, and_both}
use Rattle.field.specs.Digits.{is_digit, all_digits}
use Rattle.layout.specs.Fault.{clean}
use Rattle.layout.specs.Kind.{fault_in, exponent}
use Rattle.layout.specs.Kind.Kind.{signed, clock, unused, flag, identifier, fixed}
use Rattle.layout.specs.Layout.{columns, column, part_at, fault_at}
use Rattle.record.specs.Rows.{row_items, row_fault}
use Rattle.picture.specs.Picture.{fits_column, column_fits, usual}
use Rattle.picture.proofs.Integers.{may_follow, led_from}
use Rattle.picture.proofs.Decimals.{decimal-usual}
use Rattle.picture.proofs.Columns.{take_cells, passes, ranged, only, clean_line}
use Rattle.picture.proofs.Others.{exponent-two, exponent-three, flag-blank, flag-letter, identifier-usual}

digit : (p q : ℕ) → fits_column 48 57 48 48 p q ≡ true → is_digit q ≡ true
digit p q h = ranged 48 57 48 48 p q refl refl h

may-digit : (p q : ℕ) → is_digit q ≡ true → may_follow p q ≡ true
may-digit p q d = rw d

-- fourteen columns that fit the picture of a decimal
decimal-fits : (column p q0 q1 q2 q3 q4 q5 q6 q7 q8 q9 q10 q11 q12 q13 : ℕ)
    → fits_column 32 32 32 32 p q0 ≡ true
    → fits_column 48 57 32 45 q0 q1 ≡ true
    → fits_column 48 57 32 45 q1 q2 ≡ true
    → fits_column 48 57 32 45 q2 q3 ≡ true
    → fits_column 48 57 32 45 q3 q4 ≡ true
    → fits_column 48 57 32 45 q4 q5 ≡ true
    → fits_column 48 57 48 48 q5 q6 ≡ true
    → fits_column 46 46 46 46 q6 q7 ≡ true
    → fits_column 48 57 48 48 q7 q8 ≡ true
    → fits_column 48 57 48 48 q8 q9 ≡ true
    → fits_column 48 57 48 48 q9 q10 ≡ true
    → fits_column 48 57 48 48 q10 q11 ≡ true
    → fits_column 48 57 48 48 q11 q12 ≡ true
    → fits_column 48 57 48 48 q12 q13 ≡ true
    → (fault_in (signed 6) column (q0 ∷ q1 ∷ q2 ∷ q3 ∷ q4 ∷ q5 ∷ q6 ∷ q7 ∷ q8 ∷ q9 ∷ q10 ∷ q11 ∷ q12 ∷ q13 ∷ []) ≡ clean)
    × (fault_in (clock 6) column (q0 ∷ q1 ∷ q2 ∷ q3 ∷ q4 ∷ q5 ∷ q6 ∷ q7 ∷ q8 ∷ q9 ∷ q10 ∷ q11 ∷ q12 ∷ q13 ∷ []) ≡ clean)
decimal-fits column p q0 q1 q2 q3 q4 q5 q6 q7 q8 q9 q10 q11 q12 q13 h0 h1 h2 h3 h4 h5 h6 h7 h8 h9 h10 h11 h12 h13 =
    let blank = only 32 p q0 h0 in
    let point = only 46 q6 q7 h7 in
    let last = digit q5 q6 h6 in
    let first : may_follow 32 q1 ≡ true = subst (λ (x : ℕ). fits_column 48 57 32 45 x q1 ≡ true) blank h1 in
    let led : led_from 32 (q1 ∷ q2 ∷ q3 ∷ q4 ∷ q5 ∷ q6 ∷ []) ≡ true =
    and_both (may_follow 32 q1) _ first
    (and_both (may_follow q1 q2) _ h2 (and_both (may_follow q2 q3) _ h3 (and_both (may_follow q3 q4) _ h4 (and_both (may_follow q4 q5) _ h5 (and_both (may_follow q5 q6) _ (may-digit q5 q6 last) last))))) in
    let digits : all_digits (q8 ∷ q9 ∷ q10 ∷ q11 ∷ q12 ∷ q13 ∷ []) ≡ true =
    and_both (is_digit q8) _ (digit q7 q8 h8)
    (and_both (is_digit q9) _ (digit q8 q9 h9) (and_both (is_digit q10) _ (digit q9 q10 h10) (and_both (is_digit q11) _ (digit q10 q11 h11) (and_both (is_digit q12) _ (digit q11 q12 h12) (and_both (is_digit q13) true (digit q12 q13 h13) refl))))) in
    rw (blank, point) (decimal-usual q1 q2 q3 q4 q5 q6 q8 q9 q10 q11 q12 q13 column led digits)

blank-one : (column p q : ℕ) → fits_column 32 32 32 32 p q ≡ true → fault_in unused column (q ∷ []) ≡ clean
blank-one column p q h = rw (only 32 p q h)

blank-two : (column p q r : ℕ) → fits_column 32 32 32 32 p q ≡ true → fits_column 32 32 32 32 q r ≡ true → fault_in unused column (q ∷ r ∷ []) ≡ clean
blank-two column p q r h k = rw (only 32 p q h, only 32 q r k)

-- an exponent after an unused column
after-blank : (u p q : ℕ) → fits_column 32 32 32 32 u p ≡ true → fits_column 48 57 32 32 p q ≡ true → fits_column 48 57 32 32 32 q ≡ true
after-blank u p q h k = subst (λ (x : ℕ). fits_column 48 57 32 32 x q ≡ true) (only 32 u p h) k

module _ (line : List ℕ) (wide : length line ≡ 80) (symbol : eqb (get_or line 0 0) 80 ≡ true)
    (some : not (eqb (get_or line 2 0) 48 && eqb (get_or line 3 0) 48) ≡ true)
    (fits : every_below 79 (column_fits line) ≡ true) where
  -- the column k + 2 fits its picture
  f : (k : ℕ) → k < 79 → column_fits line k ≡ true
  f k h = passes 79 (column_fits line) k h fits

  c1 : fault_at (part_at 0 1 1 (fixed 4 (80 ∷ []))) line ≡ clean
  c1 = rw (take_cells line 0 1 (omega arith), symbol)

  c2 : fault_at (columns 2 4 identifier) line ≡ clean
  c2 = rw (take_cells line 1 3 (omega arith)) (identifier-usual 2 (get_or line 1 0) (get_or line 2 0) (get_or line 3 0) (ranged 65 90 65 65 (get_or line 0 0) (get_or line 1 0) refl refl (f 0 (omega arith))) (digit (get_or line 1 0) (get_or line 2 0) (f 1 (omega arith))) (digit (get_or line 2 0) (get_or line 3 0) (f 2 (omega arith))) some)

  c5 : fault_at (columns 5 18 (signed 6)) line ≡ clean
  c5 = rw (take_cells line 4 14 (omega arith)) (decimal-fits 5 (get_or line 3 0) (get_or line 4 0) (get_or line 5 0) (get_or line 6 0) (get_or line 7 0) (get_or line 8 0) (get_or line 9 0) (get_or line 10 0) (get_or line 11 0) (get_or line 12 0) (get_or line 13 0) (get_or line 14 0) (get_or line 15 0) (get_or line 16 0) (get_or line 17 0) (f 3 (omega arith)) (f 4 (omega arith)) (f 5 (omega arith)) (f 6 (omega arith)) (f 7 (omega arith)) (f 8 (omega arith)) (f 9 (omega arith)) (f 10 (omega arith)) (f 11 (omega arith)) (f 12 (omega arith)) (f 13 (omega arith)) (f 14 (omega arith)) (f 15 (omega arith)) (f 16 (omega arith))).0

  c19 : fault_at (columns 19 32 (signed 6)) line ≡ clean
  c19 = rw (take_cells line 18 14 (omega arith)) (decimal-fits 19 (get_or line 17 0) (get_or line 18 0) (get_or line 19 0) (get_or line 20 0) (get_or line 21 0) (get_or line 22 0) (get_or line 23 0) (get_or line 24 0) (get_or line 25 0) (get_or line 26 0) (get_or line 27 0) (get_or line 28 0) (get_or line 29 0) (get_or line 30 0) (get_or line 31 0) (f 17 (omega arith)) (f 18 (omega arith)) (f 19 (omega arith)) (f 20 (omega arith)) (f 21 (omega arith)) (f 22 (omega arith)) (f 23 (omega arith)) (f 24 (omega arith)) (f 25 (omega arith)) (f 26 (omega arith)) (f 27 (omega arith)) (f 28 (omega arith)) (f 29 (omega arith)) (f 30 (omega arith))).0

  c33 : fault_at (columns 33 46 (signed 6)) line ≡ clean
  c33 = rw (take_cells line 32 14 (omega arith)) (decimal-fits 33 (get_or line 31 0) (get_or line 32 0) (get_or line 33 0) (get_or line 34 0) (get_or line 35 0) (get_or line 36 0) (get_or line 37 0) (get_or line 38 0) (get_or line 39 0) (get_or line 40 0) (get_or line 41 0) (get_or line 42 0) (get_or line 43 0) (get_or line 44 0) (get_or line 45 0) (f 31 (omega arith)) (f 32 (omega arith)) (f 33 (omega arith)) (f 34 (omega arith)) (f 35 (omega arith)) (f 36 (omega arith)) (f 37 (omega arith)) (f 38 (omega arith)) (f 39 (omega arith)) (f 40 (omega arith)) (f 41 (omega arith)) (f 42 (omega arith)) (f 43 (omega arith)) (f 44 (omega arith))).0

  c47 : fault_at (columns 47 60 (clock 6)) line ≡ clean
  c47 = rw (take_cells line 46 14 (omega arith)) (decimal-fits 47 (get_or line 45 0) (get_or line 46 0) (get_or line 47 0) (get_or line 48 0) (get_or line 49 0) (get_or line 50 0) (get_or line 51 0) (get_or line 52 0) (get_or line 53 0) (get_or line 54 0) (get_or line 55 0) (get_or line 56 0) (get_or line 57 0) (get_or line 58 0) (get_or line 59 0) (f 45 (omega arith)) (f 46 (omega arith)) (f 47 (omega arith)) (f 48 (omega arith)) (f 49 (omega arith)) (f 50 (omega arith)) (f 51 (omega arith)) (f 52 (omega arith)) (f 53 (omega arith)) (f 54 (omega arith)) (f 55 (omega arith)) (f 56 (omega arith)) (f 57 (omega arith)) (f 58 (omega arith))).1

  c61 : fault_at (column 61 unused) line ≡ clean
  c61 = rw (take_cells line 60 1 (omega arith)) (blank-one 61 (get_or line 59 0) (get_or line 60 0) (f 59 (omega arith)))

  c62 : fault_at (columns 62 63 exponent) line ≡ clean
  c62 = rw (take_cells line 61 2 (omega arith)) (exponent-two 62 (get_or line 61 0) (get_or line 62 0) (after-blank (get_or line 59 0) (get_or line 60 0) (get_or line 61 0) (f 59 (omega arith)) (f 60 (omega arith))) (f 61 (omega arith)))

  c64 : fault_at (column 64 unused) line ≡ clean
  c64 = rw (take_cells line 63 1 (omega arith)) (blank-one 64 (get_or line 62 0) (get_or line 63 0) (f 62 (omega arith)))

  c65 : fault_at (columns 65 66 exponent) line ≡ clean
  c65 = rw (take_cells line 64 2 (omega arith)) (exponent-two 65 (get_or line 64 0) (get_or line 65 0) (after-blank (get_or line 62 0) (get_or line 63 0) (get_or line 64 0) (f 62 (omega arith)) (f 63 (omega arith))) (f 64 (omega arith)))

  c67 : fault_at (column 67 unused) line ≡ clean
  c67 = rw (take_cells line 66 1 (omega arith)) (blank-one 67 (get_or line 65 0) (get_or line 66 0) (f 65 (omega arith)))

  c68 : fault_at (columns 68 69 exponent) line ≡ clean
  c68 = rw (take_cells line 67 2 (omega arith)) (exponent-two 68 (get_or line 67 0) (get_or line 68 0) (after-blank (get_or line 65 0) (get_or line 66 0) (get_or line 67 0) (f 65 (omega arith)) (f 66 (omega arith))) (f 67 (omega arith)))

  c70 : fault_at (column 70 unused) line ≡ clean
  c70 = rw (take_cells line 69 1 (omega arith)) (blank-one 70 (get_or line 68 0) (get_or line 69 0) (f 68 (omega arith)))

  c71 : fault_at (columns 71 73 exponent) line ≡ clean
  c71 = rw (take_cells line 70 3 (omega arith)) (exponent-three 71 (get_or line 70 0) (get_or line 71 0) (get_or line 72 0) (after-blank (get_or line 68 0) (get_or line 69 0) (get_or line 70 0) (f 68 (omega arith)) (f 69 (omega arith))) (f 70 (omega arith)) (f 71 (omega arith)))

  c74 : fault_at (column 74 unused) line ≡ clean
  c74 = rw (take_cells line 73 1 (omega arith)) (blank-one 74 (get_or line 72 0) (get_or line 73 0) (f 72 (omega arith)))

  c75 : fault_at (column 75 (flag 69)) line ≡ clean
  c75 = rw (take_cells line 74 1 (omega arith)) (flag-blank 75 69 (get_or line 73 0) (get_or line 74 0) (f 73 (omega arith)))

  c76 : fault_at (column 76 (flag 80)) line ≡ clean
  c76 = rw (take_cells line 75 1 (omega arith)) (flag-letter 76 80 (get_or line 74 0) (get_or line 75 0) (f 74 (omega arith)))

  c77 : fault_at (columns 77 78 unused) line ≡ clean
  c77 = rw (take_cells line 76 2 (omega arith)) (blank-two 77 (get_or line 75 0) (get_or line 76 0) (get_or line 77 0) (f 75 (omega arith)) (f 76 (omega arith)))

  c79 : fault_at (column 79 (flag 77)) line ≡ clean
  c79 = rw (take_cells line 78 1 (omega arith)) (flag-blank 79 77 (get_or line 77 0) (get_or line 78 0) (f 77 (omega arith)))

  c80 : fault_at (column 80 (flag 80)) line ≡ clean
  c80 = rw (take_cells line 79 1 (omega arith)) (flag-letter 80 80 (get_or line 78 0) (get_or line 79 0) (f 78 (omega arith)))

  all-clean : row_fault false line ≡ clean
  all-clean = clean_line (row_items false) line (c1, (c2, (c5, (c19, (c33, (c47, (c61, (c62, (c64, (c65, (c67, (c68, (c70, (c71, (c74, (c75, (c76, (c77, (c79, (c80, 0))))))))))))))))))))

-- the law
pub usual-clean : (line : List ℕ) → usual line ≡ true → row_fault false line ≡ clean
unfolding usual
usual-clean line h =
    let wide = eqb-true (length line) 80 (and_left (eqb (length line) 80) _ h) in
    let named = and_right (eqb (length line) 80) _ h in
    let symbol = and_left (eqb (get_or line 0 0) 80) _ named in
    let more = and_right (eqb (get_or line 0 0) 80) _ named in
    let some = and_left (not (eqb (get_or line 2 0) 48 && eqb (get_or line 3 0) 48)) _ more in
    let fits = and_right (not (eqb (get_or line 2 0) 48 && eqb (get_or line 3 0) 48)) _ more in
    all-clean line wide symbol some fits
