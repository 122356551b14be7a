-- The rows of every accepted file are valid: magnitudes, exponents and flags of a P or V line are within their bounds, and the rows stand in the
-- table one after another, a P row for each satellite and epoch, with velocities a V row after it.
-- Assumes nothing.
use mathlib.Core.Path.{◌≡◌, refl, sym, ap, ap₂, subst, ◌∙◌}
use mathlib.Core.Bool.{Bool, true, false, cond, not, ◌&&◌, ◌||◌, or-true, false≢true}
use mathlib.Core.List.{List, ◌++◌}
use Prim.Native.Nat.{ℕ, zero, suc, ◌+◌, ◌-◌, ◌*◌, ◌/◌, ◌%◌, ◌^◌, ◌≤◌, ◌<◌}
use native.Mathlib.Nat.{zero-mul, suc-mul, mod-lt, div-add-mod', div-lt_iff_lt-mul, mul_comm}
use native.Mathlib.Omega.{arith}
use borrow.Author.Tests.{le-leb, leb-false, ltb-true, eq-eqb}
use lib.Dec.{leb, ltb, eqb}
use lib.IntN.{ℤ, pos}
use lib.ListN.{length, get_or, take, drop, length-append, length-drop}
use lib.Seq.{length-take-le, drop-drop, take-add, take_at, drop_at}
use Rattle.laws.specs.Texts.{every}
use Rattle.field.specs.Read.{exponent_of, signed_whole_of}
use Rattle.field.specs.Show.{fits_integer}
use Rattle.field.specs.Clock.{six_nines, clock_kept}
use Rattle.field.specs.Sign.{largest, largest_clock, signed_int}
use Rattle.layout.specs.Fault.{clean}
use Rattle.layout.specs.Kind.{unknown, unnoted, is_blank, maybe_held, held_amount, negative_in, magnitude_in, amount_fault, fault_in}
use Rattle.layout.specs.Kind.Held.{amount}
use Rattle.layout.specs.Line.{padded}
use Rattle.lines.specs.Lines.{after_nth}
use Rattle.record.specs.LineKinds.{comment_kind, epoch_kind, position_correlation_kind, velocity_correlation_kind, told_kind}
use Rattle.record.specs.Rows.{row_taken, row_of, cut, row_width, both_width}
use Rattle.record.specs.Notes.{largest_correlation, correlation, correlation_in, note_taken, note_of, note_fault}
use Rattle.header.specs.declared.types.Rules.{Rules}
use Rattle.field.specs.declared.Exponent.{Exponent}
use Rattle.field.specs.declared.Exponent.TheVariants as exponents
use Rattle.file.specs.Kinds.{kind_in, is_row, is_note}
use Rattle.file.specs.Plain.{row_kind, note_kind, is_row_line, Plain}
use Rattle.file.specs.Table.{mark_number, row_in, row_numbers, note_numbers, no_note, note_after, rows_in}
use Rattle.canon.specs.Table.{cell_width}
use Rattle.canon.specs.Valid.{amount_valid, clock_valid, flag_valid, correlation_valid, row_valid, note_valid, noted_valid, cell_valid, rows_valid}
use Rattle.laws.proofs.Bools.{and_right, and_both}
use Rattle.field.proofs.Signs.{magnitude-back}
use Rattle.field.proofs.Again.{exponent-again}
use Rattle.layout.proofs.Lines.{padded-length}
use Rattle.file_laws.proofs.Selected.{satellites, velocities, epochs}
use Rattle.file_laws.proofs.Rule.{place_at, motion-at}
use Rattle.file_laws.proofs.Counts.{satellites-bounds}
use Rattle.file.proofs.Wide.{after-wide}
use Rattle.file_laws.proofs.Clean.{record-clean, amount-bounds}
use Rattle.file_laws.proofs.Sorting.{row-kind, epoch-kind, comment-kind}
use Rattle.file_laws.proofs.Walk.{is_other, other-apart, Covers, every-line}
use Rattle.lines.proofs.Noted.{note-holds}
use Rattle.file_laws.proofs.Exact.{row-bounded, clock-kept, field-clean, note-exact, none-exact}
use Rattle.file.specs.Exact.{exact_signed, exact_numbers, exact_note, exact_none}
use Rattle.file_laws.proofs.Stored.{note_at, place_line, motion_line, place-stored, place-stored-both, motion-stored}
use Rattle.std.specs.Prelude.{Option, Some, None}
use Rattle.field.specs.declared.Signed.{Signed}
use Rattle.field.specs.Read.{some_amount}

-- a sign and a magnitude within the bound
amount-valid : (negative : Bool) (m : ℕ) → m ≤ largest → amount_valid (signed_int negative m) ≡ true
amount-valid negative m h = rw (magnitude-back negative m) (le-leb m largest h)

-- a clock that is held as it is
clock-valid : (negative : Bool) (m : ℕ) → m ≤ largest → clock_kept 6 negative m ≡ true → clock_valid (signed_int negative m) ≡ true
unfolding clock_kept signed_int
clock-valid true zero h kept = refl
clock-valid true (suc m) h kept = le-leb (suc m) largest h
clock-valid false m h kept = go (leb m largest_clock) refl
  where
    go : (t : Bool) → leb m largest_clock ≡ t → (t || eqb m largest) ≡ true
    go true q = refl
    go false q =
        let nines : m / 10 ^ 6 ≡ six_nines = omega (arith, leb-false m largest_clock q) in
        rw (eq-eqb (m / 10 ^ 6) six_nines nines) at kept

-- a number that may be unknown, in as many columns as its largest has digits
known-valid : (most none first last : ℕ) (l : List ℕ) → 1 ≤ first → last ≤ 80 → 10 ^ (last - (first - 1) - 0) ≡ suc most
    → let n = maybe_held none (exponent_of (cut first last (padded l))) in (leb n most || eqb n none) ≡ true
unfolding fits_integer
known-valid most none first last l starts ends digits = go (exponent_of bytes) refl
  where
    bytes : List ℕ
    bytes = cut first last (padded l)

    wide : length bytes ≡ last - (first - 1)
    wide = length-take-le (last - (first - 1)) (drop (first - 1) (padded l)) (omega (arith, length-drop (first - 1) (padded l), padded-length l))

    value-good : (n : ℕ) → exponents.Value n ≡ exponents.Malformed → ⊥
    value-good n q = let z : ◌≡◌ {A = ℕ} 0 1 = cc in omega arith

    go : (a : Exponent) → exponent_of bytes ≡ a → (leb (maybe_held none a) most || eqb (maybe_held none a) none) ≡ true
    go (exponents.Value n) e =
        let fits = exponent-again bytes (exponents.Value n) (value-good n) e in
        let fewer : ltb n (10 ^ (length bytes - 0)) ≡ true = and_right (ltb 0 (length bytes)) _ (and_right (leb (length bytes) 18) _ fits) in
        let below : n < 10 ^ (last - (first - 1) - 0) = subst (λ (w : ℕ). n < 10 ^ (w - 0)) wide (ltb-true n (10 ^ (length bytes - 0)) fewer) in
        rw (le-leb n most (omega arith))
    go exponents.Unknown e = rw (eq-eqb none none refl) (or-true (leb none most))
    go exponents.Malformed e = rw (le-leb 0 most (omega arith))

-- a flag; V has none
flag-valid : (velocity set : Bool) → flag_valid velocity (pos (mark_number (not velocity && set))) ≡ true
flag-valid true set = refl
flag-valid false true = refl
flag-valid false false = refl

-- THE ROW OF A P OR V LINE IS VALID.
module _ (rules : Rules) (v : Bool) (identifier : ℕ) (l : List ℕ) (is : is_row_line rules v identifier l ≡ true) where
  pub row-valid : row_valid v (exact_numbers (row_of v l)) ≡ true
  unfolding row_valid exact_numbers row_taken
  row-valid =
      let r = row_of v l in
      let b = row-bounded rules v identifier l is in
      rw (
        amount-valid r.x.negative r.x.magnitude b.x,
        amount-valid r.y.negative r.y.magnitude b.y,
        amount-valid r.z.negative r.z.magnitude b.z,
        clock-valid r.clock.negative r.clock.magnitude b.clock (clock-kept rules v identifier l is),
        known-valid 99 unknown 62 63 l (omega arith) (omega arith) refl,
        known-valid 99 unknown 65 66 l (omega arith) (omega arith) refl,
        known-valid 99 unknown 68 69 l (omega arith) (omega arith) refl,
        known-valid 999 unknown 71 73 l (omega arith) (omega arith) refl,
        flag-valid v (eqb (get_or (cut 75 75 (padded l)) 0 0) 69),
        flag-valid v (eqb (get_or (cut 76 76 (padded l)) 0 0) 80),
        flag-valid v (eqb (get_or (cut 79 79 (padded l)) 0 0) 77),
        flag-valid v (eqb (get_or (cut 80 80 (padded l)) 0 0) 80),
      )

-- A correlation of a line without fault, or unknown.
correlation-valid : (column : ℕ) (bytes : List ℕ) → fault_in correlation column bytes ≡ clean → correlation_valid (exact_signed (correlation_in bytes)) ≡ true
unfolding signed_int
correlation-valid column bytes f = go (every is_blank bytes) (signed_whole_of bytes) f
  where
    go : (t : Bool) (a : Option Signed) → cond t clean (amount_fault column 0 largest_correlation a) ≡ clean
        → correlation_valid (signed_int (negative_in (cond t (amount false unnoted) (held_amount a))) (magnitude_in (cond t (amount false unnoted) (held_amount a)))) ≡ true
    go true a h = refl
    go false (Some held) h = rw (magnitude-back held.negative held.magnitude, le-leb held.magnitude largest_correlation (amount-bounds column 0 largest_correlation (some_amount held.negative held.magnitude) h).1)
    go false None h = refl

-- THE NOTE OF AN EP OR EV LINE IS VALID, and so is none.
pub note-valid : (v : Bool) (l : List ℕ) → note_fault v (padded l) ≡ clean → note_valid (note_numbers (note_of l)) ≡ true
unfolding note_valid exact_note note_taken
note-valid v l f =
    ap note_valid (note-exact v l f)
    ∙ rw (
      known-valid 9_999 unnoted 5 8 l (omega arith) (omega arith) refl,
      known-valid 9_999 unnoted 10 13 l (omega arith) (omega arith) refl,
      known-valid 9_999 unnoted 15 18 l (omega arith) (omega arith) refl,
      known-valid 9_999_999 unnoted 20 26 l (omega arith) (omega arith) refl,
      correlation-valid 28 (cut 28 35 (padded l)) (field-clean v l f 9 (omega arith)),
      correlation-valid 37 (cut 37 44 (padded l)) (field-clean v l f 11 (omega arith)),
      correlation-valid 46 (cut 46 53 (padded l)) (field-clean v l f 13 (omega arith)),
      correlation-valid 55 (cut 55 62 (padded l)) (field-clean v l f 15 (omega arith)),
      correlation-valid 64 (cut 64 71 (padded l)) (field-clean v l f 17 (omega arith)),
      correlation-valid 73 (cut 73 80 (padded l)) (field-clean v l f 19 (omega arith)),
    )

none-valid : note_valid no_note ≡ true
unfolding note_valid exact_none
none-valid = ap note_valid none-exact

-- what stands after any row of an accepted file
module _ {rules : Rules} {lines : List (List ℕ)} (p : Plain rules lines) where
  Sound : List ℕ → Type 0
  Sound l = is_note rules l ≡ true → note_valid (note_numbers (note_of l)) ≡ true

  -- a line of another kind is none
  no-note : (k : ℕ) (l : List ℕ) → kind_in rules l ≡ k → (eqb k position_correlation_kind || eqb k velocity_correlation_kind) ≡ false → Sound l
  unfolding Sound
  no-note k l e none is = absurd (false≢true (sym none ∙ ap (λ (n : ℕ). eqb n position_correlation_kind || eqb n velocity_correlation_kind) (sym e) ∙ is))

  sound : Covers rules Sound
  unfolding Sound
  sound = record {
    row = λ v identifier l e. no-note (told_kind (row_kind v)) l (row-kind rules v identifier l e) (rows v);
    note = λ v l e is. note-valid v l (record-clean rules (note_kind v) (note_fault v (padded l)) l e);
    epoch = λ at8 l e. no-note epoch_kind l (epoch-kind rules at8 l e) refl;
    comment = λ l e. no-note comment_kind l (comment-kind rules l e) refl;
    other = λ l e. no-note (kind_in rules l) l refl (apart (kind_in rules l) e);
  }
    where
      rows : (v : Bool) → (eqb (told_kind (row_kind v)) position_correlation_kind || eqb (told_kind (row_kind v)) velocity_correlation_kind) ≡ false
      rows true = refl
      rows false = refl

      apart : (k : ℕ) → is_other k ≡ true → (eqb k position_correlation_kind || eqb k velocity_correlation_kind) ≡ false
      apart k e = rw (other-apart k position_correlation_kind e refl, other-apart k velocity_correlation_kind e refl)

  note-at-valid : (r : ℕ) → note_valid (note_at rules lines r) ≡ true
  unfolding Sound
  note-at-valid r =
      note-holds (is_row rules) (is_note rules) (λ (l : List ℕ). row_numbers (row_in rules l)) (λ (l : List ℕ). note_numbers (note_of l)) no_note
      (λ (note : List ℤ). note_valid note ≡ true) none-valid lines (every-line rules Sound sound lines p) r

  -- a row with its note
  noted-valid : (v : Bool) (identifier : ℕ) (l : List ℕ) (r : ℕ) → is_row_line rules v identifier l ≡ true → noted_valid v (exact_numbers (row_of v l) ++ note_at rules lines r) ≡ true
  unfolding noted_valid row_valid exact_numbers
  noted-valid v identifier l r is =
      and_both (row_valid v (exact_numbers (row_of v l))) _ (row-valid rules v identifier l is) (note-at-valid r)

-- rows are valid where each cell of them is
rows-each : (velocity : Bool) (cells : ℕ) (rows : List ℤ)
    → ((i : ℕ) → i < cells → cell_valid velocity (take (cell_width velocity) (drop (i * cell_width velocity) rows)) ≡ true) → rows_valid velocity cells rows ≡ true
unfolding rows_valid
rows-each velocity zero rows each = refl
rows-each velocity (suc cells) rows each =
    let w = cell_width velocity in
    and_both (cell_valid velocity (take w rows)) _
    (ap (λ (n : ℕ). cell_valid velocity (take w (drop n rows))) (sym (zero-mul w)) ∙ each 0 (omega arith))
    (rows-each velocity cells (drop w rows) (λ i h.
    ap (λ (s : List ℤ). cell_valid velocity (take w s)) (drop-drop (i * w) w rows ∙ ap (λ (n : ℕ). drop n rows) (sym (next i w)))
    ∙ each (suc i) (omega arith)))
  where
    next : (i w : ℕ) → suc i * w ≡ w + i * w
    next i w = omega (arith, suc-mul i w)

-- the cell i is that of epoch i / n and satellite i % n
module _ {rules : Rules} {lines : List (List ℕ)} (p : Plain rules lines) (i : ℕ) (h : i < satellites p * epochs p) where
  some : 0 < satellites p
  some = omega (arith, (satellites-bounds p).0)

  abbrev k : ℕ
  k = i / satellites p

  abbrev j : ℕ
  j = i % satellites p

  hk : k < epochs p
  hk = (div-lt_iff_lt-mul {k = satellites p} {x = i} {y = epochs p} some).1 (omega (arith, mul_comm (satellites p) (epochs p)))

  hj : j < satellites p
  hj = mod-lt i some

  cell_at : (velocity : Bool) → velocities p ≡ velocity → cell_valid velocity (take (cell_width velocity) (drop (i * cell_width velocity) (rows_in rules lines))) ≡ true
  unfolding cell_valid exact_numbers
  cell_at false alone =
      let place : i * row_width ≡ row_width * (k * satellites p + j) = omega (arith, div-add-mod' i (satellites p)) in
      ap (λ (n : ℕ). noted_valid false (take row_width (drop n (rows_in rules lines)))) place
      ∙ ap (noted_valid false) (place-stored p k j hk hj alone)
      ∙ noted-valid p false _ _ (k * satellites p + j) (place_at p k j hk hj)
  cell_at true both =
      let rows = rows_in rules lines in
      let at = k * satellites p + j in
      let place : i * both_width ≡ row_width * (2 * at) = omega (arith, div-add-mod' i (satellites p)) in
      let after : row_width * (2 * at) + row_width ≡ row_width * (2 * at + 1) = omega arith in
      let place-row = exact_numbers (row_of false (place_line p k j hk hj)) ++ note_at rules lines (2 * at) in
      let motion-row = exact_numbers (row_of true (motion_line p k j hk hj)) ++ note_at rules lines (2 * at + 1) in
      let wide : length place-row ≡ row_width = omega (arith, length-append (exact_numbers (row_of false (place_line p k j hk hj))) (note_at rules lines (2 * at)), after-wide rules (after_nth (is_row rules) (2 * at) lines)) in
      let cell : take both_width (drop (i * both_width) rows) ≡ place-row ++ motion-row =
      ap (λ (n : ℕ). take both_width (drop n rows)) place
      ∙ take-add row_width row_width (drop (row_width * (2 * at)) rows)
      ∙ ap₂ (λ (a b : List ℤ). a ++ b) (place-stored-both p k j hk hj both)
      (ap (take row_width) (drop-drop row_width (row_width * (2 * at)) rows ∙ ap (λ (n : ℕ). drop n rows) after) ∙ motion-stored p k j hk hj both) in
      ap (cell_valid true) cell
      ∙ and_both (noted_valid false (take row_width (place-row ++ motion-row))) _
      (ap (noted_valid false) (take_at place-row motion-row row_width wide) ∙ noted-valid p false _ _ (2 * at) (place_at p k j hk hj))
      (ap (noted_valid true) (drop_at place-row motion-row row_width wide) ∙ noted-valid p true _ _ (2 * at + 1) (motion-at p both k j hk hj))

-- EVERY ROW IS VALID.
pub rows-valid : {rules : Rules} {lines : List (List ℕ)} (p : Plain rules lines) → rows_valid (velocities p) (satellites p * epochs p) (rows_in rules lines) ≡ true
rows-valid {rules} {lines} p =
    rows-each (velocities p) (satellites p * epochs p) (rows_in rules lines) (λ i h. cell_at p i h (velocities p) refl)
