-- The clock field as the front page speaks of it. 02, Ask 3: "after the point all six columns are digits or all six are blank. A blank fraction elsewhere
-- stays 6. The canonical form still writes twelve nines. The largest valid clock is now 999,998,999,999."
-- Assumes nothing.
use mathlib.Core.Path.{◌≡◌, refl, sym, ap, ◌∙◌}
use mathlib.Core.Bool.{Bool, true, false, cond, ◌&&◌, ◌||◌, false≢true}
use mathlib.Core.List.{List, [], ◌∷◌, ◌++◌, append_assoc}
use Prim.Native.Nat.{ℕ, zero, suc, ◌+◌, ◌*◌, ◌/◌, ◌<◌, ◌≤◌}
use native.Mathlib.Nat.{le_of_suc-le-suc, not-suc-le-zero}
use native.Mathlib.Omega.{arith}
use borrow.Author.Tests.{le-leb, lt-leb, lt-ltb, ltb-true, eq-eqb, ne_eqb}
use lib.Dec.{leb, ltb, eqb}
use lib.IntN.{ℤ, pos}
use lib.ListN.{length, get_or, take, drop, length-drop}
use lib.Seq.{take-take, length-take-le, get_or-take, get_or-drop, drop-drop}
use Rattle.laws.specs.Texts.{every}
use Rattle.field.specs.Digits.{is_blank, all_digits, point_of}
use Rattle.field.specs.Read.{whole_of, decimal_of, integer_of, carried}
use Rattle.field.specs.Show.{show_integer, fits_integer, show_decimal, fits_decimal}
use Rattle.field.specs.Clock.{is_six_nines, nines_before, has_point, clock_missing, clock_of}
use Rattle.field.specs.Sign.{largest, largest_clock}
use Rattle.layout.specs.Fault.{clean, keyed}
use Rattle.layout.specs.Kind.{amount_fault}
use Rattle.layout.specs.Kind.Kind.{signed, clock}
use Rattle.layout.specs.Layout.{Item, Values, columns, part_of, fault_at, tiled_from, bytes_of, left_of, show_line}
use Rattle.layout.proofs.Layouts.{further, part-shown}
use Rattle.record.specs.Rows.{cut, row_items, row_values, bare_width, row_width, both_width}
use Rattle.record.specs.declared.types.Row.{Row}
use Rattle.record.proofs.Tiled.{rows-tiled}
use Rattle.laws.proofs.Bools.{and_left, and_right}
use Rattle.laws.proofs.Lists.{front_rest}
use Rattle.header.specs.Rules.{d}
use Rattle.header.specs.declared.types.Rules.{Rules}
use Rattle.canon.specs.Table.{Table, cell_width, cells_in, rows_of}
use Rattle.canon.specs.Valid.{entry, amount_valid, clock_valid, four_valid, row_valid, note_valid, noted_valid, cell_valid, rows_valid, valid}
use Rattle.canon.specs.Measured.{measured_in}
use Rattle.canon.proofs.Parts.{parts}
use Rattle.stored_row.specs.Stored.{is_there, number_at}
use Rattle.theorems.proofs.Writing.{thirteen-exactly}
use Rattle.canon_laws.specs.Held.{Proper}
use Rattle.std.specs.Prelude.{Option, Some, None}
use Rattle.field.specs.declared.Signed.{Signed}

-- A FRACTION THAT IS NOT ALL DIGITS makes a decimal malformed, whatever stands before the point.
no_fraction : (s : List ℕ) (places : ℕ) (minus : Bool) → all_digits (drop (point_of places (length s) + 1) s) ≡ false → decimal_of s places minus ≡ None
unfolding decimal_of
no_fraction s places minus e =
    go (leb (length s) 18 && (ltb places (length s) && eqb (get_or s (point_of places (length s)) 0) 46)) (integer_of minus (take (point_of places (length s)) s))
  where
    go : (t : Bool) (a : Option Signed) → cond t (carried a (drop (point_of places (length s) + 1) s)) None ≡ None
    go true (Some held) = rw e
    go true None = refl
    go false a = refl

-- fourteen columns of a line, the last six of them
module _ (first : ℕ) (line : List ℕ) (wide : length line ≡ 80) (within : first + 14 ≤ 80) where
  fourteen : length (take 14 (drop first line)) ≡ 14
  fourteen = length-take-le 14 (drop first line) (omega (arith, length-drop first line))

  point_at : point_of 6 (length (take 14 (drop first line))) ≡ 7
  point_at = omega (arith, fourteen)

  last-six : drop (point_of 6 (length (take 14 (drop first line))) + 1) (take 14 (drop first line)) ≡ take 6 (drop (first + 8) line)
  last-six =
      ap (λ (p : ℕ). drop (p + 1) (take 14 (drop first line))) point_at
      ∙ front_rest 8 14 (drop first line)
      ∙ ap (take 6) (drop-drop 8 first line)

  first-seven : take (point_of 6 (length (take 14 (drop first line)))) (take 14 (drop first line)) ≡ take 7 (drop first line)
  first-seven = ap (λ (p : ℕ). take p (take 14 (drop first line))) point_at ∙ take-take 7 14 (drop first line) (omega arith)

-- A BLANK OR MIXED FRACTION of x, y or z is 6 at the first column of its field.
pub place-fraction : (line : List ℕ) → length line ≡ 80
    → (all_digits (cut 13 18 line) ≡ false → fault_at (columns 5 18 (signed 6)) line ≡ keyed 6 5)
    × (all_digits (cut 27 32 line) ≡ false → fault_at (columns 19 32 (signed 6)) line ≡ keyed 6 19)
    × (all_digits (cut 41 46 line) ≡ false → fault_at (columns 33 46 (signed 6)) line ≡ keyed 6 33)
place-fraction line wide = (λ e. of 4 (omega arith) 5 e, λ e. of 18 (omega arith) 19 e, λ e. of 32 (omega arith) 33 e)
  where
    of : (before : ℕ) → before + 14 ≤ 80 → (column : ℕ) → all_digits (take 6 (drop (before + 8) line)) ≡ false
        → amount_fault column 0 largest (decimal_of (take 14 (drop before line)) 6 true) ≡ keyed 6 column
    of before within column e =
        ap (amount_fault column 0 largest) (no_fraction (take 14 (drop before line)) 6 true (ap all_digits (last-six before line wide within) ∙ e))

module _ (line : List ℕ) (wide : length line ≡ 80) where
  nines-are : nines_before (cut 47 60 line) 6 ≡ is_six_nines (whole_of (cut 47 53 line))
  unfolding nines_before
  nines-are = ap (λ (s : List ℕ). is_six_nines (whole_of s)) (first-seven 46 line wide (omega arith))

  after-are : drop (point_of 6 (length (cut 47 60 line)) + 1) (cut 47 60 line) ≡ cut 55 60 line
  after-are = last-six 46 line wide (omega arith)

  -- A clock passes with six nines, the point, and digits or blanks after it;
  pub nines-pass : is_six_nines (whole_of (cut 47 53 line)) ≡ true → get_or line 53 0 ≡ 46
      → (all_digits (cut 55 60 line) || every is_blank (cut 55 60 line)) ≡ true → fault_at (columns 47 60 (clock 6)) line ≡ clean
  unfolding clock_of clock_missing has_point
  nines-pass nines point rest =
      let bytes = cut 47 60 line in
      let stands : get_or bytes (point_of 6 (length bytes)) 0 ≡ 46 =
      ap (λ (p : ℕ). get_or bytes p 0) (point_at 46 line wide (omega arith)) ∙ get_or-take 14 (drop 46 line) 7 0 (omega arith) ∙ get_or-drop 46 line 7 0 ∙ point in
      let long = fourteen 46 line wide (omega arith) in
      rw (
        le-leb (length bytes) 18 (omega (arith, long)),
        lt-ltb 6 (length bytes) (omega (arith, long)),
        eq-eqb _ 46 stands,
        nines-are ∙ nines,
        ap (λ (s : List ℕ). all_digits s || every is_blank s) after-are ∙ rest,
      )

  -- with any other whole part a fraction that is not all digits is 6 at column 47, and so is a fraction of neither after six nines.
  pub clock-fraction : all_digits (cut 55 60 line) ≡ false → (is_six_nines (whole_of (cut 47 53 line)) && every is_blank (cut 55 60 line)) ≡ false
      → fault_at (columns 47 60 (clock 6)) line ≡ keyed 6 47
  unfolding clock_of clock_missing
  clock-fraction inked other =
      let bytes = cut 47 60 line in
      let after = drop (point_of 6 (length bytes) + 1) bytes in
      let digits : all_digits after ≡ false = ap all_digits after-are ∙ inked in
      let no-nines : (nines_before bytes 6 && every is_blank after) ≡ false =
      ap (λ (t : Bool). t && every is_blank after) nines-are ∙ ap (λ (s : List ℕ). is_six_nines (whole_of (cut 47 53 line)) && every is_blank s) after-are ∙ other in
      rw (digits, missing (has_point bytes 6) (nines_before bytes 6) (every is_blank after) no-nines, no_fraction bytes 6 true digits)
    where
      missing : (p n b : Bool) → (n && b) ≡ false → ((p && n) && b) ≡ false
      missing true n b e = e
      missing false n b e = refl

-- THE CLOCK OF A ROW'S LINE is written in its columns: what any item of a layout shows stands in the columns of that item.
abbrev shown_by : List Item → Values → ℕ → List ℕ
shown_by [] vs i = []
shown_by (item ∷ items) vs zero = bytes_of item vs
shown_by (item ∷ items) vs (suc i) = shown_by items (left_of item vs) i

item-shown : (items : List Item) (vs : Values) (front : List ℕ) → tiled_from (suc (length front)) items ≡ true → (i : ℕ) → i < length items → (none : Item)
    → part_of (get_or items i none) (front ++ show_line items vs) ≡ shown_by items vs i
item-shown [] vs front t i h none = absurd (not-suc-le-zero h)
item-shown (item ∷ items) vs front t zero h none = part-shown item items vs front t (show_line items (left_of item vs))
item-shown (item ∷ items) vs front t (suc i) h none =
    ap (part_of (get_or items i none)) (sym (append_assoc front (bytes_of item vs) (show_line items (left_of item vs))))
    ∙ item-shown items (left_of item vs) (front ++ bytes_of item vs) (further item items vs front t) i (le_of_suc-le-suc h) none

-- ` 999999.999999`
abbrev pub twelve_nines : List ℕ
twelve_nines = 32 ∷ 57 ∷ 57 ∷ 57 ∷ 57 ∷ 57 ∷ 57 ∷ 46 ∷ 57 ∷ 57 ∷ 57 ∷ 57 ∷ 57 ∷ 57 ∷ []

-- a clock that is absent is written as twelve nines, in P and V
pub nines-written : (v : Bool) (p : Row) → p.clock ≡ record { negative = false; magnitude = largest } → cut 47 60 (show_line (row_items v) (row_values v p)) ≡ twelve_nines
unfolding show_decimal fits_decimal show_integer fits_integer
nines-written true p e = item-shown (row_items true) (row_values true p) [] (rows-tiled true) 5 (omega arith) (columns 47 60 (clock 6)) ∙ rw e
nines-written false p e = item-shown (row_items false) (row_values false p) [] (rows-tiled false) 5 (omega arith) (columns 47 60 (clock 6)) ∙ rw e

-- THE CLOCKS OF A VALID TABLE are valid: those of a row with its note,
noted-clock : (v : Bool) (row : List ℤ) → noted_valid v row ≡ true → clock_valid (entry row 3) ≡ true
unfolding noted_valid row_valid
noted-clock v row e =
    let four = four_valid amount_valid clock_valid 0 row in
    let amounts = and_left four _ (and_left (row_valid v row) (note_valid (drop bare_width row)) e) in
    and_right (amount_valid (entry row 2)) _ (and_right (amount_valid (entry row 0) && amount_valid (entry row 1)) _ amounts)

-- how many rows a satellite has in an epoch
abbrev rows_each : Bool → ℕ
rows_each true = 2
rows_each false = 1

-- and of each row of so many.
rows-clock : (v : Bool) (cells : ℕ) (rows : List ℤ) → rows_valid v cells rows ≡ true → (r : ℕ) → r < cells * rows_each v → clock_valid (number_at rows r 3) ≡ true
unfolding rows_valid cell_valid
rows-clock v zero rows e r h = absurd (omega arith)
rows-clock true (suc cells) rows e zero h =
    let cell = and_left (cell_valid true (take both_width rows)) _ e in
    let first = noted-clock false (take row_width (take both_width rows)) (and_left (noted_valid false (take row_width (take both_width rows))) _ cell) in
    ap clock_valid (sym (get_or-take both_width rows 3 (pos 0) (omega arith)) ∙ sym (get_or-take row_width (take both_width rows) 3 (pos 0) (omega arith))) ∙ first
rows-clock true (suc cells) rows e (suc zero) h =
    let cell = and_left (cell_valid true (take both_width rows)) _ e in
    let second = noted-clock true (drop row_width (take both_width rows)) (and_right (noted_valid false (take row_width (take both_width rows))) _ cell) in
    ap clock_valid (sym (get_or-take both_width rows 26 (pos 0) (omega arith)) ∙ sym (get_or-drop row_width (take both_width rows) 3 (pos 0))) ∙ second
rows-clock true (suc cells) rows e (suc (suc r)) h =
    let more = rows-clock true cells (drop both_width rows) (and_right (cell_valid true (take both_width rows)) _ e) r (omega arith) in
    let place : suc (suc r) * row_width + 3 ≡ both_width + (r * row_width + 3) = omega arith in
    ap clock_valid (ap (λ (i : ℕ). get_or rows i (pos 0)) place ∙ sym (get_or-drop both_width rows (r * row_width + 3) (pos 0))) ∙ more
rows-clock false (suc cells) rows e zero h =
    let first = noted-clock false (take row_width rows) (and_left (cell_valid false (take row_width rows)) _ e) in
    ap clock_valid (sym (get_or-take row_width rows 3 (pos 0) (omega arith))) ∙ first
rows-clock false (suc cells) rows e (suc r) h =
    let more = rows-clock false cells (drop row_width rows) (and_right (cell_valid false (take row_width rows)) _ e) r (omega arith) in
    let place : suc r * row_width + 3 ≡ row_width + (r * row_width + 3) = omega arith in
    ap clock_valid (ap (λ (i : ℕ). get_or rows i (pos 0)) place ∙ sym (get_or-drop row_width rows (r * row_width + 3) (pos 0))) ∙ more

-- a clock between the largest and twelve nines is none
between : (n : ℕ) → largest_clock < n → (n ≡ largest → ⊥) → clock_valid (pos n) ≡ false
between n more other = rw (lt-leb n largest_clock more, ne_eqb n largest other)

-- a row that is there is one of so many
rows-there : (v : Bool) (cells many r : ℕ) → many ≡ cells * cell_width v → r < many / row_width → r < cells * rows_each v
rows-there true cells many r e h = omega (arith, h, e)
rows-there false cells many r e h = omega (arith, h, e)

module _ {rules : Rules} (proper : Proper rules) where
  -- A TABLE WITH A CLOCK ABOVE 999,998,999,999 that is not twelve nines is 13, whatever the room.
  pub clock-thirteen : (t : Table) (out : List ℕ) (r n : ℕ) → is_there (rows_of t) r ≡ true → number_at (rows_of t) r 3 ≡ pos n → largest_clock < n → (n ≡ largest → ⊥)
      → (measured_in rules t (length out)).refusal ≡ 13
  clock-thirteen t out r n there is more other = (thirteen-exactly proper t out).1 (go (valid d t) refl)
    where
      go : (b : Bool) → valid d t ≡ b → valid d t ≡ false
      go true ok =
          let p = parts d t ok in
          let few = ltb-true r (length (rows_of t) / row_width) there in
          let within : r < cells_in t.header * rows_each t.header.velocity = rows-there t.header.velocity (cells_in t.header) (length (rows_of t)) r p.rows-many few in
          let sound = rows-clock t.header.velocity (cells_in t.header) (rows_of t) p.rows r within in
          absurd (false≢true (sym (between n more other) ∙ ap clock_valid (sym is) ∙ sound))
      go false invalid = invalid
