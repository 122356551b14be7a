-- The line of a valid row: its columns can show the row, it is a P or V line of its satellite, and what is stored of it are the first numbers of
-- the row.
-- Assumes nothing.
use mathlib.Core.Path.{◌≡◌, refl, ap, ◌∙◌}
use mathlib.Core.Bool.{Bool, true, false, cond, not, ◌&&◌, ◌||◌, or-true, false≢true}
use mathlib.Core.List.{List, [], ◌∷◌, ◌++◌, append-nil}
use Prim.Native.Nat.{ℕ, zero, suc, ◌+◌, ◌/◌, ◌^◌, ◌≤◌}
use native.Mathlib.Omega.{arith}
use borrow.Author.Tests.{eq-eqb, ne_eqb, eqb-true, eqb-false, lt-ltb, le-leb, leb-true}
use lib.Dec.{leb, eqb, ltb}
use lib.IntN.{ℤ, pos, negsuc, nat_abs}
use lib.ListN.{length, take, drop}
use lib.Seq.{drop-cons}
use Rattle.field.specs.Show.{fits_whole, fits_decimal}
use Rattle.field.specs.Clock.{six_nines, all_nines, is_nines, clock_kept}
use Rattle.field.specs.Sign.{largest, largest_clock, is_negative, signed_int}
use Rattle.layout.specs.Kind.{unknown, is_identifier, can_amount, can_clock, identifier_code}
use Rattle.layout.specs.Fault.{clean}
use Rattle.layout.specs.Kind.Kind.{unused}
use Rattle.layout.specs.Layout.{Item, Values, columns, can_show, show_line}
use Rattle.layout.specs.Line.{padded, line_of}
use Rattle.record.specs.Absence.{largest_exponent}
use Rattle.record.specs.LineKinds.{kind_of, longest}
use Rattle.record.specs.Rows.{body_items, flag_items, body_values, flag_values, row_items, row_values, row_fault, row_line, row_taken, row_of, cut, bare_width}
use Rattle.header.specs.declared.types.Rules.{Rules}
use Rattle.record.specs.declared.types.Row.{Row}
use Rattle.file.specs.Plain.{row_kind, is_record, is_row_line}
use Rattle.file.specs.Table.{row_in, stored_int, stored_count, mark_number, stored_mark, row_numbers}
use Rattle.canon.specs.Valid.{entry, amount_valid, clock_valid, exponent_valid, most_flag, flag_valid, four_valid, row_valid}
use Rattle.canon.specs.Canonical.{flag_shown, row_shown}
use Rattle.laws.proofs.Bools.{and_left, and_right, and_both}
use Rattle.field.proofs.Fitting.{fits-true}
use Rattle.record.proofs.Tiled.{rows-tiled}
use Rattle.record.proofs.RoundTrips.{flagless, row_back}
use Rattle.file.proofs.Exact.{stored_exact}
use Rattle.file_laws.proofs.Exact.{count-exact, mark-exact, row-in}
use Rattle.layout.proofs.Inked as inked
use Rattle.canon.proofs.RowLengths.{clock-bounded}
use Rattle.canon_laws.proofs.Bare.{EndsLine, bare-ended, bare-record}

-- no number is minus zero
pub no-minus-zero : (u : ℤ) → (not (is_negative u) || ltb 0 (nat_abs u)) ≡ true
no-minus-zero (pos n) = refl
no-minus-zero (negsuc n) = lt-ltb 0 (suc n) (omega arith)

-- One number. A place or clock within the bound fits its columns, and is stored as it is.
pub amount-fits : (v : ℤ) → amount_valid v ≡ true → can_amount 14 6 (is_negative v) (nat_abs v) ≡ true
amount-fits v e =
    and_both (leb (nat_abs v) largest) _ e
    (and_both (fits_decimal 14 6 (is_negative v) (nat_abs v)) _ (inked.amount-fits (is_negative v) (nat_abs v) (leb-true (nat_abs v) largest e)) (no-minus-zero v))

-- a clock, of which six nines are all nines
module _ (v : ℤ) (e : clock_valid v ≡ true) where
  clock-keeps : clock_kept 6 (is_negative v) (nat_abs v) ≡ true
  unfolding clock_kept
  clock-keeps = go (is_negative v) (leb (nat_abs v) largest_clock) refl e
    where
      go : (n t : Bool) → leb (nat_abs v) largest_clock ≡ t → cond n (leb (nat_abs v) largest) (t || eqb (nat_abs v) largest) ≡ true
          → (not (is_nines 6 n (nat_abs v)) || eqb (nat_abs v) (all_nines 6)) ≡ true
      go true t q h = refl
      go false true q h = rw (ne_eqb (nat_abs v / 10 ^ 6) six_nines (λ nines. omega (arith, nines, leb-true (nat_abs v) largest_clock q)))
      go false false q h = rw h (or-true (not (eqb (nat_abs v / 10 ^ 6) six_nines)))

  pub clock-fits : can_clock 14 6 (is_negative v) (nat_abs v) ≡ true
  clock-fits =
      and_both (can_amount 14 6 (is_negative v) (nat_abs v)) _
      (amount-fits v (le-leb (nat_abs v) largest (clock-bounded v e)))
      clock-keeps

pub within-stored : (v : ℤ) → nat_abs v ≤ largest → stored_int (is_negative v) (nat_abs v) ≡ v
unfolding signed_int
within-stored (pos n) h = stored_exact false n h
within-stored (negsuc n) h = stored_exact true (suc n) h

pub amount-stored : (v : ℤ) → amount_valid v ≡ true → stored_int (is_negative v) (nat_abs v) ≡ v
amount-stored v e = within-stored v (leb-true (nat_abs v) largest e)

-- a number that is not negative is its magnitude
plain-is : (v : ℤ) → not (is_negative v) ≡ true → pos (nat_abs v) ≡ v
plain-is (pos n) e = refl
plain-is (negsuc n) e = absurd (false≢true e)

-- A number within its bound, or the one that stands for unknown: in its columns or blank, and stored as it is.
module _ (most none w : ℕ) (fits : (n : ℕ) → n ≤ most → fits_whole w n ≡ true) (few : most ≤ largest) (little : none ≤ largest)
    (v : ℤ) (valid : (not (is_negative v) && (leb (nat_abs v) most || eqb (nat_abs v) none)) ≡ true) where
  either : (leb (nat_abs v) most || eqb (nat_abs v) none) ≡ true
  either = and_right (not (is_negative v)) _ valid

  pub known-fits : (eqb (nat_abs v) none || fits_whole w (nat_abs v)) ≡ true
  known-fits = go (leb (nat_abs v) most) (eqb (nat_abs v) none) refl either
    where
      go : (t u : Bool) → leb (nat_abs v) most ≡ t → (t || u) ≡ true → (u || fits_whole w (nat_abs v)) ≡ true
      go t true e h = refl
      go true false e h = fits (nat_abs v) (leb-true (nat_abs v) most e)
      go false false e h = absurd (false≢true h)

  pub known-stored : stored_count (nat_abs v) ≡ v
  known-stored =
      count-exact (nat_abs v) (go (leb (nat_abs v) most) (eqb (nat_abs v) none) refl refl either) ∙ plain-is v (and_left (not (is_negative v)) _ valid)
    where
      go : (t u : Bool) → leb (nat_abs v) most ≡ t → eqb (nat_abs v) none ≡ u → (t || u) ≡ true → nat_abs v ≤ largest
      go true u e f h = omega (arith, leb-true (nat_abs v) most e)
      go false true e f h = omega (arith, eqb-true (nat_abs v) none f)
      go false false e f h = absurd (false≢true h)

-- an exponent, of x, y, z in two columns, of the clock in three
abbrev exponent_width : Bool → ℕ
exponent_width true = 3
exponent_width false = 2

exponent-columns : (clock : Bool) (n : ℕ) → n ≤ largest_exponent clock → fits_whole (exponent_width clock) n ≡ true
exponent-columns true n h = fits-true 3 false n (omega arith) (omega arith) (omega arith)
exponent-columns false n h = fits-true 2 false n (omega arith) (omega arith) (omega arith)

exponent-most : (clock : Bool) → largest_exponent clock ≤ largest
exponent-most true = omega arith
exponent-most false = omega arith

module _ (clock : Bool) (v : ℤ) (valid : exponent_valid clock v ≡ true) where
  pub exponent-fits : (eqb (nat_abs v) unknown || fits_whole (exponent_width clock) (nat_abs v)) ≡ true
  exponent-fits = known-fits (largest_exponent clock) unknown (exponent_width clock) (exponent-columns clock) (exponent-most clock) (omega arith) v valid

  pub exponent-stored : stored_count (nat_abs v) ≡ v
  exponent-stored = known-stored (largest_exponent clock) unknown (exponent_width clock) (exponent-columns clock) (exponent-most clock) (omega arith) v valid

-- A flag: 0, or in P 1.
module _ (velocity : Bool) (v : ℤ) (valid : flag_valid velocity v ≡ true) where
  flag-most : nat_abs v ≤ most_flag velocity
  flag-most = leb-true (nat_abs v) (most_flag velocity) (and_right (not (is_negative v)) _ valid)

  pub flag-stored : stored_mark (flag_shown v) ≡ v
  flag-stored = mark-exact (flag_shown v) ∙ ap pos (go velocity (eqb (nat_abs v) 0) refl flag-most) ∙ plain-is v (and_left (not (is_negative v)) _ valid)
    where
      go : (w t : Bool) → eqb (nat_abs v) 0 ≡ t → nat_abs v ≤ most_flag w → mark_number (cond t false true) ≡ nat_abs v
      go w true e h = omega (arith, eqb-true (nat_abs v) 0 e)
      go true false e h = omega (arith, eqb-false (nat_abs v) 0 e)
      go false false e h = omega (arith, eqb-false (nat_abs v) 0 e)

  pub flag-unset : velocity ≡ true → not (flag_shown v) ≡ true
  flag-unset is =
      let none : nat_abs v ≡ 0 = omega (arith, flag-most, ap most_flag is) in
      rw (eq-eqb (nat_abs v) 0 none)

-- The numbers of a valid row, four of each kind.
pub record Four (test last : ℤ → Bool) (at : ℕ) (row : List ℤ) : Type 0 where
  pub first : test (entry row at) ≡ true
  pub second : test (entry row (at + 1)) ≡ true
  pub third : test (entry row (at + 2)) ≡ true
  pub fourth : last (entry row (at + 3)) ≡ true

pub four : (test last : ℤ → Bool) (at : ℕ) (row : List ℤ) → four_valid test last at row ≡ true → Four test last at row
four test last at row e =
    let front = and_left (test (entry row at) && test (entry row (at + 1))) _ e in
    let back = and_right (test (entry row at) && test (entry row (at + 1))) _ e in
    record {
      first = and_left (test (entry row at)) _ front;
      second = and_right (test (entry row at)) _ front;
      third = and_left (test (entry row (at + 2))) _ back;
      fourth = and_right (test (entry row (at + 2))) _ back;
    }

-- numbers of a list from a place on, by its entries
unfoldable pub listed : ℕ → ℕ → List ℤ → List ℤ
listed zero at row = []
listed (suc n) at row = entry row at ∷ listed n (suc at) row

pub by_entries : (n at : ℕ) (row : List ℤ) → at + n ≤ length row → listed n at row ≡ take n (drop at row)
unfolding listed
by_entries zero at row h = refl
by_entries (suc n) at row h =
    ap (λ (more : List ℤ). entry row at ∷ more) (by_entries n (suc at) row (omega arith)) ∙ rw (drop-cons row at (pos 0) (omega arith))

-- the line of a row of a satellite, without its LF
abbrev pub row_text : Bool → ℕ → List ℤ → List ℕ
row_text velocity identifier row = line_of (row_line velocity (row_shown identifier row))

-- A valid row of a satellite.
module _ (velocity : Bool) (identifier : ℕ) (row : List ℤ) (valid : row_valid velocity row ≡ true) where
  amounts : Four amount_valid clock_valid 0 row
  unfolding row_valid
  amounts = four amount_valid clock_valid 0 row (and_left (four_valid amount_valid clock_valid 0 row) _ valid)

  rest : (four_valid (exponent_valid false) (exponent_valid true) 4 row && four_valid (flag_valid velocity) (flag_valid velocity) 8 row) ≡ true
  unfolding row_valid
  rest = and_right (four_valid amount_valid clock_valid 0 row) _ valid

  exponents : Four (exponent_valid false) (exponent_valid true) 4 row
  exponents = four (exponent_valid false) (exponent_valid true) 4 row (and_left (four_valid (exponent_valid false) (exponent_valid true) 4 row) _ rest)

  flags : Four (flag_valid velocity) (flag_valid velocity) 8 row
  flags = four (flag_valid velocity) (flag_valid velocity) 8 row (and_right (four_valid (exponent_valid false) (exponent_valid true) 4 row) _ rest)

  -- columns 2 to 73 can show it, and what stands after them decides
  body-shows : is_identifier identifier ≡ true → (items : List Item) (vs : Values) → can_show (body_items ++ items) (body_values (row_shown identifier row) ++ vs) ≡ can_show items vs
  unfolding row_shown
  body-shows named items vs =
      let a = amounts in
      let x = exponents in
      rw (
        named,
        amount-fits (entry row 0) a.first,
        amount-fits (entry row 1) a.second,
        amount-fits (entry row 2) a.third,
        clock-fits (entry row 3) a.fourth,
        exponent-fits false (entry row 4) x.first,
        exponent-fits false (entry row 5) x.second,
        exponent-fits false (entry row 6) x.third,
        exponent-fits true (entry row 7) x.fourth,
      )

  pub row-can-show : is_identifier identifier ≡ true → can_show (row_items velocity) (row_values velocity (row_shown identifier row)) ≡ true
  row-can-show named = go velocity
    where
      go : (v : Bool) → can_show (row_items v) (row_values v (row_shown identifier row)) ≡ true
      go true = body-shows named (columns 74 80 unused ∷ []) []
      go false = body-shows named flag_items (flag_values (row_shown identifier row))

  -- a row of V has no flags
  pub row-flagless : velocity ≡ true → flagless (row_shown identifier row) ≡ true
  unfolding row_shown
  row-flagless is =
      let f = flags in
      rw (
        flag-unset velocity (entry row 8) f.first is,
        flag-unset velocity (entry row 9) f.second is,
        flag-unset velocity (entry row 10) f.third is,
        flag-unset velocity (entry row 11) f.fourth is,
      )

  -- what is stored of it are its numbers
  pub row-stored : bare_width ≤ length row → row_numbers (row_shown identifier row) ≡ take bare_width row
  unfolding row_shown row_numbers listed
  row-stored wide =
      let a = amounts in
      let x = exponents in
      let f = flags in
      rw (
        amount-stored (entry row 0) a.first,
        amount-stored (entry row 1) a.second,
        amount-stored (entry row 2) a.third,
        within-stored (entry row 3) (clock-bounded (entry row 3) a.fourth),
        exponent-stored false (entry row 4) x.first,
        exponent-stored false (entry row 5) x.second,
        exponent-stored false (entry row 6) x.third,
        exponent-stored true (entry row 7) x.fourth,
        flag-stored velocity (entry row 8) f.first,
        flag-stored velocity (entry row 9) f.second,
        flag-stored velocity (entry row 10) f.third,
        flag-stored velocity (entry row 11) f.fourth,
      )
      (by_entries bare_width 0 row wide)

  -- its line is read as the row
  module _ (named : is_identifier identifier ≡ true) where
    read : (row_fault velocity (padded (row_text velocity identifier row)) ≡ clean) × (row_of velocity (row_text velocity identifier row) ≡ row_shown identifier row)
    read = rw append-nil at (row_back velocity (row_shown identifier row) [] row-flagless (row-can-show named))

    pub row-of : row_of velocity (row_text velocity identifier row) ≡ row_shown identifier row
    row-of = read.1

    -- with its LF it ends so
    pub row_ends : EndsLine (row_line velocity (row_shown identifier row))
    unfolding row_line
    row_ends = bare-ended (row_items velocity) (row_values velocity (row_shown identifier row)) (rows-tiled velocity) (row-can-show named)

    module _ (rules : Rules) where
      is-record : is_record rules (row_kind velocity) (row_fault velocity (padded (row_text velocity identifier row))) (row_text velocity identifier row) ≡ true
      unfolding row_line kind_of
      is-record =
          bare-record (row_items velocity) (row_values velocity (row_shown identifier row)) (rows-tiled velocity) (row-can-show named) rules (row_kind velocity)
          (row_fault velocity (padded (row_text velocity identifier row)))
          (wide velocity)
          (begins velocity)
          read.0
        where
          wide : (v : Bool) → longest rules (row_kind v) ≡ 80
          wide true = refl
          wide false = refl

          begins : (v : Bool) → kind_of rules (show_line (row_items v) (row_values v (row_shown identifier row))) ≡ row_kind v
          begins true = refl
          begins false = refl

      -- it is a P or V line of its satellite
      pub row_is : is_row_line rules velocity identifier (row_text velocity identifier row) ≡ true
      unfolding row_taken row_shown
      row_is =
          and_both (is_record rules (row_kind velocity) (row_fault velocity (padded (row_text velocity identifier row))) (row_text velocity identifier row)) _ is-record
          (eq-eqb (identifier_code (cut 2 4 (padded (row_text velocity identifier row)))) identifier (ap (λ (p : Row). p.satellite) row-of))

      -- and what is stored of it are the numbers of the row
      pub row-numbers : bare_width ≤ length row → row_numbers (row_in rules (row_text velocity identifier row)) ≡ take bare_width row
      row-numbers wide = ap row_numbers (row-in rules velocity identifier (row_text velocity identifier row) row_is ∙ row-of) ∙ row-stored wide
