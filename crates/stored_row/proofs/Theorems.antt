-- A stored row gives back what was stored: its place is absent exactly where all three are zero, whatever the clock, and its clock exactly at
-- twelve nines with no minus, whatever the place.
-- Assumes nothing.
use mathlib.Core.Path.{◌≡◌, refl, sym, ◌∙◌, ap}
use mathlib.Core.List.{List, [], ◌++◌, append_assoc}
use mathlib.Core.Bool.{Bool, true, false, cond, not, ◌&&◌}
use Prim.Native.Nat.{ℕ, ◌+◌, ◌*◌, ◌/◌, ◌<◌, ◌≤◌}
use native.Mathlib.Omega.{arith}
use borrow.Author.Tests.{lt-ltb, ltb-false, ne_eqb}
use lib.Dec.{eqb, leb, ltb}
use lib.IntN.{ℤ, pos, nat_abs}
use lib.ListN.{length, drop, get_or, length-append}
use lib.Seq.{get_or-append-add}
use Rattle.field.specs.Sign.{largest, signed_int, is_negative}
use Rattle.field.proofs.Signs.{magnitude-back, sign-back}
use Rattle.lines.specs.Lent.{over}
use Rattle.record.specs.Absence.{place_absent, clock_absent}
use Rattle.record.specs.Rows.{bare_width, note_width, row_width}
use Rattle.record.specs.declared.types.Row.{Row}
use Rattle.field.specs.declared.Signed.{Signed}
use Rattle.file.proofs.Exact.{stored_exact}
use Rattle.file.specs.Table.{stored_int, stored_signed, stored_count, stored_mark, mark_number, row_numbers}
use Rattle.stored_row.specs.Stored.{is_there, number_at, place_in, clock_in, exponent_read_of, exponent_read_in, flag_in}
use Rattle.stored_row.specs.declared.types.Place.TheVariants as place
use Rattle.stored_row.specs.declared.types.ClockRead.TheVariants as clock
use Rattle.stored_row.specs.declared.types.Flag.TheVariants as flag

-- a number in bounds is stored with its sign
abbrev signed : Signed → ℤ
signed s = signed_int s.negative s.magnitude

abbrev Bounded : Signed → Type 0
Bounded s = s.magnitude ≤ largest

stored-size : (negative : Bool) (m : ℕ) → m ≤ largest → nat_abs (stored_int negative m) ≡ m
stored-size negative m h = ap nat_abs (stored_exact negative m h) ∙ magnitude-back negative m

-- zero has no sign, and twelve nines are not zero
sign_kept : (negative : Bool) (m : ℕ) → clock_absent (negative && ltb 0 m) m ≡ clock_absent negative m
sign_kept false m = refl
sign_kept true m = go (ltb 0 m) refl
  where
    go : (t : Bool) → ltb 0 m ≡ t → (not (true && ltb 0 m) && eqb m largest) ≡ false
    go true h = rw h refl
    go false h =
        let less : m ≤ 0 = ltb-false 0 m h in
        let apart : eqb m largest ≡ false = ne_eqb m largest (λ e. omega arith) in
        rw (h, apart) refl

-- the k-th row among the lent numbers, with the numbers of its note or with what stands for none, whatever stands before it and behind it
module _ (before note more : List ℤ) (p : Row) (k : ℕ) (at : length before ≡ k * row_width) (wide : length note ≡ note_width) where
  abbrev own : List ℤ
  own = row_numbers p ++ (note ++ more)

  abbrev rows : List ℤ
  rows = before ++ own

  pub row-there : is_there rows k ≡ true
  unfolding row_numbers
  row-there =
      let size : length own ≡ bare_width + length (note ++ more) = length-append (row_numbers p) (note ++ more) in
      let noted : length (note ++ more) ≡ length note + length more = length-append note more in
      let whole : length rows ≡ length before + length own = length-append before own in
      lt-ltb k (length rows / row_width) (omega arith)

  pub number-back : (i : ℕ) → number_at rows k i ≡ get_or own i (pos 0)
  number-back i = ap (λ (n : ℕ). get_or rows (n + i) (pos 0)) (sym at) ∙ get_or-append-add before own i (pos 0)

  -- a signed number of the row, by its place
  module _ (i : ℕ) (s : Signed) (is : get_or own i (pos 0) ≡ stored_signed s) (h : Bounded s) where
    value-back : number_at rows k i ≡ signed s
    value-back = number-back i ∙ is ∙ stored_exact s.negative s.magnitude h

    size_back : nat_abs (number_at rows k i) ≡ s.magnitude
    size_back = ap nat_abs value-back ∙ magnitude-back s.negative s.magnitude

  -- the place, whatever the clock
  module _ (hx : Bounded p.x) (hy : Bounded p.y) (hz : Bounded p.z) where
    abbrev at-all-zero : Bool
    at-all-zero = place_absent p.x.magnitude p.y.magnitude p.z.magnitude

    pub place-back : place_in rows k ≡ cond at-all-zero place.Absent (place.At (signed p.x) (signed p.y) (signed p.z))
    unfolding place_in row_numbers
    place-back =
        let sx = size_back 0 p.x refl hx in
        let sy = size_back 1 p.y refl hy in
        let sz = size_back 2 p.z refl hz in
        let vx = value-back 0 p.x refl hx in
        let vy = value-back 1 p.y refl hy in
        let vz = value-back 2 p.z refl hz in
        rw (row-there, sx, sy, sz, vx, vy, vz)

    -- absent exactly where all three are zero
    pub place-absent : at-all-zero ≡ true → place_in rows k ≡ place.Absent
    place-absent e = place-back ∙ rw e refl

    pub place-absent-only : place_in rows k ≡ place.Absent → at-all-zero ≡ true
    place-absent-only e = go at-all-zero (sym place-back ∙ e)
      where
        go : (t : Bool) → cond t place.Absent (place.At (signed p.x) (signed p.y) (signed p.z)) ≡ place.Absent → t ≡ true
        go true e = refl
        go false e = let z : ◌≡◌ {A = ℕ} 0 1 = cc in absurd (omega arith)

    -- z alone zero is a place
    pub z-alone-zero : 0 < p.x.magnitude → p.z.magnitude ≡ 0 → place_in rows k ≡ place.At (signed p.x) (signed p.y) (pos 0)
    unfolding signed_int
    z-alone-zero x z =
        let apart : eqb p.x.magnitude 0 ≡ false = ne_eqb p.x.magnitude 0 (λ e. omega arith) in
        place-back ∙ rw apart (ap (λ (v : ℤ). place.At (signed p.x) (signed p.y) v) (zero_is p.z.negative p.z.magnitude z))
      where
        zero_is : (negative : Bool) (m : ℕ) → m ≡ 0 → signed_int negative m ≡ pos 0
        zero_is true m e = rw e refl
        zero_is false m e = rw e refl

  -- the clock, whatever the place
  module _ (h : Bounded p.clock) where
    abbrev at-nines : Bool
    at-nines = clock_absent p.clock.negative p.clock.magnitude

    pub clock-back : clock_in rows k ≡ cond at-nines clock.Absent (clock.At (signed p.clock))
    unfolding clock_in row_numbers
    clock-back =
        let v = value-back 3 p.clock refl h in
        let size = size_back 3 p.clock refl h in
        let sign : is_negative (number_at rows k 3) ≡ (p.clock.negative && ltb 0 p.clock.magnitude) =
        ap is_negative v ∙ sign-back p.clock.negative p.clock.magnitude in
        let test : clock_absent (is_negative (number_at rows k 3)) (nat_abs (number_at rows k 3)) ≡ at-nines =
        rw (sign, size) (sign_kept p.clock.negative p.clock.magnitude) in
        rw (row-there, test, v)

    -- absent exactly at twelve nines with no minus
    pub clock-absent : at-nines ≡ true → clock_in rows k ≡ clock.Absent
    clock-absent e = clock-back ∙ rw e refl

    pub clock-absent-only : clock_in rows k ≡ clock.Absent → at-nines ≡ true
    clock-absent-only e = go at-nines (sym clock-back ∙ e)
      where
        go : (t : Bool) → cond t clock.Absent (clock.At (signed p.clock)) ≡ clock.Absent → t ≡ true
        go true e = refl
        go false e = let z : ◌≡◌ {A = ℕ} 0 1 = cc in absurd (omega arith)

  -- the exponents and the flags, by their places
  deviation-back : (which n : ℕ) → leb which 3 ≡ true → get_or own (4 + which) (pos 0) ≡ stored_count n → n ≤ largest
      → exponent_read_in rows k which ≡ exponent_read_of which n
  unfolding exponent_read_in
  deviation-back which n w is h =
      let size : nat_abs (number_at rows k (4 + which)) ≡ n = ap nat_abs (number-back (4 + which) ∙ is) ∙ stored-size false n h in
      rw (row-there, w, size)

  flag-back : (which : ℕ) (set : Bool) → leb which 3 ≡ true → get_or own (8 + which) (pos 0) ≡ stored_mark set
      → flag_in rows k which ≡ cond set flag.Set flag.NotSet
  unfolding flag_in
  flag-back which set w is =
      let size : nat_abs (number_at rows k (8 + which)) ≡ mark_number set =
      ap nat_abs (number-back (8 + which) ∙ is) ∙ stored-size false (mark_number set) (small set) in
      rw (row-there, w, size) (shown set)
    where
      small : (set : Bool) → mark_number set ≤ largest
      small true = omega arith
      small false = omega arith

      shown : (set : Bool) → cond (eqb (mark_number set) 0) flag.NotSet flag.Set ≡ cond set flag.Set flag.NotSet
      shown true = refl
      shown false = refl

  pub exponents-back : p.x_exponent ≤ largest → p.y_exponent ≤ largest → p.z_exponent ≤ largest → p.clock_exponent ≤ largest
      → (exponent_read_in rows k 0 ≡ exponent_read_of 0 p.x_exponent) × (exponent_read_in rows k 1 ≡ exponent_read_of 1 p.y_exponent)
      × (exponent_read_in rows k 2 ≡ exponent_read_of 2 p.z_exponent) × (exponent_read_in rows k 3 ≡ exponent_read_of 3 p.clock_exponent)
  unfolding row_numbers
  exponents-back hx hy hz hc = (
    deviation-back 0 p.x_exponent refl refl hx,
    deviation-back 1 p.y_exponent refl refl hy,
    deviation-back 2 p.z_exponent refl refl hz,
    deviation-back 3 p.clock_exponent refl refl hc,
  )

  pub flags-back : (flag_in rows k 0 ≡ cond p.event flag.Set flag.NotSet) × (flag_in rows k 1 ≡ cond p.predicted flag.Set flag.NotSet)
      × (flag_in rows k 2 ≡ cond p.maneuver flag.Set flag.NotSet) × (flag_in rows k 3 ≡ cond p.orbit_predicted flag.Set flag.NotSet)
  unfolding row_numbers
  flags-back = (
    flag-back 0 p.event refl refl,
    flag-back 1 p.predicted refl refl,
    flag-back 2 p.maneuver refl refl,
    flag-back 3 p.orbit_predicted refl refl,
  )

-- so of the row that is stored in the first places
module _ (p : Row) (note old : List ℤ) (wide : length note ≡ note_width) where
  abbrev first : List ℤ
  first = over (row_numbers p ++ note) old

  first-is : first ≡ row_numbers p ++ (note ++ drop (length (row_numbers p ++ note)) old)
  first-is = append_assoc (row_numbers p) note (drop (length (row_numbers p ++ note)) old)

  pub first-place : Bounded p.x → Bounded p.y → Bounded p.z
      → place_in first 0
      ≡ cond (place_absent p.x.magnitude p.y.magnitude p.z.magnitude) place.Absent (place.At (signed p.x) (signed p.y) (signed p.z))
  first-place hx hy hz =
      ap (λ (rows : List ℤ). place_in rows 0) first-is ∙ place-back [] note (drop (length (row_numbers p ++ note)) old) p 0 refl wide hx hy hz

  pub first-clock : Bounded p.clock
      → clock_in first 0 ≡ cond (clock_absent p.clock.negative p.clock.magnitude) clock.Absent (clock.At (signed p.clock))
  first-clock h = ap (λ (rows : List ℤ). clock_in rows 0) first-is ∙ clock-back [] note (drop (length (row_numbers p ++ note)) old) p 0 refl wide h
