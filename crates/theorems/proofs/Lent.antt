-- What the lent rows hold after a reading that answers 0: each row of the file, found by epoch and satellite.
-- Assumes nothing.
use mathlib.Core.Path.{◌≡◌, refl, sym, ap, ap₂, ◌∙◌, subst}
use mathlib.Core.Bool.{Bool, true, false, cond}
use mathlib.Core.List.{List, ◌++◌, append_assoc}
use Prim.Native.Nat.{ℕ, ◌+◌, ◌*◌, ◌≤◌}
use native.Mathlib.Nat.{mul_comm}
use native.Mathlib.Omega.{arith}
use lib.IntN.{ℤ, pos}
use lib.ListN.{length, get_or, take, drop, length-append, length-take, length-drop, take-append-drop}
use lib.Seq.{length-take-le, take-append-le, drop-append-le, get_or-take, get_or-drop}
use Rattle.field.specs.Sign.{largest, signed_int}
use Rattle.header.specs.declared.types.Rules.{Rules}
use Rattle.lines.specs.Lent.{over}
use Rattle.lines.specs.Lines.{lines_of, nth}
use Rattle.record.specs.Absence.{place_absent, clock_absent}
use Rattle.layout.specs.Layout.{values_of}
use Rattle.layout.specs.Line.{padded}
use Rattle.record.specs.Rows.{row_from, row_items, six_nines_in, note_width, row_width}
use Rattle.record.proofs.Absent.{clock-absent}
use Rattle.file.specs.Plain.{is_row_line}
use Rattle.file.specs.Table.{row_numbers, note_after, rows_in}
use Rattle.file.proofs.Wide.{after-wide}
use Rattle.file_laws.proofs.Stored.{note_at}
use Rattle.scan.specs.Run.{IsFile}
use Rattle.stored_row.specs.Stored.{number_at, place_in, clock_in, exponent_read_of, exponent_read_in, flag_in}
use Rattle.reader.specs.Reading.{file_of, read_answer, rows_after}
use Rattle.file_laws.proofs.Exact.{Bounded, row-bounded, row-held, row-in, row-exact, clock-line, exponents-bounded}
use Rattle.file.specs.Exact.{exact_signed, exact_numbers}
use Rattle.stored_row.proofs.Theorems.{place-back, clock-back, exponents-back, flags-back}
use Rattle.stored_row.specs.declared.types.Flag.TheVariants as flag
use Rattle.theorems.proofs.Reading.{the_row, the-motion, row-holds, row-holds-both, motion-holds}
use Rattle.theorems.specs.Files.{header, identifier, row_lines_of, row_at, There}
use Rattle.theorems.proofs.Filled.{rows-filled}
use Rattle.record.specs.declared.types.Row.{Row}
use Rattle.stored_row.specs.declared.types.Place.TheVariants as place
use Rattle.stored_row.specs.declared.types.ClockRead.TheVariants as clock
use Rattle.theorems.specs.Files.{line_asked, held, table_row, lines_after}
use Rattle.canon_laws.specs.Held.{Proper}

-- a row's part that is there ends before the list does
module _ (numbers : List ℤ) (m : ℕ) (part : List ℤ) (wide : length part ≡ row_width) (stored : take row_width (drop m numbers) ≡ part) where
  part-within : m + row_width ≤ length numbers
  part-within =
      let size : length (take row_width (drop m numbers)) ≡ row_width = ap length stored ∙ wide in
      omega (arith, length-take row_width (drop m numbers), length-drop m numbers)

  -- and stands there whatever follows
  part-kept : (rest : List ℤ) → take row_width (drop m (numbers ++ rest)) ≡ part
  part-kept rest =
      ap (take row_width) (drop-append-le m numbers rest (omega (arith, part-within)))
      ∙ take-append-le row_width (drop m numbers) rest (omega (arith, part-within, length-drop m numbers))
      ∙ stored

-- a row that is stored, with its note or none, is given back by name
module _ (numbers : List ℤ) (r : ℕ) (row : Row) (bounded : Bounded row) (note : List ℤ) (noted : length note ≡ note_width)
    (stored : take row_width (drop (row_width * r) numbers) ≡ row_numbers row ++ note) where
  wide : length (row_numbers row ++ note) ≡ row_width
  unfolding row_numbers
  wide = omega (arith, length-append (row_numbers row) note)

  abbrev pub before : List ℤ
  before = take (row_width * r) numbers

  abbrev pub behind : List ℤ
  behind = drop row_width (drop (row_width * r) numbers)

  pub before-long : length before ≡ r * row_width
  before-long = length-take-le (row_width * r) numbers (omega (arith, part-within numbers (row_width * r) (row_numbers row ++ note) wide stored)) ∙ mul_comm row_width r

  pub parts : before ++ (row_numbers row ++ (note ++ behind)) ≡ numbers
  parts =
      ap (λ (s : List ℤ). before ++ s) (sym (append_assoc (row_numbers row) note behind))
      ∙ ap (λ (s : List ℤ). before ++ (s ++ behind)) (sym stored)
      ∙ ap (λ (s : List ℤ). before ++ s) (take-append-drop row_width (drop (row_width * r) numbers))
      ∙ take-append-drop (row_width * r) numbers

  stored-place : place_in numbers r
      ≡ cond (place_absent row.x.magnitude row.y.magnitude row.z.magnitude) place.Absent
      (place.At (exact_signed row.x) (exact_signed row.y) (exact_signed row.z))
  stored-place =
      ap (λ (s : List ℤ). place_in s r) (sym parts)
      ∙ place-back before note behind row r before-long noted bounded.x bounded.y bounded.z

  stored-clock : clock_in numbers r ≡ cond (clock_absent row.clock.negative row.clock.magnitude) clock.Absent (clock.At (exact_signed row.clock))
  stored-clock =
      ap (λ (s : List ℤ). clock_in s r) (sym parts)
      ∙ clock-back before note behind row r before-long noted bounded.clock

  stored-exponents : (row.x_exponent ≤ 1000) × (row.y_exponent ≤ 1000) × (row.z_exponent ≤ 1000) × (row.clock_exponent ≤ 1000)
      → (exponent_read_in numbers r 0 ≡ exponent_read_of 0 row.x_exponent) × (exponent_read_in numbers r 1 ≡ exponent_read_of 1 row.y_exponent)
      × (exponent_read_in numbers r 2 ≡ exponent_read_of 2 row.z_exponent) × (exponent_read_in numbers r 3 ≡ exponent_read_of 3 row.clock_exponent)
  stored-exponents low =
      subst
      (λ (s : List ℤ). (exponent_read_in s r 0 ≡ exponent_read_of 0 row.x_exponent) × (exponent_read_in s r 1 ≡ exponent_read_of 1 row.y_exponent)
      × (exponent_read_in s r 2 ≡ exponent_read_of 2 row.z_exponent) × (exponent_read_in s r 3 ≡ exponent_read_of 3 row.clock_exponent))
      parts
      (exponents-back before note behind row r before-long noted
      (omega (arith, low.0)) (omega (arith, low.1)) (omega (arith, low.2)) (omega (arith, low.3)))

  stored-flags : (flag_in numbers r 0 ≡ cond row.event flag.Set flag.NotSet) × (flag_in numbers r 1 ≡ cond row.predicted flag.Set flag.NotSet)
      × (flag_in numbers r 2 ≡ cond row.maneuver flag.Set flag.NotSet) × (flag_in numbers r 3 ≡ cond row.orbit_predicted flag.Set flag.NotSet)
  stored-flags =
      subst
      (λ (s : List ℤ). (flag_in s r 0 ≡ cond row.event flag.Set flag.NotSet) × (flag_in s r 1 ≡ cond row.predicted flag.Set flag.NotSet)
      × (flag_in s r 2 ≡ cond row.maneuver flag.Set flag.NotSet) × (flag_in s r 3 ≡ cond row.orbit_predicted flag.Set flag.NotSet))
      parts
      (flags-back before note behind row r before-long noted)

module _ {rules : Rules} (proper : Proper rules) where
  -- a whole file, read into these lists with success
  module _ (bytes : List ℕ) (accepted : IsFile rules bytes) (identifiers exponents comments : List ℕ) (old : List ℤ)
      (success : (read_answer rules bytes (file_of rules bytes) identifiers exponents comments old).refusal ≡ 0) where
    -- the lent rows afterwards
    abbrev pub lent : List ℤ
    lent = rows_after rules bytes (file_of rules bytes) identifiers exponents comments old

    lent_is : lent ≡ over (rows_in rules (lines_of bytes)) old
    lent_is = rows-filled proper bytes accepted identifiers exponents comments old success

    -- V rows are asked for in mode V alone
    module _ (k j : ℕ) (there : There rules bytes k j) (v : Bool) (mode : v ≡ true → (header rules bytes).velocity ≡ true) where
      pub named : is_row_line rules v (identifier rules bytes j) (nth (row_at rules bytes k j) (row_lines_of rules v bytes)) ≡ true
      named = go v mode
        where
          go : (t : Bool) → (t ≡ true → (header rules bytes).velocity ≡ true)
              → is_row_line rules t (identifier rules bytes j) (nth (row_at rules bytes k j) (row_lines_of rules t bytes)) ≡ true
          go true m = (the-motion proper bytes accepted k j there (m refl)).names-it
          go false m = (the_row proper bytes accepted k j there).names-it

      -- the numbers of what stands directly after its line
      abbrev pub behind_row : List ℤ
      behind_row = note_after rules (lines_after rules v bytes k j)

      in_table : take row_width (drop (row_width * table_row rules v bytes k j) (rows_in rules (lines_of bytes))) ≡ exact_numbers (held rules v bytes k j) ++ behind_row
      in_table = go v mode
        where
          places : (both : Bool) → (header rules bytes).velocity ≡ both
              → let r = cond both (2 * row_at rules bytes k j) (row_at rules bytes k j) in
              take row_width (drop (row_width * r) (rows_in rules (lines_of bytes))) ≡ exact_numbers (held rules false bytes k j) ++ note_at rules (lines_of bytes) r
          places true e = row-holds-both proper bytes accepted k j there e
          places false e = row-holds proper bytes accepted k j there e

          go : (t : Bool) → (t ≡ true → (header rules bytes).velocity ≡ true)
              → take row_width (drop (row_width * table_row rules t bytes k j) (rows_in rules (lines_of bytes))) ≡ exact_numbers (held rules t bytes k j) ++ note_after rules (lines_after rules t bytes k j)
          go true m = motion-holds proper bytes accepted k j there (m refl)
          go false m = places (header rules bytes).velocity refl

      row-long : length (exact_numbers (held rules v bytes k j) ++ behind_row) ≡ row_width
      unfolding exact_numbers
      row-long = omega (arith, length-append (exact_numbers (held rules v bytes k j)) behind_row, after-wide rules (lines_after rules v bytes k j))

      -- The lent rows hold at the row of epoch k and satellite j exactly the numbers of its line and of what stands directly after it.
      pub lent_row : take row_width (drop (row_width * table_row rules v bytes k j) lent) ≡ exact_numbers (held rules v bytes k j) ++ behind_row
      lent_row =
          ap (λ (s : List ℤ). take row_width (drop (row_width * table_row rules v bytes k j) s)) lent_is
          ∙ part-kept (rows_in rules (lines_of bytes)) (row_width * table_row rules v bytes k j) (exact_numbers (held rules v bytes k j) ++ behind_row) row-long in_table (drop (length (rows_in rules (lines_of bytes))) old)

      pub as-stored : take row_width (drop (row_width * table_row rules v bytes k j) lent) ≡ row_numbers (held rules v bytes k j) ++ behind_row
      as-stored =
          lent_row
          ∙ ap (λ (s : List ℤ). s ++ behind_row)
          (sym (row-exact rules v (identifier rules bytes j) (nth (row_at rules bytes k j) (row_lines_of rules v bytes)) named)
          ∙ ap row_numbers (row-in rules v (identifier rules bytes j) (nth (row_at rules bytes k j) (row_lines_of rules v bytes)) named))

      pub behind-wide : length behind_row ≡ note_width
      behind-wide = after-wide rules (lines_after rules v bytes k j)

      pub bounded : Bounded (held rules v bytes k j)
      bounded = row-bounded rules v (identifier rules bytes j) (nth (row_at rules bytes k j) (row_lines_of rules v bytes)) named

      -- Asked by name, its place or velocity is absent where the three fields of the line are zero, else it is those three, whatever the clock.
      pub lent-place : place_in lent (table_row rules v bytes k j)
          ≡ cond (place_absent (held rules v bytes k j).x.magnitude (held rules v bytes k j).y.magnitude (held rules v bytes k j).z.magnitude) place.Absent
          (place.At (exact_signed (held rules v bytes k j).x) (exact_signed (held rules v bytes k j).y) (exact_signed (held rules v bytes k j).z))
      lent-place = stored-place lent (table_row rules v bytes k j) (held rules v bytes k j) bounded behind_row behind-wide as-stored

      -- Its clock or rate is absent where columns 47 to 53 of the line hold 999999 without a minus, else it is that field, whatever the place.
      nines : clock_absent (held rules v bytes k j).clock.negative (held rules v bytes k j).clock.magnitude ≡ six_nines_in (line_asked rules v bytes k j)
      nines = clock-line rules v (identifier rules bytes j) (line_asked rules v bytes k j) named

      pub lent-clock : clock_in lent (table_row rules v bytes k j) ≡ cond (six_nines_in (line_asked rules v bytes k j)) clock.Absent (clock.At (exact_signed (held rules v bytes k j).clock))
      lent-clock =
          stored-clock lent (table_row rules v bytes k j) (held rules v bytes k j) bounded behind_row behind-wide as-stored
          ∙ ap (λ (t : Bool). cond t clock.Absent (clock.At (exact_signed (held rules v bytes k j).clock))) nines

      -- What is absent is stored as twelve nines.
      pub lent-nines : six_nines_in (line_asked rules v bytes k j) ≡ true → number_at lent (table_row rules v bytes k j) 3 ≡ pos largest
      unfolding exact_numbers signed_int
      lent-nines is =
          let r = table_row rules v bytes k j in
          let row = held rules v bytes k j in
          let absent = clock-absent row.clock.negative row.clock.magnitude (nines ∙ is) in
          let place : r * row_width + 3 ≡ row_width * r + 3 = omega (arith, mul_comm r row_width) in
          ap (λ (i : ℕ). get_or lent i (pos 0)) place
          ∙ sym (get_or-drop (row_width * r) lent 3 (pos 0))
          ∙ sym (get_or-take row_width (drop (row_width * r) lent) 3 (pos 0) (omega arith))
          ∙ ap (λ (s : List ℤ). get_or s 3 (pos 0)) lent_row
          ∙ ap₂ (λ (n : Bool) (m : ℕ). signed_int n m) absent.0 absent.1

      -- Its exponents are those of its columns: a value, unknown where they are blank, too large at 99, for the clock at 999.
      pub lent-exponents : let row = held rules v bytes k j in let r = table_row rules v bytes k j in
          (exponent_read_in lent r 0 ≡ exponent_read_of 0 row.x_exponent) × (exponent_read_in lent r 1 ≡ exponent_read_of 1 row.y_exponent)
          × (exponent_read_in lent r 2 ≡ exponent_read_of 2 row.z_exponent) × (exponent_read_in lent r 3 ≡ exponent_read_of 3 row.clock_exponent)
      lent-exponents =
          stored-exponents lent (table_row rules v bytes k j) (held rules v bytes k j) bounded behind_row behind-wide as-stored
          (exponents-bounded rules v (identifier rules bytes j) (nth (row_at rules bytes k j) (row_lines_of rules v bytes)) named)

      -- Its flags are the letters of columns 75, 76, 79 and 80.
      pub lent-flags : let row = held rules v bytes k j in let r = table_row rules v bytes k j in
          (flag_in lent r 0 ≡ cond row.event flag.Set flag.NotSet) × (flag_in lent r 1 ≡ cond row.predicted flag.Set flag.NotSet)
          × (flag_in lent r 2 ≡ cond row.maneuver flag.Set flag.NotSet) × (flag_in lent r 3 ≡ cond row.orbit_predicted flag.Set flag.NotSet)
      lent-flags = stored-flags lent (table_row rules v bytes k j) (held rules v bytes k j) bounded behind_row behind-wide as-stored

      -- What the row holds is what the columns of its line say, each field by its rule.
      pub row-columns : held rules v bytes k j ≡ row_from v (values_of (row_items v) (padded (line_asked rules v bytes k j)))
      row-columns = row-held rules v (identifier rules bytes j) (nth (row_at rules bytes k j) (row_lines_of rules v bytes)) named
