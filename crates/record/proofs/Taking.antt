-- The row that is taken from a line without fault is what the line's layout holds.
-- Assumes nothing.
use mathlib.Core.Path.{◌≡◌, refl, sym, ap, ◌∙◌, subst₂}
use mathlib.Core.Bool.{Bool, true, false, cond}
use mathlib.Core.List.{List, [], ◌∷◌, ◌++◌}
use Prim.Native.Nat.{ℕ, ◌-◌, ◌≤◌}
use native.Mathlib.Omega.{arith}
use lib.ListN.{length, get_or, take, drop, length-take, length-drop}
use lib.Seq.{take-take, get_or-take, get_or-drop, length-take-le}
use Rattle.field.specs.Digits.{point_of}
use Rattle.field.specs.Read.{whole_of, decimal_of}
use Rattle.field.specs.Clock.{is_six_nines, nines_before, clock_of, clock_kept}
use Rattle.field.specs.Sign.{largest}
use Rattle.layout.specs.Fault.{clean, keyed, lower}
use Rattle.layout.specs.Kind.{named, identifier_number, bound_fault, amount_fault, sign_held, amount_held}
use Rattle.layout.specs.Kind.Kind.{unused, fixed, signed, clock, identifier}
use Rattle.layout.specs.Layout.{Item, columns, part_at, fault_at, fault_from, values_of}
use Rattle.record.specs.Absence.{clock_absent}
use Rattle.record.specs.Rows.{body_items, flag_items, row_items, row_from, row_fault, row_taken, signed_in, clock_field_in, cut}
use Rattle.field.specs.declared.Signed.{Signed}
use Rattle.field.proofs.KnownGood.{known-magnitude, known-negative}
use Rattle.field.proofs.ClockBack.{clock-again, clock-known}
use Rattle.layout.proofs.Again.{item-clean}
use Rattle.std.specs.Prelude.{Option, Some, None}

-- the number that a field of 14 columns says
abbrev held_signed : List ℕ → Signed
held_signed bs = record { negative = sign_held (decimal_of bs 6 true); magnitude = amount_held (decimal_of bs 6 true) }

-- a number without fault, read without a test, is the number that the field says
module _ (bs : List ℕ) (narrow : length bs ≤ 17) (column : ℕ) where
  taken-by : (a : Option Signed) → decimal_of bs 6 true ≡ a → amount_fault column 0 largest a ≡ clean
      → signed_in bs ≡ record { negative = sign_held a; magnitude = amount_held a }
  taken-by (Some held) e f =
      rw (known-magnitude bs 6 true held.negative held.magnitude narrow e, known-negative bs 6 true held.negative held.magnitude narrow e)
  taken-by None e f = absurd (omega arith)

  pub signed-taken : amount_fault column 0 largest (decimal_of bs 6 true) ≡ clean
      → signed_in bs ≡ held_signed bs
  signed-taken f = taken-by (decimal_of bs 6 true) refl f

-- the clock that its field says
abbrev held_clock : List ℕ → Signed
held_clock bs = record { negative = sign_held (clock_of bs 6); magnitude = amount_held (clock_of bs 6) }

-- and so is a clock, an absent one too
clock-taken : (bs : List ℕ) → length bs ≤ 17 → (column : ℕ) → amount_fault column 0 largest (clock_of bs 6) ≡ clean → clock_field_in bs ≡ held_clock bs
clock-taken bs narrow column f = go (clock_of bs 6) refl f
  where
    go : (a : Option Signed) → clock_of bs 6 ≡ a → amount_fault column 0 largest a ≡ clean → clock_field_in bs ≡ record { negative = sign_held a; magnitude = amount_held a }
    go (Some held) e h =
        let known = clock-known bs 6 held.negative held.magnitude narrow e in
        λ i. record { negative = known.0 i; magnitude = known.1 i }
    go None e h = absurd (omega arith)

-- an identifier without fault is named
identifier-taken : (bs : List ℕ) (column : ℕ) (t : Bool) → named bs ≡ t → cond t (bound_fault column 1 99 (identifier_number bs)) (keyed 6 column) ≡ clean
    → named bs ≡ true
identifier-taken bs column true e f = e
identifier-taken bs column false e f = absurd (omega arith)

-- a part of 14 columns
part-narrow : (first last : ℕ) (line : List ℕ) → last - (first - 1) ≤ 17 → length (cut first last line) ≤ 17
part-narrow first last line h = omega (arith, length-take (last - (first - 1)) (drop (first - 1) line))

-- it is absent exactly where columns 47 to 53 hold six nines without a minus, and its point stands in column 54
pub record ClockSays (line : List ℕ) : Type 0 where
  pub absent : clock_absent (clock_field_in (cut 47 60 line)).negative (clock_field_in (cut 47 60 line)).magnitude ≡ is_six_nines (whole_of (cut 47 53 line))
  pub point : get_or line 53 0 ≡ 46
  pub kept : clock_kept 6 (clock_field_in (cut 47 60 line)).negative (clock_field_in (cut 47 60 line)).magnitude ≡ true

clock-says : (line : List ℕ) → length line ≡ 80 → fault_at (columns 47 60 (clock 6)) line ≡ clean → ClockSays line
unfolding nines_before
clock-says line wide f = go (clock_of bytes 6) refl f
  where
    bytes : List ℕ
    bytes = cut 47 60 line

    fourteen : length bytes ≡ 14
    fourteen = length-take-le 14 (drop 46 line) (omega (arith, length-drop 46 line))

    go : (a : Option Signed) → clock_of bytes 6 ≡ a → amount_fault 47 0 largest a ≡ clean → ClockSays line
    go (Some held) e h =
        let known = clock-known bytes 6 held.negative held.magnitude (omega (arith, fourteen)) e in
        let c = clock-again bytes 6 held.negative held.magnitude e in
        let point_at : point_of 6 (length bytes) ≡ 7 = omega (arith, fourteen) in
        let front : take (point_of 6 (length bytes)) bytes ≡ cut 47 53 line = ap (λ (k : ℕ). take k bytes) point_at ∙ take-take 7 14 (drop 46 line) (omega arith) in
        record {
          absent =
              subst₂ (λ (k : Bool) (v : ℕ). clock_absent k v ≡ is_six_nines (whole_of (cut 47 53 line))) (sym known.0) (sym known.1)
              (c.absent ∙ ap (λ (s : List ℕ). is_six_nines (whole_of s)) front);
          point =
              sym (get_or-drop 46 line 7 0)
              ∙ sym (get_or-take 14 (drop 46 line) 7 0 (omega arith))
              ∙ ap (λ (k : ℕ). get_or bytes k 0) (sym point_at)
              ∙ c.point;
          kept = subst₂ (λ (k : Bool) (v : ℕ). clock_kept 6 k v ≡ true) (sym known.0) (sym known.1) c.kept;
        }
    go None e h = absurd (omega arith)

-- columns 2 to 60 of a line without fault, whatever was judged before and after them
record Sound (line : List ℕ) : Type 0 where
  name : fault_at (columns 2 4 identifier) line ≡ clean
  x : fault_at (columns 5 18 (signed 6)) line ≡ clean
  y : fault_at (columns 19 32 (signed 6)) line ≡ clean
  z : fault_at (columns 33 46 (signed 6)) line ≡ clean
  clock : fault_at (columns 47 60 (clock 6)) line ≡ clean

sound : (more : List Item) (line : List ℕ) (lowest : ℕ) → fault_from lowest (body_items ++ more) line ≡ clean → Sound line
sound more line lowest e =
    let a = lower lowest (fault_at (columns 2 4 identifier) line) in
    let b = lower a (fault_at (columns 5 18 (signed 6)) line) in
    let c = lower b (fault_at (columns 19 32 (signed 6)) line) in
    let d = lower c (fault_at (columns 33 46 (signed 6)) line) in
    record {
      name = item-clean (columns 2 4 identifier) (drop 1 body_items ++ more) line lowest e;
      x = item-clean (columns 5 18 (signed 6)) (drop 2 body_items ++ more) line a e;
      y = item-clean (columns 19 32 (signed 6)) (drop 3 body_items ++ more) line b e;
      z = item-clean (columns 33 46 (signed 6)) (drop 4 body_items ++ more) line c e;
      clock = item-clean (columns 47 60 (clock 6)) (drop 5 body_items ++ more) line d e;
    }

-- so the row's parts are the values' parts
record Parts (line : List ℕ) : Type 0 where
  name : named (cut 2 4 line) ≡ true
  x : signed_in (cut 5 18 line) ≡ held_signed (cut 5 18 line)
  y : signed_in (cut 19 32 line) ≡ held_signed (cut 19 32 line)
  z : signed_in (cut 33 46 line) ≡ held_signed (cut 33 46 line)
  clock : clock_field_in (cut 47 60 line) ≡ held_clock (cut 47 60 line)

parts : (line : List ℕ) → Sound line → Parts line
parts line s = record {
  name = identifier-taken (cut 2 4 line) 2 (named (cut 2 4 line)) refl s.name;
  x = signed-taken (cut 5 18 line) (part-narrow 5 18 line (omega arith)) 5 s.x;
  y = signed-taken (cut 19 32 line) (part-narrow 19 32 line (omega arith)) 19 s.y;
  z = signed-taken (cut 33 46 line) (part-narrow 33 46 line (omega arith)) 33 s.z;
  clock = clock-taken (cut 47 60 line) (part-narrow 47 60 line (omega arith)) 47 s.clock;
}

-- what the clock of a row line says
pub row-clock-says : (velocity : Bool) (line : List ℕ) → length line ≡ 80 → row_fault velocity line ≡ clean → ClockSays line
row-clock-says true line wide f =
    clock-says line wide (sound (columns 74 80 unused ∷ []) line (lower clean (fault_at (part_at 0 1 1 (fixed 4 (86 ∷ []))) line)) f).clock
row-clock-says false line wide f = clock-says line wide (sound flag_items line (lower clean (fault_at (part_at 0 1 1 (fixed 4 (80 ∷ []))) line)) f).clock

pub row-taken : (velocity : Bool) (line : List ℕ) → row_fault velocity line ≡ clean → row_taken velocity line ≡ row_from velocity (values_of (row_items velocity) line)
unfolding row_taken
row-taken true line f =
    let p = parts line (sound (columns 74 80 unused ∷ []) line (lower clean (fault_at (part_at 0 1 1 (fixed 4 (86 ∷ []))) line)) f) in
    rw (p.name, p.x, p.y, p.z, p.clock)
row-taken false line f =
    let p = parts line (sound flag_items line (lower clean (fault_at (part_at 0 1 1 (fixed 4 (80 ∷ []))) line)) f) in
    rw (p.name, p.x, p.y, p.z, p.clock)
