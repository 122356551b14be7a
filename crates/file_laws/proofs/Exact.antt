-- Nothing is lost in storage: the magnitudes of a P or V line without fault are at most 999,999,999,999 and its exponents at most 1000, those of an EP
-- or EV line at most 100,000,000, so each stored number is the one that the line says.
-- Assumes nothing.
use mathlib.Core.Path.{◌≡◌, refl, sym, ap, subst, ◌∙◌}
use mathlib.Core.Bool.{Bool, true, false, cond}
use mathlib.Core.List.{List, [], ◌∷◌, ◌++◌}
use Prim.Native.Nat.{ℕ, ◌-◌, ◌^◌, ◌<◌, ◌≤◌}
use native.Mathlib.Omega.{arith}
use borrow.Author.Tests.{ltb-true}
use lib.Dec.{leb, ltb, eqb}
use lib.IntN.{pos}
use lib.ListN.{length, get_or, drop, replicate, length-drop}
use lib.Seq.{length-take-le}
use Rattle.laws.specs.Texts.{every}
use Rattle.field.specs.Read.{decimal_of, exponent_of, signed_whole_of}
use Rattle.field.specs.Clock.{clock_of, clock_kept}
use Rattle.field.specs.Show.{fits_integer}
use Rattle.field.specs.Sign.{largest, signed_int}
use Rattle.layout.specs.Fault.{clean, lower}
use Rattle.layout.specs.Kind.{unknown, unnoted, is_blank, maybe_held, held_amount, magnitude_in, amount_fault, fault_in}
use Rattle.layout.specs.Kind.Kind.{unused, fixed, signed, clock}
use Rattle.layout.specs.Kind.Held.{amount}
use Rattle.layout.specs.Layout.{Item, columns, column, part_at, values_of, fault_at}
use Rattle.layout.specs.Line.{padded}
use Rattle.record.specs.LineKinds.{velocity_kind, told_kind}
use Rattle.record.specs.Rows.{row_items, row_from, row_fault, row_taken, row_of, cut, six_nines_in}
use Rattle.record.specs.Notes.{correlation, largest_correlation, correlation_symbol, deviation_items, pair_items, correlation_in, note_taken, note_of, note_fault}
use Rattle.header.specs.declared.types.Rules.{Rules}
use Rattle.field.specs.declared.Exponent.{Exponent}
use Rattle.field.specs.declared.Exponent.TheVariants as exponents
use Rattle.record.specs.declared.types.Row.{Row}
use Rattle.record.specs.declared.types.Note.{Note}
use Rattle.file.specs.Plain.{row_kind, is_row_line}
use Rattle.file.proofs.Exact.{stored_exact}
use Rattle.file.specs.Table.{row_in, stored_count, mark_number, stored_mark, row_numbers, note_numbers, no_note}
use Rattle.laws.proofs.Bools.{and_right}
use Rattle.field.proofs.Again.{exponent-again}
use Rattle.layout.proofs.Lines.{padded-length}
use Rattle.record.specs.Absence.{clock_absent}
use Rattle.record.proofs.Taking.{ClockSays, row-clock-says, row-taken}
use Rattle.file_laws.proofs.Sorting.{row-record, row-kind}
use Rattle.file_laws.proofs.Clean.{record-clean, item-at, amount-bounds}
use Rattle.file.specs.Exact.{exact_numbers, exact_note, exact_none}
use Rattle.std.specs.Prelude.{Option, Some, None}
use Rattle.field.specs.declared.Signed.{Signed}
use Rattle.field.specs.Read.{some_amount}

-- a count within the bound is stored as it is
pub count-exact : (n : ℕ) → n ≤ largest → stored_count n ≡ pos n
unfolding signed_int
count-exact n h = stored_exact false n h

-- a flag is stored as 0 or 1
pub mark-exact : (set : Bool) → stored_mark set ≡ pos (mark_number set)
mark-exact true = count-exact 1 (omega arith)
mark-exact false = count-exact 0 (omega arith)

-- a number that may be unknown is at most the one that stands for unknown, where its columns hold less
module _ (none first last : ℕ) (l : List ℕ) (starts : 1 ≤ first) (ends : last ≤ 80) (narrow : 10 ^ (last - (first - 1) - 0) ≤ none) where
  maybe-bounded : maybe_held none (exponent_of (cut first last (padded l))) ≤ none
  unfolding fits_integer
  maybe-bounded = go (exponent_of bytes) refl
    where
      bytes : List ℕ
      bytes = cut first last (padded l)

      wide : length bytes ≡ last - (first - 1)
      wide = length-take-le (last - (first - 1)) (drop (first - 1) (padded l)) (omega (arith, length-drop (first - 1) (padded l), padded-length l))

      value-good : (n : ℕ) → exponents.Value n ≡ exponents.Malformed → ⊥
      value-good n q = let z : ◌≡◌ {A = ℕ} 0 1 = cc in omega arith

      go : (a : Exponent) → exponent_of bytes ≡ a → maybe_held none a ≤ none
      go (exponents.Value n) e =
          let fits = exponent-again bytes (exponents.Value n) (value-good n) e in
          let fewer : ltb n (10 ^ (length bytes - 0)) ≡ true = and_right (ltb 0 (length bytes)) _ (and_right (leb (length bytes) 18) _ fits) in
          let below : n < 10 ^ (last - (first - 1) - 0) = subst (λ (w : ℕ). n < 10 ^ (w - 0)) wide (ltb-true n (10 ^ (length bytes - 0)) fewer) in
          omega arith
      go exponents.Unknown e = omega arith
      go exponents.Malformed e = omega arith

-- the four magnitudes of a row
pub record Bounded (p : Row) : Type 0 where
  pub x : p.x.magnitude ≤ largest
  pub y : p.y.magnitude ≤ largest
  pub z : p.z.magnitude ≤ largest
  pub clock : p.clock.magnitude ≤ largest

-- what a line without fault holds is within the bound
held-bounded : (v : Bool) (line : List ℕ) → row_fault v line ≡ clean → Bounded (row_from v (values_of (row_items v) line))
held-bounded true line f = record {
  x = (amount-bounds 5 0 largest (decimal_of (cut 5 18 line) 6 true) (item-at (row_items true) 2 (columns 5 18 (signed 6)) line clean (omega arith) f)).1;
  y = (amount-bounds 19 0 largest (decimal_of (cut 19 32 line) 6 true) (item-at (row_items true) 3 (columns 5 18 (signed 6)) line clean (omega arith) f)).1;
  z = (amount-bounds 33 0 largest (decimal_of (cut 33 46 line) 6 true) (item-at (row_items true) 4 (columns 5 18 (signed 6)) line clean (omega arith) f)).1;
  clock = (amount-bounds 47 0 largest (clock_of (cut 47 60 line) 6) (item-at (row_items true) 5 (columns 5 18 (signed 6)) line clean (omega arith) f)).1;
}
held-bounded false line f = record {
  x = (amount-bounds 5 0 largest (decimal_of (cut 5 18 line) 6 true) (item-at (row_items false) 2 (columns 5 18 (signed 6)) line clean (omega arith) f)).1;
  y = (amount-bounds 19 0 largest (decimal_of (cut 19 32 line) 6 true) (item-at (row_items false) 3 (columns 5 18 (signed 6)) line clean (omega arith) f)).1;
  z = (amount-bounds 33 0 largest (decimal_of (cut 33 46 line) 6 true) (item-at (row_items false) 4 (columns 5 18 (signed 6)) line clean (omega arith) f)).1;
  clock = (amount-bounds 47 0 largest (clock_of (cut 47 60 line) 6) (item-at (row_items false) 5 (columns 5 18 (signed 6)) line clean (omega arith) f)).1;
}

module _ (rules : Rules) (v : Bool) (identifier : ℕ) (l : List ℕ) (is : is_row_line rules v identifier l ≡ true) where
  sound : row_fault v (padded l) ≡ clean
  sound = record-clean rules (row_kind v) (row_fault v (padded l)) l (row-record rules v identifier l is)

  -- the row of a P or V line is what its columns hold, and its magnitudes are within the bound
  pub row-held : row_of v l ≡ row_from v (values_of (row_items v) (padded l))
  row-held = row-taken v (padded l) sound

  pub row-bounded : Bounded (row_of v l)
  row-bounded = subst Bounded (sym row-held) (held-bounded v (padded l) sound)

  -- its clock is absent exactly where columns 47 to 53 hold six nines without a minus, and is held as it is
  says : ClockSays (padded l)
  says = row-clock-says v (padded l) (padded-length l) sound

  pub clock-line : clock_absent (row_of v l).clock.negative (row_of v l).clock.magnitude ≡ six_nines_in l
  unfolding row_taken
  clock-line = says.absent

  pub clock-kept : clock_kept 6 (row_of v l).clock.negative (row_of v l).clock.magnitude ≡ true
  unfolding row_taken
  clock-kept = says.kept

  -- the point of its clock stands in column 54
  pub clock-point : get_or (padded l) 53 0 ≡ 46
  clock-point = says.point

  -- the table takes it as the kind of row that it is
  pub row-in : row_in rules l ≡ row_of v l
  row-in = ap (λ (t : Bool). row_of t l) (ap (λ (k : ℕ). eqb k velocity_kind) (row-kind rules v identifier l is) ∙ go v)
    where
      go : (t : Bool) → eqb (told_kind (row_kind t)) velocity_kind ≡ t
      go true = refl
      go false = refl

  pub exponents-bounded : ((row_of v l).x_exponent ≤ 1000) × ((row_of v l).y_exponent ≤ 1000) × ((row_of v l).z_exponent ≤ 1000) × ((row_of v l).clock_exponent ≤ 1000)
  unfolding row_taken
  exponents-bounded = (
    maybe-bounded unknown 62 63 l (omega arith) (omega arith) (omega arith),
    maybe-bounded unknown 65 66 l (omega arith) (omega arith) (omega arith),
    maybe-bounded unknown 68 69 l (omega arith) (omega arith) (omega arith),
    maybe-bounded unknown 71 73 l (omega arith) (omega arith) (omega arith),
  )

  -- NOTHING IS LOST: the stored numbers of a P or V line are those of its row.
  pub row-exact : row_numbers (row_in rules l) ≡ exact_numbers (row_of v l)
  unfolding row_numbers exact_numbers
  row-exact =
      let p = row_of v l in
      let b = row-bounded in
      let e = exponents-bounded in
      ap row_numbers row-in
      ∙ rw (
        stored_exact p.x.negative p.x.magnitude b.x,
        stored_exact p.y.negative p.y.magnitude b.y,
        stored_exact p.z.negative p.z.magnitude b.z,
        stored_exact p.clock.negative p.clock.magnitude b.clock,
        count-exact p.x_exponent (omega arith),
        count-exact p.y_exponent (omega arith),
        count-exact p.z_exponent (omega arith),
        count-exact p.clock_exponent (omega arith),
        mark-exact p.event,
        mark-exact p.predicted,
        mark-exact p.maneuver,
        mark-exact p.orbit_predicted,
      )

-- the four deviations of a note
pub deviations-bounded : (l : List ℕ) → ((note_of l).x_deviation ≤ unnoted) × ((note_of l).y_deviation ≤ unnoted) × ((note_of l).z_deviation ≤ unnoted) × ((note_of l).clock_deviation ≤ unnoted)
unfolding note_taken
deviations-bounded l = (
  maybe-bounded unnoted 5 8 l (omega arith) (omega arith) (omega arith),
  maybe-bounded unnoted 10 13 l (omega arith) (omega arith) (omega arith),
  maybe-bounded unnoted 15 18 l (omega arith) (omega arith) (omega arith),
  maybe-bounded unnoted 20 26 l (omega arith) (omega arith) (omega arith),
)

-- A correlation of a line without fault is within its bound, or unknown.
module _ (column : ℕ) (bytes : List ℕ) (f : fault_in correlation column bytes ≡ clean) where
  correlation-bounded : (correlation_in bytes).magnitude ≤ unnoted
  correlation-bounded = go (every is_blank bytes) (signed_whole_of bytes) f
    where
      go : (t : Bool) (a : Option Signed) → cond t clean (amount_fault column 0 largest_correlation a) ≡ clean → magnitude_in (cond t (amount false unnoted) (held_amount a)) ≤ unnoted
      go true a h = omega arith
      go false (Some held) h = omega (arith, (amount-bounds column 0 largest_correlation (some_amount held.negative held.magnitude) h).1)
      go false None h = omega arith

-- the six magnitudes of a note
pub record Noticed (n : Note) : Type 0 where
  pub xy : n.xy.magnitude ≤ unnoted
  pub xz : n.xz.magnitude ≤ unnoted
  pub xc : n.xc.magnitude ≤ unnoted
  pub yz : n.yz.magnitude ≤ unnoted
  pub yc : n.yc.magnitude ≤ unnoted
  pub zc : n.zc.magnitude ≤ unnoted

-- the fields after the symbol have no fault
abbrev last_column : Item
last_column = column 80 unused

pub field-clean : (v : Bool) (l : List ℕ) → note_fault v (padded l) ≡ clean → (i : ℕ) → i < 20 → fault_at (get_or (deviation_items ++ pair_items) i last_column) (padded l) ≡ clean
field-clean v l f i h =
    item-at (deviation_items ++ pair_items) i last_column (padded l) (lower clean (fault_at (part_at 0 1 2 (fixed 4 (correlation_symbol v))) (padded l))) h f

pub correlations-bounded : (v : Bool) (l : List ℕ) → note_fault v (padded l) ≡ clean → Noticed (note_of l)
unfolding note_taken
correlations-bounded v l f = record {
  xy = correlation-bounded 28 (cut 28 35 (padded l)) (field-clean v l f 9 (omega arith));
  xz = correlation-bounded 37 (cut 37 44 (padded l)) (field-clean v l f 11 (omega arith));
  xc = correlation-bounded 46 (cut 46 53 (padded l)) (field-clean v l f 13 (omega arith));
  yz = correlation-bounded 55 (cut 55 62 (padded l)) (field-clean v l f 15 (omega arith));
  yc = correlation-bounded 64 (cut 64 71 (padded l)) (field-clean v l f 17 (omega arith));
  zc = correlation-bounded 73 (cut 73 80 (padded l)) (field-clean v l f 19 (omega arith));
}

-- NOTHING IS LOST: the stored numbers of an EP or EV line are those of its note.
pub note-exact : (v : Bool) (l : List ℕ) → note_fault v (padded l) ≡ clean → note_numbers (note_of l) ≡ exact_note (note_of l)
unfolding note_numbers exact_note
note-exact v l f =
    let n = note_of l in
    let b = correlations-bounded v l f in
    let d = deviations-bounded l in
    rw (
      mark-exact true,
      count-exact n.x_deviation (omega arith),
      count-exact n.y_deviation (omega arith),
      count-exact n.z_deviation (omega arith),
      count-exact n.clock_deviation (omega arith),
      stored_exact n.xy.negative n.xy.magnitude (omega (arith, b.xy)),
      stored_exact n.xz.negative n.xz.magnitude (omega (arith, b.xz)),
      stored_exact n.xc.negative n.xc.magnitude (omega (arith, b.xc)),
      stored_exact n.yz.negative n.yz.magnitude (omega (arith, b.yz)),
      stored_exact n.yc.negative n.yc.magnitude (omega (arith, b.yc)),
      stored_exact n.zc.negative n.zc.magnitude (omega (arith, b.zc)),
    )

pub none-exact : no_note ≡ exact_none
unfolding no_note exact_none replicate
none-exact = rw (mark-exact false, count-exact unnoted (omega arith))
