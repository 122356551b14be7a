-- Absence over the doors: a place, clock or correlation with no mark is there, with its own numbers; one with a mark has no number that a file can
-- hold beside it; a row beside a refusal, and at the end, is absent in both parts.
-- Assumes nothing.
use mathlib.Core.Path.{◌≡◌, refl, sym, ap, ◌∙◌}
use mathlib.Core.Bool.{Bool, true, false, cond, false≢true}
use mathlib.Core.Logic.{◌⊎◌, inl, inr}
use Prim.Native.Nat.{ℕ, ◌≤◌}
use native.Mathlib.Omega.{arith}
use lib.IntN.{ℤ, nat_abs}
use Rattle.float_row.specs.Floats.{absent_row}
use Rattle.stored_row.specs.declared.types.Place.{Place}
use Rattle.stored_row.specs.declared.types.Place.TheVariants as place
use Rattle.stored_row.specs.declared.types.ClockRead.{ClockRead}
use Rattle.stored_row.specs.declared.types.ClockRead.TheVariants as clock
use Rattle.stored_row.specs.declared.types.NoteDeviation.{NoteDeviation}
use Rattle.stored_row.specs.declared.types.NoteDeviation.TheVariants as note_deviation
use Rattle.stored_row.specs.declared.types.NoteCorrelation.{NoteCorrelation}
use Rattle.stored_row.specs.declared.types.NoteCorrelation.TheVariants as note_correlation
use Rattle.row_walk.specs.Rows.{row_of_step}
use Rattle.row_walk.specs.declared.types.RowWalk.{RowWalk}
use Rattle.row_walk.specs.declared.types.RowStep.{RowStep}
use Rattle.row_walk.specs.declared.types.RowStep.TheVariants as step
use Rattle.sp3.specs.Doors.{no_number, no_count, place_door, clock_door, note_deviation_door, note_correlation_door, row_door}

-- not marked: a place with these coordinates, accepted
pub place-unmarked : (p : Place) → (place_door p).absent ≡ false → (p ≡ place.At (place_door p).x (place_door p).y (place_door p).z) × ((place_door p).refusal ≡ 0)
unfolding place_door
place-unmarked (place.At x y z) e = (refl, refl)
place-unmarked place.Absent e = absurd (false≢true (sym e))
place-unmarked place.NotThere e = absurd (false≢true (sym e))

-- marked: no place, and no coordinate beside it
pub place-marked : (p : Place) → (place_door p).absent ≡ true
    → ((p ≡ place.Absent) ⊎ (p ≡ place.NotThere)) × ((place_door p).x ≡ no_number) × ((place_door p).y ≡ no_number) × ((place_door p).z ≡ no_number)
unfolding place_door
place-marked (place.At x y z) e = absurd (false≢true e)
place-marked place.Absent e = (inl refl, refl, refl, refl)
place-marked place.NotThere e = (inr refl, refl, refl, refl)

-- the same of a clock
pub clock-unmarked : (k : ClockRead) → (clock_door k).absent ≡ false → (k ≡ clock.At (clock_door k).clock) × ((clock_door k).refusal ≡ 0)
unfolding clock_door
clock-unmarked (clock.At v) e = (refl, refl)
clock-unmarked clock.Absent e = absurd (false≢true (sym e))
clock-unmarked clock.NotThere e = absurd (false≢true (sym e))

pub clock-marked : (k : ClockRead) → (clock_door k).absent ≡ true → ((k ≡ clock.Absent) ⊎ (k ≡ clock.NotThere)) × ((clock_door k).clock ≡ no_number)
unfolding clock_door
clock-marked (clock.At v) e = absurd (false≢true e)
clock-marked clock.Absent e = (inl refl, refl)
clock-marked clock.NotThere e = (inr refl, refl)

-- a deviation of a note with no mark is a value, accepted; beside each mark stands a count that no field of a file can hold
pub deviation-unmarked : (d : NoteDeviation) → (note_deviation_door d).no_record ≡ false → (note_deviation_door d).unknown ≡ false
    → (note_deviation_door d).too_large ≡ false → (d ≡ note_deviation.Value (note_deviation_door d).value) × ((note_deviation_door d).refusal ≡ 0)
unfolding note_deviation_door
deviation-unmarked (note_deviation.Value n) e u l = (refl, refl)
deviation-unmarked note_deviation.Unknown e u l = absurd (false≢true (sym u))
deviation-unmarked note_deviation.TooLarge e u l = absurd (false≢true (sym l))
deviation-unmarked note_deviation.NoRecord e u l = absurd (false≢true (sym e))
deviation-unmarked note_deviation.NotThere e u l = absurd (false≢true (sym e))

pub deviation-marked-unknown : (d : NoteDeviation) → (note_deviation_door d).unknown ≡ true → (d ≡ note_deviation.Unknown) × ((note_deviation_door d).value ≡ no_count)
unfolding note_deviation_door
deviation-marked-unknown (note_deviation.Value n) u = absurd (false≢true u)
deviation-marked-unknown note_deviation.Unknown u = (refl, refl)
deviation-marked-unknown note_deviation.TooLarge u = absurd (false≢true u)
deviation-marked-unknown note_deviation.NoRecord u = absurd (false≢true u)
deviation-marked-unknown note_deviation.NotThere u = absurd (false≢true u)

pub deviation-marked-large : (d : NoteDeviation) → (note_deviation_door d).too_large ≡ true → (d ≡ note_deviation.TooLarge) × ((note_deviation_door d).value ≡ no_count)
unfolding note_deviation_door
deviation-marked-large (note_deviation.Value n) l = absurd (false≢true l)
deviation-marked-large note_deviation.Unknown l = absurd (false≢true l)
deviation-marked-large note_deviation.TooLarge l = (refl, refl)
deviation-marked-large note_deviation.NoRecord l = absurd (false≢true l)
deviation-marked-large note_deviation.NotThere l = absurd (false≢true l)

pub deviation-marked-unrecorded : (d : NoteDeviation) → (note_deviation_door d).no_record ≡ true
    → ((d ≡ note_deviation.NoRecord) ⊎ (d ≡ note_deviation.NotThere)) × ((note_deviation_door d).value ≡ no_count)
unfolding note_deviation_door
deviation-marked-unrecorded (note_deviation.Value n) e = absurd (false≢true e)
deviation-marked-unrecorded note_deviation.Unknown e = absurd (false≢true e)
deviation-marked-unrecorded note_deviation.TooLarge e = absurd (false≢true e)
deviation-marked-unrecorded note_deviation.NoRecord e = (inl refl, refl)
deviation-marked-unrecorded note_deviation.NotThere e = (inr refl, refl)

-- the same of a correlation, beside whose marks no number stands that a file can hold
pub correlation-unmarked : (c : NoteCorrelation) → (note_correlation_door c).no_record ≡ false → (note_correlation_door c).unknown ≡ false
    → (c ≡ note_correlation.Value (note_correlation_door c).value) × ((note_correlation_door c).refusal ≡ 0)
unfolding note_correlation_door
correlation-unmarked (note_correlation.Value v) e u = (refl, refl)
correlation-unmarked note_correlation.Unknown e u = absurd (false≢true (sym u))
correlation-unmarked note_correlation.NoRecord e u = absurd (false≢true (sym e))
correlation-unmarked note_correlation.NotThere e u = absurd (false≢true (sym e))

pub correlation-marked-unknown : (c : NoteCorrelation) → (note_correlation_door c).unknown ≡ true → (c ≡ note_correlation.Unknown) × ((note_correlation_door c).value ≡ no_number)
unfolding note_correlation_door
correlation-marked-unknown (note_correlation.Value v) u = absurd (false≢true u)
correlation-marked-unknown note_correlation.Unknown u = (refl, refl)
correlation-marked-unknown note_correlation.NoRecord u = absurd (false≢true u)
correlation-marked-unknown note_correlation.NotThere u = absurd (false≢true u)

pub correlation-marked-unrecorded : (c : NoteCorrelation) → (note_correlation_door c).no_record ≡ true
    → ((c ≡ note_correlation.NoRecord) ⊎ (c ≡ note_correlation.NotThere)) × ((note_correlation_door c).value ≡ no_number)
unfolding note_correlation_door
correlation-marked-unrecorded (note_correlation.Value v) e = absurd (false≢true e)
correlation-marked-unrecorded note_correlation.Unknown e = absurd (false≢true e)
correlation-marked-unrecorded note_correlation.NoRecord e = (inl refl, refl)
correlation-marked-unrecorded note_correlation.NotThere e = (inr refl, refl)

-- no number of a field is the one beside a mark
pub no_field : (v : ℤ) → nat_abs v ≤ 999999999999 → v ≡ no_number → ⊥
no_field v small e = go (nat_abs v) small (ap nat_abs e)
  where
    go : (n : ℕ) → n ≤ 999999999999 → n ≡ 9223372036854775808 → ⊥
    go n s q = omega arith

-- a step of a walk that gives no row gives no coordinates, and the walk stays
pub no-row : (from : RowWalk) (s : RowStep) → (s ≡ step.End) ⊎ ((number : ℕ) × (line : ℕ) × (column : ℕ) × (s ≡ step.Refused number line column))
    → ((row_door from s).row ≡ absent_row) × ((row_door from s).next ≡ from)
unfolding row_door
no-row from s (inl e) = rw e (refl, refl)
no-row from s (inr (number, line, column, e)) = rw e (refl, refl)

-- a step that is refused is handed on with its number, its line and its column
pub refused-row : (from : RowWalk) (number line column : ℕ)
    → let answer = row_door from (step.Refused number line column) in (answer.refusal ≡ number) × (answer.line ≡ line) × (answer.column ≡ column)
unfolding row_door
refused-row from number line column = (refl, refl, refl)

-- a stored clock is marked as it is, and so is the clock of a row that a step gives
pub clock-mark : (c : ClockRead) (absent : Bool) (v : ℤ) → c ≡ cond absent clock.Absent (clock.At v) → (clock_door c).absent ≡ absent
unfolding clock_door
clock-mark c absent v e = ap (λ (k : ClockRead). (clock_door k).absent) e ∙ go absent
  where
    go : (t : Bool) → (clock_door (cond t clock.Absent (clock.At v))).absent ≡ t
    go true = refl
    go false = refl

pub row-clock-mark : (from : RowWalk) (s : RowStep) (absent : Bool) → (row_of_step s).clock_absent ≡ absent → (row_door from s).row.clock_absent ≡ absent
unfolding row_door
row-clock-mark from (step.At epoch satellite row next) absent e = e
row-clock-mark from (step.Absent epoch satellite row next) absent e = e
row-clock-mark from step.End absent e = e
row-clock-mark from (step.Refused number line column) absent e = e
