-- The refusal that a door hands C is the paper's number of the answer: the one that the told definition of its enum gives.
-- Assumes nothing.
use mathlib.Core.Path.{◌≡◌, refl}
use mathlib.Core.List.{List}
use Prim.Native.Nat.{ℕ}
use lib.ListN.{get_or}
use Rattle.calendar.specs.Gregorian.{told_date, told_named}
use Rattle.machine.specs.Told.{told_read}
use Rattle.stored_row.specs.Stored.{told_place, told_clock, told_exponent_read, told_flag, told_note, told_note_deviation, told_note_correlation}
use Rattle.row_walk.specs.Told.{told_step}
use Rattle.calendar.specs.declared.types.Dated.{Dated}
use Rattle.calendar.specs.declared.types.Civil.{Civil}
use Rattle.std.specs.Prelude.{Option}
use Rattle.calendar.specs.declared.types.Clock.{Clock}
use Rattle.machine.specs.declared.types.LineRead.{LineRead}
use Rattle.machine.specs.declared.types.LineRead.TheVariants as found
use Rattle.stored_row.specs.declared.types.Place.{Place}
use Rattle.stored_row.specs.declared.types.Place.TheVariants as place
use Rattle.stored_row.specs.declared.types.ClockRead.{ClockRead}
use Rattle.stored_row.specs.declared.types.ClockRead.TheVariants as clock
use Rattle.stored_row.specs.declared.types.ExponentRead.{ExponentRead}
use Rattle.stored_row.specs.declared.types.ExponentRead.TheVariants as exponent_read
use Rattle.stored_row.specs.declared.types.Flag.{Flag}
use Rattle.stored_row.specs.declared.types.Flag.TheVariants as flag
use Rattle.stored_row.specs.declared.types.NoteMark.{NoteMark}
use Rattle.stored_row.specs.declared.types.NoteMark.TheVariants as note_mark
use Rattle.stored_row.specs.declared.types.NoteDeviation.{NoteDeviation}
use Rattle.stored_row.specs.declared.types.NoteDeviation.TheVariants as note_deviation
use Rattle.stored_row.specs.declared.types.NoteCorrelation.{NoteCorrelation}
use Rattle.stored_row.specs.declared.types.NoteCorrelation.TheVariants as note_correlation
use Rattle.line_walk.specs.declared.Spot.{Spot}
use Rattle.row_walk.specs.declared.types.RowWalk.{RowWalk}
use Rattle.row_walk.specs.declared.types.RowStep.{RowStep}
use Rattle.row_walk.specs.declared.types.RowStep.TheVariants as step
use Rattle.sp3.specs.Doors.{date_door, moment_door, place_door, clock_door, exponent_door, flag_door, note_door, note_deviation_door, note_correlation_door, line_door, row_door}

-- the number of an answer that is told as a list: its first entry
abbrev number_told : List ℕ → ℕ
number_told told = get_or told 0 0

pub date-door-number : (a : Option Dated) → (date_door (told_date a)).refusal ≡ number_told (told_date a)
unfolding date_door
date-door-number a = refl

pub moment-door-number : (a : Option Civil) (c : Clock) → (moment_door (told_named a) c).refusal ≡ number_told (told_named a)
unfolding moment_door
moment-door-number a c = refl

pub place-door-number : (a : Place) → (place_door a).refusal ≡ number_told (told_place a)
unfolding place_door
place-door-number (place.At x y z) = refl
place-door-number place.Absent = refl
place-door-number place.NotThere = refl

pub clock-door-number : (a : ClockRead) → (clock_door a).refusal ≡ number_told (told_clock a)
unfolding clock_door
clock-door-number (clock.At v) = refl
clock-door-number clock.Absent = refl
clock-door-number clock.NotThere = refl

pub exponent-door-number : (a : ExponentRead) → (exponent_door a).refusal ≡ number_told (told_exponent_read a)
unfolding exponent_door
exponent-door-number (exponent_read.Value n) = refl
exponent-door-number exponent_read.Unknown = refl
exponent-door-number exponent_read.TooLarge = refl
exponent-door-number exponent_read.NotThere = refl

pub flag-door-number : (a : Flag) → (flag_door a).refusal ≡ number_told (told_flag a)
unfolding flag_door
flag-door-number flag.Set = refl
flag-door-number flag.NotSet = refl
flag-door-number flag.NotThere = refl

pub note-door-number : (a : NoteMark) → (note_door a).refusal ≡ number_told (told_note a)
unfolding note_door
note-door-number note_mark.Stands = refl
note-door-number note_mark.NoRecord = refl
note-door-number note_mark.NotThere = refl

pub note-deviation-door-number : (a : NoteDeviation) → (note_deviation_door a).refusal ≡ number_told (told_note_deviation a)
unfolding note_deviation_door
note-deviation-door-number (note_deviation.Value n) = refl
note-deviation-door-number note_deviation.Unknown = refl
note-deviation-door-number note_deviation.TooLarge = refl
note-deviation-door-number note_deviation.NoRecord = refl
note-deviation-door-number note_deviation.NotThere = refl

pub note-correlation-door-number : (a : NoteCorrelation) → (note_correlation_door a).refusal ≡ number_told (told_note_correlation a)
unfolding note_correlation_door
note-correlation-door-number (note_correlation.Value v) = refl
note-correlation-door-number note_correlation.Unknown = refl
note-correlation-door-number note_correlation.NoRecord = refl
note-correlation-door-number note_correlation.NotThere = refl

pub line-door-number : (p : Spot) (a : LineRead) → (line_door p a).refusal ≡ number_told (told_read a)
unfolding line_door told_read
line-door-number p found.NoLine = refl
line-door-number p (found.Fault number column) = refl
line-door-number p (found.Next at s) = refl
line-door-number p (found.Finished at) = refl

pub row-door-number : (from : RowWalk) (a : RowStep) → (row_door from a).refusal ≡ (told_step a).number
unfolding row_door told_step
row-door-number from (step.At epoch satellite row next) = refl
row-door-number from (step.Absent epoch satellite row next) = refl
row-door-number from step.End = refl
row-door-number from (step.Refused number line column) = refl
