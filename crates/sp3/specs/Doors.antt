-- What C is handed in place of an enum: the paper's number, the values, and absence as a mark of its own. Every other door of this crate gives the
-- answer of its library function as it stands.
use Rattle.std.specs.Prelude.{Bool, true, false, cond, List, ℕ, eqb, ℤ, negsuc, get_or}
use Rattle.calendar.specs.declared.types.Clock.{Clock}
use Rattle.stored_row.specs.declared.types.Place.{Place}
use Rattle.stored_row.specs.declared.types.Place.TheVariants as place
use Rattle.stored_row.specs.declared.types.ClockRead.{ClockRead}
use Rattle.stored_row.specs.declared.types.ClockRead.TheVariants as clock
use Rattle.stored_row.specs.declared.types.ExponentRead.{ExponentRead}
use Rattle.stored_row.specs.declared.types.ExponentRead.TheVariants as exponent_read
use Rattle.stored_row.specs.declared.types.Flag.{Flag}
use Rattle.stored_row.specs.declared.types.Flag.TheVariants as flag
use Rattle.stored_row.specs.declared.types.NoteMark.{NoteMark}
use Rattle.stored_row.specs.declared.types.NoteMark.TheVariants as note_mark
use Rattle.stored_row.specs.declared.types.NoteDeviation.{NoteDeviation}
use Rattle.stored_row.specs.declared.types.NoteDeviation.TheVariants as note_deviation
use Rattle.stored_row.specs.declared.types.NoteCorrelation.{NoteCorrelation}
use Rattle.stored_row.specs.declared.types.NoteCorrelation.TheVariants as note_correlation
use Rattle.machine.specs.declared.types.LineRead.{LineRead}
use Rattle.machine.specs.declared.types.LineRead.TheVariants as found
use Rattle.float_row.specs.Floats.{absent_row}
use Rattle.float_row.specs.declared.FloatRow.{FloatRow}
use Rattle.line_walk.specs.declared.Spot.{Spot}
use Rattle.row_walk.specs.declared.types.RowWalk.{RowWalk}
use Rattle.row_walk.specs.declared.types.RowStep.{RowStep}
use Rattle.row_walk.specs.declared.types.RowStep.TheVariants as step
use Rattle.sp3.specs.declared.types.DateAnswer.{DateAnswer}
use Rattle.sp3.specs.declared.types.MomentAnswer.{MomentAnswer}
use Rattle.sp3.specs.declared.types.StoredPlace.{StoredPlace}
use Rattle.sp3.specs.declared.types.StoredClock.{StoredClock}
use Rattle.sp3.specs.declared.types.StoredExponent.{StoredExponent}
use Rattle.sp3.specs.declared.types.StoredFlag.{StoredFlag}
use Rattle.sp3.specs.declared.types.StoredNote.{StoredNote}
use Rattle.sp3.specs.declared.types.NoteDeviationAnswer.{NoteDeviationAnswer}
use Rattle.sp3.specs.declared.types.NoteCorrelationAnswer.{NoteCorrelationAnswer}
use Rattle.sp3.specs.declared.types.LineAnswer.{LineAnswer}
use Rattle.sp3.specs.declared.types.RowStepAnswer.{RowStepAnswer}

-- a date: the number, then MJD, week and seconds of week where it is 0 (calendar, told_date)
unfoldable pub date_door : List ℕ → DateAnswer
date_door told = record { refusal = get_or told 0 0; mjd = get_or told 1 0; week = get_or told 2 0; seconds = get_or told 3 0 }

-- a date (calendar, told_named) and a time of day; beside a refusal neither
abbrev pub time_if : Bool → ℕ → ℕ
time_if there n = cond there n 0

unfoldable pub moment_door : List ℕ → Clock → MomentAnswer
moment_door told c = record {
  refusal = get_or told 0 0;
  moment = record {
    year = get_or told 1 0;
    month = get_or told 2 0;
    day = get_or told 3 0;
    hour = time_if (eqb (get_or told 0 0) 0) c.hour;
    minute = time_if (eqb (get_or told 0 0) 0) c.minute;
    second8 = time_if (eqb (get_or told 0 0) 0) c.second8;
  };
}

-- the least number of 64 bits, which no field of a file holds
abbrev pub no_number : ℤ
no_number = negsuc 9223372036854775807

-- and the largest, for a count
abbrev pub no_count : ℕ
no_count = 18446744073709551615

-- a place that is absent, or not there
abbrev pub no_place : ℕ → StoredPlace
no_place number = record { refusal = number; absent = true; x = no_number; y = no_number; z = no_number }

unfoldable pub place_door : Place → StoredPlace
place_door (place.At x y z) = record { refusal = 0; absent = false; x = x; y = y; z = z }
place_door place.Absent = no_place 0
place_door place.NotThere = no_place 13

-- a clock that is absent, or not there
abbrev pub no_clock : ℕ → StoredClock
no_clock number = record { refusal = number; absent = true; clock = no_number }

unfoldable pub clock_door : ClockRead → StoredClock
clock_door (clock.At v) = record { refusal = 0; absent = false; clock = v }
clock_door clock.Absent = no_clock 0
clock_door clock.NotThere = no_clock 13

-- an exponent: unknown and too large are marks; what is not there is unknown too
abbrev pub exponent_parts : ℕ → Bool → Bool → ℕ → StoredExponent
exponent_parts number unknown large value = record { refusal = number; unknown = unknown; too_large = large; value = value }

unfoldable pub exponent_door : ExponentRead → StoredExponent
exponent_door (exponent_read.Value n) = exponent_parts 0 false false n
exponent_door exponent_read.Unknown = exponent_parts 0 true false 0
exponent_door exponent_read.TooLarge = exponent_parts 0 false true 0
exponent_door exponent_read.NotThere = exponent_parts 13 true false 0

-- a flag
abbrev pub flag_parts : ℕ → Bool → StoredFlag
flag_parts number on = record { refusal = number; set = on }

unfoldable pub flag_door : Flag → StoredFlag
flag_door flag.Set = flag_parts 0 true
flag_door flag.NotSet = flag_parts 0 false
flag_door flag.NotThere = flag_parts 13 false

-- whether a note stands
abbrev pub note_parts : ℕ → Bool → StoredNote
note_parts number on = record { refusal = number; stands = on }

unfoldable pub note_door : NoteMark → StoredNote
note_door note_mark.Stands = note_parts 0 true
note_door note_mark.NoRecord = note_parts 0 false
note_door note_mark.NotThere = note_parts 13 false

-- a deviation of a note: no record, unknown and too large are marks; what is not there is no record too
abbrev pub no_deviation : ℕ → Bool → Bool → Bool → NoteDeviationAnswer
no_deviation number none unknown large = record { refusal = number; no_record = none; unknown = unknown; too_large = large; value = no_count }

unfoldable pub note_deviation_door : NoteDeviation → NoteDeviationAnswer
note_deviation_door (note_deviation.Value n) = record { refusal = 0; no_record = false; unknown = false; too_large = false; value = n }
note_deviation_door note_deviation.Unknown = no_deviation 0 false true false
note_deviation_door note_deviation.TooLarge = no_deviation 0 false false true
note_deviation_door note_deviation.NoRecord = no_deviation 0 true false false
note_deviation_door note_deviation.NotThere = no_deviation 13 true false false

-- a correlation that is unknown, not recorded, or not there
abbrev pub no_correlation : ℕ → Bool → Bool → NoteCorrelationAnswer
no_correlation number none unknown = record { refusal = number; no_record = none; unknown = unknown; value = no_number }

unfoldable pub note_correlation_door : NoteCorrelation → NoteCorrelationAnswer
note_correlation_door (note_correlation.Value v) = record { refusal = 0; no_record = false; unknown = false; value = v }
note_correlation_door note_correlation.Unknown = no_correlation 0 false true
note_correlation_door note_correlation.NoRecord = no_correlation 0 true false
note_correlation_door note_correlation.NotThere = no_correlation 13 true false

-- what a line does at a spot: a line that is refused leaves the spot, and the line that ends the file leaves the state
abbrev pub line_parts : ℕ → ℕ → Bool → Spot → LineAnswer
line_parts number column ends next = record { refusal = number; column = column; finished = ends; next = next }

unfoldable pub line_door : Spot → LineRead → LineAnswer
line_door p found.NoLine = line_parts 1 0 false p
line_door p (found.Fault number column) = line_parts number column false p
line_door p (found.Next at s) = line_parts 0 0 false (record { at = at; state = s })
line_door p (found.Finished at) = line_parts 0 0 true (record { at = at; state = p.state })

-- the next row of a walk: without one both its parts are absent and the walk stays where it was
abbrev pub row_found : ℕ → ℕ → FloatRow → RowWalk → RowStepAnswer
row_found epoch satellite row next =
    record { refusal = 0; line = 0; column = 0; end = false; epoch = epoch; satellite = satellite; row = row; next = next }

abbrev pub no_row : ℕ → ℕ → ℕ → Bool → RowWalk → RowStepAnswer
no_row number line column ends from =
    record { refusal = number; line = line; column = column; end = ends; epoch = 0; satellite = 0; row = absent_row; next = from }

unfoldable pub row_door : RowWalk → RowStep → RowStepAnswer
row_door from (step.At epoch satellite row next) = row_found epoch satellite row next
row_door from (step.Absent epoch satellite row next) = row_found epoch satellite row next
row_door from step.End = no_row 0 0 0 true from
row_door from (step.Refused number line column) = no_row number line column false from
