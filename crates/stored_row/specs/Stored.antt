-- A stored row, by name: the numbers of its line and of its note (file, Table). 01: "An absent place or velocity is held as three zeros, an absent clock or rate as its
-- twelve nines"; "An exponent of 99 (or 999 for the clock) means too large; unknown is apart from 0." A row that is not there is 13.
use Rattle.std.specs.Prelude.{Bool, true, false, cond, ◌&&◌, List, [], ◌∷◌, ℕ, ◌+◌, ◌*◌, ◌/◌, eqb, ltb, leb, ℤ, pos, nat_abs, length, get_or}
use Rattle.field.specs.Sign.{is_negative}
use Rattle.record.specs.Absence.{place_absent, clock_absent, is_unknown, is_too_large}
use Rattle.layout.specs.Kind.{unnoted}
use Rattle.record.specs.Rows.{bare_width, row_width}
use Rattle.record.specs.Notes.{largest_deviation}
use Rattle.stored_row.specs.declared.types.Place.{Place}
use Rattle.stored_row.specs.declared.types.Place.TheVariants as place
use Rattle.stored_row.specs.declared.types.ClockRead.{ClockRead}
use Rattle.stored_row.specs.declared.types.ClockRead.TheVariants as clock
use Rattle.stored_row.specs.declared.types.ExponentRead.{ExponentRead}
use Rattle.stored_row.specs.declared.types.ExponentRead.TheVariants as exponent_read
use Rattle.stored_row.specs.declared.types.Flag.{Flag}
use Rattle.stored_row.specs.declared.types.Flag.TheVariants as flag
use Rattle.stored_row.specs.declared.types.NoteMark.{NoteMark}
use Rattle.stored_row.specs.declared.types.NoteMark.TheVariants as note_mark
use Rattle.stored_row.specs.declared.types.NoteDeviation.{NoteDeviation}
use Rattle.stored_row.specs.declared.types.NoteDeviation.TheVariants as note_deviation
use Rattle.stored_row.specs.declared.types.NoteCorrelation.{NoteCorrelation}
use Rattle.stored_row.specs.declared.types.NoteCorrelation.TheVariants as note_correlation

-- whether the lent numbers have a k-th row
abbrev pub is_there : List ℤ → ℕ → Bool
is_there rows k = ltb k (length rows / row_width)

-- the number at a place of the k-th row
abbrev pub number_at : List ℤ → ℕ → ℕ → ℤ
number_at rows k i = get_or rows (k * row_width + i) (pos 0)

-- all three are zero
abbrev pub is_place_absent : List ℤ → ℕ → Bool
is_place_absent rows k = place_absent (nat_abs (number_at rows k 0)) (nat_abs (number_at rows k 1)) (nat_abs (number_at rows k 2))

unfoldable pub place_in : List ℤ → ℕ → Place
place_in rows k =
    cond (is_there rows k)
    (cond (is_place_absent rows k) place.Absent (place.At (number_at rows k 0) (number_at rows k 1) (number_at rows k 2)))
    place.NotThere

-- twelve nines with no minus
unfoldable pub clock_in : List ℤ → ℕ → ClockRead
clock_in rows k =
    cond (is_there rows k)
    (cond (clock_absent (is_negative (number_at rows k 3)) (nat_abs (number_at rows k 3))) clock.Absent (clock.At (number_at rows k 3)))
    clock.NotThere

-- the exponents of x, y, z and clock are asked for by 0 to 3
abbrev pub exponent_read_of : ℕ → ℕ → ExponentRead
exponent_read_of which n = cond (is_unknown n) exponent_read.Unknown (cond (is_too_large (eqb which 3) n) exponent_read.TooLarge (exponent_read.Value n))

unfoldable pub exponent_read_in : List ℤ → ℕ → ℕ → ExponentRead
exponent_read_in rows k which =
    cond (is_there rows k && leb which 3) (exponent_read_of which (nat_abs (number_at rows k (4 + which)))) exponent_read.NotThere

-- the flags of columns 75, 76, 79 and 80 by 0 to 3
unfoldable pub flag_in : List ℤ → ℕ → ℕ → Flag
flag_in rows k which =
    cond (is_there rows k && leb which 3) (cond (eqb (nat_abs (number_at rows k (8 + which))) 0) flag.NotSet flag.Set) flag.NotThere

-- whether an EP or EV line stood after the row's own
abbrev pub has_note : List ℤ → ℕ → Bool
has_note rows k = cond (eqb (nat_abs (number_at rows k bare_width)) 0) false true

unfoldable pub note_in : List ℤ → ℕ → NoteMark
note_in rows k = cond (is_there rows k) (cond (has_note rows k) note_mark.Stands note_mark.NoRecord) note_mark.NotThere

-- the deviations of x, y, z and clock by 0 to 3: the largest means too large
abbrev pub note_deviation_of : ℕ → ℕ → NoteDeviation
note_deviation_of which n =
    cond (eqb n unnoted) note_deviation.Unknown
    (cond (eqb n (largest_deviation (eqb which 3))) note_deviation.TooLarge (note_deviation.Value n))

unfoldable pub note_deviation_in : List ℤ → ℕ → ℕ → NoteDeviation
note_deviation_in rows k which =
    cond (is_there rows k && leb which 3)
    (cond (has_note rows k) (note_deviation_of which (nat_abs (number_at rows k (13 + which)))) note_deviation.NoRecord)
    note_deviation.NotThere

-- the correlations xy, xz, xc, yz, yc and zc by 0 to 5
abbrev pub note_correlation_of : ℤ → NoteCorrelation
note_correlation_of v = cond (eqb (nat_abs v) unnoted) note_correlation.Unknown (note_correlation.Value v)

unfoldable pub note_correlation_in : List ℤ → ℕ → ℕ → NoteCorrelation
note_correlation_in rows k which =
    cond (is_there rows k && leb which 5)
    (cond (has_note rows k) (note_correlation_of (number_at rows k (17 + which))) note_correlation.NoRecord)
    note_correlation.NotThere

-- the paper's number of each answer, and the values beside it as sign and magnitude: 0 and the values, 0 alone for absent, 13 for what is not
-- there. Each answer is told apart by its second entry.
abbrev pub sign_number : Bool → ℕ
sign_number true = 1
sign_number false = 0

abbrev pub told_int : ℤ → List ℕ → List ℕ
told_int v more = sign_number (is_negative v) ∷ nat_abs v ∷ more

abbrev pub told_place : Place → List ℕ
told_place (place.At x y z) = 0 ∷ told_int x (told_int y (told_int z []))
told_place place.Absent = 0 ∷ []
told_place place.NotThere = 13 ∷ []

abbrev pub told_clock : ClockRead → List ℕ
told_clock (clock.At v) = 0 ∷ told_int v []
told_clock clock.Absent = 0 ∷ []
told_clock clock.NotThere = 13 ∷ []

abbrev pub told_exponent_read : ExponentRead → List ℕ
told_exponent_read (exponent_read.Value n) = 0 ∷ 0 ∷ n ∷ []
told_exponent_read exponent_read.Unknown = 0 ∷ 1 ∷ []
told_exponent_read exponent_read.TooLarge = 0 ∷ 2 ∷ []
told_exponent_read exponent_read.NotThere = 13 ∷ []

abbrev pub told_flag : Flag → List ℕ
told_flag flag.NotSet = 0 ∷ 0 ∷ []
told_flag flag.Set = 0 ∷ 1 ∷ []
told_flag flag.NotThere = 13 ∷ []

abbrev pub told_note : NoteMark → List ℕ
told_note note_mark.NoRecord = 0 ∷ 0 ∷ []
told_note note_mark.Stands = 0 ∷ 1 ∷ []
told_note note_mark.NotThere = 13 ∷ []

abbrev pub told_note_deviation : NoteDeviation → List ℕ
told_note_deviation (note_deviation.Value n) = 0 ∷ 0 ∷ n ∷ []
told_note_deviation note_deviation.Unknown = 0 ∷ 1 ∷ []
told_note_deviation note_deviation.TooLarge = 0 ∷ 2 ∷ []
told_note_deviation note_deviation.NoRecord = 0 ∷ 3 ∷ []
told_note_deviation note_deviation.NotThere = 13 ∷ []

abbrev pub told_note_correlation : NoteCorrelation → List ℕ
told_note_correlation (note_correlation.Value v) = 0 ∷ 0 ∷ told_int v []
told_note_correlation note_correlation.Unknown = 0 ∷ 1 ∷ []
told_note_correlation note_correlation.NoRecord = 0 ∷ 2 ∷ []
told_note_correlation note_correlation.NotThere = 13 ∷ []
