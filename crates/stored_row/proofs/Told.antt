-- Each answer is known by its number and values: two that are told alike are one.
-- Assumes nothing.
use mathlib.Core.Path.{◌≡◌, refl}
use lib.IntN.{ℤ, pos, negsuc, nat_abs}
use Rattle.field.specs.Sign.{is_negative}
use Rattle.stored_row.specs.Stored.{sign_number, told_place, told_clock, told_exponent_read, told_flag, told_note, told_note_deviation, told_note_correlation}
use Rattle.stored_row.specs.declared.types.Place.{Place}
use Rattle.stored_row.specs.declared.types.Place.TheVariants as place
use Rattle.stored_row.specs.declared.types.ClockRead.{ClockRead}
use Rattle.stored_row.specs.declared.types.ClockRead.TheVariants as clock
use Rattle.stored_row.specs.declared.types.ExponentRead.{ExponentRead}
use Rattle.stored_row.specs.declared.types.ExponentRead.TheVariants as exponent_read
use Rattle.stored_row.specs.declared.types.Flag.{Flag}
use Rattle.stored_row.specs.declared.types.Flag.TheVariants as flag
use Rattle.stored_row.specs.declared.types.NoteMark.{NoteMark}
use Rattle.stored_row.specs.declared.types.NoteMark.TheVariants as note_mark
use Rattle.stored_row.specs.declared.types.NoteDeviation.{NoteDeviation}
use Rattle.stored_row.specs.declared.types.NoteDeviation.TheVariants as note_deviation
use Rattle.stored_row.specs.declared.types.NoteCorrelation.{NoteCorrelation}
use Rattle.stored_row.specs.declared.types.NoteCorrelation.TheVariants as note_correlation

-- a signed number is known by its sign and its magnitude
int-one : (v u : ℤ) → sign_number (is_negative v) ≡ sign_number (is_negative u) → nat_abs v ≡ nat_abs u → v ≡ u
int-one (pos n) (pos m) s e = cc
int-one (pos n) (negsuc m) s e = cc
int-one (negsuc n) (pos m) s e = cc
int-one (negsuc n) (negsuc m) s e = cc

pub told_place-one : (a b : Place) → told_place a ≡ told_place b → a ≡ b
told_place-one (place.At x y z) (place.At x' y' z') e =
    let sx : sign_number (is_negative x) ≡ sign_number (is_negative x') = cc in
    let mx : nat_abs x ≡ nat_abs x' = cc in
    let sy : sign_number (is_negative y) ≡ sign_number (is_negative y') = cc in
    let my : nat_abs y ≡ nat_abs y' = cc in
    let sz : sign_number (is_negative z) ≡ sign_number (is_negative z') = cc in
    let mz : nat_abs z ≡ nat_abs z' = cc in
    let ex : x ≡ x' = int-one x x' sx mx in
    let ey : y ≡ y' = int-one y y' sy my in
    let ez : z ≡ z' = int-one z z' sz mz in
    cc
told_place-one (place.At x y z) place.Absent e = cc
told_place-one (place.At x y z) place.NotThere e = cc
told_place-one place.Absent (place.At x y z) e = cc
told_place-one place.Absent place.Absent e = refl
told_place-one place.Absent place.NotThere e = cc
told_place-one place.NotThere (place.At x y z) e = cc
told_place-one place.NotThere place.Absent e = cc
told_place-one place.NotThere place.NotThere e = refl

pub told_clock-one : (a b : ClockRead) → told_clock a ≡ told_clock b → a ≡ b
told_clock-one (clock.At v) (clock.At u) e =
    let s : sign_number (is_negative v) ≡ sign_number (is_negative u) = cc in
    let m : nat_abs v ≡ nat_abs u = cc in
    let same : v ≡ u = int-one v u s m in
    cc
told_clock-one (clock.At v) clock.Absent e = cc
told_clock-one (clock.At v) clock.NotThere e = cc
told_clock-one clock.Absent (clock.At u) e = cc
told_clock-one clock.Absent clock.Absent e = refl
told_clock-one clock.Absent clock.NotThere e = cc
told_clock-one clock.NotThere (clock.At u) e = cc
told_clock-one clock.NotThere clock.Absent e = cc
told_clock-one clock.NotThere clock.NotThere e = refl

pub told_exponent_read-one : (a b : ExponentRead) → told_exponent_read a ≡ told_exponent_read b → a ≡ b
told_exponent_read-one (exponent_read.Value n) (exponent_read.Value m) e = cc
told_exponent_read-one (exponent_read.Value n) exponent_read.Unknown e = cc
told_exponent_read-one (exponent_read.Value n) exponent_read.TooLarge e = cc
told_exponent_read-one (exponent_read.Value n) exponent_read.NotThere e = cc
told_exponent_read-one exponent_read.Unknown (exponent_read.Value m) e = cc
told_exponent_read-one exponent_read.Unknown exponent_read.Unknown e = refl
told_exponent_read-one exponent_read.Unknown exponent_read.TooLarge e = cc
told_exponent_read-one exponent_read.Unknown exponent_read.NotThere e = cc
told_exponent_read-one exponent_read.TooLarge (exponent_read.Value m) e = cc
told_exponent_read-one exponent_read.TooLarge exponent_read.Unknown e = cc
told_exponent_read-one exponent_read.TooLarge exponent_read.TooLarge e = refl
told_exponent_read-one exponent_read.TooLarge exponent_read.NotThere e = cc
told_exponent_read-one exponent_read.NotThere (exponent_read.Value m) e = cc
told_exponent_read-one exponent_read.NotThere exponent_read.Unknown e = cc
told_exponent_read-one exponent_read.NotThere exponent_read.TooLarge e = cc
told_exponent_read-one exponent_read.NotThere exponent_read.NotThere e = refl

pub told_flag-one : (a b : Flag) → told_flag a ≡ told_flag b → a ≡ b
told_flag-one flag.Set flag.Set e = refl
told_flag-one flag.Set flag.NotSet e = cc
told_flag-one flag.Set flag.NotThere e = cc
told_flag-one flag.NotSet flag.Set e = cc
told_flag-one flag.NotSet flag.NotSet e = refl
told_flag-one flag.NotSet flag.NotThere e = cc
told_flag-one flag.NotThere flag.Set e = cc
told_flag-one flag.NotThere flag.NotSet e = cc
told_flag-one flag.NotThere flag.NotThere e = refl

pub told_note-one : (a b : NoteMark) → told_note a ≡ told_note b → a ≡ b
told_note-one note_mark.Stands note_mark.Stands e = refl
told_note-one note_mark.Stands note_mark.NoRecord e = cc
told_note-one note_mark.Stands note_mark.NotThere e = cc
told_note-one note_mark.NoRecord note_mark.Stands e = cc
told_note-one note_mark.NoRecord note_mark.NoRecord e = refl
told_note-one note_mark.NoRecord note_mark.NotThere e = cc
told_note-one note_mark.NotThere note_mark.Stands e = cc
told_note-one note_mark.NotThere note_mark.NoRecord e = cc
told_note-one note_mark.NotThere note_mark.NotThere e = refl

pub told_note_deviation-one : (a b : NoteDeviation) → told_note_deviation a ≡ told_note_deviation b → a ≡ b
told_note_deviation-one (note_deviation.Value n) (note_deviation.Value m) e = cc
told_note_deviation-one (note_deviation.Value n) note_deviation.Unknown e = cc
told_note_deviation-one (note_deviation.Value n) note_deviation.TooLarge e = cc
told_note_deviation-one (note_deviation.Value n) note_deviation.NoRecord e = cc
told_note_deviation-one (note_deviation.Value n) note_deviation.NotThere e = cc
told_note_deviation-one note_deviation.Unknown (note_deviation.Value m) e = cc
told_note_deviation-one note_deviation.Unknown note_deviation.Unknown e = refl
told_note_deviation-one note_deviation.Unknown note_deviation.TooLarge e = cc
told_note_deviation-one note_deviation.Unknown note_deviation.NoRecord e = cc
told_note_deviation-one note_deviation.Unknown note_deviation.NotThere e = cc
told_note_deviation-one note_deviation.TooLarge (note_deviation.Value m) e = cc
told_note_deviation-one note_deviation.TooLarge note_deviation.Unknown e = cc
told_note_deviation-one note_deviation.TooLarge note_deviation.TooLarge e = refl
told_note_deviation-one note_deviation.TooLarge note_deviation.NoRecord e = cc
told_note_deviation-one note_deviation.TooLarge note_deviation.NotThere e = cc
told_note_deviation-one note_deviation.NoRecord (note_deviation.Value m) e = cc
told_note_deviation-one note_deviation.NoRecord note_deviation.Unknown e = cc
told_note_deviation-one note_deviation.NoRecord note_deviation.TooLarge e = cc
told_note_deviation-one note_deviation.NoRecord note_deviation.NoRecord e = refl
told_note_deviation-one note_deviation.NoRecord note_deviation.NotThere e = cc
told_note_deviation-one note_deviation.NotThere (note_deviation.Value m) e = cc
told_note_deviation-one note_deviation.NotThere note_deviation.Unknown e = cc
told_note_deviation-one note_deviation.NotThere note_deviation.TooLarge e = cc
told_note_deviation-one note_deviation.NotThere note_deviation.NoRecord e = cc
told_note_deviation-one note_deviation.NotThere note_deviation.NotThere e = refl

pub told_note_correlation-one : (a b : NoteCorrelation) → told_note_correlation a ≡ told_note_correlation b → a ≡ b
told_note_correlation-one (note_correlation.Value v) (note_correlation.Value u) e =
    let s : sign_number (is_negative v) ≡ sign_number (is_negative u) = cc in
    let m : nat_abs v ≡ nat_abs u = cc in
    let same : v ≡ u = int-one v u s m in
    cc
told_note_correlation-one (note_correlation.Value v) note_correlation.Unknown e = cc
told_note_correlation-one (note_correlation.Value v) note_correlation.NoRecord e = cc
told_note_correlation-one (note_correlation.Value v) note_correlation.NotThere e = cc
told_note_correlation-one note_correlation.Unknown (note_correlation.Value u) e = cc
told_note_correlation-one note_correlation.Unknown note_correlation.Unknown e = refl
told_note_correlation-one note_correlation.Unknown note_correlation.NoRecord e = cc
told_note_correlation-one note_correlation.Unknown note_correlation.NotThere e = cc
told_note_correlation-one note_correlation.NoRecord (note_correlation.Value u) e = cc
told_note_correlation-one note_correlation.NoRecord note_correlation.Unknown e = cc
told_note_correlation-one note_correlation.NoRecord note_correlation.NoRecord e = refl
told_note_correlation-one note_correlation.NoRecord note_correlation.NotThere e = cc
told_note_correlation-one note_correlation.NotThere (note_correlation.Value u) e = cc
told_note_correlation-one note_correlation.NotThere note_correlation.Unknown e = cc
told_note_correlation-one note_correlation.NotThere note_correlation.NoRecord e = cc
told_note_correlation-one note_correlation.NotThere note_correlation.NotThere e = refl
