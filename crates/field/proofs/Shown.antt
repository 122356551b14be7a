-- A shown text fills its field, with bytes that a line may have.
-- Assumes nothing.
use mathlib.Core.Path.{◌≡◌, refl}
use mathlib.Core.List.{List, ◌∷◌, ◌++◌}
use mathlib.Core.Bool.{Bool, true, false}
use Prim.Native.Nat.{ℕ, ◌-◌, ◌/◌, ◌^◌}
use lib.ListN.{length, length-replicate}
use Rattle.laws.specs.Texts.{every, is_printable, blanks}
use Rattle.field.specs.Digits.{is_digit, all_digits, point_of}
use Rattle.field.specs.Show.{digits_in, fixed_digits, minus_text, shown_negative, show_integer, show_exponent, fits_exponent, show_decimal}
use Rattle.field.specs.declared.Exponent.{Exponent}
use Rattle.field.specs.declared.Exponent.TheVariants as exponent
use Rattle.laws.proofs.Lists.{every_append, every-replicate, every-weaken}
use Rattle.field.proofs.Texts.{digits-all, fixed-all, digit-printable}
use Rattle.field.proofs.Back.{integer-length}

minus-printable : (n : Bool) → every is_printable (minus_text n) ≡ true
minus-printable true = refl
minus-printable false = refl

digits-printable : (s : List ℕ) → all_digits s ≡ true → every is_printable s ≡ true
digits-printable s e = every-weaken is_digit is_printable digit-printable s e

-- integer fields, with a sign or without
pub integer-printable : (w : ℕ) (negative : Bool) (v : ℕ) → every is_printable (show_integer w negative v) ≡ true
unfolding show_integer
integer-printable w negative v =
    let text = minus_text negative ++ digits_in w v in
    every_append is_printable (blanks (w - length text)) text
    (every-replicate is_printable (w - length text) 32 refl)
    (every_append is_printable (minus_text negative) (digits_in w v) (minus-printable negative) (digits-printable (digits_in w v) (digits-all w v)))

pub exponent-printable : (w : ℕ) (e : Exponent) → every is_printable (show_exponent w e) ≡ true
exponent-printable w (exponent.Value v) = integer-printable w false v
exponent-printable w exponent.Unknown = every-replicate is_printable w 32 refl
exponent-printable w exponent.Malformed = refl

pub exponent-length : (w : ℕ) (e : Exponent) → fits_exponent w e ≡ true → length (show_exponent w e) ≡ w
exponent-length w (exponent.Value v) fits = integer-length w false v fits
exponent-length w exponent.Unknown fits = length-replicate w 32
exponent-length w exponent.Malformed fits = cc

pub decimal-printable : (w places : ℕ) (negative : Bool) (m : ℕ) → every is_printable (show_decimal w places negative m) ≡ true
unfolding show_decimal
decimal-printable w places negative m =
    every_append is_printable (show_integer (point_of places w) (shown_negative negative m) (m / 10 ^ places)) (46 ∷ fixed_digits places m)
    (integer-printable (point_of places w) (shown_negative negative m) (m / 10 ^ places))
    (digits-printable (fixed_digits places m) (fixed-all places m))
