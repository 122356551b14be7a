-- What is absent, unknown or too large. 01, "Records in order": "A place or velocity is absent exactly when all three are zero. A clock or
-- rate is absent exactly at +999,999,999,999. An exponent of 99 (or 999 for the clock) means too large; unknown is apart from 0."
-- So of the numbers that a row holds; which clocks of a line are held so is 02, Ask 3 (`Rows.clock_field_in`, `six_nines_in`).
use Rattle.std.specs.Prelude.{Bool, true, false, not, ◌&&◌, ℕ, eqb}
use Rattle.field.specs.Sign.{largest}
use Rattle.layout.specs.Kind.{unknown}

-- a place or velocity, by the magnitudes of x, y and z
abbrev pub place_absent : ℕ → ℕ → ℕ → Bool
place_absent x y z = eqb x 0 && (eqb y 0 && eqb z 0)

-- a clock or rate, by its sign and magnitude: twelve nines with no minus
abbrev pub clock_absent : Bool → ℕ → Bool
clock_absent negative magnitude = not negative && eqb magnitude largest

-- an exponent that is not known
abbrev pub is_unknown : ℕ → Bool
is_unknown exponent = eqb exponent unknown

-- a deviation too large for its exponent: 999 of the clock, 99 of x, y and z
abbrev pub largest_exponent : Bool → ℕ
largest_exponent true = 999
largest_exponent false = 99

abbrev pub is_too_large : Bool → ℕ → Bool
is_too_large clock exponent = eqb exponent (largest_exponent clock)
