-- What a line must agree with besides its own columns. 01, "Numbers of the answers": 8 "line 2 disagrees with the start; .. an identifier
-- repeats; the file type disagrees"; and the instant of a date and time, by which 9 is told.
use Rattle.std.specs.Prelude.{Bool, false, cond, ◌&&◌, ◌||◌, List, [], ◌∷◌, ◌++◌, ℕ, ◌+◌, ◌-◌, ◌*◌, ◌/◌, ◌%◌, eqb}
use Rattle.laws.specs.Tests.{within}
use Rattle.laws.specs.Texts.{every}
use Rattle.calendar.specs.Gregorian.{first_mjd, last_mjd}
use Rattle.calendar.specs.Clock.{day_units}
use Rattle.calendar.specs.Fraction.{agrees}
use Rattle.header.specs.Header.{is_moment, instant_of}
use Rattle.layout.specs.Kind.{is_one_of}
use Rattle.header.specs.declared.types.Moment.{Moment}
use Rattle.record.specs.declared.types.Second.{Second}

-- the instant of a date and time in 10^-8 s since MJD 0, or 0 where there is none
unfoldable pub instant_in : Moment → ℕ
instant_in m = cond (is_moment m) (instant_of m) 0

-- line 2 and the start. "With D = MJD of the start date and S = its time of day in 10^-8 s: week = (D − 44244) / 7 rounded down; seconds of
-- week = 86,400 times the remainder, plus the time of day. For the fraction F in 10^-13 day, 108·F and 125·S differ by less than 108."
abbrev pub week_agrees : ℕ → ℕ → Second → Bool
week_agrees day time s =
    within first_mjd last_mjd day
    && (eqb ((day - first_mjd) / 7) s.week && eqb ((day - first_mjd) % 7 * day_units + time) s.seconds8)

unfoldable pub second_agrees : ℕ → Second → Bool
second_agrees start8 s =
    week_agrees (start8 / day_units) (start8 % day_units) s
    && (eqb (start8 / day_units) s.mjd && agrees s.fraction13 (start8 % day_units))

-- one of the new identifiers stands among those known or earlier among the new
unfoldable pub repeats : List ℕ → List ℕ → Bool
repeats known [] = false
repeats known (identifier ∷ identifiers) = is_one_of identifier known || repeats (known ++ (identifier ∷ [])) identifiers

-- the letter of an identifier that is held as one number
abbrev pub letter_of : ℕ → ℕ
letter_of identifier = identifier / 100

-- "A type other than M needs all identifiers to begin with it."
unfoldable pub type_agrees : ℕ → List ℕ → Bool
type_agrees file_type identifiers = eqb file_type 77 || every (λ identifier. eqb (letter_of identifier) file_type) identifiers
