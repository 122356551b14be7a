-- The twelve cases of 01, "Cases on both sides", as one table under one statement: for each case what is found, by the definitions that the
-- promises use, and what the paper says. In an answer the number of the refusal stands first (0 for none), then the values.
-- Assumes nothing.
use mathlib.Core.Path.{◌≡◌, refl}
use mathlib.Core.Bool.{cond}
use mathlib.Core.List.{List, [], ◌∷◌, map}
use Prim.Native.Nat.{ℕ, ◌*◌}
use Prim.Native.Char.{code}
use Prim.Native.String.{String, [] as none, ◌∷◌ as ◌then◌}
use lib.Dec.{eqb}
use lib.ListN.{length, take}
use Rattle.calendar.specs.Gregorian.{leap, year_length, month_length, days_of_years, days_before, mjd_of, is_day, is_date, day_answer, date_answer}
use Rattle.calendar.specs.Clock.{second_units, is_time, time_of}
use Rattle.calendar.specs.Fraction.{agrees}
use Rattle.field.specs.Read.{sign_number, digits_from, number_of as read_number, minus_first, signed_of, integer_of, decimal_of}
use Rattle.header.specs.Rules.{d, slot_lines}
use Rattle.header.specs.Header.{is_moment, instant_of}
use Rattle.layout.specs.Fault.{key_number}
use Rattle.layout.specs.Kind.{Held, unless, fault_in, held_in, negative_in, magnitude_in}
use Rattle.layout.specs.Kind.Kind.{signed}
use Rattle.lines.specs.Lines.{lines_of}
use Rattle.record.specs.Agrees.{instant_in, second_agrees}
use Rattle.scan.specs.Run.{run, whole_front}
use Rattle.reader.specs.Reading.{judged, file_of}
use Rattle.header.specs.declared.types.Moment.{Moment}
use Rattle.record.specs.declared.types.Second.{Second}
use Rattle.reader.specs.declared.types.Reading.{Reading}

-- what is found, and what the paper says
pub record Case : Type 0 where
  pub found : List ℕ
  pub paper : List ℕ

abbrev pub case : List ℕ → List ℕ → Case
case found paper = record { found = found; paper = paper }

-- the bytes of a text
abbrev pub bytes_of : String → List ℕ
bytes_of none = []
bytes_of (c then s) = code c ∷ bytes_of s

-- a field of x, y or z, as it stands in columns 5 to 18 of a P line: the number of its fault, or 0, the sign (1 for a minus) and the magnitude
abbrev pub held_answer : Held → List ℕ
held_answer v = 0 ∷ sign_number (negative_in v) ∷ magnitude_in v ∷ []

abbrev pub field_answer : List ℕ → List ℕ
field_answer s = cond (eqb (fault_in (signed 6) 5 s) 0) (held_answer (held_in (signed 6) s)) (key_number (fault_in (signed 6) 5 s) ∷ [])

-- line 2 of a file that starts at 2013-04-03 00:00:01, right but for its fraction of day, and the number that it earns
abbrev pub start : Moment
start = record { year = 2013; month = 4; day = 3; hour = 0; minute = 0; second8 = second_units }

abbrev pub second : ℕ → Second
second fraction =
    record { fault = 0; week = 1734; seconds8 = 259_201 * second_units; interval8 = 900 * second_units; mjd = 56385; fraction13 = fraction }

abbrev pub fraction_answer : ℕ → ℕ
fraction_answer fraction = key_number (unless (second_agrees (instant_in start) (second fraction)) 8 0)

-- the refusal and its line
abbrev pub refusal_of : Reading → List ℕ
refusal_of r = r.refusal ∷ r.line ∷ []

-- 1 to 5: dates, with MJD, week and seconds of week. 6 to 9: fields. 10: `+ ` lines for n satellites. 11: fractions. 12: no bytes.
unfoldable pub cases : List Case
cases =
    case (date_answer 2013 4 3) (0 ∷ 56385 ∷ 1734 ∷ 259_200 ∷ [])
    ∷ case (date_answer 2012 10 1) (0 ∷ 56201 ∷ 1708 ∷ 86_400 ∷ [])
    ∷ case (date_answer 1980 1 6) (0 ∷ 44244 ∷ 0 ∷ 0 ∷ [])
    ∷ case (take 2 (date_answer 2000 2 29)) (0 ∷ 51603 ∷ [])
    ∷ case (date_answer 2001 2 29) (7 ∷ [])
    ∷ case (field_answer (bytes_of "     -0.500000")) (0 ∷ 1 ∷ 500_000 ∷ [])
    ∷ case (field_answer (bytes_of "     -0.000000")) (0 ∷ 0 ∷ 0 ∷ [])
    ∷ case (field_answer (bytes_of "1000000.000000")) (7 ∷ [])
    ∷ case (field_answer (bytes_of "       .500000")) (6 ∷ [])
    ∷ case (slot_lines 85 ∷ slot_lines 86 ∷ slot_lines 255 ∷ []) (5 ∷ 6 ∷ 15 ∷ [])
    ∷ case (fraction_answer 115_740_740 ∷ fraction_answer 115_740_741 ∷ fraction_answer 115_740_742 ∷ []) (0 ∷ 0 ∷ 8 ∷ [])
    ∷ case (refusal_of (judged d [] (file_of d []))) (1 ∷ 1 ∷ [])
    ∷ []

-- THE TWELVE CASES: in each what is found is what the paper says.
pub twelve-cases : (length cases ≡ 12) × (map (λ (c : Case). c.found) cases ≡ map (λ (c : Case). c.paper) cases)
unfolding cases date_answer is_date is_day leap month_length mjd_of days_of_years year_length days_before day_answer decimal_of integer_of signed_of minus_first read_number digits_from slot_lines second_agrees agrees instant_in is_moment is_time instant_of time_of judged whole_front run lines_of
twelve-cases = (refl, refl)
