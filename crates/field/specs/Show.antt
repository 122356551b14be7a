-- The canonical text of a number in a field: blanks, a minus, the digits. 01, "The canonical form": "no leading zeros but one digit before
-- a point". What does not fit its columns is not written, and the lent columns stay as they were.
use Rattle.std.specs.Prelude.{List, [], ◌∷◌, ◌++◌, Bool, true, false, cond, ◌&&◌, ℕ, zero, suc, ◌+◌, ◌-◌, ◌/◌, ◌%◌, ◌^◌, length, set, leb, ltb}
use Rattle.laws.specs.Texts.{blanks}
use Rattle.field.specs.Digits.{widest, point_of}
use Rattle.field.specs.declared.Exponent.{Exponent}
use Rattle.field.specs.declared.Exponent.TheVariants as exponent

-- the byte of the last digit
abbrev pub last_digit : ℕ → ℕ
last_digit v = 48 + v % 10

-- the digits of v without leading zeros, the n lowest at most
abbrev pub digits_in : ℕ → ℕ → List ℕ
digits_in zero v = []
digits_in (suc n) v = cond (ltb v 10) (last_digit v ∷ []) (digits_in n (v / 10) ++ (last_digit v ∷ []))

-- how many digits v has, for v below 10 ^ 20
abbrev pub digit_count : ℕ → ℕ
digit_count v = length (digits_in 20 v)

-- the n lowest digits of v, zeros too
abbrev pub fixed_digits : ℕ → ℕ → List ℕ
fixed_digits zero v = []
fixed_digits (suc n) v = fixed_digits n (v / 10) ++ (last_digit v ∷ [])

-- text at the right of w columns
abbrev pub justified : ℕ → List ℕ → List ℕ
justified w text = blanks (w - length text) ++ text

-- the minus (45), or nothing
abbrev pub minus_text : Bool → List ℕ
minus_text true = 45 ∷ []
minus_text false = []

-- the columns that it takes
abbrev pub sign_width : Bool → ℕ
sign_width negative = length (minus_text negative)

-- minus zero has no minus
abbrev pub shown_negative : Bool → ℕ → Bool
shown_negative negative m = negative && ltb 0 m

-- what is written: the text where it fits, else what was there
abbrev pub written : Bool → List ℕ → List ℕ → List ℕ
written fits text out = cond fits text out

-- digits in w columns, with a minus before them or none
unfoldable pub show_integer : ℕ → Bool → ℕ → List ℕ
show_integer w negative v = justified w (minus_text negative ++ digits_in w v)

-- they fit where the columns past the minus are as many as the digits, and one at least
unfoldable pub fits_integer : ℕ → Bool → ℕ → Bool
fits_integer w negative v = leb w widest && (ltb (sign_width negative) w && ltb v (10 ^ (w - sign_width negative)))

-- an integer field: its text, whether it fits, and what is written
abbrev pub show_whole : ℕ → ℕ → List ℕ
show_whole w v = show_integer w false v

abbrev pub fits_whole : ℕ → ℕ → Bool
fits_whole w v = fits_integer w false v

abbrev pub put_whole : ℕ → List ℕ → List ℕ
put_whole v out = written (fits_whole (length out) v) (show_whole (length out) v) out

-- a signed integer field: the same
abbrev pub show_signed : ℕ → Bool → ℕ → List ℕ
show_signed w negative m = show_integer w (shown_negative negative m) m

abbrev pub fits_signed : ℕ → Bool → ℕ → Bool
fits_signed w negative m = fits_integer w (shown_negative negative m) m

abbrev pub put_signed : Bool → ℕ → List ℕ → List ℕ
put_signed negative m out = written (fits_signed (length out) negative m) (show_signed (length out) negative m) out

-- an exponent field: the same; unknown is blank, and malformed is nothing that can be shown
abbrev pub show_exponent : ℕ → Exponent → List ℕ
show_exponent w (exponent.Value v) = show_whole w v
show_exponent w exponent.Unknown = blanks w
show_exponent w exponent.Malformed = []

abbrev pub fits_exponent : ℕ → Exponent → Bool
fits_exponent w (exponent.Value v) = fits_whole w v
fits_exponent w exponent.Unknown = leb w widest
fits_exponent w exponent.Malformed = false

abbrev pub put_exponent : Exponent → List ℕ → List ℕ
put_exponent e out = written (fits_exponent (length out) e) (show_exponent (length out) e) out

-- the point (46), and so many digits after it
abbrev pub point_text : ℕ → ℕ → List ℕ
point_text places m = 46 ∷ fixed_digits places m

-- a decimal field: the number's whole part before the point, and its places after it
unfoldable pub show_decimal : ℕ → ℕ → Bool → ℕ → List ℕ
show_decimal w places negative m = show_integer (point_of places w) (shown_negative negative m) (m / 10 ^ places) ++ point_text places m

-- it fits where the places and the point have their columns and its whole part fits before them
unfoldable pub fits_decimal : ℕ → ℕ → Bool → ℕ → Bool
fits_decimal w places negative m =
    leb w widest && (ltb places w && fits_integer (point_of places w) (shown_negative negative m) (m / 10 ^ places))

-- what is written of it
abbrev pub put_decimal : ℕ → Bool → ℕ → List ℕ → List ℕ
put_decimal places negative m out =
    written (fits_decimal (length out) places negative m) (show_decimal (length out) places negative m) out

-- A step of the writers: w columns of blanks, the last of them the minus if there is one.
abbrev pub front_text : ℕ → Bool → List ℕ
front_text w negative = cond negative (set (blanks w) (w - 1) 45) (blanks w)
