-- What reading a field finds. 01, "Lines":
-- "Integer: blanks, then at least one digit, filling the field. No sign. Leading zeros may stand."
-- "Decimal: blanks, a minus if the field allows it, at least one digit, the point, exactly the stated places, filling the field. .. Minus zero is zero."
-- "A blank number is malformed, except that a blank exponent is unknown".
-- A field is the list of its bytes, its width the length of that list; above 18 columns nothing is a field.
use Rattle.std.specs.Prelude.{List, [], ◌∷◌, Bool, true, false, cond, ◌&&◌, ℕ, ◌+◌, length, get_or, take, drop, leb, ltb, eqb, Option, Some, None}
use Rattle.field.specs.Digits.{widest, blanks_of, trim, all_digits, value_from, point_of}
use Rattle.field.specs.declared.Signed.{Signed}
use Rattle.field.specs.declared.Exponent.{Exponent}
use Rattle.field.specs.declared.Exponent.TheVariants as exponent

-- The paper's number of each answer, and the values beside it: 0 accepted, 6 malformed.

-- an integer field: its value
abbrev pub told_whole : Option ℕ → List ℕ
told_whole (Some v) = 0 ∷ v ∷ []
told_whole None = 6 ∷ []

-- a minus is 1, none is 0
abbrev pub sign_number : Bool → ℕ
sign_number true = 1
sign_number false = 0

-- a sign and a magnitude, accepted
abbrev pub some_amount : Bool → ℕ → Option Signed
some_amount negative m = Some (record { negative = negative; magnitude = m })

-- a signed integer or decimal field: the sign, then the magnitude
abbrev pub told_amount : Option Signed → List ℕ
told_amount (Some a) = 0 ∷ sign_number a.negative ∷ a.magnitude ∷ []
told_amount None = 6 ∷ []

-- an exponent field: its value; unknown is accepted, with no value, and so apart from 0
abbrev pub told_exponent : Exponent → List ℕ
told_exponent (exponent.Value v) = 0 ∷ v ∷ []
told_exponent exponent.Unknown = 0 ∷ []
told_exponent exponent.Malformed = 6 ∷ []

-- digits alone, read on from the value of those before them
unfoldable pub digits_from : ℕ → List ℕ → Option ℕ
digits_from a s = cond (all_digits s) (Some (value_from a s)) None

-- at least one digit
unfoldable pub number_of : List ℕ → Option ℕ
number_of s = cond (eqb (length s) 0) None (digits_from 0 s)

-- an integer field: blanks, then at least one digit, filling the field
unfoldable pub whole_of : List ℕ → Option ℕ
whole_of s = cond (leb (length s) widest) (number_of (trim s)) None

-- the same as number and value
abbrev pub whole_answer : List ℕ → List ℕ
whole_answer s = told_whole (whole_of s)

-- what an integer field that is not blank says of an exponent
abbrev pub as_exponent : Option ℕ → Exponent
as_exponent (Some v) = exponent.Value v
as_exponent None = exponent.Malformed

-- an exponent field: unknown where it is all blank, else an integer field
unfoldable pub exponent_of : List ℕ → Exponent
exponent_of s =
    cond (leb (length s) widest) (cond (eqb (blanks_of s) (length s)) exponent.Unknown (as_exponent (whole_of s))) exponent.Malformed

-- the same as number and value
abbrev pub exponent_answer : List ℕ → List ℕ
exponent_answer s = told_exponent (exponent_of s)

-- a minus (45) stands first, where one is allowed
unfoldable pub minus_first : Bool → List ℕ → Bool
minus_first signed s = signed && eqb (get_or s 0 0) 45

-- a number behind its sign
abbrev pub with_sign : Bool → Option ℕ → Option Signed
with_sign negative (Some v) = some_amount negative v
with_sign negative None = None

-- a minus where one is allowed, then at least one digit
unfoldable pub signed_of : Bool → List ℕ → Option Signed
signed_of signed s = cond (minus_first signed s) (with_sign true (number_of (drop 1 s))) (with_sign false (number_of s))

-- blanks, a minus where one is allowed, at least one digit
unfoldable pub integer_of : Bool → List ℕ → Option Signed
integer_of signed s = signed_of signed (trim s)

-- minus zero is zero
abbrev pub settled : Bool → ℕ → Option Signed
settled negative m = some_amount (negative && ltb 0 m) m

-- the digits after the point carry on the number before it
abbrev pub carried : Option Signed → List ℕ → Option Signed
carried (Some a) s = cond (all_digits s) (settled a.negative (value_from a.magnitude s)) None
carried None s = None

-- a signed integer field: an integer field that may have a minus before its first digit
unfoldable pub signed_whole_of : List ℕ → Option Signed
signed_whole_of s = cond (leb (length s) widest) (carried (integer_of true s) []) None

-- the same as number, sign and magnitude
abbrev pub signed_answer : List ℕ → List ℕ
signed_answer s = told_amount (signed_whole_of s)

-- a decimal field: an integer that may have a minus where one is allowed, the point (46), and exactly so many digits
unfoldable pub decimal_of : List ℕ → ℕ → Bool → Option Signed
decimal_of s places signed =
    cond (leb (length s) widest && (ltb places (length s) && eqb (get_or s (point_of places (length s)) 0) 46))
    (carried (integer_of signed (take (point_of places (length s)) s)) (drop (point_of places (length s) + 1) s))
    None

-- the same as number, sign and magnitude
abbrev pub decimal_answer : List ℕ → ℕ → Bool → List ℕ
decimal_answer s places signed = told_amount (decimal_of s places signed)
