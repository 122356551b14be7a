-- The kinds of fields: which fault a field's bytes have, what they hold, and how that is shown in the field's columns.
-- 01, "Lines": "Each field is judged from its own columns"; "Records in order" and "Numbers of the answers" give the numbers:
-- 5 "an unused column isn't blank, or a placeholder (rules 5 and 6) isn't all `c` or a well-formed zero"; 6 "a field is malformed, or a
-- letter, file type (two columns) or time system isn't listed"; 7 "a number or date is outside its bounds, 00 in an identifier too";
-- 8 "a slot after n isn't `  0`".
use Rattle.std.specs.Prelude.{Bool, true, false, cond, not, ◌&&◌, ◌||◌, List, [], ◌∷◌, ◌++◌, ℕ, suc, ◌+◌, ◌-◌, ◌*◌, ◌/◌, ◌%◌, ◌^◌, length, get_or, take, drop, leb, ltb, eqb}
use Rattle.std.specs.List.{list_any}
use lib.Pointwise.{pointwise}
use Rattle.laws.specs.Tests.{within}
use Rattle.laws.specs.Texts.{every, is_printable, blanks}
use Rattle.field.specs.Digits.{is_digit}
pub use Rattle.field.specs.Digits.{is_blank}
use Rattle.field.specs.Read.{whole_of, exponent_of, signed_whole_of, decimal_of}
use Rattle.field.specs.Clock.{clock_of, clock_kept}
use Rattle.field.specs.Show.{fits_whole, put_whole, fits_signed, put_signed, fits_decimal, put_decimal}
use Rattle.field.specs.Sign.{largest}
use Rattle.layout.specs.Fault.{clean, keyed}
use Rattle.field.specs.declared.Exponent.{Exponent}
use Rattle.field.specs.declared.Exponent.TheVariants as exponents
use Rattle.std.specs.Prelude.{Option, Some, None}
use Rattle.field.specs.declared.Signed.{Signed}

-- what a field's columns can be
pub data Kind : Type 0 where
  -- unused columns, which are blank
  unused : Kind
  -- these bytes and no others, and the number that others earn: a record's symbol (4), a placeholder of `c` (5)
  fixed : (number : ℕ) (these : List ℕ) → Kind
  -- a whole number within its bounds
  whole : (low high : ℕ) → Kind
  -- a decimal with no minus, within its bounds, in units of its last place
  decimal : (places low high : ℕ) → Kind
  -- a decimal that may have a minus, of a magnitude up to twelve nines: x, y, z
  signed : (places : ℕ) → Kind
  -- the clock and its rate: such a decimal, or absent, which is held as twelve nines
  clock : (places : ℕ) → Kind
  -- a whole number, or blank for unknown, which is held as this number
  maybe : (none : ℕ) → Kind
  -- a whole number that may have a minus, of a magnitude up to this, or blank for unknown, which is held as this magnitude
  maybe_signed : (none high : ℕ) → Kind
  -- one column: this letter or blank
  flag : (sign : ℕ) → Kind
  -- one of these letters, and blanks after it
  letter : (these : List ℕ) → Kind
  -- one of these words
  listed : (these : List (List ℕ)) → Kind
  -- a capital letter and a number from 01 to 99
  identifier : Kind
  -- a slot after the last satellite
  filler : Kind
  -- a placeholder of zero: a whole number, a decimal
  zero_whole : Kind
  zero_decimal : (places : ℕ) → Kind
  -- text, kept as it stands
  text : Kind

-- what a field holds
pub data Held : Type 0 where
  nothing : Held
  one : (n : ℕ) → Held
  amount : (negative : Bool) (m : ℕ) → Held
  mark : (set : Bool) → Held
  words : (bytes : List ℕ) → Held

-- the number that is held, or 0
abbrev pub number_in : Held → ℕ
number_in nothing = 0
number_in (one n) = n
number_in (amount negative m) = 0
number_in (mark set) = 0
number_in (words bytes) = 0

-- the sign that is held
abbrev pub negative_in : Held → Bool
negative_in nothing = false
negative_in (one n) = false
negative_in (amount negative m) = negative
negative_in (mark set) = false
negative_in (words bytes) = false

-- the magnitude that is held
abbrev pub magnitude_in : Held → ℕ
magnitude_in nothing = 0
magnitude_in (one n) = 0
magnitude_in (amount negative m) = m
magnitude_in (mark set) = 0
magnitude_in (words bytes) = 0

-- whether a mark is held that is set
abbrev pub mark_in : Held → Bool
mark_in nothing = false
mark_in (one n) = false
mark_in (amount negative m) = false
mark_in (mark set) = set
mark_in (words bytes) = false

-- the text that is held
abbrev pub words_in : Held → List ℕ
words_in nothing = []
words_in (one n) = []
words_in (amount negative m) = []
words_in (mark set) = []
words_in (words bytes) = bytes

-- nothing is held
abbrev pub is_nothing : Held → Bool
is_nothing nothing = true
is_nothing (one n) = false
is_nothing (amount negative m) = false
is_nothing (mark set) = false
is_nothing (words bytes) = false

-- the number that stands for an unknown exponent: no exponent of three columns has it
abbrev pub unknown : ℕ
unknown = 1000

-- an exponent of a row
abbrev pub exponent : Kind
exponent = maybe unknown

-- the number that stands for an unknown deviation or correlation: no field of eight columns has it
abbrev pub unnoted : ℕ
unnoted = 100_000_000

-- every byte is 32 to 126
abbrev pub printable : List ℕ → Bool
printable bs = every is_printable bs

-- The faults. Each takes the column that it names.

-- the first column that is not blank, from the column at on
abbrev pub unused_fault : ℕ → List ℕ → ℕ
unused_fault at [] = clean
unused_fault at (b ∷ bs) = cond (eqb b 32) (unused_fault (suc at) bs) (keyed 5 at)

-- the same bytes, as many
abbrev pub same_bytes : List ℕ → List ℕ → Bool
same_bytes bs these = pointwise eqb bs these

-- one of these letters
abbrev pub is_one_of : ℕ → List ℕ → Bool
is_one_of b these = list_any (eqb b) these

-- one of these words
abbrev pub is_listed : List ℕ → List (List ℕ) → Bool
is_listed bs these = list_any (same_bytes bs) these

-- one of these letters, and blanks after it
abbrev pub is_lettered : List ℕ → List ℕ → Bool
is_lettered bs these = is_one_of (get_or bs 0 0) these && every is_blank (drop 1 bs)

-- no fault where a test passes, else this number at this column
abbrev pub unless : Bool → ℕ → ℕ → ℕ
unless passed number column = cond passed clean (keyed number column)

-- a number that was read, and its bounds
abbrev pub bound_fault : ℕ → ℕ → ℕ → ℕ → ℕ
bound_fault column low high n = unless (within low high n) 7 column

-- a whole number within its bounds
abbrev pub whole_fault : ℕ → ℕ → ℕ → Option ℕ → ℕ
whole_fault column low high (Some n) = bound_fault column low high n
whole_fault column low high None = keyed 6 column

-- a decimal within its bounds
abbrev pub amount_fault : ℕ → ℕ → ℕ → Option Signed → ℕ
amount_fault column low high (Some held) = bound_fault column low high held.magnitude
amount_fault column low high None = keyed 6 column

-- an exponent
abbrev pub exponent_fault : ℕ → Exponent → ℕ
exponent_fault column (exponents.Value n) = clean
exponent_fault column exponents.Unknown = clean
exponent_fault column exponents.Malformed = keyed 6 column

-- a placeholder of zero
abbrev pub is_zero : Option ℕ → Bool
is_zero (Some n) = eqb n 0
is_zero None = false

abbrev pub is_zeros : Option Signed → Bool
is_zeros (Some held) = eqb held.magnitude 0
is_zeros None = false

-- an identifier's letter and digits
abbrev pub named : List ℕ → Bool
named bs = within 65 90 (get_or bs 0 0) && (is_digit (get_or bs 1 0) && is_digit (get_or bs 2 0))

-- its two digits as a number
abbrev pub identifier_number : List ℕ → ℕ
identifier_number bs = (get_or bs 1 0 - 48) * 10 + (get_or bs 2 0 - 48)

-- the whole as one number, the letter's byte times 100 and the number: G07 is 7107
abbrev pub identifier_code : List ℕ → ℕ
identifier_code bs = get_or bs 0 0 * 100 + identifier_number bs

-- a slot after the last satellite holds `  0`
abbrev pub zero_slot : List ℕ
zero_slot = 32 ∷ 32 ∷ 48 ∷ []

-- the fault that a field's bytes have by themselves, at the column that it names
abbrev pub fault_in : Kind → ℕ → List ℕ → ℕ
fault_in unused column bs = unused_fault column bs
fault_in (fixed number these) column bs = unless (same_bytes bs these) number column
fault_in (whole low high) column bs = whole_fault column low high (whole_of bs)
fault_in (decimal places low high) column bs = amount_fault column low high (decimal_of bs places false)
fault_in (signed places) column bs = amount_fault column 0 largest (decimal_of bs places true)
fault_in (clock places) column bs = amount_fault column 0 largest (clock_of bs places)
fault_in (maybe none) column bs = exponent_fault column (exponent_of bs)
fault_in (maybe_signed none high) column bs = cond (every is_blank bs) clean (amount_fault column 0 high (signed_whole_of bs))
fault_in (flag sign) column bs = unless (eqb (get_or bs 0 0) sign || eqb (get_or bs 0 0) 32) 6 column
fault_in (letter these) column bs = unless (is_lettered bs these) 6 column
fault_in (listed these) column bs = unless (is_listed bs these) 6 column
fault_in identifier column bs = cond (named bs) (bound_fault column 1 99 (identifier_number bs)) (keyed 6 column)
fault_in filler column bs = unless (same_bytes bs zero_slot) 8 column
fault_in zero_whole column bs = unless (is_zero (whole_of bs)) 5 column
fault_in (zero_decimal places) column bs = unless (is_zeros (decimal_of bs places false)) 5 column
fault_in text column bs = clean

-- The values. What is malformed holds 0.

abbrev pub whole_held : Option ℕ → ℕ
whole_held (Some n) = n
whole_held None = 0

abbrev pub amount_held : Option Signed → ℕ
amount_held (Some held) = held.magnitude
amount_held None = 0

abbrev pub sign_held : Option Signed → Bool
sign_held (Some held) = held.negative
sign_held None = false

abbrev pub maybe_held : ℕ → Exponent → ℕ
maybe_held none (exponents.Value n) = n
maybe_held none exponents.Unknown = none
maybe_held none exponents.Malformed = 0

abbrev pub exponent_held : Exponent → ℕ
exponent_held e = maybe_held unknown e

-- a sign and a magnitude
abbrev pub held_amount : Option Signed → Held
held_amount a = amount (sign_held a) (amount_held a)

-- what a field's bytes hold
abbrev pub held_in : Kind → List ℕ → Held
held_in unused bs = nothing
held_in (fixed number these) bs = nothing
held_in (whole low high) bs = one (whole_held (whole_of bs))
held_in (decimal places low high) bs = one (amount_held (decimal_of bs places false))
held_in (signed places) bs = held_amount (decimal_of bs places true)
held_in (clock places) bs = held_amount (clock_of bs places)
held_in (maybe none) bs = one (maybe_held none (exponent_of bs))
held_in (maybe_signed none high) bs = cond (every is_blank bs) (amount false none) (held_amount (signed_whole_of bs))
held_in (flag sign) bs = mark (eqb (get_or bs 0 0) sign)
held_in (letter these) bs = one (get_or bs 0 0)
held_in (listed these) bs = words bs
held_in identifier bs = one (cond (named bs) (identifier_code bs) 0)
held_in filler bs = one 0
held_in zero_whole bs = nothing
held_in (zero_decimal places) bs = nothing
held_in text bs = words bs

-- a kind that never holds anything
abbrev pub silent : Kind → Bool
silent kind = is_nothing (held_in kind [])

-- an identifier by its number: the letter, which is a byte below 128, and two digits
abbrev pub show_identifier : ℕ → List ℕ
show_identifier code = (code / 10 / 10 % 128) ∷ (48 + code / 10 % 10) ∷ (48 + code % 10) ∷ []

-- a text in w columns
abbrev pub shown_text : ℕ → List ℕ → List ℕ
shown_text w bytes = take w (bytes ++ blanks w)

-- what a field holds, shown in w columns; a number that does not fit its columns leaves them blank
abbrev pub shown_in : Kind → ℕ → Held → List ℕ
shown_in unused w v = blanks w
shown_in (fixed number these) w v = these
shown_in (whole low high) w v = put_whole (number_in v) (blanks w)
shown_in (decimal places low high) w v = put_decimal places false (number_in v) (blanks w)
shown_in (signed places) w v = put_decimal places (negative_in v) (magnitude_in v) (blanks w)
shown_in (clock places) w v = put_decimal places (negative_in v) (magnitude_in v) (blanks w)
shown_in (maybe none) w v = cond (eqb (number_in v) none) (blanks w) (put_whole (number_in v) (blanks w))
shown_in (maybe_signed none high) w v = cond (eqb (magnitude_in v) none) (blanks w) (put_signed (negative_in v) (magnitude_in v) (blanks w))
shown_in (flag sign) w v = cond (mark_in v) sign 32 ∷ []
shown_in (letter these) w v = shown_text w (number_in v ∷ [])
shown_in (listed these) w v = shown_text w (words_in v)
shown_in identifier w v = show_identifier (number_in v)
shown_in filler w v = zero_slot
shown_in zero_whole w v = put_whole 0 (blanks w)
shown_in (zero_decimal places) w v = put_decimal places false 0 (blanks w)
shown_in text w v = shown_text w (words_in v)

-- every word is printable and has w columns
abbrev pub words_fit : ℕ → List (List ℕ) → Bool
words_fit w [] = true
words_fit w (word ∷ these) = (eqb (length word) w && printable word) && words_fit w these

-- the widths that a kind can have
abbrev pub fits_in : Kind → ℕ → Bool
fits_in unused w = true
fits_in (fixed number these) w = eqb (length these) w && ltb 0 number
fits_in (whole low high) w = true
fits_in (decimal places low high) w = true
fits_in (signed places) w = true
fits_in (clock places) w = true
fits_in (maybe none) w = leb w 18 && leb (10 ^ w) none
fits_in (maybe_signed none high) w = leb w 18 && ltb high none
fits_in (flag sign) w = eqb w 1 && (ltb 32 sign && leb sign 126)
fits_in (letter these) w = leb 1 w && printable these
fits_in (listed these) w = words_fit w these
fits_in identifier w = eqb w 3
fits_in filler w = eqb w 3
fits_in zero_whole w = fits_whole w 0
fits_in (zero_decimal places) w = fits_decimal w places false 0
fits_in text w = true

-- a number, a sign and magnitude, a text that passes a test
abbrev pub number_with : (ℕ → Bool) → Held → Bool
number_with test nothing = false
number_with test (one n) = test n
number_with test (amount negative m) = false
number_with test (mark set) = false
number_with test (words bytes) = false

abbrev pub amount_with : (Bool → ℕ → Bool) → Held → Bool
amount_with test nothing = false
amount_with test (one n) = false
amount_with test (amount negative m) = test negative m
amount_with test (mark set) = false
amount_with test (words bytes) = false

abbrev pub words_with : (List ℕ → Bool) → Held → Bool
words_with test nothing = false
words_with test (one n) = false
words_with test (amount negative m) = false
words_with test (mark set) = false
words_with test (words bytes) = test bytes

-- a mark
abbrev pub is_mark : Held → Bool
is_mark nothing = false
is_mark (one n) = false
is_mark (amount negative m) = false
is_mark (mark set) = true
is_mark (words bytes) = false

-- the letter of an identifier is a capital, and its number is not 0
abbrev pub is_identifier : ℕ → Bool
is_identifier code = within 65 90 (code / 10 / 10) && ltb 0 (code / 10 % 10 * 10 + code % 10)

-- a magnitude within its bound that fits its columns, and no minus zero
abbrev pub can_amount : ℕ → ℕ → Bool → ℕ → Bool
can_amount w places negative m = leb m largest && (fits_decimal w places negative m && (not negative || ltb 0 m))

-- the same of a clock, of which six nines with no minus are all nines
abbrev pub can_clock : ℕ → ℕ → Bool → ℕ → Bool
can_clock w places negative m = can_amount w places negative m && clock_kept places negative m

-- unknown, or a magnitude within its bound that fits its columns, and no minus zero
abbrev pub can_signed : ℕ → ℕ → ℕ → Bool → ℕ → Bool
can_signed w none high negative m = cond (eqb m none) (not negative) (leb m high && (fits_signed w negative m && (not negative || ltb 0 m)))

-- what a field of w columns can hold
abbrev pub holds_in : Kind → ℕ → Held → Bool
holds_in unused w v = is_nothing v
holds_in (fixed number these) w v = is_nothing v && printable these
holds_in (whole low high) w v = number_with (λ n. within low high n && fits_whole w n) v
holds_in (decimal places low high) w v = number_with (λ m. within low high m && fits_decimal w places false m) v
holds_in (signed places) w v = amount_with (can_amount w places) v
holds_in (clock places) w v = amount_with (can_clock w places) v
holds_in (maybe none) w v = number_with (λ n. eqb n none || fits_whole w n) v
holds_in (maybe_signed none high) w v = amount_with (can_signed w none high) v
holds_in (flag sign) w v = is_mark v
holds_in (letter these) w v = number_with (λ b. is_one_of b these) v
holds_in (listed these) w v = words_with (λ bytes. is_listed bytes these) v
holds_in identifier w v = number_with is_identifier v
holds_in filler w v = number_with (λ n. eqb n 0) v
holds_in zero_whole w v = is_nothing v
holds_in (zero_decimal places) w v = is_nothing v
holds_in text w v = words_with (λ bytes. eqb (length bytes) w && printable bytes) v

-- unused columns
abbrev pub is_unused : Kind → Bool
is_unused unused = true
is_unused (fixed number these) = false
is_unused (whole low high) = false
is_unused (decimal places low high) = false
is_unused (signed places) = false
is_unused (clock places) = false
is_unused (maybe none) = false
is_unused (maybe_signed none high) = false
is_unused (flag sign) = false
is_unused (letter these) = false
is_unused (listed these) = false
is_unused identifier = false
is_unused filler = false
is_unused zero_whole = false
is_unused (zero_decimal places) = false
is_unused text = false

-- kinds whose bytes may end in blanks after others: a line may end within their columns. All others fill their last column, or are blank
abbrev pub may_end_blank : Kind → Bool
may_end_blank unused = false
may_end_blank (fixed number these) = true
may_end_blank (whole low high) = false
may_end_blank (decimal places low high) = false
may_end_blank (signed places) = false
may_end_blank (clock places) = false
may_end_blank (maybe none) = false
may_end_blank (maybe_signed none high) = false
may_end_blank (flag sign) = false
may_end_blank (letter these) = true
may_end_blank (listed these) = true
may_end_blank identifier = false
may_end_blank filler = false
may_end_blank zero_whole = false
may_end_blank (zero_decimal places) = false
may_end_blank text = true
