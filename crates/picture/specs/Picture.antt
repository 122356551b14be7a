-- P lines of the usual kind, told column by column, each column with the byte before it. Most rows of a file are such lines. No answer is defined by
-- this: a usual line has no fault by the columns of 01 (`usual-clean`), and any other line is judged field by field.
use Rattle.std.specs.Prelude.{Bool, not, ◌&&◌, ◌||◌, List, [], ◌∷◌, ◌++◌, ℕ, ◌+◌, eqb, length, get_or}
use Rattle.laws.specs.Tests.{within, every_below}

-- the picture of a column: the bytes from low to high may stand there, and two others after a blank
pub record Picture : Type 0 where
  pub low : ℕ
  pub high : ℕ
  pub also : ℕ
  pub sign : ℕ

-- q may stand in such a column after p
abbrev pub fits_column : ℕ → ℕ → ℕ → ℕ → ℕ → ℕ → Bool
fits_column low high also sign p q = within low high q || (eqb p 32 && (eqb q also || eqb q sign))

-- a capital letter; a digit; the point; a blank
abbrev pub letter : Picture
letter = record { low = 65; high = 90; also = 65; sign = 65 }

abbrev pub digit : Picture
digit = record { low = 48; high = 57; also = 48; sign = 48 }

abbrev pub point : Picture
point = record { low = 46; high = 46; also = 46; sign = 46 }

abbrev pub blank : Picture
blank = record { low = 32; high = 32; also = 32; sign = 32 }

-- a digit, or after a blank a blank or a minus; a digit, or after a blank a blank
abbrev pub signed_digit : Picture
signed_digit = record { low = 48; high = 57; also = 32; sign = 45 }

abbrev pub blank_or_digit : Picture
blank_or_digit = record { low = 48; high = 57; also = 32; sign = 32 }

-- a flag: a blank, or after a blank its letter; its letter, or after a blank a blank
abbrev pub flag_or_blank : ℕ → Picture
flag_or_blank c = record { low = 32; high = 32; also = 32; sign = c }

abbrev pub blank_or_flag : ℕ → Picture
blank_or_flag c = record { low = c; high = c; also = 32; sign = 32 }

-- a decimal of 14 columns whose first is blank
abbrev pub decimal : List Picture
decimal =
    blank ∷ signed_digit ∷ signed_digit ∷ signed_digit ∷ signed_digit ∷ signed_digit ∷ digit ∷ point ∷ digit ∷ digit ∷ digit ∷ digit ∷ digit ∷ digit ∷ []

-- columns 2 to 4, the identifier; 5 to 60, x, y, z and the clock; 61 to 73, the exponents; 74 to 80, the flags E in 75, P in 76, M in 79, P in 80
abbrev pub identifier_columns : List Picture
identifier_columns = letter ∷ digit ∷ digit ∷ []

abbrev pub exponent_columns : List Picture
exponent_columns =
    blank
    ∷ blank_or_digit
    ∷ blank_or_digit
    ∷ blank
    ∷ blank_or_digit
    ∷ blank_or_digit
    ∷ blank
    ∷ blank_or_digit
    ∷ blank_or_digit
    ∷ blank
    ∷ blank_or_digit
    ∷ blank_or_digit
    ∷ blank_or_digit
    ∷ []

abbrev pub flag_columns : List Picture
flag_columns = blank ∷ flag_or_blank 69 ∷ blank_or_flag 80 ∷ blank ∷ blank ∷ flag_or_blank 77 ∷ blank_or_flag 80 ∷ []

-- columns 2 to 80 of a P line
abbrev pub row_columns : List Picture
row_columns = identifier_columns ++ (decimal ++ (decimal ++ (decimal ++ (decimal ++ (exponent_columns ++ flag_columns)))))

-- column i + 2 of a line fits its picture
abbrev pub column_fits : List ℕ → ℕ → Bool
column_fits line i =
    let c = get_or row_columns i blank in
    fits_column c.low c.high c.also c.sign (get_or line i 0) (get_or line (i + 1) 0)

-- 32 columns of a line, the first of them the one after `at` + 1, by pictures of their own
abbrev pub fits_at : List ℕ → List ℕ → List ℕ → List ℕ → List ℕ → ℕ → ℕ → Bool
fits_at low high also sign line at i =
    fits_column (get_or low i 0) (get_or high i 0) (get_or also i 0) (get_or sign i 0) (get_or line (at + i) 0) (get_or line (at + i + 1) 0)

-- a line of 80 columns of the usual kind: P, an identifier other than 00, and each column after P as its picture
unfoldable pub usual : List ℕ → Bool
usual line =
    eqb (length line) 80
    && (eqb (get_or line 0 0) 80
    && (not (eqb (get_or line 2 0) 48 && eqb (get_or line 3 0) 48)
    && every_below 79 (column_fits line)))
