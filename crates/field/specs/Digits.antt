-- Blanks and digits: what a run of them is, and its value. Bytes are numbers: a blank is 32, the digits 0 to 9 are 48 to 57.
-- 01, "Lines": "Each field is judged from its own columns".
use Rattle.std.specs.Prelude.{List, [], ◌∷◌, Bool, ℕ, ◌+◌, ◌-◌, ◌*◌, drop, eqb}
use Rattle.std.specs.List.{prefix_len}
use Rattle.laws.specs.Tests.{within}
use Rattle.laws.specs.Texts.{every}

-- the most columns that a field has, so that its number is below 10 ^ 18; the widest of the format is F18.15
abbrev pub widest : ℕ
widest = 18

-- a blank
abbrev pub is_blank : ℕ → Bool
is_blank b = eqb b 32

-- how many blanks stand before anything else
abbrev pub blanks_of : List ℕ → ℕ
blanks_of s = prefix_len is_blank s

-- what follows those blanks
abbrev pub trim : List ℕ → List ℕ
trim s = drop (blanks_of s) s

-- one of the digits 0 to 9
abbrev pub is_digit : ℕ → Bool
is_digit b = within 48 57 b

-- digits alone, or nothing at all
abbrev pub all_digits : List ℕ → Bool
all_digits s = every is_digit s

-- the digits s read on from the value a, the highest first: 7 and then `42` is 742
abbrev pub value_from : ℕ → List ℕ → ℕ
value_from a [] = a
value_from a (b ∷ s) = value_from (a * 10 + (b - 48)) s

-- the value of a run of digits
abbrev pub value_of : List ℕ → ℕ
value_of s = value_from 0 s

-- the column of the point, counted from 0, in w columns: so many places stand after it
abbrev pub point_of : ℕ → ℕ → ℕ
point_of places w = w - places - 1
