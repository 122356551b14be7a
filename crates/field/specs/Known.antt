-- A decimal field that is known to be good, read without a test: each byte counts for its digit, and what stands below the digits,
-- a blank (32) or a minus (45), counts as 0. 01, "Lines": "Minus zero is zero."
use Rattle.std.specs.Prelude.{List, Bool, cond, ◌&&◌, ℕ, ◌+◌, length, take, drop, leb, ltb, eqb}
use Rattle.std.specs.List.{list_any}
use Rattle.field.specs.Digits.{value_from, point_of}

-- the most columns, so that any bytes at all fold below 2 ^ 64
abbrev pub known_widest : ℕ
known_widest = 17

-- the bytes before the point and those after it, each for its digit; above 17 columns 0
unfoldable pub known_magnitude : List ℕ → ℕ → ℕ
known_magnitude s places =
    cond (leb (length s) known_widest)
    (value_from (value_from 0 (take (point_of places (length s)) s)) (drop (point_of places (length s) + 1) s))
    0

-- a minus stands among the bytes
abbrev pub has_minus : List ℕ → Bool
has_minus s = list_any (λ (b : ℕ). eqb b 45) s

-- a minus stands before the point; minus zero is zero
unfoldable pub known_negative : List ℕ → ℕ → Bool
known_negative s places = has_minus (take (point_of places (length s)) s) && ltb 0 (known_magnitude s places)
