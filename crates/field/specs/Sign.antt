-- A sign and a magnitude as one signed number of the table. 01: "Numbers are whole .. with magnitude at most 999,999,999,999."
use Rattle.std.specs.Prelude.{List, [], ◌∷◌, Bool, true, false, cond, ◌&&◌, ℕ, leb, ltb, ℤ, pos, negsuc, neg_ℤ, nat_abs, Option, Some, None}
use Rattle.field.specs.Read.{sign_number}

-- the largest magnitude
abbrev pub largest : ℕ
largest = 999_999_999_999

-- the largest clock; what is above it is absent. 02, Ask 3: "The largest valid clock is now 999,998,999,999."
abbrev pub largest_clock : ℕ
largest_clock = 999_998_999_999

-- below zero: the library writes -1, -2, .. as negsuc 0, negsuc 1, ..
abbrev pub is_negative : ℤ → Bool
is_negative (pos n) = false
is_negative (negsuc n) = true

-- the number that a sign and a magnitude make
unfoldable pub signed_int : Bool → ℕ → ℤ
signed_int negative m = cond negative (neg_ℤ (pos m)) (pos m)

-- the paper's number of each answer, and the sign and magnitude beside it: 0 accepted, 7 out of bounds
abbrev pub told_number : Option ℤ → List ℕ
told_number (Some v) = 0 ∷ sign_number (is_negative v) ∷ nat_abs v ∷ []
told_number None = 7 ∷ []

-- a sign and a magnitude: zero has no sign
unfoldable pub number_answer : Bool → ℕ → List ℕ
number_answer negative m = cond (leb m largest) (0 ∷ sign_number (negative && ltb 0 m) ∷ m ∷ []) (7 ∷ [])
