-- A run of digits and its value: from a place on, and the answers of its reading.
-- Assumes nothing.
use mathlib.Core.Path.{◌≡◌}
use mathlib.Core.List.{List}
use mathlib.Core.Bool.{true, false}
use Prim.Native.Nat.{ℕ, ◌+◌, ◌-◌, ◌*◌, ◌<◌, ◌≤◌}
use lib.ListN.{length, get_or, drop}
use Rattle.field.specs.Digits.{is_digit, all_digits, value_from}
use Rattle.field.specs.Read.{digits_from}
use Rattle.std.specs.Prelude.{Some, None}
use Rattle.laws.proofs.Bounds.{true-within}
use Rattle.laws.proofs.Lists.{rest-step, rest-none}

pub digit-is : (b : ℕ) → 48 ≤ b → b ≤ 57 → is_digit b ≡ true
digit-is b lo hi = true-within 48 57 b lo hi

module _ (s : List ℕ) (i : ℕ) where
  pub value-step : (a : ℕ) → i < length s → value_from a (drop i s) ≡ value_from (a * 10 + (get_or s i 0 - 48)) (drop (i + 1) s)
  value-step a h = rw (rest-step s i h)

  module _ (a : ℕ) where
    -- at the end of the digits
    pub digits-over : length s ≤ i → Some a ≡ digits_from a (drop i s)
    unfolding digits_from
    digits-over h = rw (rest-none s i h)

    -- a digit at the place: the rest decides, read on from its value
    pub digits_step : i < length s → is_digit (get_or s i 0) ≡ true → digits_from a (drop i s) ≡ digits_from (a * 10 + (get_or s i 0 - 48)) (drop (i + 1) s)
    unfolding digits_from
    digits_step h e = rw (rest-step s i h, e)

    -- any other byte at the place
    pub digits-stop : i < length s → is_digit (get_or s i 0) ≡ false → None ≡ digits_from a (drop i s)
    unfolding digits_from
    digits-stop h e = rw (rest-step s i h, e)

-- digits alone are a number
pub digits-good : (a : ℕ) (s : List ℕ) → all_digits s ≡ true → Some (value_from a s) ≡ digits_from a s
unfolding digits_from
digits-good a s e = rw e
