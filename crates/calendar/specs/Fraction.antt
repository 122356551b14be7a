-- 01, "Records in order", record 2: "For the fraction F in 10^-13 day, 108·F and 125·S differ by less than 108", S being the time of day in 10^-8 s.
-- 01, "The canonical form": "F as 125·S / 108 rounded to the nearest with halves upward".
-- In an answer 0 says accepted and is followed by the value.
use Rattle.std.specs.Prelude.{Option, Some, None, Bool, ◌&&◌, cond, List, [], ◌∷◌, ℕ, ◌+◌, ◌*◌, ◌/◌, ltb}
use Rattle.calendar.specs.Clock.{day_units}

-- a and b differ by less than n
abbrev pub near : ℕ → ℕ → ℕ → Bool
near n a b = ltb a (b + n) && ltb b (a + n)

-- 108 F and 125 S differ by less than 108
unfoldable pub agrees : ℕ → ℕ → Bool
agrees f s = near 108 (108 * f) (125 * s)

-- 125 S / 108 rounded to the nearest, halves upward, for S below a day; any other S gives 7
unfoldable pub fraction_answer : ℕ → List ℕ
fraction_answer s = cond (ltb s day_units) (0 ∷ (125 * s + 54) / 108 ∷ []) (7 ∷ [])

-- the number and the value of a fraction
unfoldable pub told_fraction : Option ℕ → List ℕ
told_fraction (Some f) = 0 ∷ f ∷ []
told_fraction None = 7 ∷ []
