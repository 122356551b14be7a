-- An instant from its date and time, what an instant says of them, and the date and time from the instant.
-- Assumes nothing.
use mathlib.Core.Bool.{true, false, ◌&&◌}
use mathlib.Core.List.{[], ◌∷◌}
use mathlib.Core.Path.{◌≡◌}
use Prim.Native.Nat.{ℕ, ◌+◌, ◌*◌, ◌/◌, ◌%◌, ◌<◌}
use native.Mathlib.Omega.{arith}
use borrow.Author.Tests.{ltb-true}
use lib.Dec.{lit≤, ltb}
use Rattle.calendar.specs.Gregorian.{is_date, mjd_of}
use Rattle.calendar.specs.Clock.{minute_units, hour_units, day_units, is_time, time_of, instant_answer, clock_of}
use Rattle.laws.proofs.Answers.{accepted}
use Rattle.laws.proofs.Bools.{both_true, three-true}

-- a time of day as facts
pub record Timed (h m s : ℕ) : Type 0 where
  pub hours : h < 24
  pub minutes : m < 60
  pub seconds : s < minute_units

pub time-is : (h m s : ℕ) → is_time h m s ≡ true → Timed h m s
unfolding is_time
time-is h m s e =
    let p = three-true (ltb h 24) (ltb m 60) (ltb s minute_units) e in
    omega (arith, ltb-true)

module _ (y m d h n s : ℕ) where
  -- the three answers of `instant`
  pub no-time : is_time h n s ≡ false → instant_answer y m d h n s ≡ 7 ∷ []
  unfolding instant_answer
  no-time e = simp e

  pub no-date : is_time h n s ≡ true → is_date y m d ≡ false → instant_answer y m d h n s ≡ 7 ∷ []
  unfolding instant_answer
  no-date t e = simp (t, e)

  pub instant-at : is_time h n s ≡ true → is_date y m d ≡ true →
      instant_answer y m d h n s ≡ 0 ∷ (mjd_of y m d * day_units + time_of h n s) ∷ []
  unfolding instant_answer
  instant-at t e = simp (t, e)

-- what an instant that is given says
pub record InstantTold (y m d h n s at : ℕ) : Type 0 where
  pub date : is_date y m d ≡ true
  pub time : Timed h n s
  pub sum : at ≡ mjd_of y m d * day_units + time_of h n s

pub instant-told : (y m d h n s at : ℕ) → instant_answer y m d h n s ≡ 0 ∷ at ∷ [] → InstantTold y m d h n s at
unfolding instant_answer
instant-told y m d h n s at q =
    let a = accepted 7 (lit≤ tt) (is_time h n s && is_date y m d) ((mjd_of y m d * day_units + time_of h n s) ∷ []) (at ∷ []) q in
    let p = both_true (is_time h n s) (is_date y m d) a.0 in
    record { date = p.1; time = time-is h n s p.0; sum = cc }

-- the clock gives the fields back
pub clock-back : (j h n s : ℕ) → Timed h n s →
    clock_of (j * day_units + time_of h n s) ≡ record { day = j; hour = h; minute = n; second8 = s }
unfolding clock_of time_of
clock-back j h n s t =
    let at = j * day_units + (h * hour_units + n * minute_units + s) in
    let p : at / day_units ≡ j = omega arith in
    let q : at % day_units / hour_units ≡ h = omega arith in
    let u : at % hour_units / minute_units ≡ n = omega arith in
    let v : at % minute_units ≡ s = omega arith in
    λ i. record { day = p i; hour = q i; minute = u i; second8 = v i }
