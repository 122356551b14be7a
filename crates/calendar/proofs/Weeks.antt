-- The GPS week and the seconds of week of an instant: they give the instant back, and they are those of its date.
-- Assumes nothing.
use mathlib.Core.Bool.{true, false}
use mathlib.Core.List.{[], ◌∷◌}
use mathlib.Core.Path.{◌≡◌, ap₂, ◌∙◌}
use Prim.Native.Nat.{ℕ, ◌+◌, ◌-◌, ◌*◌, ◌/◌, ◌%◌, ◌<◌}
use native.Mathlib.Omega.{arith}
use lib.Dec.{lit≤}
use Rattle.laws.specs.Tests.{within}
use Rattle.calendar.specs.Gregorian.{date_answer}
use Rattle.calendar.specs.Clock.{second_units, day_units, week_answer}
use Rattle.laws.proofs.Answers.{accepted}
use Rattle.laws.proofs.Bounds.{within-true, true-within}
use Rattle.calendar.proofs.Days.{date-told}

-- the two answers of `week_of`
pub no-week : (at : ℕ) → within 44244 88068 (at / day_units) ≡ false → week_answer at ≡ 7 ∷ []
unfolding week_answer
no-week at e = rw e

pub week-at : (at : ℕ) → within 44244 88068 (at / day_units) ≡ true →
    week_answer at ≡ 0 ∷ (at / day_units - 44244) / 7 ∷ ((at / day_units - 44244) % 7 * day_units + at % day_units) ∷ []
unfolding week_answer
week-at at e = rw e

-- an instant of the bounds is the beginning of its week and its seconds of week, which are less than seven days
pub week-forth : (at week second8 : ℕ) → week_answer at ≡ 0 ∷ week ∷ second8 ∷ [] →
    (at ≡ (44244 + 7 * week) * day_units + second8) × (second8 < 7 * day_units)
unfolding week_answer
week-forth at week second8 q =
    let d = at / day_units in
    let a =
    accepted 7 (lit≤ tt) (within 44244 88068 d) ((d - 44244) / 7 ∷ ((d - 44244) % 7 * day_units + at % day_units) ∷ []) (week ∷ second8 ∷ []) q in
    let p = within-true 44244 88068 d a.0 in
    let w : week ≡ (d - 44244) / 7 = cc in
    let s : second8 ≡ (d - 44244) % 7 * day_units + at % day_units = cc in
    omega arith

-- the week of a date is that of each of its instants, and their seconds of week are the date's and the time of day
pub week-of-date : (y m d mjd week seconds time : ℕ) → date_answer y m d ≡ 0 ∷ mjd ∷ week ∷ seconds ∷ [] → time < day_units →
    week_answer (mjd * day_units + time) ≡ 0 ∷ week ∷ (seconds * second_units + time) ∷ []
week-of-date y m d mjd week seconds time q h =
    let t = date-told y m d mjd week seconds q in
    let at = mjd * day_units + time in
    let w : (at / day_units - 44244) / 7 ≡ week = omega arith in
    let s : (at / day_units - 44244) % 7 * day_units + at % day_units ≡ seconds * second_units + time = omega arith in
    week-at at (true-within 44244 88068 (at / day_units) (omega arith) (omega arith))
    ∙ ap₂ (λ (a b : ℕ). 0 ∷ a ∷ b ∷ []) w s
