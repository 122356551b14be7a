-- The fraction of day: the test on the parts of F and S is the test on F and S, and what is written agrees.
-- Assumes nothing.
use mathlib.Core.Bool.{true, false}
use mathlib.Core.List.{[], ◌∷◌}
use mathlib.Core.Path.{◌≡◌}
use Prim.Native.Nat.{ℕ, ◌+◌, ◌*◌, ◌/◌, ◌%◌, ◌≤◌, ◌<◌}
use native.Mathlib.Omega.{arith}
use borrow.Author.Tests.{lt-ltb, le-ltb, ltb-true}
use lib.Dec.{lit≤, ltb}
use Rattle.calendar.specs.Clock.{day_units}
use Rattle.calendar.specs.Fraction.{agrees, fraction_answer}
use Rattle.laws.proofs.Answers.{accepted}
use Rattle.laws.proofs.Bools.{not-both, same_truth, and_both}

-- in different strides of 13,500 they are far apart
pub strides-apart : (f s : ℕ) → (f / 125 ≡ s / 108 → ⊥) → agrees f s ≡ false
unfolding agrees
strides-apart f s h =
    not-both (ltb (108 * f) (125 * s + 108)) (ltb (125 * s) (108 * f + 108))
    (λ p q. omega (arith, ltb-true (108 * f) (125 * s + 108) p, ltb-true (125 * s) (108 * f + 108) q))

-- in the same stride the parts decide
module _ (f s : ℕ) (e : f / 125 ≡ s / 108) where
  pub above : 125 * (s % 108) + 108 ≤ 108 * (f % 125) → agrees f s ≡ false
  unfolding agrees
  above h = simp (le-ltb (108 * f) (125 * s + 108) (omega arith))

  pub not-above : 108 * (f % 125) < 125 * (s % 108) + 108 → agrees f s ≡ ltb (125 * (s % 108)) (108 * (f % 125) + 108)
  unfolding agrees
  not-above h =
      simp (lt-ltb (108 * f) (125 * s + 108) (omega arith))
      (same_truth (ltb (125 * s) (108 * f + 108)) (ltb (125 * (s % 108)) (108 * (f % 125) + 108))
      (λ p. lt-ltb (125 * (s % 108)) (108 * (f % 125) + 108) (omega (arith, ltb-true (125 * s) (108 * f + 108) p)))
      (λ p. lt-ltb (125 * s) (108 * f + 108) (omega (arith, ltb-true (125 * (s % 108)) (108 * (f % 125) + 108) p))))

-- the two answers of `fraction_of`
pub fraction-at : (s : ℕ) → s < day_units → fraction_answer s ≡ 0 ∷ (125 * s + 54) / 108 ∷ []
unfolding fraction_answer
fraction-at s h = simp (lt-ltb s day_units h)

pub no_fraction : (s : ℕ) → day_units ≤ s → fraction_answer s ≡ 7 ∷ []
unfolding fraction_answer
no_fraction s h = simp (le-ltb s day_units h)

-- a fraction that is given is the rounded one of a time of day
fraction-told : (s f : ℕ) → fraction_answer s ≡ 0 ∷ f ∷ [] → (s < day_units) × (f ≡ (125 * s + 54) / 108)
unfolding fraction_answer
fraction-told s f q =
    let a = accepted 7 (lit≤ tt) (ltb s day_units) ((125 * s + 54) / 108 ∷ []) (f ∷ []) q in
    (ltb-true s day_units a.0, cc)

-- what is written agrees, and is below one day
module _ (s f : ℕ) (given : fraction_answer s ≡ 0 ∷ f ∷ []) where
  pub written-agrees : agrees f s ≡ true
  unfolding agrees
  written-agrees =
      let p = fraction-told s f given in
      and_both (ltb (108 * f) (125 * s + 108)) (ltb (125 * s) (108 * f + 108))
      (lt-ltb (108 * f) (125 * s + 108) (omega arith))
      (lt-ltb (125 * s) (108 * f + 108) (omega arith))

  -- it is the nearest, and of two equally near the upper one
  pub written-nearest : (108 * f ≤ 125 * s + 54) × (125 * s < 108 * f + 54)
  written-nearest = let p = fraction-told s f given in omega arith

  pub written_below : f < 10_000_000_000_000
  written_below = let p = fraction-told s f given in omega arith
