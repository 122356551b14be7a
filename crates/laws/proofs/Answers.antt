-- Answers as a number and values: what follows of the test behind one that was accepted (0) or refused with its number.
-- Assumes nothing.
use mathlib.Core.Bool.{Bool, true, false, cond}
use mathlib.Core.List.{List, [], ◌∷◌}
use mathlib.Core.Path.{◌≡◌, refl, sym}
use Prim.Native.Nat.{ℕ, ◌<◌}
use native.Mathlib.Omega.{arith}
use Rattle.laws.proofs.Bools.{tested}

module _ (number : ℕ) (some : 0 < number) where
  apart : (values : List ℕ) → number ∷ [] ≡ 0 ∷ values → ⊥
  apart values e = let z : 0 ≡ number = cc in omega arith

  -- accepted: the test passed, and the values are those of its answer
  pub accepted : (test : Bool) (values given : List ℕ) → cond test (0 ∷ values) (number ∷ []) ≡ 0 ∷ given → (test ≡ true) × (values ≡ given)
  accepted test values given e =
      let t = tested test (0 ∷ values) (number ∷ []) (0 ∷ given) (apart given) e in
      let same = t.1 in
      (t.0, cc)

  -- refused: the test failed
  pub refused : (test : Bool) (values : List ℕ) → cond test (0 ∷ values) (number ∷ []) ≡ number ∷ [] → test ≡ false
  refused true values e = absurd (apart values (sym e))
  refused false values e = refl
