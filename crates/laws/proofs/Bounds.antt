-- Numbers within bounds, and a test that antt computes at every number below a bound.
-- Assumes nothing.
use mathlib.Core.Bool.{Bool, true, false}
use mathlib.Core.Path.{◌≡◌, refl, sym, subst}
use mathlib.Core.Logic.{◌⊎◌, inl, inr, ⊎_elim}
use Prim.Native.Nat.{ℕ, zero, suc, ◌≤◌, ◌<◌}
use native.Mathlib.Nat.{le_refl, le_trans, not-suc-le-zero, le_of_suc-le-suc, eq-or-lt_of_le}
use native.Mathlib.Decide.{le_ind}
use native.Mathlib.Omega.{arith}
use borrow.Author.Tests.{leb-true, le-leb, lt-leb, ltb-true, ltb-false}
use lib.Dec.{T, leb, ltb}
use Rattle.laws.specs.Tests.{within, every_below}
use Rattle.laws.proofs.Bools.{and-false, both_true, both-passed}

-- a number within bounds, both ways
pub within-true : (low high n : ℕ) → within low high n ≡ true → (low ≤ n) × (n ≤ high)
within-true low high n e =
    let p = both_true (leb low n) (leb n high) e in
    (leb-true low n p.0, leb-true n high p.1)

pub true-within : (low high n : ℕ) → low ≤ n → n ≤ high → within low high n ≡ true
true-within low high n p q = rw (le-leb low n p, le-leb n high q)

pub below-within : (low high n : ℕ) → n < low → within low high n ≡ false
below-within low high n h = rw (lt-leb low n h)

pub above_within : (low high n : ℕ) → high < n → within low high n ≡ false
above_within low high n h = rw (lt-leb n high h) (and-false (leb low n))

-- which of two numbers is less, if one is
pub sides : (a b : ℕ) → (a < b) ⊎ ((a ≡ b) ⊎ (b < a))
sides a b = go (ltb a b) (ltb b a) refl refl
  where
    go : (p q : Bool) → ltb a b ≡ p → ltb b a ≡ q → (a < b) ⊎ ((a ≡ b) ⊎ (b < a))
    go true q e f = inl (ltb-true a b e)
    go false true e f = inr (inr (ltb-true b a f))
    go false false e f = inr (inl (omega (arith, ltb-false a b e, ltb-false b a f)))

-- neither of two numbers is less, so they are the same
pub level : (a b : ℕ) → (a < b → ⊥) → (b < a → ⊥) → a ≡ b
level a b p q = omega arith

-- what climbs at each step climbs
pub climbs : (f : ℕ → ℕ) → ((k : ℕ) → f k ≤ f (suc k)) → (a b : ℕ) → a ≤ b → f a ≤ f b
climbs f up a b h = le_ind (λ (n : ℕ). f a ≤ f n) (le_refl (f a)) (λ m _ p. le_trans p (up m)) b h

-- a test computed at every number below n passes at any one of them
pub below : (n : ℕ) (test : ℕ → Bool) → T (every_below n test) → (k : ℕ) → k < n → T (test k)
below zero test t k h = absurd (not-suc-le-zero h)
below (suc n) test t k h =
    let parts = both-passed (test n) (every_below n test) t in
    ⊎_elim
    (λ (e : k ≡ n). subst (λ (m : ℕ). T (test m)) (sym e) parts.0)
    (λ (l : k < n). below n test parts.1 k l)
    (eq-or-lt_of_le (le_of_suc-le-suc h))

-- no arm of a match on 0, 1, 2, .., k - 1 was taken
abbrev pub Missed : ℕ → ℕ → Type 0
Missed zero n = Unit
Missed (suc k) n = Missed k n × (n ≡ k → ⊥)

-- so the number is k or more
pub missed : (k n : ℕ) → Missed k n → k ≤ n
missed zero n m = omega arith
missed (suc k) n m = past (missed k n m.0) m.1
  where
    past : k ≤ n → (n ≡ k → ⊥) → suc k ≤ n
    past h d = omega arith
