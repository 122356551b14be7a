-- The fault of a line with 7 at column 4 beside its fault without: the same, or 7 at column 4 decides.
-- Assumes nothing.
use mathlib.Core.Path.{◌≡◌, refl, sym, ap, subst}
use mathlib.Core.Bool.{Bool, true, false, cond}
use mathlib.Core.List.{List, [], ◌∷◌}
use mathlib.Core.Logic.{◌⊎◌, inl, inr}
use Prim.Native.Nat.{ℕ, ◌≤◌, ◌<◌, min}
use native.Mathlib.Omega.{arith}
use native.Mathlib.Decide.{dec_le}
use native.Mathlib.Nat.{lt_of_not-le}
use borrow.Author.Tests.{eqb-true, eqb-false}
use lib.Dec.{eqb}
use Rattle.layout.specs.Fault.{clean, keyed, lower_of, lower_unless, lower}
use Rattle.layout.specs.Layout.{Item, fault_at, fault_from}

-- the first is the fault with it, the second without
abbrev pub Beside : ℕ → ℕ → Type 0
Beside p q = (p ≡ q) ⊎ ((p ≡ keyed 7 4) × ((q ≡ clean) ⊎ (keyed 7 4 ≤ q)))

-- after what was found before
pub seven-beside : (a : ℕ) → Beside (lower a (keyed 7 4)) a
unfolding lower_of
seven-beside a = go (eqb a clean) refl
  where
    go : (b : Bool) → eqb a clean ≡ b → Beside (cond b (keyed 7 4) (min a (keyed 7 4))) a
    go true e = inr (refl, inl (eqb-true a clean e))
    go false e = by (dec_le a (keyed 7 4))
      where
        by : Dec (a ≤ keyed 7 4) → Beside (min a (keyed 7 4)) a
        by (yes h) = inl (omega (arith, h))
        by (no h) = inr (omega (arith, lt_of_not-le h), inr (omega (arith, lt_of_not-le h)))

-- with what is found after
seven-lower : (q g : ℕ) → 0 < g → (q ≡ clean) ⊎ (keyed 7 4 ≤ q) → Beside (min (keyed 7 4) g) (lower_of q g)
unfolding lower_of
seven-lower q g some other = go (eqb q clean) refl
  where
    least : (b : Bool) → eqb q clean ≡ b → Dec (g ≤ keyed 7 4) → Beside (min (keyed 7 4) g) (cond b g (min q g))
    least true e (yes h) = inl (omega (arith, h))
    least true e (no h) = inr (omega (arith, lt_of_not-le h), inr (omega (arith, lt_of_not-le h)))
    least false e h = by other h
      where
        by : (q ≡ clean) ⊎ (keyed 7 4 ≤ q) → Dec (g ≤ keyed 7 4) → Beside (min (keyed 7 4) g) (min q g)
        by (inl none) k = absurd (eqb-false q clean e none)
        by (inr more) (yes k) = inl (omega (arith, more, k))
        by (inr more) (no k) = inr (omega (arith, lt_of_not-le k), inr (omega (arith, more, lt_of_not-le k)))

    go : (b : Bool) → eqb q clean ≡ b → Beside (min (keyed 7 4) g) (cond b g (min q g))
    go b e = least b e (dec_le g (keyed 7 4))

pub lower-beside : (p q g : ℕ) → Beside p q → Beside (lower p g) (lower q g)
unfolding lower_of
lower-beside p q g (inl e) = inl (ap (λ (x : ℕ). lower x g) e)
lower-beside p q g (inr (is, other)) = subst (λ (x : ℕ). Beside (lower x g) (lower q g)) (sym is) (go (eqb g clean) refl)
  where
    go : (b : Bool) → eqb g clean ≡ b → Beside (lower_unless b (keyed 7 4) g) (lower_unless b q g)
    go true e = inr (refl, other)
    go false e = seven-lower q g (omega (arith, eqb-false g clean e)) other

-- and so over the items that follow
pub items-beside : (items : List Item) (line : List ℕ) (p q : ℕ) → Beside p q → Beside (fault_from p items line) (fault_from q items line)
items-beside [] line p q b = b
items-beside (item ∷ items) line p q b =
    items-beside items line (lower p (fault_at item line)) (lower q (fault_at item line)) (lower-beside p q (fault_at item line) b)
