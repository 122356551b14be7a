-- The lowest of some faults: it is one of them, and none is below it.
-- Assumes nothing.
use mathlib.Core.Path.{◌≡◌, refl, sym, ap, ◌∙◌, subst}
use mathlib.Core.Logic.{◌⊎◌, inl, inr, ⊎_elim}
use mathlib.Core.List.{List, [], ◌∷◌, ◌++◌, map}
use Prim.Native.Nat.{ℕ, ◌≤◌, ◌<◌, min}
use native.Mathlib.Decide.{dec_le}
use native.Mathlib.Omega.{arith}
use Rattle.layout.specs.Fault.{clean, lower}
use Rattle.layout.specs.Layout.{Item, fault_at, fault_from}
use Rattle.layout.proofs.Keys.{lower-both, lower-second}
use Rattle.scan_laws.specs.Earned.{Among}

-- The lower of two faults, of which either may be none: one of them, and above neither.
pub record Lower (a b r : ℕ) : Type 0 where
  pub one : (r ≡ a) ⊎ (r ≡ b)
  pub left : 0 < a → (0 < r) × (r ≤ a)
  pub right : 0 < b → (0 < r) × (r ≤ b)

pub lower-is : (a b : ℕ) → Lower a b (lower a b)
lower-is a b = go (dec_le a 0) (dec_le b 0) (dec_le a b)
  where
    settled : (r : ℕ) → lower a b ≡ r → Lower a b r → Lower a b (lower a b)
    settled r e l = subst (Lower a b) (sym e) l

    go : Dec (a ≤ 0) → Dec (b ≤ 0) → Dec (a ≤ b) → Lower a b (lower a b)
    go p (yes q) o =
        let none : b ≡ clean = omega arith in
        settled a (ap (lower a) none) (record { one = inl refl; left = λ h. (omega arith, omega arith); right = λ h. absurd (omega arith) })
    go (yes p) (no q) o =
        let none : a ≡ clean = omega arith in
        settled b (ap (λ (n : ℕ). lower n b) none ∙ lower-second b (λ e. omega arith))
        (record { one = inr refl; left = λ h. absurd (omega arith); right = λ h. (omega arith, omega arith) })
    go (no p) (no q) (yes o) =
        let least : min a b ≡ a = omega arith in
        settled a (lower-both a b (λ e. omega arith) (λ e. omega arith) ∙ least)
        (record { one = inl refl; left = λ h. (omega arith, omega arith); right = λ h. (omega arith, omega arith) })
    go (no p) (no q) (no o) =
        let least : min a b ≡ b = omega arith in
        settled b (lower-both a b (λ e. omega arith) (λ e. omega arith) ∙ least)
        (record { one = inr refl; left = λ h. (omega arith, omega arith); right = λ h. (omega arith, omega arith) })

-- the lowest of a fault found before and some more
abbrev pub lowest_of : ℕ → List ℕ → ℕ
lowest_of lowest [] = lowest
lowest_of lowest (key ∷ keys) = lowest_of (lower lowest key) keys

pub record Lowest (lowest : ℕ) (keys : List ℕ) (r : ℕ) : Type 0 where
  pub one : (r ≡ lowest) ⊎ Among r keys
  pub before : 0 < lowest → (0 < r) × (r ≤ lowest)
  pub each : (key : ℕ) → Among key keys → 0 < key → (0 < r) × (r ≤ key)

pub lowest-is : (keys : List ℕ) (lowest : ℕ) → Lowest lowest keys (lowest_of lowest keys)
lowest-is [] lowest = record { one = inl refl; before = λ h. (h, omega arith); each = λ key a h. absurd a }
lowest-is (k ∷ keys) lowest = go (lower-is lowest k) (lowest-is keys (lower lowest k))
  where
    go : Lower lowest k (lower lowest k) → Lowest (lower lowest k) keys (lowest_of (lower lowest k) keys) → Lowest lowest (k ∷ keys) (lowest_of (lower lowest k) keys)
    go l more = record {
      one = ⊎_elim (λ e. ⊎_elim (λ f. inl (e ∙ f)) (λ f. inr (inl (e ∙ f))) l.one) (λ a. inr (inr a)) more.one;
      before = λ h. let now = l.left h in let then = more.before now.0 in (then.0, omega (arith, then.1, now.1));
      each = λ key. elim [
        | inl e ↦ λ h. let now = l.right (subst (λ (n : ℕ). 0 < n) e h) in let then = more.before now.0 in (then.0, omega (arith, then.1, now.1, e))
        | inr a ↦ λ h. more.each key a h
      ];
    }

-- the faults of items, one after another
pub items-lowest : (items : List Item) (line : List ℕ) (lowest : ℕ) (keys : List ℕ)
    → lowest_of lowest (map (λ (item : Item). fault_at item line) items ++ keys) ≡ lowest_of (fault_from lowest items line) keys
items-lowest [] line lowest keys = refl
items-lowest (item ∷ items) line lowest keys = items-lowest items line (lower lowest (fault_at item line)) keys
