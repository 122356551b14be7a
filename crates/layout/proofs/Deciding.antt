-- The fault that decides a line is the lowest of its items' faults: it is one of them, and none is below it.
-- Assumes nothing.
use mathlib.Core.Path.{◌≡◌, refl, sym, ap, ◌∙◌}
use mathlib.Core.Logic.{◌⊎◌, inl, inr}
use mathlib.Core.Bool.{Bool, true, false, cond}
use mathlib.Core.List.{List, [], ◌∷◌, ◌++◌}
use Prim.Native.Nat.{ℕ, ◌<◌, ◌≤◌, min}
use native.Mathlib.Decide.{dec_le}
use native.Mathlib.Omega.{arith}
use borrow.Author.Tests.{eqb-false}
use lib.Dec.{eqb}
use Rattle.layout.specs.Fault.{clean, lower_of, lower_unless, lower}
use Rattle.layout.specs.Layout.{Item, fault_at, fault_from, fault_of}
use Rattle.layout.proofs.Keys.{lower-both, lower-second}
use Rattle.layout.proofs.Reading.{fault-parts}

-- a fault is above 0, and the lower of two is not above either
lower-left : (a b : ℕ) → 0 < a → (0 < lower a b) × (lower a b ≤ a)
lower-left a b p = go (eqb b clean) refl
  where
    go : (t : Bool) → eqb b clean ≡ t → (0 < lower_unless t a b) × (lower_unless t a b ≤ a)
    go true e = (p, omega arith)
    go false e =
        let some : 0 < b = omega (arith, eqb-false b clean e) in
        let both : lower_of a b ≡ min a b = ap (λ (t : Bool). lower_unless t a b) (sym e) ∙ lower-both a b (λ q. omega arith) (λ q. omega arith) in
        (rw both (omega arith), rw both (omega arith))

lower-right : (a b : ℕ) → 0 < b → (0 < lower a b) × (lower a b ≤ b)
lower-right a b p = go (dec_le a 0)
  where
    go : Dec (a ≤ 0) → (0 < lower a b) × (lower a b ≤ b)
    go (yes q) =
        let none : a ≡ clean = omega arith in
        let same : lower a b ≡ b = ap (λ (n : ℕ). lower n b) none ∙ lower-second b (λ e. omega arith) in
        (rw same p, rw same (omega arith))
    go (no q) =
        let both : lower a b ≡ min a b = lower-both a b (λ e. omega arith) (λ e. omega arith) in
        (rw both (omega arith), rw both (omega arith))

-- a fault found before is not raised by the items
found_before : (items : List Item) (line : List ℕ) (lowest : ℕ) → 0 < lowest → (0 < fault_from lowest items line) × (fault_from lowest items line ≤ lowest)
found_before [] line lowest p = (p, omega arith)
found_before (item ∷ items) line lowest p =
    let here = lower-left lowest (fault_at item line) p in
    let rest = found_before items line (lower lowest (fault_at item line)) here.0 in
    (rest.0, omega (arith, rest.1, here.1))

-- none of the items' faults is below the one that decides
pub decides-least : (before : List Item) (item : Item) (after : List Item) (line : List ℕ) → 0 < fault_at item line
    → (0 < fault_of (before ++ (item ∷ after)) line) × (fault_of (before ++ (item ∷ after)) line ≤ fault_at item line)
decides-least before item after line p =
    let up_to_lem = fault_from clean before line in
    let here = lower-right up_to_lem (fault_at item line) p in
    let rest = found_before after line (lower up_to_lem (fault_at item line)) here.0 in
    rw (fault-parts before (item ∷ after) line clean) (rest.0, omega (arith, rest.1, here.1))

-- the item that has it
pub record Decider (items : List Item) (line : List ℕ) (fault : ℕ) : Type 0 where
  pub before : List Item
  pub item : Item
  pub after : List Item
  pub parts : items ≡ before ++ (item ∷ after)
  pub its : fault ≡ fault_at item line

-- the lower of two is one of them
lower-one : (a b : ℕ) → (lower a b ≡ a) ⊎ (lower a b ≡ b)
unfolding lower_of
lower-one a b = go (eqb b clean) refl
  where
    least : Dec (a ≤ b) → (min a b ≡ a) ⊎ (min a b ≡ b)
    least (yes p) = inl (omega arith)
    least (no p) = inr (omega arith)

    either : (t : Bool) → (cond t b (min a b) ≡ a) ⊎ (cond t b (min a b) ≡ b)
    either true = inr refl
    either false = least (dec_le a b)

    go : (t : Bool) → eqb b clean ≡ t → (lower_unless t a b ≡ a) ⊎ (lower_unless t a b ≡ b)
    go true e = inl refl
    go false e = either (eqb a clean)

-- the fault that items leave is the one found before, or one of theirs
left_by : (items : List Item) (line : List ℕ) (lowest : ℕ) → (fault_from lowest items line ≡ lowest) ⊎ Decider items line (fault_from lowest items line)
left_by [] line lowest = inl refl
left_by (item ∷ items) line lowest =
    go (left_by items line (lower lowest (fault_at item line))) (lower-one lowest (fault_at item line))
  where
    go : (fault_from (lower lowest (fault_at item line)) items line ≡ lower lowest (fault_at item line)) ⊎ Decider items line (fault_from (lower lowest (fault_at item line)) items line)
        → (lower lowest (fault_at item line) ≡ lowest) ⊎ (lower lowest (fault_at item line) ≡ fault_at item line)
        → (fault_from lowest (item ∷ items) line ≡ lowest) ⊎ Decider (item ∷ items) line (fault_from lowest (item ∷ items) line)
    go (inl e) (inl f) = inl (e ∙ f)
    go (inl e) (inr f) = inr (record { before = []; item = item; after = items; parts = refl; its = e ∙ f })
    go (inr d) f = inr (record {
      before = item ∷ d.before;
      item = d.item;
      after = d.after;
      parts = ap {B = List Item} (λ rest. item ∷ rest) d.parts;
      its = d.its;
    })

-- a line with a fault has it from one of its items
pub decides-one : (items : List Item) (line : List ℕ) → 0 < fault_of items line → Decider items line (fault_of items line)
decides-one items line p = go (left_by items line clean)
  where
    go : (fault_of items line ≡ clean) ⊎ Decider items line (fault_of items line) → Decider items line (fault_of items line)
    go (inl e) = absurd (omega arith)
    go (inr d) = d
