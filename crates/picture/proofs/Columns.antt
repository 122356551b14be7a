-- Columns of a line: the bytes of an item one by one, and what a picture says of each. Assumes nothing.
use mathlib.Core.Path.{◌≡◌, refl, ap}
use mathlib.Core.Bool.{Bool, true, false, ◌&&◌, ◌||◌}
use mathlib.Core.List.{List, [], ◌∷◌}
use Prim.Native.Nat.{ℕ, zero, suc, ◌+◌, ◌<◌, ◌≤◌}
use native.Mathlib.Omega.{arith}
use borrow.Author.Tests.{leb-true, eqb-true, le-leb}
use denote.Floats.{is_true, passes as passed}
use lib.Dec.{leb, eqb}
use lib.ListN.{length, get_or, take, drop}
use Rattle.laws.specs.Tests.{within, every_below}
use Rattle.laws.proofs.Bools.{and_left, and_right, and_both}
use Rattle.laws.proofs.Bounds.{below}
use Rattle.laws.proofs.Lists.{rest-step}
use Rattle.layout.specs.Fault.{clean}
use Rattle.layout.specs.Layout.{Item, fault_at, fault_from}
use Rattle.picture.specs.Picture.{fits_column}

-- so many columns from the one at k on, counted from 0
abbrev pub cells : List ℕ → ℕ → ℕ → List ℕ
cells line k zero = []
cells line k (suc w) = get_or line k 0 ∷ cells line (k + 1) w

pub take_cells : (line : List ℕ) (k w : ℕ) → k + w ≤ length line → take w (drop k line) ≡ cells line k w
take_cells line k zero h = refl
take_cells line k (suc w) h = rw (rest-step line k (omega arith)) (ap (λ (t : List ℕ). get_or line k 0 ∷ t) (take_cells line (k + 1) w (omega arith)))

-- a test that passes at each number below n passes at any one of them, and the other way about
pub passes : (n : ℕ) (test : ℕ → Bool) (k : ℕ) → k < n → every_below n test ≡ true → test k ≡ true
passes n test k h e = is_true (test k) (below n test (passed (every_below n test) e) k h)

pub each-passes : (n : ℕ) (test : ℕ → Bool) → ((k : ℕ) → k < n → test k ≡ true) → every_below n test ≡ true
each-passes zero test f = refl
each-passes (suc n) test f = and_both (test n) (every_below n test) (f n (omega arith)) (each-passes n test (λ k h. f k (omega arith)))

-- a column whose other bytes are within its range too
pub ranged : (low high also sign p q : ℕ) → within low high also ≡ true → within low high sign ≡ true → fits_column low high also sign p q ≡ true
    → within low high q ≡ true
ranged low high also sign p q a s h = go (within low high q) (eqb q also) (eqb q sign) refl refl refl h
  where
    go : (t u v : Bool) → within low high q ≡ t → eqb q also ≡ u → eqb q sign ≡ v → (t || (eqb p 32 && (u || v))) ≡ true → within low high q ≡ true
    go true u v x y z e = x
    go false true v x y z e = rw (eqb-true q also y) a
    go false false true x y z e = rw (eqb-true q sign z) s
    go false false false x y z e = absurd (no (eqb p 32) e)
      where
        no : (t : Bool) → (t && false) ≡ true → ⊥
        no true e = let z : ◌≡◌ {A = ℕ} 0 1 = cc in omega arith
        no false e = let z : ◌≡◌ {A = ℕ} 0 1 = cc in omega arith

-- a column of one byte
pub only : (c p q : ℕ) → fits_column c c c c p q ≡ true → q ≡ c
only c p q h =
    let self : within c c c ≡ true = rw (le-leb c c (omega arith)) in
    let r = ranged c c c c p q self self h in
    let low = leb-true c q (and_left (leb c q) (leb q c) r) in
    let high = leb-true q c (and_right (leb c q) (leb q c) r) in
    omega arith

-- items without a fault make a line without one
abbrev pub Clean : List Item → List ℕ → Type 0
Clean [] line = ℕ
Clean (item ∷ items) line = (fault_at item line ≡ clean) × Clean items line

pub clean_line : (items : List Item) (line : List ℕ) → Clean items line → fault_from clean items line ≡ clean
clean_line [] line c = refl
clean_line (item ∷ items) line c = rw c.0 (clean_line items line c.1)
