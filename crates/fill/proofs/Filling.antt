-- Turns of the loops that fill lent memory from the lines of a file, on plain values: what the lines from here on hold is still to be laid.
-- Assumes nothing.
use mathlib.Core.Path.{◌≡◌, refl, sym, ap, ◌∙◌}
use mathlib.Core.Bool.{Bool, true, false, ◌||◌}
use mathlib.Core.Logic.{◌⊎◌, inl, inr}
use mathlib.Core.List.{List, [], ◌∷◌, ◌++◌, map}
use Prim.Native.Nat.{ℕ, zero, suc, ◌+◌, ◌-◌, ◌<◌, ◌≤◌, zero-le}
use native.Mathlib.Omega.{arith}
use borrow.Author.Tests.{leb-true, leb-false}
use borrow.Rule.Slice.PartMut.{put_mid}
use lib.Dec.{leb}
use lib.ListN.{length, take, drop}
use Rattle.lines.specs.Lent.{laid, flat}
use Rattle.lines.specs.Lines.{select}
use Rattle.lines.proofs.Ends.{neither}
use Rattle.lines.proofs.Laying.{Laying, laying-none, laying-as, laying-block, laying-full, laying-all}
use Rattle.lines.proofs.Picking.{select-none, select-first, select-other}

-- one of two bounds is met, or neither is
pub either-met : (n a m b : ℕ) → (leb n a || leb m b) ≡ true → (n ≤ a) ⊎ (m ≤ b)
either-met n a m b e = go (leb n a) refl e
  where
    go : (t : Bool) → leb n a ≡ t → (t || leb m b) ≡ true → (n ≤ a) ⊎ (m ≤ b)
    go true p q = inl (leb-true n a p)
    go false p q = inr (leb-true m b q)

pub neither-met : (n a m b : ℕ) → (leb n a || leb m b) ≡ false → (a < n) × (b < m)
neither-met n a m b e =
    let parts = neither (leb n a) (leb m b) e in
    (leb-false n a parts.0, leb-false m b parts.1)

-- The lines `ls` are still to be walked, and `rest left` of those that pass the test is still to be laid.
pub record Filling {A : Type 0} (test : List ℕ → Bool) (rest : ℕ → List (List ℕ) → List A) (all old now : List A) (ls : List (List ℕ)) (stored left : ℕ) : Type 0 where
  pub room : stored ≤ length now
  pub has : Laying all old now stored (rest left (select test ls))

pub filling-first : {A : Type 0} (test : List ℕ → Bool) (rest : ℕ → List (List ℕ) → List A) (all old : List A) (ls : List (List ℕ)) (n : ℕ)
    → all ≡ rest n (select test ls) → Filling test rest all old old ls 0 n
filling-first test rest all old ls n e = record { room = zero-le; has = laying-as e (laying-none all old) }

module _ {A : Type 0} {test : List ℕ → Bool} {rest : ℕ → List (List ℕ) → List A} {all old now : List A} {ls : List (List ℕ)} {stored left : ℕ}
    (f : Filling test rest all old now ls stored left) where
  -- no line is left
  pub filling-none : rest left [] ≡ [] → ls ≡ [] → now ≡ laid all old
  filling-none none e = laying-all (laying-as (ap (rest left) (select-none test e) ∙ none) f.has)

  -- a line is left
  module _ (line : List ℕ) (more : List (List ℕ)) (e : ls ≡ line ∷ more) where
    -- it does not pass
    pub filling-other : test line ≡ false → Filling test rest all old now more stored left
    filling-other is = record { room = f.room; has = laying-as (ap (rest left) (select-other test line more e is)) f.has }

    module _ (is : test line ≡ true) where
      here : Laying all old now stored (rest left (line ∷ select test more))
      here = laying-as (ap (rest left) (select-first test line more e is)) f.has

      -- a block of it is laid into `&mut out[stored..]`
      module _ (block : List A) (left' : ℕ) (one : rest left (line ∷ select test more) ≡ block ++ rest left' (select test more)) {part : List A}
          (b : part ≡ laid block (take (length now - stored) (drop stored now))) where
        abbrev then : List A
        then = put_mid stored (length now - stored) now part

        laid-block : Laying all old then (stored + length block) (rest left' (select test more))
        laid-block = laying-block block (rest left' (select test more)) (laying-as one here) f.room b

        pub filling-kept : length then ≡ length now
        filling-kept = laid-block.kept ∙ sym f.has.kept

        -- nothing is left, or no place
        pub filling-last : rest left' (select test more) ≡ [] → then ≡ laid all old
        filling-last none = laying-all (laying-as none laid-block)

        pub filling-full : length now ≤ stored + length block → then ≡ laid all old
        filling-full full = laying-full (omega (arith, f.has.kept)) laid-block

        -- both are left
        pub filling-more : stored + length block ≤ length now → Filling test rest all old then more (stored + length block) left'
        filling-more fits = record { room = omega (arith, filling-kept); has = laid-block }

-- Parts of one length: those of so many lines.
abbrev pub parts_left : {A : Type 0} → (List ℕ → List A) → ℕ → List (List ℕ) → List A
parts_left part n ls = flat (map part (take n ls))

pub parts_none : {A : Type 0} (part : List ℕ → List A) (n : ℕ) → parts_left part n [] ≡ []
unfolding flat
parts_none part zero = refl
parts_none part (suc n) = refl

pub parts-spent : {A : Type 0} (part : List ℕ → List A) (n : ℕ) (ls : List (List ℕ)) → n ≡ 0 → parts_left part n ls ≡ []
unfolding flat
parts-spent part n ls e = rw e

pub parts-one : {A : Type 0} (part : List ℕ → List A) (n : ℕ) (l : List ℕ) (ls : List (List ℕ)) → 0 < n
    → parts_left part n (l ∷ ls) ≡ part l ++ parts_left part (n - 1) ls
unfolding flat
parts-one part zero l ls h = absurd (omega arith)
parts-one part (suc n) l ls h =
    let same : n ≡ suc n - 1 = omega arith in
    ap (λ (k : ℕ). part l ++ parts_left part k ls) same
