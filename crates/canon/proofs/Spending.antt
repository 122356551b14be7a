-- Equal parts judged and measured one after the other: what the parts still to come leave of the room that is left, all parts leave of the whole room.
-- Assumes nothing.
use mathlib.Core.Bool.{Bool, true, false, ◌&&◌}
use mathlib.Core.List.{List, ◌++◌}
use mathlib.Core.Path.{◌≡◌, refl, ap, ◌∙◌}
use Prim.Native.Nat.{ℕ, zero, suc, ◌+◌, ◌-◌, ◌*◌, ◌<◌, ◌≤◌}
use native.Mathlib.Nat.{suc-mul, sub-zero}
use native.Mathlib.Omega.{arith}
use lib.ListN.{length, take, drop, length-append}
use Rattle.std.specs.Prelude.{Option, Some, None}
use Rattle.std.proofs.Math.Seq.{take-append_seam, drop-append_seam}
use Rattle.canon.specs.Spent.{spent}

-- so many parts of w places are still to come
pub record Spending {A : Type 0} (test : ℕ → List A → Bool) (size : ℕ → List A → ℕ) (w : ℕ) (answer : Option ℕ) (left : ℕ) (rest : List A) : Type 0 where
  pub more : ℕ
  pub long : length rest ≡ more * w
  pub same : spent (test more rest) left (size more rest) ≡ answer

-- a part that is valid, and one that is not
spent-some : (a b : Bool) (left p q kept : ℕ) → Some kept ≡ spent a left p → spent b kept q ≡ spent (a && b) left (p + q)
spent-some true true left p q kept e =
    let same : kept ≡ left - p = cc in
    ap (λ (n : ℕ). Some n) (omega arith)
spent-some true false left p q kept e = refl
spent-some false b left p q kept e = cc

spent-none : (a b : Bool) (left p q : ℕ) → None ≡ spent a left p → None ≡ spent (a && b) left (p + q)
spent-none true b left p q e = cc
spent-none false b left p q e = refl

one-more : (more n w : ℕ) → n ≡ more * w → 0 < w → w ≤ n → more ≡ suc (more - 1)
one-more zero n w e p h = absurd (omega arith)
one-more (suc k) n w e p h = omega arith

none-more : (more n w : ℕ) → n ≡ more * w → n < w → more ≡ 0
none-more zero n w e h = refl
none-more (suc k) n w e h = absurd (omega (arith, suc-mul k w))

module _ {A : Type 0} (test : ℕ → List A → Bool) (size : ℕ → List A → ℕ) (w : ℕ) {answer : Option ℕ} {left : ℕ} {rest : List A} where
  -- no part is left
  pub spending-last : Spending test size w answer left rest → ((l : List A) → test 0 l ≡ true) → ((l : List A) → size 0 l ≡ 0) → length rest < w → Some left ≡ answer
  spending-last s tests sizes h =
      let none = none-more s.more (length rest) w s.long h in
      let no_test : test s.more rest ≡ true = ap (λ (n : ℕ). test n rest) none ∙ tests rest in
      let no_size : size s.more rest ≡ 0 = ap (λ (n : ℕ). size n rest) none ∙ sizes rest in
      rw (no_test, no_size, sub-zero left) at s.same

  module _ (one : List A → Bool) (part : List A → ℕ) (s : Spending test size w answer left rest)
      (tests : (k : ℕ) (l : List A) → test (suc k) l ≡ (one (take w l) && test k (drop w l)))
      (sizes : (k : ℕ) (l : List A) → size (suc k) l ≡ part (take w l) + size k (drop w l))
      (some : 0 < w) (here later : List A) (cut : rest ≡ here ++ later) (long : length here ≡ w) where
    within : w ≤ length rest
    within = omega (arith, ap length cut, length-append here later)

    next : s.more ≡ suc (s.more - 1)
    next = one-more s.more (length rest) w s.long some within

    front : take w rest ≡ here
    front = ap (take w) cut ∙ rw (← long) (take-append_seam here later)

    back : drop w rest ≡ later
    back = ap (drop w) cut ∙ rw (← long) (drop-append_seam here later)

    judged : test s.more rest ≡ (one here && test (s.more - 1) later)
    judged = ap (λ (n : ℕ). test n rest) next ∙ tests (s.more - 1) rest ∙ rw (front, back)

    measured : size s.more rest ≡ part here + size (s.more - 1) later
    measured = ap (λ (n : ℕ). size n rest) next ∙ sizes (s.more - 1) rest ∙ rw (front, back)

    all : spent (one here && test (s.more - 1) later) left (part here + size (s.more - 1) later) ≡ answer
    all = rw (judged, measured) at s.same

    -- another part, which is valid
    pub spending-next : (kept : ℕ) → Some kept ≡ spent (one here) left (part here) → Spending test size w answer kept later
    spending-next kept e =
        let split : s.more * w ≡ (s.more - 1) * w + w = ap (λ (k : ℕ). k * w) next ∙ suc-mul (s.more - 1) w in
        record {
          more = s.more - 1;
          long = omega (arith, split, s.long, ap length cut, length-append here later);
          same = spent-some (one here) (test (s.more - 1) later) left (part here) (size (s.more - 1) later) kept e ∙ all;
        }

    -- or is not
    pub spending-none : None ≡ spent (one here) left (part here) → None ≡ answer
    spending-none e = spent-none (one here) (test (s.more - 1) later) left (part here) (size (s.more - 1) later) e ∙ all
