-- Lines in equal parts: the place of a selected line is told by the number of its part and its place in the part.
-- Assumes nothing.
use mathlib.Core.Path.{◌≡◌, refl, sym, ap, ◌∙◌}
use mathlib.Core.Bool.{Bool}
use mathlib.Core.List.{List, [], ◌∷◌, ◌++◌, append-nil}
use Prim.Native.Nat.{ℕ, zero, suc, ◌+◌, ◌*◌, ◌<◌, ◌≤◌}
use native.Mathlib.Nat.{zero-mul, suc-mul, le_of_suc-le-suc, not-suc-le-zero}
use native.Mathlib.Omega.{arith}
use lib.ListN.{length, get_or, take, drop, length-append}
use lib.Seq.{take-suc, take_all, split_at}
use Rattle.lines.specs.Lent.{flat}
use Rattle.lines.specs.Lines.{select, nth}
use Rattle.lines.proofs.Picking.{select-append, select-none, flat_append}

-- the lines in n parts, of each of which something holds by its number
pub record Parted (holds : ℕ → List (List ℕ) → Type 0) (n : ℕ) (lines : List (List ℕ)) : Type 0 where
  pub parts : List (List (List ℕ))
  pub lines_are : lines ≡ flat parts
  pub many : length parts ≡ n
  pub each : (k : ℕ) → k < n → holds k (get_or parts k [])

-- the k-th part, and the lines before and after it
module _ {holds : ℕ → List (List ℕ) → Type 0} {n : ℕ} {lines : List (List ℕ)} (d : Parted holds n lines) where
  abbrev pub part_at : ℕ → List (List ℕ)
  part_at k = get_or d.parts k []

  abbrev pub before : ℕ → List (List ℕ)
  before k = flat (take k d.parts)

  abbrev pub after : ℕ → List (List ℕ)
  after k = flat (drop (suc k) d.parts)

-- the k-th of two lists together
pub nth-front : (i : ℕ) (a b : List (List ℕ)) → i < length a → nth i (a ++ b) ≡ nth i a
unfolding nth
nth-front i [] b h = absurd (not-suc-le-zero h)
nth-front zero (l ∷ a) b h = refl
nth-front (suc i) (l ∷ a) b h = nth-front i a b (le_of_suc-le-suc h)

pub nth-back : (i : ℕ) (a b : List (List ℕ)) → nth (length a + i) (a ++ b) ≡ nth i b
unfolding nth
nth-back i [] b = ap (λ (m : ℕ). nth m b) (omega arith)
nth-back i (l ∷ a) b =
    let one : suc (length a) + i ≡ suc (length a + i) = omega arith in
    ap (λ (m : ℕ). nth m (l ∷ (a ++ b))) one ∙ nth-back i a b

module _ {holds : ℕ → List (List ℕ) → Type 0} {n : ℕ} {lines : List (List ℕ)} (d : Parted holds n lines) where
  before-none : before d 0 ≡ []
  unfolding flat
  before-none = refl

  flat-one : (part : List (List ℕ)) → flat (part ∷ []) ≡ part
  unfolding flat
  flat-one part = append-nil part

  flat-cons : (part : List (List ℕ)) (parts : List (List (List ℕ))) → flat (part ∷ parts) ≡ part ++ flat parts
  unfolding flat
  flat-cons part parts = refl

  before_more : (k : ℕ) → k < n → before d (suc k) ≡ before d k ++ part_at d k
  before_more k h =
      ap flat (take-suc d.parts k [] (omega (arith, d.many)))
      ∙ flat_append (take k d.parts) (part_at d k ∷ [])
      ∙ ap (λ (t : List (List ℕ)). before d k ++ t) (flat-one (part_at d k))

  -- the lines are those before the k-th part, that part, and those after it
  pub split : (k : ℕ) → k < n → lines ≡ before d k ++ (part_at d k ++ after d k)
  split k h =
      d.lines_are
      ∙ ap flat (split_at d.parts k [] (omega (arith, d.many)))
      ∙ flat_append (take k d.parts) (part_at d k ∷ drop (suc k) d.parts)
      ∙ ap (λ (t : List (List ℕ)). before d k ++ t) (flat-cons (part_at d k) (drop (suc k) d.parts))

  -- parts of each of which a test selects w lines
  module _ (test : List ℕ → Bool) (w : ℕ) (even : (k : ℕ) → k < n → length (select test (part_at d k)) ≡ w) where
    pub before-many : (k : ℕ) → k ≤ n → length (select test (before d k)) ≡ k * w
    before-many zero h = ap length (select-none test before-none) ∙ sym (zero-mul w)
    before-many (suc k) h =
        ap (λ (ls : List (List ℕ)). length (select test ls)) (before_more k h)
        ∙ ap length (select-append test (before d k) (part_at d k))
        ∙ length-append (select test (before d k)) (select test (part_at d k))
        ∙ omega (arith, before-many k (omega arith), even k h, suc-mul k w)

    pub all-many : length (select test lines) ≡ n * w
    all-many =
        ap (λ (ls : List (List ℕ)). length (select test ls)) (d.lines_are ∙ ap flat (sym (take_all n d.parts (omega (arith, d.many)))))
        ∙ before-many n (omega arith)

    pub nth-part : (k i : ℕ) → k < n → i < w → nth (k * w + i) (select test lines) ≡ nth i (select test (part_at d k))
    nth-part k i h h' =
        let chosen = select test (part_at d k) in
        let later = select test (after d k) in
        let all : select test lines ≡ select test (before d k) ++ (chosen ++ later) =
        ap (select test) (split k h)
        ∙ select-append test (before d k) (part_at d k ++ after d k)
        ∙ ap (λ (t : List (List ℕ)). select test (before d k) ++ t) (select-append test (part_at d k) (after d k)) in
        ap (nth (k * w + i)) all
        ∙ ap (λ (m : ℕ). nth (m + i) (select test (before d k) ++ (chosen ++ later))) (sym (before-many k (omega arith)))
        ∙ nth-back i (select test (before d k)) (chosen ++ later)
        ∙ nth-front i chosen later (omega (arith, even k h))
