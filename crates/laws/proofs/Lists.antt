-- Lists from a place on, one element more at the end, and tests of every byte.
-- Assumes nothing.
use mathlib.Core.Path.{◌≡◌, refl, sym, ap, ◌∙◌}
use mathlib.Core.List.{List, [], ◌∷◌, ◌++◌}
use mathlib.Core.Bool.{Bool, true}
use Prim.Native.Nat.{ℕ, zero, suc, ◌+◌, ◌-◌, ◌<◌, ◌≤◌}
use native.Mathlib.Omega.{arith}
use native.Mathlib.Numerals.{add-one}
use lib.ListN.{length, get_or, take, drop, replicate, length-append, length-drop, drop_of_length-le}
use lib.Seq.{drop-cons, take_all, take-nil}
use Rattle.laws.specs.Texts.{every}
use Rattle.laws.proofs.Bools.{and_left, and_right, and_both}

pub one_less : (n : ℕ) → suc n - 1 ≡ n
one_less n = omega arith

-- the element at the place, then the rest from the next place on
pub rest-step : (s : List ℕ) (i : ℕ) → i < length s → drop i s ≡ get_or s i 0 ∷ drop (i + 1) s
rest-step s i h = rw (add-one, drop-cons s i 0)

-- nothing is left past the end
pub rest-none : (s : List ℕ) (i : ℕ) → length s ≤ i → drop i s ≡ []
rest-none s i h = drop_of_length-le s h

-- the part `&s[i..]` is the rest from i on
pub rest_part : (s : List ℕ) (i : ℕ) → take (length s - i) (drop i s) ≡ drop i s
rest_part s i = take_all (length s - i) (drop i s) (omega (arith, length-drop i s))

-- what a front has past its first elements
pub front_rest : {A : Type 0} (w n : ℕ) (l : List A) → drop w (take n l) ≡ take (n - w) (drop w l)
front_rest zero n l =
    let same : n - 0 ≡ n = omega arith in
    rw same
front_rest (suc w) zero l =
    let none : 0 - suc w ≡ 0 = omega arith in
    rw none
front_rest (suc w) (suc n) [] = sym (take-nil (suc n - suc w))
front_rest (suc w) (suc n) (x ∷ l) =
    let same : suc n - suc w ≡ n - w = omega arith in
    rw same (front_rest w n l)

-- one byte more
pub snoc-length : (s : List ℕ) (b : ℕ) → length (s ++ (b ∷ [])) ≡ suc (length s)
snoc-length s b = length-append s (b ∷ []) ∙ add-one (length s)

-- the first n of m times the same byte
pub first-same : (n m b : ℕ) → n ≤ m → take n (replicate m b) ≡ replicate n b
first-same zero m b h = refl
first-same (suc n) zero b h = absurd (omega arith)
first-same (suc n) (suc m) b h = ap (λ (l : List ℕ). b ∷ l) (first-same n m b (omega arith))

-- a test of every byte of two texts together
pub every_append : (test : ℕ → Bool) (s t : List ℕ) → every test s ≡ true → every test t ≡ true → every test (s ++ t) ≡ true
every_append test [] t es et = et
every_append test (b ∷ s) t es et =
    and_both (test b) (every test (s ++ t)) (and_left (test b) _ es) (every_append test s t (and_right (test b) _ es) et)

pub every-replicate : (test : ℕ → Bool) (n b : ℕ) → test b ≡ true → every test (replicate n b) ≡ true
every-replicate test zero b e = refl
every-replicate test (suc n) b e = rw (e, every-replicate test n b e)

-- one test follows from another
pub every-weaken : (f g : ℕ → Bool) → ((b : ℕ) → f b ≡ true → g b ≡ true) → (s : List ℕ) → every f s ≡ true → every g s ≡ true
every-weaken f g h [] e = refl
every-weaken f g h (b ∷ s) e =
    and_both (g b) (every g s) (h b (and_left (f b) _ e)) (every-weaken f g h s (and_right (f b) _ e))
