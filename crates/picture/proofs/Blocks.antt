-- The columns of a usual line in three blocks of 32, as the code tests them. Assumes nothing.
use mathlib.Core.Path.{◌≡◌, refl, sym, ◌∙◌, subst}
use mathlib.Core.Bool.{Bool, true, false, not, ◌&&◌}
use mathlib.Core.List.{List, map}
use Prim.Native.Nat.{ℕ, ◌+◌, ◌-◌, ◌<◌, ◌≤◌}
use native.Mathlib.Omega.{arith}
use borrow.Author.Tests.{eqb-true, ltb-true, ltb-false}
use lib.Dec.{eqb, ltb}
use lib.ListN.{length, get_or, take, drop}
use Rattle.laws.specs.Tests.{every_below}
use Rattle.laws.proofs.Bools.{and_left, and_right, and_both, same_truth}
use Rattle.picture.specs.Picture.{Picture, row_columns, blank, column_fits, fits_at, usual}
use Rattle.picture.proofs.Columns.{passes, each-passes}

-- the end of a loop that tests one number after another
pub below_end : (test : ℕ → Bool) (n i : ℕ) (ok : Bool) → i ≤ n → n ≤ i → ok ≡ every_below i test → ok ≡ every_below n test
below_end test n i ok h k e = subst (λ (m : ℕ). ok ≡ every_below m test) (same i n h k) e
  where
    same : (i n : ℕ) → i ≤ n → n ≤ i → i ≡ n
    same i n h k = omega arith

-- tests that agree below n
pub below-same : (n : ℕ) (t u : ℕ → Bool) → ((k : ℕ) → k < n → t k ≡ u k) → every_below n t ≡ every_below n u
below-same n t u same =
    same_truth (every_below n t) (every_below n u)
    (λ e. each-passes n u (λ k h. sym (same k h) ∙ passes n t k h e))
    (λ e. each-passes n t (λ k h. same k h ∙ passes n u k h e))

-- a test of 79 numbers by three blocks of 32, the last two of which overlap
three-blocks : (t : ℕ → Bool)
    → (every_below 32 (λ i. t (0 + i)) && (every_below 32 (λ i. t (32 + i)) && every_below 32 (λ i. t (47 + i)))) ≡ every_below 79 t
three-blocks t = same_truth _ _ joined parted
  where
    block : (at : ℕ) → at ≤ 47 → every_below 79 t ≡ true → every_below 32 (λ i. t (at + i)) ≡ true
    block at h e = each-passes 32 (λ i. t (at + i)) (λ k l. passes 79 t (at + k) (omega arith) e)

    parted : every_below 79 t ≡ true → (every_below 32 (λ i. t (0 + i)) && (every_below 32 (λ i. t (32 + i)) && every_below 32 (λ i. t (47 + i)))) ≡ true
    parted e = and_both _ _ (block 0 (omega arith) e) (and_both _ _ (block 32 (omega arith) e) (block 47 (omega arith) e))

    by : (at k : ℕ) → at ≤ k → k < at + 32 → every_below 32 (λ i. t (at + i)) ≡ true → t k ≡ true
    by at k h l e =
        let place : at + (k - at) ≡ k = omega arith in
        subst (λ (n : ℕ). t n ≡ true) place (passes 32 (λ i. t (at + i)) (k - at) (omega arith) e)

    joined : (every_below 32 (λ i. t (0 + i)) && (every_below 32 (λ i. t (32 + i)) && every_below 32 (λ i. t (47 + i)))) ≡ true → every_below 79 t ≡ true
    joined e = each-passes 79 t at_each
      where
        front : every_below 32 (λ i. t (0 + i)) ≡ true
        front = and_left _ _ e

        rest : (every_below 32 (λ i. t (32 + i)) && every_below 32 (λ i. t (47 + i))) ≡ true
        rest = and_right (every_below 32 (λ i. t (0 + i))) _ e

        at_each : (k : ℕ) → k < 79 → t k ≡ true
        at_each k h = go (ltb k 32) (ltb k 64) refl refl
          where
            go : (p q : Bool) → ltb k 32 ≡ p → ltb k 64 ≡ q → t k ≡ true
            go true q e f = by 0 k (omega arith) (omega (arith, ltb-true k 32 e)) front
            go false true e f = by 32 k (omega (arith, ltb-false k 32 e)) (omega (arith, ltb-true k 64 f)) (and_left _ _ rest)
            go false false e f = by 47 k (omega (arith, ltb-false k 64 f)) (omega arith) (and_right (every_below 32 (λ i. t (32 + i))) _ rest)

-- the byte strings of the 32 pictures from `at` on, as the code has them
abbrev bytes_from : (Picture → ℕ) → ℕ → List ℕ
bytes_from part at = map part (take 32 (drop at row_columns))

abbrev lows : ℕ → List ℕ
lows at = bytes_from (λ c. c.low) at

abbrev highs : ℕ → List ℕ
highs at = bytes_from (λ c. c.high) at

abbrev alsos : ℕ → List ℕ
alsos at = bytes_from (λ c. c.also) at

abbrev signs : ℕ → List ℕ
signs at = bytes_from (λ c. c.sign) at

abbrev agrees_at : ℕ → ℕ → Bool
agrees_at at i =
    let c = get_or row_columns (at + i) blank in
    eqb (get_or (lows at) i 0) c.low && (eqb (get_or (highs at) i 0) c.high && (eqb (get_or (alsos at) i 0) c.also && eqb (get_or (signs at) i 0) c.sign))

-- the columns from `at` on by these strings are those columns by their pictures
pub block-is : (line : List ℕ) (at : ℕ) → every_below 32 (agrees_at at) ≡ true
    → every_below 32 (fits_at (lows at) (highs at) (alsos at) (signs at) line at) ≡ every_below 32 (λ i. column_fits line (at + i))
block-is line at agree = below-same 32 (fits_at (lows at) (highs at) (alsos at) (signs at) line at) (λ i. column_fits line (at + i)) each
  where
    each : (k : ℕ) → k < 32 → fits_at (lows at) (highs at) (alsos at) (signs at) line at k ≡ column_fits line (at + k)
    each k h =
        let c : Picture = get_or row_columns (at + k) blank in
        let e = passes 32 (agrees_at at) k h agree in
        let f = and_right (eqb (get_or (lows at) k 0) c.low) _ e in
        let g = and_right (eqb (get_or (highs at) k 0) c.high) _ f in
        let low-is = eqb-true (get_or (lows at) k 0) c.low (and_left _ _ e) in
        let high_is = eqb-true (get_or (highs at) k 0) c.high (and_left _ _ f) in
        let also-is = eqb-true (get_or (alsos at) k 0) c.also (and_left _ _ g) in
        let sign-is = eqb-true (get_or (signs at) k 0) c.sign (and_right (eqb (get_or (alsos at) k 0) c.also) _ g) in
        rw (low-is, high_is, also-is, sign-is)

-- the tests of a usual line, its columns by three blocks
pub usual-by : (line : List ℕ) (front middle last : Bool)
    → front ≡ every_below 32 (λ i. column_fits line (0 + i))
    → middle ≡ every_below 32 (λ i. column_fits line (32 + i))
    → last ≡ every_below 32 (λ i. column_fits line (47 + i))
    → (eqb (length line) 80
    && (eqb (get_or line 0 0) 80 && (not (eqb (get_or line 2 0) 48 && eqb (get_or line 3 0) 48) && (front && (middle && last)))))
    ≡ usual line
unfolding usual
usual-by line front middle last e f g = rw (e, f, g, three-blocks (column_fits line))
