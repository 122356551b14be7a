-- A P line of the usual kind has printable characters alone. Assumes nothing.
use mathlib.Core.Path.{◌≡◌, refl, subst}
use mathlib.Core.Bool.{Bool, true, false, not, ◌&&◌, ◌||◌}
use mathlib.Core.List.{List, [], ◌∷◌}
use Prim.Native.Nat.{ℕ, zero, suc, ◌+◌, ◌<◌}
use native.Mathlib.Omega.{arith}
use borrow.Author.Tests.{leb-true, eqb-true}
use lib.Dec.{leb, eqb}
use lib.ListN.{length, get_or}
use Rattle.laws.specs.Tests.{within, every_below}
use Rattle.laws.specs.Texts.{every, is_printable}
use Rattle.laws.proofs.Bools.{and_left, and_right, and_both}
use Rattle.laws.proofs.Bounds.{within-true, true-within}
use Rattle.picture.specs.Picture.{Picture, fits_column, row_columns, blank, column_fits, usual}
use Rattle.picture.proofs.Columns.{passes}

-- a test that passes at each place passes everywhere
every-place : (test : ℕ → Bool) (s : List ℕ) → ((i : ℕ) → i < length s → test (get_or s i 0) ≡ true) → every test s ≡ true
every-place test [] h = refl
every-place test (b ∷ s) h = and_both (test b) (every test s) (h 0 (omega arith)) (every-place test s (λ i l. h (suc i) (omega arith)))

-- a picture of printable bytes
abbrev is_plain : ℕ → ℕ → ℕ → ℕ → Bool
is_plain low high also sign = leb 32 low && (leb high 126 && (within 32 126 also && within 32 126 sign))

abbrev plain_at : ℕ → Bool
plain_at i = let c = get_or row_columns i blank in is_plain c.low c.high c.also c.sign

all_plain : every_below 79 plain_at ≡ true
all_plain = refl

plain-column : (low high also sign p q : ℕ) → is_plain low high also sign ≡ true
    → fits_column low high also sign p q ≡ true → within 32 126 q ≡ true
plain-column low high also sign p q plain h = go (within low high q) (eqb q also) (eqb q sign) refl refl refl h
  where
    go : (t u v : Bool) → within low high q ≡ t → eqb q also ≡ u → eqb q sign ≡ v → (t || (eqb p 32 && (u || v))) ≡ true → within 32 126 q ≡ true
    go true u v x y z e =
        let w = within-true low high q x in
        let l = leb-true 32 low (and_left (leb 32 low) _ plain) in
        let m = leb-true high 126 (and_left (leb high 126) _ (and_right (leb 32 low) _ plain)) in
        true-within 32 126 q (omega arith) (omega arith)
    go false true v x y z e = rw (eqb-true q also y) (and_left (within 32 126 also) _ (and_right (leb high 126) _ (and_right (leb 32 low) _ plain)))
    go false false true x y z e = rw (eqb-true q sign z) (and_right (within 32 126 also) _ (and_right (leb high 126) _ (and_right (leb 32 low) _ plain)))
    go false false false x y z e = absurd (no (eqb p 32) e)
      where
        no : (t : Bool) → (t && false) ≡ true → ⊥
        no true e = let z : ◌≡◌ {A = ℕ} 0 1 = cc in omega arith
        no false e = let z : ◌≡◌ {A = ℕ} 0 1 = cc in omega arith

module _ (line : List ℕ) (symbol : get_or line 0 0 ≡ 80) (fits : every_below 79 (column_fits line) ≡ true) where
  by-picture : (k : ℕ) → k < 79 → within 32 126 (get_or line (k + 1) 0) ≡ true
  by-picture k h =
      let c : Picture = get_or row_columns k blank in
      plain-column c.low c.high c.also c.sign (get_or line k 0) (get_or line (k + 1) 0) (passes 79 plain_at k h all_plain) (passes 79 (column_fits line) k h fits)

  at_place : (i : ℕ) → i < 80 → within 32 126 (get_or line i 0) ≡ true
  at_place zero h = rw symbol
  at_place (suc i) h =
      let place : i + 1 ≡ suc i = omega arith in
      subst (λ (j : ℕ). within 32 126 (get_or line j 0) ≡ true) place (by-picture i (omega arith))

pub usual-printed : (line : List ℕ) → usual line ≡ true → (every is_printable line ≡ true) × (get_or line 0 0 ≡ 80)
unfolding usual
usual-printed line h =
    let wide = eqb-true (length line) 80 (and_left (eqb (length line) 80) _ h) in
    let named = and_right (eqb (length line) 80) _ h in
    let symbol = eqb-true (get_or line 0 0) 80 (and_left (eqb (get_or line 0 0) 80) _ named) in
    let more = and_right (eqb (get_or line 0 0) 80) _ named in
    let fits = and_right (not (eqb (get_or line 2 0) 48 && eqb (get_or line 3 0) 48)) _ more in
    (every-place is_printable line (λ i l. at_place line symbol fits i (omega arith)), symbol)
