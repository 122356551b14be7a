-- The blanks before anything else: counted from a place on, and in text that is put together.
-- Assumes nothing.
use mathlib.Core.Path.{◌≡◌, refl}
use mathlib.Core.List.{List, [], ◌∷◌}
use mathlib.Core.Bool.{Bool, true, false, cond, ◌&&◌}
use Prim.Native.Nat.{ℕ, suc, ◌+◌, ◌≤◌}
use native.Mathlib.Omega.{arith}
use borrow.Author.Tests.{eqb-true, eqb-false, eq-eqb, ne_eqb}
use lib.Dec.{eqb}
use lib.ListN.{length, length-drop}
use Rattle.std.specs.Prelude.{take_while}
use Rattle.std.proofs.lemmas.List.Folds.{length-prefix_len}
use Rattle.laws.specs.Texts.{every}
use Rattle.field.specs.Digits.{is_blank, blanks_of, trim}
use Rattle.std.proofs.lemmas.List.Sums.{prefix_len-le-length}

pub blanks_within : (s : List ℕ) → blanks_of s ≤ length s
blanks_within s = prefix_len-le-length is_blank s

-- as many blanks in front as there are columns
pub blank-all : (s : List ℕ) → eqb (blanks_of s) (length s) ≡ every is_blank s
blank-all [] = refl
blank-all (b ∷ s) = go (eqb b 32) (blank-all s)
  where
    next : (t : Bool) → eqb (blanks_of s) (length s) ≡ t → eqb (1 + blanks_of s) (suc (length s)) ≡ t
    next true e = eq-eqb (1 + blanks_of s) (suc (length s)) (omega (arith, eqb-true (blanks_of s) (length s) e))
    next false e = ne_eqb (1 + blanks_of s) (suc (length s)) (λ q. eqb-false (blanks_of s) (length s) e (omega (arith, q)))

    go : (t : Bool) → eqb (blanks_of s) (length s) ≡ every is_blank s → eqb (cond t (1 + blanks_of s) 0) (suc (length s)) ≡ (t && every is_blank s)
    go true h = next (every is_blank s) h
    go false h = ne_eqb 0 (suc (length s)) (λ q. omega (arith, q))

-- nothing past the blanks: it is all blank
pub trimmed_blank : (s : List ℕ) → length (trim s) ≡ 0 → eqb (blanks_of s) (length s) ≡ true
trimmed_blank s e = eq-eqb (blanks_of s) (length s) (omega (arith, blanks_within s, length-drop (blanks_of s) s))

pub trimmed_inked : (s : List ℕ) → (length (trim s) ≡ 0 → ⊥) → eqb (blanks_of s) (length s) ≡ false
trimmed_inked s n = ne_eqb (blanks_of s) (length s) (λ e. n (omega (arith, e, length-drop (blanks_of s) s)))

-- as a chain counts them
pub counted : (s : List ℕ) → length (take_while is_blank s) ≡ blanks_of s
counted s = length-prefix_len is_blank s
