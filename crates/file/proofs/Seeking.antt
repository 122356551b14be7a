-- Where the k-th line of those left that pass a test begins, by the first of them.
-- Assumes nothing.
use Rattle.std.proofs.Common.{◌≡◌, ℕ, zero, suc, ◌+◌, ◌-◌, Bool, true, false, List, ◌∷◌, length, refl, ap, ap₂, arith}
use Rattle.lines.specs.Lines.{bytes_in, begins_from}

module _ (test : List ℕ → Bool) where
  module _ (at : ℕ) (l : List ℕ) (ls : List (List ℕ)) where
    behind : at + length l + 1 ≡ at + (length l + 1)
    behind = omega arith

    pub begins-here : (k : ℕ) → test l ≡ true → k ≡ 0 → begins_from test k at (l ∷ ls) ≡ at
    unfolding begins_from
    begins-here k is e = rw (e, is)

    pub begins-later : (k : ℕ) → test l ≡ true → (k ≡ 0 → ⊥) → begins_from test k at (l ∷ ls) ≡ begins_from test (k - 1) (at + (length l + 1)) ls
    unfolding begins_from
    begins-later zero is some = absurd (some refl)
    begins-later (suc k) is some =
        let less : k ≡ suc k - 1 = omega arith in
        rw is (ap₂ (λ (m n : ℕ). begins_from test m n ls) less behind)

    pub begins-other : (k : ℕ) → test l ≡ false → begins_from test k at (l ∷ ls) ≡ begins_from test k (at + (length l + 1)) ls
    unfolding begins_from
    begins-other k is = rw is (ap (λ (n : ℕ). begins_from test k n ls) behind)

pub bytes-one : (l : List ℕ) (ls : List (List ℕ)) → bytes_in (l ∷ ls) ≡ length l + 1 + bytes_in ls
unfolding bytes_in
bytes-one l ls = omega arith
