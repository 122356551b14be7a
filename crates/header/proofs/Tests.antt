-- Tests that are one by their parts, and three bytes as a list.
-- Assumes nothing.
use mathlib.Core.Bool.{Bool, ◌&&◌}
use mathlib.Core.List.{List, [], ◌∷◌}
use mathlib.Core.Path.{◌≡◌, refl}
use Prim.Native.Nat.{ℕ}
use native.Mathlib.Omega.{arith}
use lib.ListN.{length, get_or}

-- four tests, each by its own answer
pub all-four : (s t u v s' t' u' v' : Bool) → s ≡ s' → t ≡ t' → u ≡ u' → v ≡ v' →
    (s && (t && (u && v))) ≡ (s' && (t' && (u' && v')))
all-four s t u v s' t' u' v' p q r e = cc

-- a list of three bytes by its bytes
pub three-bytes : (s : List ℕ) → length s ≡ 3 → (get_or s 0 0 ∷ get_or s 1 0 ∷ get_or s 2 0 ∷ []) ≡ s
three-bytes (a ∷ b ∷ c ∷ []) e = refl
three-bytes [] e = absurd (omega arith)
three-bytes (a ∷ []) e = absurd (omega arith)
three-bytes (a ∷ b ∷ []) e = absurd (omega arith)
three-bytes (a ∷ b ∷ c ∷ d ∷ s) e = absurd (omega arith)
