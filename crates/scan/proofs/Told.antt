-- What stands at the front is known by its number and values: two that are told alike are one.
-- Assumes nothing.
use mathlib.Core.Path.{◌≡◌, sym, ap}
use mathlib.Core.List.{List, [], ◌∷◌}
use Prim.Native.Nat.{ℕ}
use native.Mathlib.Omega.{arith}
use lib.ListN.{get_or}
use Rattle.scan.specs.Told.{told_front}
use Rattle.std.specs.Prelude.{Ok, Err}
use Rattle.scan.specs.Front.{Front}
use Rattle.scan.specs.Front as front

-- a file out of its numbers
abbrev file_from : List ℕ → Front
file_from told = front.File (record {
  lines = get_or told 2 0;
  end = get_or told 3 0;
  comments = get_or told 4 0;
  rows = get_or told 5 0;
})

-- a file is told by 1 in the second place, a refusal by 0
file-no-refusal : (n a : ℕ) (s t : List ℕ) → ◌≡◌ {A = List ℕ} (n ∷ 1 ∷ s) (a ∷ 0 ∷ t) → ⊥
file-no-refusal n a s t e = let z : ◌≡◌ {A = ℕ} 1 0 = ap (λ (told : List ℕ). get_or told 1 0) e in absurd (omega arith)

-- a refusal out of its numbers
abbrev refused_from : List ℕ → Front
refused_from told = front.Refused (get_or told 0 0) (get_or told 2 0) (get_or told 3 0)

pub told_front-one : (a b : Front) → told_front a ≡ told_front b → a ≡ b
unfolding told_front
told_front-one (Ok t) (Ok t') e = ap file_from e
told_front-one (Ok t) (Err r) e = absurd (file-no-refusal _ _ _ _ e)
told_front-one (Err r) (Ok t) e = absurd (file-no-refusal _ _ _ _ (sym e))
told_front-one (Err r) (Err r') e = ap refused_from e
