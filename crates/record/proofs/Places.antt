-- The first of a run of columns that is not blank, by its place in the run.
-- Assumes nothing.
use mathlib.Core.Path.{◌≡◌, refl, sym, ap, ◌∙◌}
use mathlib.Core.Bool.{Bool, true, false, cond, not}
use mathlib.Core.List.{List, [], ◌∷◌}
use Prim.Native.Nat.{ℕ, suc, ◌+◌}
use native.Mathlib.Omega.{arith}
use lib.Dec.{eqb}
use Rattle.std.specs.Prelude.{Option, None, Some}
use Rattle.std.specs.List.{position, position_from}
use Rattle.std.proofs.lemmas.Iterator.Adapters.{position_from-zero}
use Rattle.layout.specs.Fault.{clean, keyed}
use Rattle.layout.specs.Kind.{unused_fault}

-- the fault of a place, counted from the column at
abbrev pub place_fault : ℕ → Option ℕ → ℕ
place_fault at None = clean
place_fault at (Some i) = keyed 5 (at + i)

step : (t : Bool) (at k next : ℕ) (o : Option ℕ) → next ≡ place_fault at o
    → cond t next (keyed 5 (at + k)) ≡ place_fault at (cond (not t) (Some k) o)
step true at k next o e = e
step false at k next o e = refl

from-place : (at k : ℕ) (bytes : List ℕ) → unused_fault (at + k) bytes ≡ place_fault at (position_from (λ b. not (eqb b 32)) k bytes)
from-place at k [] = refl
from-place at k (b ∷ bytes) =
    let next : suc (at + k) ≡ at + (k + 1) = omega arith in
    step (eqb b 32) at k _ _ (ap (λ (n : ℕ). unused_fault n bytes) next ∙ from-place at (k + 1) bytes)

pub unused_place : (at : ℕ) (bytes : List ℕ) → unused_fault at bytes ≡ place_fault at (position (λ b. not (eqb b 32)) bytes)
unused_place at bytes =
    let start : at ≡ at + 0 = omega arith in
    ap (λ (n : ℕ). unused_fault n bytes) start ∙ from-place at 0 bytes
    ∙ ap (place_fault at) (sym (position_from-zero (λ b. not (eqb b 32)) bytes))
