-- `header::versions::begins_c` meets its contract.
-- Assumes nothing.
use mathlib.Core.Path.{◌≡◌, refl, sym}
use mathlib.Core.Bool.{Bool, true, false, ◌&&◌}
use mathlib.Core.List.{List, [], ◌∷◌}
use Prim.Native.Nat.{ℕ, ◌<◌}
use native.Mathlib.Omega.{arith}
use borrow.Author.Rules.{rules}
use lib.Dec.{eqb}
use lib.ListN.{length}
use Rattle.header.specs.Versions.{begins_c}
use Rattle.header.proofs.versions.begins_c.Statement.{statement}
use Rattle.header.proofs.versions.begins_c.Tie as tie

-- fewer than two bytes
few : (bytes : List ℕ) → length bytes < 2 → begins_c bytes ≡ false
unfolding begins_c
few [] h = refl
few (b ∷ []) h = by (eqb b 35)
  where
    by : (t : Bool) → (t && false) ≡ false
    by true = refl
    by false = refl
few (b ∷ b' ∷ bytes) h = absurd (omega arith)

returns : tie.Need-returns-then-bytes-lt2
returns c = sym (few c.args.bytes.now c.if-bytes-lt2.true)

returns-2 : tie.Need-returns
unfolding begins_c
returns-2 c = refl

pub begins_c_spec : {M : Type 1} → statement M
begins_c_spec = tie.close (tie.spec returns (λ c. search rules) (λ c. search rules) returns-2)
