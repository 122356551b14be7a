-- Laws of the spots between lines: one line more, and none.
-- Assumes nothing.
use mathlib.Core.Path.{◌≡◌, refl, sym, ap, ◌∙◌}
use mathlib.Core.List.{List}
use Prim.Native.Nat.{ℕ, zero, suc, ◌-◌, ◌≤◌, ◌<◌}
use native.Mathlib.Omega.{arith}
use Rattle.header.specs.declared.types.Rules.{Rules}
use Rattle.machine.specs.Step.{line_read, line_identifiers}
use Rattle.machine.specs.Told.{told_read}
use Rattle.machine.proofs.Told.{told_read-one}
use Rattle.machine.specs.declared.types.LineRead.{LineRead}
use Rattle.line_walk.specs.Spots.{gone_to, spot_after, spots_after, identifiers_past}
use Rattle.line_walk.specs.declared.Spot.{Spot}

-- what was read at a spot tells the spot after it
pub gone-so : (p : Spot) (r w found : LineRead) → told_read r ≡ told_read found → r ≡ w → gone_to w p ≡ gone_to found p
gone-so p r w found told is = ap (λ (x : LineRead). gone_to x p) (sym is ∙ told_read-one r found told)

module _ (rules : Rules) (file identifiers : List ℕ) (p : Spot) where
  pub spot-read : (r w : LineRead) → told_read r ≡ told_read (line_read rules file p.at p.state identifiers) → r ≡ w
      → gone_to w p ≡ spot_after rules file identifiers p
  unfolding spot_after
  spot-read r w told is = gone-so p r w (line_read rules file p.at p.state identifiers) told is

  -- the identifiers after the line
  abbrev kept : List ℕ
  kept = line_identifiers rules file p.at p.state identifiers

  -- the first line, and the others
  pub first-line-more : (k : ℕ) → 0 < k
      → (spots_after rules file kept (spot_after rules file identifiers p) (k - 1) ≡ spots_after rules file identifiers p k)
      × (identifiers_past rules file kept (spot_after rules file identifiers p) (k - 1) ≡ identifiers_past rules file identifiers p k)
  unfolding spots_after identifiers_past
  first-line-more zero h = absurd (omega arith)
  first-line-more (suc k) h = let e : suc k - 1 ≡ k = omega arith in (rw e, rw e)

  -- no line
  pub no-line-more : (k : ℕ) → k ≤ 0 → (p ≡ spots_after rules file identifiers p k) × (identifiers ≡ identifiers_past rules file identifiers p k)
  unfolding spots_after identifiers_past
  no-line-more zero h = (refl, refl)
  no-line-more (suc k) h = absurd (omega arith)
