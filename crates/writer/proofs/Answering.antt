-- What the answer of a measuring says of the output: on a refusal it stays as it is, else the table is valid and its form has room.
-- Assumes nothing.
use mathlib.Core.Path.{◌≡◌, refl, ap, ◌∙◌}
use mathlib.Core.Bool.{Bool, true, false, cond, ◌&&◌}
use mathlib.Core.List.{List}
use Prim.Native.Nat.{ℕ, ◌≤◌}
use native.Mathlib.Omega.{arith}
use borrow.Author.Tests.{le-leb, leb-true}
use lib.Dec.{leb}
use lib.ListN.{length}
use Rattle.header.specs.Rules.{d}
use Rattle.header.specs.declared.types.Rules.{Rules}
use Rattle.lines.specs.Lent.{over}
use Rattle.canon.specs.declared.types.Measured.{Measured}
use Rattle.canon.specs.Table.{Table}
use Rattle.canon.specs.Valid.{valid}
use Rattle.canon.specs.Canonical.{canonical}
use Rattle.canon.specs.Measured.{fitted, measured, measured_in}
use Rattle.writer.specs.Writing.{out_after}

module _ (rules : Rules) (t : Table) (out : List ℕ) where
  abbrev has_room : Bool
  has_room = leb (length (canonical rules t)) (length out)

  -- the number of the answer, by the three tests
  number : (w v f : Bool) {answer : Measured} → valid d t ≡ w → valid rules t ≡ v → has_room ≡ f → answer ≡ measured_in rules t (length out)
      → answer.refusal ≡ cond v (cond f 0 12) (cond w 17 13)
  unfolding measured_in measured fitted
  number true true true o p q e = ap (λ (m : Measured). m.refusal) e ∙ rw (o, p, q)
  number true true false o p q e = ap (λ (m : Measured). m.refusal) e ∙ rw (o, p, q)
  number false true true o p q e = ap (λ (m : Measured). m.refusal) e ∙ rw (o, p, q)
  number false true false o p q e = ap (λ (m : Measured). m.refusal) e ∙ rw (o, p, q)
  number true false f o p q e = ap (λ (m : Measured). m.refusal) e ∙ rw (o, p)
  number false false f o p q e = ap (λ (m : Measured). m.refusal) e ∙ rw (o, p)

  pub refused-keeps : {answer : Measured} → answer ≡ measured_in rules t (length out) → (answer.refusal ≡ 0 → ⊥) → out ≡ out_after rules t out
  unfolding out_after
  refused-keeps {answer} e apart = go (valid rules t) has_room refl refl
    where
      go : (v f : Bool) → valid rules t ≡ v → has_room ≡ f → out ≡ cond (v && f) (over (canonical rules t) out) out
      go true true p q = absurd (apart (number (valid d t) true true refl p q e))
      go true false p q = refl
      go false f p q = refl

  pub written-fits : {answer : Measured} → answer ≡ measured_in rules t (length out) → answer.refusal ≡ 0
      → (valid rules t ≡ true) × (length (canonical rules t) ≤ length out)
  written-fits {answer} e none = go (valid d t) (valid rules t) has_room refl refl refl
    where
      go : (w v f : Bool) → valid d t ≡ w → valid rules t ≡ v → has_room ≡ f → (valid rules t ≡ true) × (length (canonical rules t) ≤ length out)
      go w true true o p q = (p, leb-true (length (canonical rules t)) (length out) q)
      go w true false o p q = absurd (omega (arith, number w true false o p q e))
      go true false f o p q = absurd (omega (arith, number true false f o p q e))
      go false false f o p q = absurd (omega (arith, number false false f o p q e))

  pub written-lays : {now : List ℕ} → (valid rules t ≡ true) × (length (canonical rules t) ≤ length out) → now ≡ over (canonical rules t) out
      → now ≡ out_after rules t out
  unfolding out_after
  written-lays fits e = e ∙ rw (fits.0, le-leb (length (canonical rules t)) (length out) fits.1)
