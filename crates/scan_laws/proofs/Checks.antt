-- What a line must agree with besides its columns: every test has number 4 or one of 7 to 10, and a column of 4 for 7, else of 0, computed over every kind.
-- Assumes nothing.
use mathlib.Core.Path.{◌≡◌, refl, ap, ◌∙◌}
use mathlib.Core.Logic.{◌⊎◌, inl, inr}
use mathlib.Core.Bool.{Bool, true, false, cond, ◌&&◌, ◌||◌}
use mathlib.Core.List.{List, [], ◌∷◌}
use Prim.Native.Nat.{ℕ, ◌≤◌, ◌<◌}
use native.Mathlib.Omega.{arith}
use borrow.Author.Tests.{eqb-true}
use lib.Dec.{eqb}
use lib.ListN.{take}
use Rattle.laws.specs.Tests.{within}
use Rattle.laws.proofs.Bools.{and_left, and_right}
use Rattle.laws.proofs.Bounds.{within-true}
use Rattle.header.specs.declared.types.Rules.{Rules}
use Rattle.record.specs.Agrees.{type_agrees}
use Rattle.record.specs.Descriptors.{descriptor_of}
use Rattle.record.specs.declared.types.LineKind.{LineKind}
use Rattle.record.specs.declared.types.LineKind.TheVariants as kind
use Rattle.machine.specs.declared.types.State.{State}
use Rattle.scan_laws.specs.Earned.{Among, Check, must, checks_at}

abbrev check_right : Check → Bool
check_right c = (eqb c.number 4 || within 7 10 c.number) && eqb c.column (cond (eqb c.number 7) 4 0)

abbrev checks_right : List Check → Bool
checks_right [] = true
checks_right (c ∷ checks) = check_right c && checks_right checks

checks-right : (k : LineKind) (rules : Rules) (s : State) (identifiers line : List ℕ) → checks_right (checks_at k rules s identifiers line) ≡ true
checks-right kind.Other rules s identifiers line = refl
checks-right kind.First rules s identifiers line = refl
checks-right kind.Second rules s identifiers line = refl
checks-right kind.Satellites rules s identifiers line = refl
checks-right kind.Accuracies rules s identifiers line = refl
checks-right kind.Characters rules s identifiers line = go (eqb s.lines 2)
  where
    go : (t : Bool) → checks_right (cond t (must (type_agrees (descriptor_of line).file_type (take s.satellites identifiers)) 8 0 ∷ []) []) ≡ true
    go true = refl
    go false = refl
checks-right kind.Floats rules s identifiers line = refl
checks-right kind.Integers rules s identifiers line = refl
checks-right kind.Comment rules s identifiers line = refl
checks-right kind.Epoch rules s identifiers line = refl
checks-right kind.Position rules s identifiers line = refl
checks-right kind.Velocity rules s identifiers line = refl
checks-right kind.PositionCorrelation rules s identifiers line = refl
checks-right kind.VelocityCorrelation rules s identifiers line = refl
checks-right kind.EndOfFile rules s identifiers line = refl

check-right : (checks : List Check) (c : Check) → Among c checks → checks_right checks ≡ true → check_right c ≡ true
check-right [] c a e = absurd a
check-right (d ∷ checks) c (inl is) e = ap check_right is ∙ and_left (check_right d) _ e
check-right (d ∷ checks) c (inr a) e = check-right checks c a (and_right (check_right d) _ e)

pub record Bounds (c : Check) : Type 0 where
  pub low : 4 ≤ c.number
  pub high : c.number ≤ 10
  pub ranges : (c.number ≡ 4) ⊎ (7 ≤ c.number)
  pub named : c.column ≡ cond (eqb c.number 7) 4 0
  pub small : c.column < 128

check-bounds : (c : Check) → check_right c ≡ true → Bounds c
check-bounds c e = go (eqb c.number 4) refl (and_left (eqb c.number 4 || within 7 10 c.number) _ e)
  where
    named : c.column ≡ cond (eqb c.number 7) 4 0
    named = eqb-true c.column (cond (eqb c.number 7) 4 0) (and_right (eqb c.number 4 || within 7 10 c.number) _ e)

    small : (t : Bool) → c.column ≡ cond t 4 0 → c.column < 128
    small true e = omega arith
    small false e = omega arith

    go : (t : Bool) → eqb c.number 4 ≡ t → (t || within 7 10 c.number) ≡ true → Bounds c
    go true four _ =
        let n = eqb-true c.number 4 four in
        record { low = omega (arith, n); high = omega (arith, n); ranges = inl n; named = named; small = small (eqb c.number 7) named }
    go false _ range =
        let n = within-true 7 10 c.number range in
        record { low = omega (arith, n.0); high = n.1; ranges = inr n.0; named = named; small = small (eqb c.number 7) named }

-- of each test of a line
pub checked : (k : LineKind) (rules : Rules) (s : State) (identifiers line : List ℕ) (c : Check) → Among c (checks_at k rules s identifiers line) → Bounds c
checked k rules s identifiers line c a = check-bounds c (check-right (checks_at k rules s identifiers line) c a (checks-right k rules s identifiers line))
