-- What the tests of absence say. 01: "A place or velocity is absent exactly when all three are zero. A clock or rate is absent exactly at
-- +999,999,999,999." Each both ways.
-- Assumes nothing.
use mathlib.Core.Path.{◌≡◌, refl}
use mathlib.Core.Bool.{Bool, true, false, ◌&&◌}
use Prim.Native.Nat.{ℕ}
use borrow.Author.Tests.{eqb-true}
use lib.Dec.{eqb}
use Rattle.field.specs.Sign.{largest}
use Rattle.layout.specs.Kind.{unknown}
use Rattle.record.specs.Absence.{place_absent, clock_absent, is_unknown, is_too_large}
use Rattle.laws.proofs.Bools.{and_left, and_right}
use Rattle.layout.proofs.Fields.{not-false-true}

pub place-absent : (x y z : ℕ) → place_absent x y z ≡ true → (x ≡ 0) × (y ≡ 0) × (z ≡ 0)
place-absent x y z h =
    let rest = and_right (eqb x 0) (eqb y 0 && eqb z 0) h in (
      eqb-true x 0 (and_left (eqb x 0) (eqb y 0 && eqb z 0) h),
      eqb-true y 0 (and_left (eqb y 0) (eqb z 0) rest),
      eqb-true z 0 (and_right (eqb y 0) (eqb z 0) rest),
    )

pub zeros-absent : place_absent 0 0 0 ≡ true
zeros-absent = refl

pub clock-absent : (negative : Bool) (m : ℕ) → clock_absent negative m ≡ true → (negative ≡ false) × (m ≡ largest)
clock-absent true m h = absurd (not-false-true h)
clock-absent false m h = (refl, eqb-true m largest h)

pub nines-absent : clock_absent false largest ≡ true
nines-absent = refl

-- a place says nothing of the clock, nor a clock of the place: there are all four cases
pub absent-apart : (place clock : Bool) → (x : ℕ) × (m : ℕ) × (place_absent x 0 0 ≡ place) × (clock_absent false m ≡ clock)
absent-apart true true = (0, largest, refl, refl)
absent-apart true false = (0, 0, refl, refl)
absent-apart false true = (1, largest, refl, refl)
absent-apart false false = (1, 0, refl, refl)

-- an exponent that is unknown is neither 0 nor too large
pub unknown-apart : (clock : Bool) → (is_unknown 0 ≡ false) × (is_too_large clock unknown ≡ false)
unknown-apart true = (refl, refl)
unknown-apart false = (refl, refl)
