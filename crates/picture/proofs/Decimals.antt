-- A decimal of 14 columns of the usual kind has no fault. Assumes nothing.
use mathlib.Core.Path.{◌≡◌, refl, ap, ◌∙◌}
use mathlib.Core.Bool.{Bool, true, false, cond, ◌&&◌}
use mathlib.Core.List.{List, [], ◌∷◌}
use Prim.Native.Nat.{ℕ, ◌<◌}
use native.Mathlib.Omega.{arith}
use borrow.Author.Tests.{le-leb}
use lib.Dec.{ltb}
use Rattle.field.specs.Digits.{all_digits, value_from}
use Rattle.field.specs.Read.{integer_of, decimal_of, settled, carried}
use Rattle.field.specs.Clock.{all_nines, is_nines, clock_held}
use Rattle.field.specs.Sign.{largest}
use Rattle.field.proofs.Bounds.{decimal-bound}
use Rattle.field.proofs.Clocks.{clock-decimal}
use Rattle.layout.specs.Fault.{clean}
use Rattle.layout.specs.Kind.{amount_fault, fault_in}
use Rattle.layout.specs.Kind.Kind.{signed, clock}
use Rattle.picture.proofs.Integers.{led_from, integer-blank, integer-led}
use Rattle.std.specs.Prelude.{Option}
use Rattle.field.specs.declared.Signed.{Signed}
use Rattle.field.specs.Read.{some_amount}

within-bounds : (column : ℕ) (n : Bool) (m : ℕ) → m < 1000000000000 → amount_fault column 0 largest (some_amount n m) ≡ clean
within-bounds column n m h = rw (le-leb 0 m (omega arith), le-leb m 999999999999 (omega arith))

-- what is held of a clock within the bounds is within them
held_below : (n : Bool) (m : ℕ) → m < 1000000000000 → clock_held 6 n m < 1000000000000
unfolding clock_held
held_below n m h = go (is_nines 6 n m)
  where
    go : (t : Bool) → cond t (all_nines 6) m < 1000000000000
    go true = omega arith
    go false = h

module _ (b1 b2 b3 b4 b5 b6 c1 c2 c3 c4 c5 c6 : ℕ) where
  abbrev before : List ℕ
  before = b1 ∷ b2 ∷ b3 ∷ b4 ∷ b5 ∷ b6 ∷ []

  abbrev after : List ℕ
  after = c1 ∷ c2 ∷ c3 ∷ c4 ∷ c5 ∷ c6 ∷ []

  abbrev thirteen : List ℕ
  thirteen = b1 ∷ b2 ∷ b3 ∷ b4 ∷ b5 ∷ b6 ∷ 46 ∷ c1 ∷ c2 ∷ c3 ∷ c4 ∷ c5 ∷ c6 ∷ []

  -- the thirteen columns after the first are such a decimal already
  read-thirteen : (n : Bool) (v : ℕ) → integer_of true before ≡ some_amount n v → all_digits after ≡ true
      → decimal_of thirteen 6 true ≡ settled n (value_from v after)
  unfolding decimal_of
  read-thirteen n v e d = rw (e, d)

  -- and a blank before them changes nothing
  read-fourteen : decimal_of (32 ∷ thirteen) 6 true ≡ decimal_of thirteen 6 true
  unfolding decimal_of
  read-fourteen = ap (λ (a : Option Signed). carried a after) (integer-blank before)

  -- so it has none, as a coordinate and as a clock
  pub decimal-usual : (column : ℕ) → led_from 32 before ≡ true → all_digits after ≡ true
      → (fault_in (signed 6) column (32 ∷ thirteen) ≡ clean) × (fault_in (clock 6) column (32 ∷ thirteen) ≡ clean)
  decimal-usual column h d =
      let t = integer-led before h in
      let n = t.0 in
      let v = t.1 in
      let read = read-thirteen n v t.2 d in
      let small = decimal-bound thirteen 6 true (n && ltb 0 (value_from v after)) (value_from v after) read in
      let k = n && ltb 0 (value_from v after) in
      let m = value_from v after in (
        rw (read-fourteen, read) (within-bounds column k m small),
        rw (clock-decimal (32 ∷ thirteen) 6 k m (read-fourteen ∙ read)) (within-bounds column k (clock_held 6 k m) (held_below k m small)),
      )
