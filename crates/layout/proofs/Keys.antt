-- A fault's key holds its number and its column, and the lowest key has the lowest number and, among equal numbers, the leftmost column.
-- Assumes nothing.
use mathlib.Core.Path.{◌≡◌, refl, ap, ◌∙◌}
use Prim.Native.Nat.{ℕ, ◌<◌, ◌≤◌, min}
use native.Mathlib.Decide.{dec_le}
use native.Mathlib.Omega.{arith}
use borrow.Author.Tests.{ne_eqb}
use lib.Arith.{digits_div, digits_mod}
use Rattle.layout.specs.Fault.{clean, keyed, key_number, column_of, lower_of, lower}

pub number-kept : (number column : ℕ) → column < 128 → key_number (keyed number column) ≡ number
number-kept number column h = digits_div number h

pub column-kept : (number column : ℕ) → column < 128 → column_of (keyed number column) ≡ column
column-kept number column h = digits_mod number h

-- the number decides first, then the column
pub number-first : (a b c d : ℕ) → a < b → c < 128 → keyed a c < keyed b d
number-first a b c d h k = omega arith

pub column-next : (a c d : ℕ) → c < d → keyed a c < keyed a d
column-next a c d h = omega arith

-- of two faults the lower, of a fault and none the fault
pub lower-both : (a b : ℕ) → (a ≡ clean → ⊥) → (b ≡ clean → ⊥) → lower a b ≡ min a b
unfolding lower_of
lower-both a b p q = rw (ne_eqb b clean q, ne_eqb a clean p)

pub lower-second : (b : ℕ) → (b ≡ clean → ⊥) → lower clean b ≡ b
unfolding lower_of
lower-second b q = rw (ne_eqb b clean q)

pub lower-first : (a : ℕ) → lower a clean ≡ a
lower-first a = refl

-- the number of the lower of two faults is the lower of their numbers, and where these are the same the column is the lower of their columns
module _ (m n c d : ℕ) (p : 0 < m) (q : 0 < n) (h : c < 128) (k : d < 128) where
  pub number-lower : key_number (lower (keyed m c) (keyed n d)) ≡ min m n
  number-lower = ap key_number (lower-both (keyed m c) (keyed n d) (λ e. omega arith) (λ e. omega arith)) ∙ go (dec_le n m) (dec_le m n)
    where
      go : Dec (n ≤ m) → Dec (m ≤ n) → key_number (min (keyed m c) (keyed n d)) ≡ min m n
      go (no a) b =
          let first : min (keyed m c) (keyed n d) ≡ keyed m c = omega arith in
          let same : m ≡ min m n = omega arith in
          ap key_number first ∙ number-kept m c h ∙ same
      go (yes a) (no b) =
          let second : min (keyed m c) (keyed n d) ≡ keyed n d = omega arith in
          let same : n ≡ min m n = omega arith in
          ap key_number second ∙ number-kept n d k ∙ same
      go (yes a) (yes b) =
          let either : min (keyed m c) (keyed n d) ≡ keyed m (min c d) = omega arith in
          let same : m ≡ min m n = omega arith in
          ap key_number either ∙ number-kept m (min c d) (omega arith) ∙ same

  pub column-lower : m ≡ n → column_of (lower (keyed m c) (keyed n d)) ≡ min c d
  column-lower e =
      let either : min (keyed m c) (keyed n d) ≡ keyed m (min c d) = omega arith in
      ap column_of (lower-both (keyed m c) (keyed n d) (λ e. omega arith) (λ e. omega arith) ∙ either) ∙ column-kept m (min c d) (omega arith)
