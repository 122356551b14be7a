-- What was read fits its own field again, and its canonical form reads the same.
-- Assumes nothing.
use mathlib.Core.Path.{◌≡◌, refl, sym, ◌∙◌, ap}
use mathlib.Core.List.{List}
use mathlib.Core.Bool.{Bool, true, false, ◌&&◌}
use Prim.Native.Nat.{ℕ, ◌+◌, ◌/◌, ◌^◌, ◌≤◌}
use native.Mathlib.Omega.{arith}
use lib.Dec.{leb, ltb}
use lib.ListN.{length, drop, length-drop}
use Rattle.field.specs.Digits.{blanks_of, trim, value_from, point_of}
use Rattle.field.specs.Read.{some_amount, whole_of, exponent_of, settled, signed_whole_of, decimal_of}
use Rattle.field.specs.Show.{sign_width, shown_negative, show_whole, fits_whole, show_signed, fits_signed, show_exponent, fits_exponent, show_decimal, fits_decimal}
use Rattle.std.specs.Prelude.{Some}
use Rattle.field.specs.declared.Exponent.{Exponent}
use Rattle.field.specs.declared.Exponent.TheVariants as exponent
use Rattle.laws.proofs.Bools.{and_left, tested}
use Rattle.field.proofs.Reading.{minus-allowed}
use Rattle.field.proofs.Accepted.{Carried, whole-taken, number-taken, exponent-taken, integer-minus, signed-whole-taken, decimal-taken}
use Rattle.field.proofs.Bounds.{wider, whole-bound, integer-room, high-below, places-after}
use Rattle.field.proofs.Fitting.{fits-true, decimal-test}
use Rattle.field.proofs.Texts.{carried_from}
use Rattle.field.proofs.Back.{whole_back, exponent-back, shown-again, signed_back, decimal-back}
use Rattle.field.proofs.Fits.{sign-one}

pub whole_again : (s : List ℕ) (v : ℕ) → whole_of s ≡ Some v → fits_whole (length s) v ≡ true
whole_again s v e =
    let t = whole-taken s v e in
    let some = number-taken (trim s) v t.1 in
    fits-true (length s) false v t.0 (omega (arith, length-drop (blanks_of s) s)) (wider (omega arith) (whole-bound s v e))

pub whole-canonical : (s : List ℕ) (v : ℕ) → whole_of s ≡ Some v → whole_of (show_whole (length s) v) ≡ Some v
whole-canonical s v e = whole_back (length s) v (whole_again s v e)

-- an unknown exponent stood in a field
unknown-narrow : (s : List ℕ) → exponent_of s ≡ exponent.Unknown → leb (length s) 18 ≡ true
unfolding exponent_of
unknown-narrow s e = (tested (leb (length s) 18) _ exponent.Malformed exponent.Unknown refusal e).0
  where
    refusal : exponent.Malformed ≡ exponent.Unknown → ⊥
    refusal e = let z : ◌≡◌ {A = ℕ} 0 1 = cc in omega arith

-- an exponent that was read, unknown too
pub exponent-again : (s : List ℕ) (x : Exponent) → (x ≡ exponent.Malformed → ⊥) → exponent_of s ≡ x → fits_exponent (length s) x ≡ true
exponent-again s (exponent.Value v) n e = whole_again s v (exponent-taken s v e)
exponent-again s exponent.Unknown n e = unknown-narrow s e
exponent-again s exponent.Malformed n e = absurd (n refl)

pub exponent-canonical : (s : List ℕ) (x : Exponent) → (x ≡ exponent.Malformed → ⊥) → exponent_of s ≡ x → exponent_of (show_exponent (length s) x) ≡ x
exponent-canonical s x n e = exponent-back (length s) x (exponent-again s x n e)

-- a number of two parts that was read
module _ {signed : Bool} {before after : List ℕ} {n : Bool} {m : ℕ} (c : Carried signed before after n m) where
  -- the sign that is shown is the one that was read
  sign-again : shown_negative n m ≡ n
  sign-again = rw (sym c.sign) (shown-again c.minus m)

  sign-less : sign_width n ≤ sign_width c.minus
  sign-less = less c.minus n c.sign
    where
      less : (k n : Bool) → (k && ltb 0 m) ≡ n → sign_width n ≤ sign_width k
      less true n e = sign-one n
      less false n e = rw (sym e) (omega arith)

  -- a minus was read only where one is allowed
  sign-allowed : n ≡ true → signed ≡ true
  sign-allowed q =
      minus-allowed signed (trim before)
      (integer-minus signed before c.minus c.high c.integer ∙ and_left c.minus _ (c.sign ∙ q))

  settled-again : settled n m ≡ some_amount n m
  settled-again = ap (λ (k : Bool). some_amount k m) sign-again

module _ (s : List ℕ) (n : Bool) (m : ℕ) (e : signed_whole_of s ≡ some_amount n m) where
  pub signed-again : fits_signed (length s) n m ≡ true
  signed-again =
      let t = signed-whole-taken s n m e in
      let c = t.1 in
      let room = integer-room true s c.minus c.high c.integer in
      rw (sign-again c)
      (fits-true (length s) n m t.0 (omega (arith, sign-less c)) (rw (sym c.value) (wider (omega (arith, sign-less c)) room.1)))

  pub signed-canonical : signed_whole_of (show_signed (length s) n m) ≡ some_amount n m
  signed-canonical = signed_back (length s) n m signed-again ∙ settled-again (signed-whole-taken s n m e).1

module _ (s : List ℕ) (places : ℕ) (signed n : Bool) (m : ℕ) (e : decimal_of s places signed ≡ some_amount n m) where
  pub decimal-again : fits_decimal (length s) places n m ≡ true
  decimal-again =
      let t = decimal-taken s places signed n m e in
      let c = t.parts in
      let high = high-below s places t.room signed c.minus c.high c.integer in
      let after = drop (point_of places (length s) + 1) s in
      let quotient : m / 10 ^ places ≡ c.high =
      ap (λ (k : ℕ). k / 10 ^ places) (sym c.value)
      ∙ ap (λ (k : ℕ). value_from c.high after / 10 ^ k) (sym (places-after s places t.room))
      ∙ carried_from after c.high c.digits in
      sym (decimal-test (length s) places n m t.narrow t.room)
      ∙ rw (sign-again c, quotient)
      (fits-true (point_of places (length s)) n c.high (omega (arith, t.narrow)) (omega (arith, sign-less c, high.0)) (wider (omega (arith, sign-less c)) high.1))

  pub decimal-canonical : decimal_of (show_decimal (length s) places n m) places signed ≡ some_amount n m
  decimal-canonical =
      let c = (decimal-taken s places signed n m e).parts in
      decimal-back (length s) places n m decimal-again signed (λ q. sign-allowed c (sym (sign-again c) ∙ q)) ∙ settled-again c
