-- Signed numbers: the test of the sign, the turn of the sign, and the sign and magnitude of the number that they make.
-- Assumes nothing.
use mathlib.Core.Path.{◌≡◌, refl, sym, ◌∙◌, ap, ap₂}
use mathlib.Core.List.{[], ◌∷◌}
use mathlib.Core.Bool.{Bool, true, false, ◌&&◌}
use Prim.Native.Nat.{ℕ, zero, suc, ◌<◌, ◌≤◌}
use native.Mathlib.Omega.{arith}
use borrow.Author.Tests.{le-leb, lt-leb, le-ltb, lt-ltb}
use lib.Dec.{T, ltb}
use lib.IntN.{ℤ, pos, negsuc, neg_ℤ, nat_abs, ◌-ℤ◌, +ℤ_idl}
use lib.Signed.{mag, lt_z, non_neg}
use mir.Syntax.{w64}
use mir.Val.{Fits, SFits, to_z, of_z}
use mir.ValLaws.{to_z-of_z, to_z_pos}
use Rattle.field.specs.Read.{sign_number}
use Rattle.field.specs.Sign.{largest, signed_int, is_negative, told_number, number_answer}
use Rattle.std.specs.Prelude.{Some}

mag-turned : (n : ℕ) → mag (neg_ℤ (pos n)) ≤ n
mag-turned zero = omega arith
mag-turned (suc n) = omega arith

module _ (v : ℤ) (f : SFits w64 v) where
  -- the machine's test of the sign
  pub negative-test : lt_z (to_z w64 (of_z w64 v)) (pos 0) ≡ is_negative v
  negative-test = rw (to_z-of_z w64 v f) (test v)
    where
      test : (v : ℤ) → lt_z v (pos 0) ≡ is_negative v
      test (pos n) = le-ltb n 0 (omega arith)
      test (negsuc n) = refl

  -- a number that is not negative, as an unsigned one
  pub plain_fits : is_negative v ≡ false → T (non_neg (to_z w64 (of_z w64 v))) × Fits w64 (nat_abs (to_z w64 (of_z w64 v)))
  plain_fits e = rw (to_z-of_z w64 v f) (fit v f e)
    where
      fit : (v : ℤ) → SFits w64 v → is_negative v ≡ false → T (non_neg v) × Fits w64 (nat_abs v)
      fit (pos n) f e = (tt, record { fits = omega (arith, f.sfits) })
      fit (negsuc n) f e = let z : ◌≡◌ {A = ℕ} 0 1 = cc in absurd (omega arith)

-- the number has the sign and the magnitude that it was made of
module _ (negative : Bool) (m : ℕ) where
  pub magnitude-back : nat_abs (signed_int negative m) ≡ m
  unfolding signed_int
  magnitude-back = back negative m
    where
      back : (n : Bool) (m : ℕ) → nat_abs (signed_int n m) ≡ m
      back true zero = refl
      back true (suc m) = refl
      back false m = refl

  pub sign-back : is_negative (signed_int negative m) ≡ (negative && ltb 0 m)
  unfolding signed_int
  sign-back = back negative m
    where
      back : (n : Bool) (m : ℕ) → is_negative (signed_int n m) ≡ (n && ltb 0 m)
      back true zero = refl
      back true (suc m) = sym (lt-ltb 0 (suc m) (omega arith))
      back false m = refl

  pub number_above : largest < m → 7 ∷ [] ≡ number_answer negative m
  unfolding number_answer
  number_above h = rw (lt-leb m largest h)

  module _ (h : m ≤ largest) where
    plain : to_z w64 m ≡ pos m
    plain = to_z_pos w64 m (omega arith)

    pub minus-fits : SFits w64 (pos 0 -ℤ to_z w64 m)
    minus-fits = rw (plain, +ℤ_idl (neg_ℤ (pos m))) (record { sfits = omega (arith, mag-turned m) })

    -- any number that is the signed one answers
    pub number-told : (v : ℤ) → v ≡ signed_int negative m → told_number (Some v) ≡ number_answer negative m
    unfolding number_answer
    number-told v e =
        ap (λ (z : ℤ). told_number (Some z)) e
        ∙ rw (le-leb m largest h)
        (ap₂ (λ (s : Bool) (k : ℕ). 0 ∷ sign_number s ∷ k ∷ []) sign-back magnitude-back)

    pub minus_is : negative ≡ true → to_z w64 (of_z w64 (pos 0 -ℤ to_z w64 m)) ≡ signed_int negative m
    unfolding signed_int
    minus_is e = to_z-of_z w64 _ minus-fits ∙ ap (λ (z : ℤ). pos 0 -ℤ z) plain ∙ +ℤ_idl (neg_ℤ (pos m)) ∙ rw e refl

    pub plain_is : negative ≡ false → to_z w64 m ≡ signed_int negative m
    unfolding signed_int
    plain_is e = rw e plain

    pub number_minus : negative ≡ true → told_number (Some (to_z w64 (of_z w64 (pos 0 -ℤ to_z w64 m)))) ≡ number_answer negative m
    number_minus e = number-told _ (minus_is e)

    pub number_plain : negative ≡ false → told_number (Some (to_z w64 m)) ≡ number_answer negative m
    number_plain e = number-told _ (plain_is e)
