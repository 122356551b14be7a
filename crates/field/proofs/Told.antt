-- Each answer is known by its number and values: two that are told alike are one.
-- Assumes nothing.
use mathlib.Core.Path.{◌≡◌, refl, sym, ◌∙◌, ap₂}
use mathlib.Core.Bool.{Bool, true, false}
use Prim.Native.Nat.{ℕ, ◌≤◌}
use lib.IntN.{ℤ, pos, negsuc, nat_abs}
use Rattle.field.specs.Read.{some_amount, sign_number, told_whole, told_amount, told_exponent}
use Rattle.field.specs.Sign.{largest, signed_int, is_negative, told_number, number_answer}
use Rattle.std.specs.Prelude.{Option, Some, None}
use Rattle.field.specs.declared.Signed.{Signed}
use Rattle.field.specs.declared.Exponent.{Exponent}
use Rattle.field.specs.declared.Exponent.TheVariants as exponent
use Rattle.field.proofs.Signs.{number-told}

pub told_whole-one : (a b : Option ℕ) → told_whole a ≡ told_whole b → a ≡ b
told_whole-one (Some v) (Some u) e = cc
told_whole-one (Some v) None e = cc
told_whole-one None (Some u) e = cc
told_whole-one None None e = refl

sign-apart : (a b : Bool) → sign_number a ≡ sign_number b → a ≡ b
sign-apart true true e = refl
sign-apart true false e = cc
sign-apart false true e = cc
sign-apart false false e = refl

pub told_amount-one : (a b : Option Signed) → told_amount a ≡ told_amount b → a ≡ b
told_amount-one (Some a) (Some b) e =
    let s : sign_number a.negative ≡ sign_number b.negative = cc in
    let same : a.negative ≡ b.negative = sign-apart a.negative b.negative s in
    let size : a.magnitude ≡ b.magnitude = cc in
    ap₂ some_amount same size
told_amount-one (Some a) None e = cc
told_amount-one None (Some b) e = cc
told_amount-one None None e = refl

pub told_exponent-one : (a b : Exponent) → told_exponent a ≡ told_exponent b → a ≡ b
told_exponent-one (exponent.Value v) (exponent.Value u) e = cc
told_exponent-one (exponent.Value v) exponent.Unknown e = cc
told_exponent-one (exponent.Value v) exponent.Malformed e = cc
told_exponent-one exponent.Unknown (exponent.Value u) e = cc
told_exponent-one exponent.Unknown exponent.Unknown e = refl
told_exponent-one exponent.Unknown exponent.Malformed e = cc
told_exponent-one exponent.Malformed (exponent.Value u) e = cc
told_exponent-one exponent.Malformed exponent.Unknown e = cc
told_exponent-one exponent.Malformed exponent.Malformed e = refl

-- a signed number is known by its sign and its magnitude
int-one : (v u : ℤ) → is_negative v ≡ is_negative u → nat_abs v ≡ nat_abs u → v ≡ u
int-one (pos n) (pos m) s e = cc
int-one (pos n) (negsuc m) s e = cc
int-one (negsuc n) (pos m) s e = cc
int-one (negsuc n) (negsuc m) s e = cc

pub told_number-one : (a b : Option ℤ) → told_number a ≡ told_number b → a ≡ b
told_number-one (Some v) (Some u) e =
    let s : sign_number (is_negative v) ≡ sign_number (is_negative u) = cc in
    let m : nat_abs v ≡ nat_abs u = cc in
    let same : v ≡ u = int-one v u (sign-apart (is_negative v) (is_negative u) s) m in
    cc
told_number-one (Some v) None e = cc
told_number-one None (Some u) e = cc
told_number-one None None e = refl

-- so a sign and a magnitude that is in bounds make one number
pub number_is : (negative : Bool) (m : ℕ) → m ≤ largest → (r : Option ℤ) → told_number r ≡ number_answer negative m → r ≡ Some (signed_int negative m)
number_is negative m h r e =
    told_number-one r (Some (signed_int negative m)) (e ∙ sym (number-told negative m h (signed_int negative m) refl))
