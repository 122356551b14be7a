-- Whether a number fits its columns: one law for each way that the code takes.
-- Assumes nothing.
use mathlib.Core.Path.{◌≡◌, refl, sym, ◌∙◌, ap}
use mathlib.Core.Bool.{Bool, true, false}
use Prim.Native.Nat.{ℕ, ◌+◌, ◌-◌, ◌*◌, ◌/◌, ◌^◌, ◌<◌, ◌≤◌}
use native.Mathlib.Nat.{div-lt_iff_lt-mul}
use native.Mathlib.Omega.{arith}
use borrow.Author.Tests.{leb-true, ltb-true, le-leb, lt-leb, lt-ltb, le-ltb}
use lib.Dec.{leb, ltb}
use lib.Pow.{pow-add}
use Rattle.field.specs.Scale.{ten_to}
use Rattle.field.specs.Show.{sign_width, fits_integer, fits_exponent, shown_negative, fits_decimal}
use Rattle.field.specs.Digits.{point_of}
use Rattle.field.specs.declared.Exponent.{Exponent}
use Rattle.field.specs.declared.Exponent.TheVariants as exponent
use Rattle.laws.proofs.Bools.{and_left, and_right, same_truth}
use Rattle.field.proofs.Powers.{ten_to_is, ten_pos}

module _ (w : ℕ) (negative : Bool) (v : ℕ) where
  pub fits-wide : 18 < w → false ≡ fits_integer w negative v
  unfolding fits_integer
  fits-wide h = rw (lt-leb w 18 h)

  pub fits-narrow : w ≤ 18 → w ≤ sign_width negative → false ≡ fits_integer w negative v
  unfolding fits_integer
  fits-narrow h n = rw (le-leb w 18 h, le-ltb (sign_width negative) w n)

  pub fits-test : w ≤ 18 → sign_width negative < w → ltb v (10 ^ (w - sign_width negative)) ≡ fits_integer w negative v
  unfolding fits_integer
  fits-test h n = rw (le-leb w 18 h, lt-ltb (sign_width negative) w n)

  pub fits-true : w ≤ 18 → sign_width negative < w → v < 10 ^ (w - sign_width negative) → fits_integer w negative v ≡ true
  fits-true h n l = sym (fits-test h n) ∙ lt-ltb v (10 ^ (w - sign_width negative)) l

pub exponent_wide : (w : ℕ) (e : Exponent) → 18 < w → fits_exponent w e ≡ false
exponent_wide w (exponent.Value v) h = sym (fits-wide w false v h)
exponent_wide w exponent.Unknown h = lt-leb w 18 h
exponent_wide w exponent.Malformed h = refl

-- a number's part above its places has n digits at most where the number has so many more
pub whole-part-test : (m n places : ℕ) → ltb m (10 ^ (n + places)) ≡ ltb (m / 10 ^ places) (10 ^ n)
whole-part-test m n places =
    let bound : 10 ^ (n + places) ≡ 10 ^ n * 10 ^ places = pow-add 10 n places in
    let iff = div-lt_iff_lt-mul {k = 10 ^ places} {x = m} {y = 10 ^ n} (ten_pos places) in
    ap (ltb m) bound
    ∙ same_truth (ltb m (10 ^ n * 10 ^ places)) (ltb (m / 10 ^ places) (10 ^ n))
    (λ t. lt-ltb (m / 10 ^ places) (10 ^ n) (iff.1 (ltb-true m (10 ^ n * 10 ^ places) t)))
    (λ t. lt-ltb m (10 ^ n * 10 ^ places) (iff.0 (ltb-true (m / 10 ^ places) (10 ^ n) t)))

module _ (w places : ℕ) (negative : Bool) (m : ℕ) where
  pub decimal_wide : 18 < w → false ≡ fits_decimal w places negative m
  unfolding fits_decimal
  decimal_wide h = rw (lt-leb w 18 h)

  module _ (narrow : w ≤ 18) where
    pub decimal_placeless : w ≤ places → false ≡ fits_decimal w places negative m
    unfolding fits_decimal
    decimal_placeless n = rw (le-leb w 18 narrow, le-ltb places w n)

    module _ (room : places < w) where
      pub decimal-test : fits_integer (point_of places w) (shown_negative negative m) (m / 10 ^ places) ≡ fits_decimal w places negative m
      unfolding fits_decimal
      decimal-test = rw (le-leb w 18 narrow, lt-ltb places w room)

      -- as a whole number without its point
      pub decimal-digits : sign_width (shown_negative negative m) < point_of places w
          → ltb m (10 ^ (w - 1 - sign_width (shown_negative negative m))) ≡ fits_decimal w places negative m
      decimal-digits n =
          let sign = sign_width (shown_negative negative m) in
          let columns : w - 1 - sign ≡ point_of places w - sign + places = omega arith in
          ap (λ (k : ℕ). ltb m (10 ^ k)) columns
          ∙ whole-part-test m (point_of places w - sign) places
          ∙ fits-test (point_of places w) (shown_negative negative m) (m / 10 ^ places) (omega arith) n
          ∙ decimal-test

  -- by the columns of the sign and the power of ten that bounds the others
  module _ (sign : ℕ) (narrow : w ≤ 18) (room : places < w) (is : sign ≡ sign_width (shown_negative negative m)) where
    pub decimal_crowded : w - places - 1 ≤ sign → false ≡ fits_decimal w places negative m
    decimal_crowded n =
        fits-narrow (point_of places w) (shown_negative negative m) (m / 10 ^ places) (omega arith) (omega arith) ∙ decimal-test narrow room

    pub decimal_bounded : sign < w - places - 1 → (unit : ℕ) → unit ≡ ten_to (w - 1 - sign) → ltb m unit ≡ fits_decimal w places negative m
    decimal_bounded n unit e =
        let columns : w - 1 - sign ≡ w - 1 - sign_width (shown_negative negative m) = ap (λ (k : ℕ). w - 1 - k) is in
        ap (ltb m) (e ∙ ten_to_is (w - 1 - sign) (omega arith) ∙ ap (λ (k : ℕ). 10 ^ k) columns)
        ∙ decimal-digits narrow room (omega arith)

-- what a number that fits satisfies
pub fits-facts : (w : ℕ) (negative : Bool) (v : ℕ) → fits_integer w negative v ≡ true
    → (w ≤ 18) × (sign_width negative < w) × (v < 10 ^ (w - sign_width negative))
unfolding fits_integer
fits-facts w negative v e =
    let rest = and_right (leb w 18) _ e in
    let sign = sign_width negative in
    (leb-true w 18 (and_left (leb w 18) _ e), ltb-true sign w (and_left (ltb sign w) _ rest), ltb-true v (10 ^ (w - sign)) (and_right (ltb sign w) _ rest))

pub decimal-facts : (w places : ℕ) (negative : Bool) (m : ℕ) → fits_decimal w places negative m ≡ true
    → (w ≤ 18) × (places < w) × (fits_integer (point_of places w) (shown_negative negative m) (m / 10 ^ places) ≡ true)
unfolding fits_decimal
decimal-facts w places negative m e =
    let rest = and_right (leb w 18) _ e in
    (leb-true w 18 (and_left (leb w 18) _ e), ltb-true places w (and_left (ltb places w) _ rest), and_right (ltb places w) _ rest)
