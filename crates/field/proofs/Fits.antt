-- A number fits exactly where its digits, its minus and its point have the columns.
-- Assumes nothing.
use mathlib.Core.Path.{◌≡◌, refl, sym, ◌∙◌, ap}
use mathlib.Core.Bool.{Bool, true, false}
use Prim.Native.Nat.{ℕ, ◌+◌, ◌-◌, ◌/◌, ◌^◌, ◌<◌, ◌≤◌}
use native.Mathlib.Nat.{div-le_self, lt_of_le_of_lt}
use native.Mathlib.Omega.{arith}
use borrow.Author.Tests.{le-leb, lt-leb, leb-true, leb-false, lt-ltb, ltb-true, ltb-false}
use lib.Dec.{leb, ltb}
use Rattle.field.specs.Digits.{point_of}
use Rattle.field.specs.Show.{digit_count, sign_width, shown_negative, fits_integer, fits_decimal}
use Rattle.field.proofs.Bounds.{wider}
use Rattle.field.proofs.Fitting.{fits-narrow, fits-test, fits-true, decimal_placeless, decimal-test, whole-part-test}
use Rattle.field.proofs.Texts.{digits-length, digits-some, digits-longer}

count-test : (n v : ℕ) → 0 < n → v < 10 ^ 20 → ltb v (10 ^ n) ≡ leb (digit_count v) n
count-test n v pos h = test (ltb v (10 ^ n)) refl
  where
    test : (t : Bool) → ltb v (10 ^ n) ≡ t → t ≡ leb (digit_count v) n
    test true e = sym (le-leb (digit_count v) n (digits-length 20 n v pos (ltb-true v (10 ^ n) e)))
    test false e = sym (lt-leb (digit_count v) n (digits-longer 20 n v h (ltb-false v (10 ^ n) e)))

-- columns given up on both sides
leb-past : (a n w : ℕ) → a ≤ w → leb n (w - a) ≡ leb (a + n) w
leb-past a n w h = test (leb n (w - a)) refl
  where
    test : (t : Bool) → leb n (w - a) ≡ t → t ≡ leb (a + n) w
    test true e = sym (le-leb (a + n) w (omega (arith, leb-true n (w - a) e)))
    test false e = sym (lt-leb (a + n) w (omega (arith, leb-false n (w - a) e)))

-- integers: as many columns as the minus and the digits
pub integer-fits : (w : ℕ) (negative : Bool) (v : ℕ) → w ≤ 18 → v < 10 ^ 20 → fits_integer w negative v ≡ leb (sign_width negative + digit_count v) w
integer-fits w negative v narrow h = test (ltb (sign_width negative) w) refl
  where
    test : (t : Bool) → ltb (sign_width negative) w ≡ t → fits_integer w negative v ≡ leb (sign_width negative + digit_count v) w
    test true e =
        let room = ltb-true (sign_width negative) w e in
        sym (fits-test w negative v narrow room)
        ∙ count-test (w - sign_width negative) v (omega arith) h
        ∙ leb-past (sign_width negative) (digit_count v) w (omega arith)
    test false e =
        let none = ltb-false (sign_width negative) w e in
        sym (fits-narrow w negative v narrow none)
        ∙ sym (lt-leb (sign_width negative + digit_count v) w (omega (arith, digits-some 20 v (omega arith))))

-- decimals: the places and the point too
pub decimal-fits : (w places : ℕ) (negative : Bool) (m : ℕ) → w ≤ 18 → m < 10 ^ 20
    → fits_decimal w places negative m ≡ leb (places + 1 + (sign_width (shown_negative negative m) + digit_count (m / 10 ^ places))) w
decimal-fits w places negative m narrow h = test (ltb places w) refl
  where
    high : m / 10 ^ places < 10 ^ 20
    high = lt_of_le_of_lt (div-le_self m (10 ^ places)) h

    less : w - places - 1 ≡ w - (places + 1)
    less = omega arith

    test : (t : Bool) → ltb places w ≡ t
        → fits_decimal w places negative m ≡ leb (places + 1 + (sign_width (shown_negative negative m) + digit_count (m / 10 ^ places))) w
    test true e =
        let room = ltb-true places w e in
        let text = sign_width (shown_negative negative m) + digit_count (m / 10 ^ places) in
        sym (decimal-test w places negative m narrow room)
        ∙ integer-fits (point_of places w) (shown_negative negative m) (m / 10 ^ places) (omega arith) high
        ∙ ap (leb text) less
        ∙ leb-past (places + 1) text w (omega arith)
    test false e =
        sym (decimal_placeless w places negative m narrow (ltb-false places w e))
        ∙ sym (lt-leb _ w (omega (arith, ltb-false places w e)))

pub sign-one : (n : Bool) → sign_width n ≤ 1
sign-one true = omega arith
sign-one false = omega arith

-- a bound on the number is enough, where a column is left for the minus
pub decimal-room : (w places q : ℕ) (negative : Bool) (m : ℕ) → w ≤ 18 → 0 < q → places + 2 + q ≤ w → m < 10 ^ (q + places)
    → fits_decimal w places negative m ≡ true
decimal-room w places q negative m narrow pos room h =
    let shown = shown_negative negative m in
    let below : m / 10 ^ places < 10 ^ q =
    ltb-true (m / 10 ^ places) (10 ^ q) (sym (whole-part-test m q places) ∙ lt-ltb m (10 ^ (q + places)) h) in
    sym (decimal-test w places negative m narrow (omega arith))
    ∙ fits-true (point_of places w) shown (m / 10 ^ places) (omega arith) (omega (arith, sign-one shown)) (wider (omega (arith, sign-one shown)) below)
