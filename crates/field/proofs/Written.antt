-- What the writers' steps leave in the output is the text of the number.
-- Assumes nothing.
use mathlib.Core.Path.{◌≡◌, refl, sym, ◌∙◌, ap, ap₂}
use mathlib.Core.List.{List, [], ◌∷◌, ◌++◌}
use mathlib.Core.Bool.{Bool, true, false}
use Prim.Native.Nat.{ℕ, zero, suc, ◌+◌, ◌-◌, ◌*◌, ◌/◌, ◌%◌, ◌^◌, ◌<◌}
use native.Mathlib.Nat.{mul_assoc, div-add-mod'}
use native.Mathlib.Omega.{arith}
use borrow.Rule.Slice.PartMut.{put_mid}
use lib.ListN.{length, take, set, length-replicate}
use Rattle.laws.specs.Texts.{blanks}
use Rattle.field.specs.Digits.{point_of}
use Rattle.field.specs.Show.{digits_in, fixed_digits, point_text, show_integer, fits_integer, shown_negative, show_decimal}
use Rattle.laws.proofs.Lists.{one_less, first-same}
use Rattle.laws.proofs.Lent.{rest_back}
use Rattle.field.proofs.Powers.{ten-suc}
use Rattle.field.proofs.Fitting.{fits-facts}
use Rattle.field.proofs.Texts.{digits-length, digits-some}

-- the minus over the last of the blanks
minus-put : (n : ℕ) (text : List ℕ) → 0 < n → set (blanks n ++ text) (n - 1) 45 ≡ blanks (n - 1) ++ (45 ∷ text)
minus-put zero text pos = absurd (omega arith)
minus-put (suc n) text pos =
    ap (λ (k : ℕ). set (blanks (suc n) ++ text) k 45) (one_less n) ∙ last_set n ∙ ap (λ (k : ℕ). blanks k ++ (45 ∷ text)) (sym (one_less n))
  where
    last_set : (n : ℕ) → set (blanks (suc n) ++ text) n 45 ≡ blanks n ++ (45 ∷ text)
    last_set zero = refl
    last_set (suc n) = ap (λ (t : List ℕ). 32 ∷ t) (last_set n)

-- the digits at the right of w columns of blanks: with the minus before them they are the integer's text
module _ (w v r : ℕ) (blank now : List ℕ) (negative : Bool) (filled : blank ≡ blanks w)
    (start : r ≡ length blank - length (digits_in (length blank) v)) (put : now ≡ take r blank ++ digits_in (length blank) v) where
  long : length blank ≡ w
  long = ap length filled ∙ length-replicate w 32

  begin : r ≡ w - length (digits_in w v)
  begin = rw long at start

  digits-put : now ≡ blanks r ++ digits_in w v
  digits-put = rw (long, filled, first-same r w 32 (omega (arith, begin))) at put

  pub integer-plain : negative ≡ false → now ≡ show_integer w negative v
  unfolding show_integer
  integer-plain e = rw e (digits-put ∙ ap (λ (k : ℕ). blanks k ++ digits_in w v) begin)

  module _ (e : negative ≡ true) (fits : fits_integer w negative v ≡ true) where
    -- the minus has a column, and a digit has one
    pub minus-column : (0 < r) × (r < w)
    minus-column =
        let facts = fits-facts w true v (rw e at fits) in
        (omega (arith, begin, digits-length w (w - 1) v (omega arith) facts.2), omega (arith, begin, digits-some w v (omega arith)))

    pub integer-minus : set now (r - 1) 45 ≡ show_integer w negative v
    unfolding show_integer
    integer-minus =
        let less : r - 1 ≡ w - suc (length (digits_in w v)) = omega (arith, begin) in
        rw e
        (ap (λ (t : List ℕ). set t (r - 1) 45) digits-put
        ∙ minus-put r (digits_in w v) minus-column.0
        ∙ ap (λ (k : ℕ). blanks k ++ (45 ∷ digits_in w v)) less)

-- the point, and the digits in the columns after it
pub point-text : (out part : List ℕ) (v : ℕ) → 0 < length out → part ≡ fixed_digits (length out - 1) v
    → put_mid 1 (length (set out 0 46) - 1) (set out 0 46) part ≡ point_text (length out - 1) v
point-text [] part v some e = absurd (omega arith)
point-text (b ∷ out) part v some e = rest_back 1 (46 ∷ out) part (omega arith) ∙ ap (λ (t : List ℕ). 46 ∷ t) e

-- the lowest digits of a number are those of its part below the point
fixed-low : (n high low : ℕ) → fixed_digits n (high * 10 ^ n + low) ≡ fixed_digits n low
fixed-low zero high low = refl
fixed-low (suc n) high low =
    let more : high * 10 ^ suc n ≡ high * 10 ^ n * 10 = ap (λ (k : ℕ). high * k) (ten-suc n) ∙ sym (mul_assoc high (10 ^ n) 10) in
    rw (more, tenth (high * 10 ^ n), last (high * 10 ^ n), fixed-low n high (low / 10))
  where
    tenth : (a : ℕ) → (a * 10 + low) / 10 ≡ a + low / 10
    tenth a = omega arith

    last : (a : ℕ) → (a * 10 + low) % 10 ≡ low % 10
    last a = omega arith

fixed-below : (n v : ℕ) → fixed_digits n (v % 10 ^ n) ≡ fixed_digits n v
fixed-below n v = sym (fixed-low n (v / 10 ^ n) (v % 10 ^ n)) ∙ ap (fixed_digits n) (div-add-mod' v (10 ^ n))

-- the parts before the point and from it on, each in its own columns
pub decimal-text : (w places : ℕ) (negative : Bool) (m k n unit : ℕ) (minus : Bool) (before after : List ℕ)
    → k ≡ point_of places w → n ≡ places → minus ≡ shown_negative negative m → unit ≡ 10 ^ places
    → before ≡ show_integer k minus (m / unit) → after ≡ point_text n (m % unit)
    → before ++ after ≡ show_decimal w places negative m
unfolding show_decimal
decimal-text w places negative m k n unit minus before after ek en em eu eb ea =
    let shown : before ≡ show_integer (point_of places w) (shown_negative negative m) (m / 10 ^ places) = rw (← ek, ← em, ← eu) eb in
    let point : after ≡ point_text places (m % 10 ^ places) = rw (← eu, ← en) ea in
    ap₂ (λ (a b : List ℕ). a ++ b) shown (point ∙ ap (λ (t : List ℕ). 46 ∷ t) (fixed-below places m))
