-- Fields whose last column is not blank: numbers that fit, identifiers, slots after the last satellite.
-- Assumes nothing.
use mathlib.Core.Bool.{Bool, true, false, cond, not, ◌&&◌}
use mathlib.Core.List.{List, [], ◌∷◌, ◌++◌, append_assoc}
use mathlib.Core.Path.{◌≡◌, refl, sym, ap, ◌∙◌}
use Prim.Native.Nat.{ℕ, zero, suc, ◌+◌, ◌-◌, ◌/◌, ◌%◌, ◌^◌, ◌<◌, ◌≤◌, min}
use native.Mathlib.Omega.{arith}
use native.Mathlib.Decide.{dec_le}
use borrow.Author.Tests.{eqb-true, ne_eqb, ltb-true, lt-ltb}
use lib.Dec.{leb, ltb, eqb}
use lib.ListN.{length, take, length-append}
use lib.Seq.{take_all, take_at, take-take, take-append-le}
use Rattle.laws.specs.Texts.{blanks}
use Rattle.field.specs.Digits.{point_of}
use Rattle.field.specs.Show.{last_digit, digits_in, fixed_digits, minus_text, sign_width, shown_negative, show_integer, fits_integer, show_whole, fits_whole, put_whole, show_signed, fits_signed, put_signed, show_decimal, fits_decimal, put_decimal, point_text}
use Rattle.field.specs.Sign.{largest}
use Rattle.layout.specs.Kind.{Kind, Held, number_in, negative_in, magnitude_in, mark_in, show_identifier, shown_text, shown_in, fits_in, may_end_blank}
use Rattle.layout.specs.Kind.Kind.{unused, fixed, whole, decimal, signed, clock, maybe, maybe_signed, flag, letter, listed, identifier, filler, zero_whole, zero_decimal, text}
use Rattle.layout.specs.Line.{trimmed}
use Rattle.layout.specs.Inking.{text_end}
use Rattle.laws.proofs.Bools.{and_left, and_right}
use Rattle.field.proofs.Back.{integer-length, decimal-length}
use Rattle.field.proofs.Fitting.{fits-facts, decimal-digits}
use Rattle.layout.proofs.Lines.{blanks-length, blanks-split}
use Rattle.layout.proofs.Fields.{not-false-true}
use Rattle.layout.proofs.Ends.{append-ends}

-- nothing is cut from a text, and there is some
pub record Inked (text : List ℕ) : Type 0 where
  pub whole : length (trimmed text) ≡ length text
  pub some : 0 < length text

-- what stands before it does not matter
pub inked-after : (a b : List ℕ) → Inked b → Inked (a ++ b)
inked-after a b k =
    let long = length-append a b in
    let some = k.some in
    record {
      whole = append-ends a b ∙ rw (k.whole, ne_eqb (length b) 0 (λ e. omega arith)) (sym long);
      some = omega arith;
    }

pub inked-byte : (b : ℕ) → (b ≡ 32 → ⊥) → Inked (b ∷ [])
inked-byte b h = record { whole = rw (ne_eqb b 32 h); some = omega arith }

digit : (v : ℕ) → Inked (last_digit v ∷ [])
digit v = inked-byte (last_digit v) (λ e. omega arith)

-- digits end in a digit
digits-inked : (n v : ℕ) → Inked (digits_in (suc n) v)
digits-inked n v = go (ltb v 10)
  where
    go : (t : Bool) → Inked (cond t (last_digit v ∷ []) (digits_in n (v / 10) ++ (last_digit v ∷ [])))
    go true = digit v
    go false = inked-after (digits_in n (v / 10)) (last_digit v ∷ []) (digit v)

integer-inked : (n : ℕ) (negative : Bool) (v : ℕ) → Inked (show_integer (suc n) negative v)
unfolding show_integer
integer-inked n negative v =
    let text = minus_text negative ++ digits_in (suc n) v in
    inked-after (blanks (suc n - length text)) text (inked-after (minus_text negative) (digits_in (suc n) v) (digits-inked n v))

-- the point, and digits after it or none
point-inked : (places m : ℕ) → Inked (point_text places m)
point-inked zero m = inked-byte 46 (λ e. omega arith)
point-inked (suc n) m =
    inked-after (46 ∷ []) (fixed_digits (suc n) m) (inked-after (fixed_digits n (m / 10)) (last_digit m ∷ []) (digit m))

decimal-inked : (w places : ℕ) (negative : Bool) (m : ℕ) → Inked (show_decimal w places negative m)
unfolding show_decimal
decimal-inked w places negative m =
    inked-after (show_integer (point_of places w) (shown_negative negative m) (m / 10 ^ places)) (point_text places m) (point-inked places m)

-- an integer and a decimal that fit
integer-ends : (w : ℕ) (negative : Bool) (v : ℕ) → fits_integer w negative v ≡ true → length (trimmed (show_integer w negative v)) ≡ w
integer-ends zero negative v fits = absurd (omega (arith, fits-facts 0 negative v fits))
integer-ends (suc n) negative v fits = (integer-inked n negative v).whole ∙ integer-length (suc n) negative v fits

places-end : (w places : ℕ) (negative : Bool) (m : ℕ) → fits_decimal w places negative m ≡ true → length (trimmed (show_decimal w places negative m)) ≡ w
places-end w places negative m fits = (decimal-inked w places negative m).whole ∙ decimal-length w places negative m fits

-- blanks are cut
pub blank_cut : (w : ℕ) → trimmed (blanks w) ≡ []
blank_cut zero = refl
blank_cut (suc w) = rw (blank_cut w)

-- a text of w columns that ends in the last where it is shown, and else is blank
pub record Fills (shown : Bool) (w : ℕ) (text : List ℕ) : Type 0 where
  pub ends : length (trimmed text) ≡ cond shown w 0
  pub long : length text ≡ w

pub blank-fills : (w : ℕ) → Fills false w (blanks w)
blank-fills w = record { ends = ap length (blank_cut w); long = blanks-length w }

put-fills : (w : ℕ) (fits : Bool) (text : List ℕ) → (fits ≡ true → length (trimmed text) ≡ w) → (fits ≡ true → length text ≡ w)
    → Fills fits w (cond fits text (blanks w))
put-fills w true bytes ends long = record { ends = ends refl; long = long refl }
put-fills w false bytes ends long = blank-fills w

module _ (w : ℕ) where
  pub whole-fills : (v : ℕ) → Fills (fits_whole w v) w (put_whole v (blanks w))
  whole-fills v = rw (blanks-length w) (put-fills w (fits_whole w v) (show_whole w v) (integer-ends w false v) (integer-length w false v))

  pub signed-fills : (negative : Bool) (m : ℕ) → Fills (fits_signed w negative m) w (put_signed negative m (blanks w))
  signed-fills negative m =
      rw (blanks-length w)
      (put-fills w (fits_signed w negative m) (show_signed w negative m) (integer-ends w (shown_negative negative m) m) (integer-length w (shown_negative negative m) m))

  pub decimal-fills : (places : ℕ) (negative : Bool) (m : ℕ) → Fills (fits_decimal w places negative m) w (put_decimal places negative m (blanks w))
  decimal-fills places negative m =
      rw (blanks-length w)
      (put-fills w (fits_decimal w places negative m) (show_decimal w places negative m) (places-end w places negative m) (decimal-length w places negative m))

  -- one that may be unknown
  pub maybe-fills : (none : Bool) {shown : Bool} {text : List ℕ} → Fills shown w text → Fills (not none && shown) w (cond none (blanks w) text)
  maybe-fills true f = blank-fills w
  maybe-fills false f = f

pub flag-fills : (sign : ℕ) (set : Bool) → 32 < sign → Fills set 1 (cond set sign 32 ∷ [])
flag-fills sign true h = record { ends = rw (ne_eqb sign 32 (λ e. omega arith)); long = refl }
flag-fills sign false h = record { ends = refl; long = refl }

-- where such a text ends, after so many columns
pub fills-end : (before : ℕ) {shown : Bool} {w : ℕ} {bytes : List ℕ} (earlier : ℕ) → 0 < w → Fills shown w bytes
    → text_end before bytes earlier ≡ cond shown (before + w) earlier
fills-end before {shown} {w} {bytes} earlier some f = go shown f.ends
  where
    go : (t : Bool) → length (trimmed bytes) ≡ cond t w 0 → text_end before bytes earlier ≡ cond t (before + w) earlier
    go true e = rw (e, ne_eqb w 0 (λ z. omega arith))
    go false e = rw e

-- a whole number, one with a sign, and a decimal, that fit
pub whole-ends : (n v : ℕ) → fits_whole (suc n) v ≡ true → length (trimmed (put_whole v (blanks (suc n)))) ≡ suc n
whole-ends n v fits = (whole-fills (suc n) v).ends ∙ rw fits

pub signed-ends : (n : ℕ) (negative : Bool) (m : ℕ) → fits_signed (suc n) negative m ≡ true → length (trimmed (put_signed negative m (blanks (suc n)))) ≡ suc n
signed-ends n negative m fits = (signed-fills (suc n) negative m).ends ∙ rw fits

pub decimal-ends : (w n : ℕ) (negative : Bool) (m : ℕ) → fits_decimal w (suc n) negative m ≡ true
    → length (trimmed (put_decimal (suc n) negative m (blanks w))) ≡ w
decimal-ends w n negative m fits = (decimal-fills w (suc n) negative m).ends ∙ rw fits

-- an identifier
pub identifier-fills : (code : ℕ) → Fills true 3 (show_identifier code)
identifier-fills code = record {
  ends = (inked-after ((code / 10 / 10 % 128) ∷ (48 + code / 10 % 10) ∷ []) ((48 + code % 10) ∷ []) (inked-byte (48 + code % 10) (λ e. omega arith))).whole;
  long = refl;
}

pub identifier-ends : (code : ℕ) → length (trimmed (show_identifier code)) ≡ 3
identifier-ends code = (identifier-fills code).ends

true-not-false : true ≡ false → ⊥
true-not-false e = not-false-true (sym e)

-- a text in w columns: the first of them, and where it ends
pub text-part : (k w : ℕ) (bytes : List ℕ) → k ≤ w → shown_text k bytes ≡ take k (shown_text w bytes)
text-part k w bytes h =
    let more : k + (w - k) ≡ w = omega arith in
    let joined : bytes ++ blanks w ≡ (bytes ++ blanks k) ++ blanks (w - k) =
    ap (λ (l : List ℕ). bytes ++ l) (blanks-split k (w - k) w more) ∙ sym (append_assoc bytes (blanks k) (blanks (w - k))) in
    sym
    (take-take k w (bytes ++ blanks w) h
    ∙ ap (take k) joined
    ∙ take-append-le k (bytes ++ blanks k) (blanks (w - k)) (omega (arith, length-append bytes (blanks k), blanks-length k)))

pub text-ends : (w : ℕ) (bytes : List ℕ) → length (trimmed (shown_text w bytes)) ≡ length (trimmed (take (min (length bytes) w) bytes))
text-ends w bytes = go (dec_le w (length bytes))
  where
    go : Dec (w ≤ length bytes) → length (trimmed (shown_text w bytes)) ≡ length (trimmed (take (min (length bytes) w) bytes))
    go (yes p) =
        let fewer : min (length bytes) w ≡ w = omega arith in
        rw fewer (ap (λ (l : List ℕ). length (trimmed l)) (take-append-le w bytes (blanks w) p))
    go (no p) =
        let fewer : min (length bytes) w ≡ length bytes = omega arith in
        let k = w - length bytes in
        let filled : shown_text w bytes ≡ bytes ++ blanks k =
        ap (λ (l : List ℕ). take w (bytes ++ l)) (blanks-split k (length bytes) w (omega arith))
        ∙ ap (take w) (sym (append_assoc bytes (blanks k) (blanks (length bytes))))
        ∙ take_at (bytes ++ blanks k) (blanks (length bytes)) w (length-append bytes (blanks k) ∙ omega (arith, blanks-length k)) in
        rw (fewer, take_all (length bytes) bytes (omega arith))
        (ap (λ (l : List ℕ). length (trimmed l)) filled ∙ append-ends bytes (blanks k) ∙ rw (blank_cut k))

-- a field of any kind that does not end in blanks after other bytes: whether it is shown, and that it fills its columns then
abbrev pub is_shown : Kind → ℕ → Held → Bool
is_shown unused w v = false
is_shown (fixed number these) w v = true
is_shown (whole low high) w v = fits_whole w (number_in v)
is_shown (decimal places low high) w v = fits_decimal w places false (number_in v)
is_shown (signed places) w v = fits_decimal w places (negative_in v) (magnitude_in v)
is_shown (clock places) w v = fits_decimal w places (negative_in v) (magnitude_in v)
is_shown (maybe none) w v = not (eqb (number_in v) none) && fits_whole w (number_in v)
is_shown (maybe_signed none high) w v = not (eqb (magnitude_in v) none) && fits_signed w (negative_in v) (magnitude_in v)
is_shown (flag sign) w v = mark_in v
is_shown (letter these) w v = true
is_shown (listed these) w v = true
is_shown identifier w v = true
is_shown filler w v = true
is_shown zero_whole w v = fits_whole w 0
is_shown (zero_decimal places) w v = fits_decimal w places false 0
is_shown text w v = true

pub kind-fills : (kind : Kind) (w : ℕ) (v : Held) → may_end_blank kind ≡ false → fits_in kind w ≡ true → Fills (is_shown kind w v) w (shown_in kind w v)
kind-fills unused w v m f = blank-fills w
kind-fills (fixed number these) w v m f = absurd (true-not-false m)
kind-fills (whole low high) w v m f = whole-fills w (number_in v)
kind-fills (decimal places low high) w v m f = decimal-fills w places false (number_in v)
kind-fills (signed places) w v m f = decimal-fills w places (negative_in v) (magnitude_in v)
kind-fills (clock places) w v m f = decimal-fills w places (negative_in v) (magnitude_in v)
kind-fills (maybe none) w v m f = maybe-fills w (eqb (number_in v) none) (whole-fills w (number_in v))
kind-fills (maybe_signed none high) w v m f = maybe-fills w (eqb (magnitude_in v) none) (signed-fills w (negative_in v) (magnitude_in v))
kind-fills (flag sign) w v m f =
    let one = eqb-true w 1 (and_left (eqb w 1) (ltb 32 sign && leb sign 126) f) in
    let inked = ltb-true 32 sign (and_left (ltb 32 sign) (leb sign 126) (and_right (eqb w 1) (ltb 32 sign && leb sign 126) f)) in
    rw one (flag-fills sign (mark_in v) inked)
kind-fills (letter these) w v m f = absurd (true-not-false m)
kind-fills (listed these) w v m f = absurd (true-not-false m)
kind-fills identifier w v m f = rw (eqb-true w 3 f) (identifier-fills (number_in v))
kind-fills filler w v m f = rw (eqb-true w 3 f) (record { ends = refl; long = refl })
kind-fills zero_whole w v m f = whole-fills w 0
kind-fills (zero_decimal places) w v m f = decimal-fills w places false 0
kind-fills text w v m f = absurd (true-not-false m)

-- a decimal without a minus, and one of a row, fit their columns
pub decimal-fits : (w places m : ℕ) → w ≤ 18 → places < w → 0 < point_of places w → m < 10 ^ (w - 1 - 0) → fits_decimal w places false m ≡ true
decimal-fits w places m narrow room some h = sym (decimal-digits w places false m narrow room some) ∙ lt-ltb m (10 ^ (w - 1 - 0)) h

pub amount-fits : (negative : Bool) (m : ℕ) → m ≤ largest → fits_decimal 14 6 negative m ≡ true
amount-fits negative m h =
    sym (decimal-digits 14 6 negative m (omega arith) (omega arith) (small (shown_negative negative m))) ∙ below (shown_negative negative m)
  where
    small : (minus : Bool) → sign_width minus < point_of 6 14
    small true = omega arith
    small false = omega arith

    below : (minus : Bool) → ltb m (10 ^ (14 - 1 - sign_width minus)) ≡ true
    below true = lt-ltb m (10 ^ 12) (omega arith)
    below false = lt-ltb m (10 ^ 13) (omega arith)
