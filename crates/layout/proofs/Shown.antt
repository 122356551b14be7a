-- What fields are shown by: blanks, printable bytes, texts, and numbers put over blanks.
-- Assumes nothing.
use mathlib.Core.Path.{◌≡◌, refl, ap}
use mathlib.Core.Bool.{Bool, true, false, cond}
use mathlib.Core.List.{List, [], ◌∷◌, ◌++◌}
use Prim.Native.Nat.{ℕ, zero, suc, ◌+◌, ◌-◌, ◌<◌, ◌≤◌}
use native.Mathlib.Numerals.{add-one}
use native.Mathlib.Omega.{arith}
use borrow.Author.Tests.{le-leb, ne_eqb}
use lib.Dec.{eqb}
use lib.ListN.{length, get_or, drop, length-append}
use lib.Seq.{drop-cons, length-take-le, take_at}
use Rattle.laws.specs.Texts.{every, is_printable, blanks}
use Rattle.field.specs.Digits.{all_digits}
use Rattle.field.specs.Show.{digits_in, minus_text, shown_negative, show_integer, show_whole, fits_whole, put_whole, show_signed, fits_signed, put_signed, show_decimal, fits_decimal, put_decimal}
use Rattle.layout.specs.Fault.{clean, keyed}
use Rattle.layout.specs.Kind.{printable, unused_fault, is_blank, shown_text}
use Rattle.field.proofs.Back.{integer-length, decimal-length}
use Rattle.field.proofs.Fitting.{fits-facts}
use Rattle.field.proofs.Texts.{digits-all, digits-some, first-digit}
use Rattle.laws.proofs.Bools.{and-false}
use Rattle.layout.proofs.Lines.{blanks-length}

pub printable-byte : (b : ℕ) → 32 ≤ b → b ≤ 126 → is_printable b ≡ true
printable-byte b p q = rw (le-leb 32 b p, le-leb b 126 q)

pub blanks-clean : (w at : ℕ) → unused_fault at (blanks w) ≡ clean
blanks-clean zero at = refl
blanks-clean (suc w) at = blanks-clean w (suc at)

pub blanks-printable : (w : ℕ) → printable (blanks w) ≡ true
blanks-printable zero = refl
blanks-printable (suc w) = blanks-printable w

pub blanks-blank : (w : ℕ) → every is_blank (blanks w) ≡ true
blanks-blank zero = refl
blanks-blank (suc w) = blanks-blank w

-- a text fills its columns, and one as wide as they are stands as it is
pub text-wide : (w : ℕ) (bytes : List ℕ) → length (shown_text w bytes) ≡ w
text-wide w bytes = length-take-le w (bytes ++ blanks w) (omega (arith, length-append bytes (blanks w), blanks-length w))

pub text-whole : (w : ℕ) (bytes : List ℕ) → length bytes ≡ w → shown_text w bytes ≡ bytes
text-whole w bytes e = take_at bytes (blanks w) w e

-- a number over w blanks: where it fits it is shown, and it fills its columns in any case
module _ (w v : ℕ) where
  pub whole-put : fits_whole w v ≡ true → put_whole v (blanks w) ≡ show_whole w v
  whole-put fits = rw (blanks-length w, fits)

  pub whole_wide : length (put_whole v (blanks w)) ≡ w
  whole_wide = rw (blanks-length w) (go (fits_whole w v) refl)
    where
      go : (t : Bool) → fits_whole w v ≡ t → length (cond t (show_whole w v) (blanks w)) ≡ w
      go true e = integer-length w false v e
      go false e = blanks-length w

-- digits are no blanks
digits-inked : (s : List ℕ) → all_digits s ≡ true → 0 < length s → every is_blank s ≡ false
digits-inked [] e h = absurd (omega arith)
digits-inked (b ∷ s) e h = rw (ne_eqb b 32 (λ q. omega (arith, first-digit (b ∷ s) e h)))

inked-after : (a b : List ℕ) → every is_blank b ≡ false → every is_blank (a ++ b) ≡ false
inked-after [] b h = h
inked-after (x ∷ a) b h = rw (inked-after a b h) (and-false (is_blank x))

module _ (w : ℕ) (negative : Bool) (m : ℕ) where
  pub signed-put : fits_signed w negative m ≡ true → put_signed negative m (blanks w) ≡ show_signed w negative m
  signed-put fits = rw (blanks-length w, fits)

  pub signed-wide : length (put_signed negative m (blanks w)) ≡ w
  signed-wide = rw (blanks-length w) (go (fits_signed w negative m) refl)
    where
      go : (t : Bool) → fits_signed w negative m ≡ t → length (cond t (show_signed w negative m) (blanks w)) ≡ w
      go true e = integer-length w (shown_negative negative m) m e
      go false e = blanks-length w

  -- a number that is shown is not blank
  pub signed-inked : fits_signed w negative m ≡ true → every is_blank (show_signed w negative m) ≡ false
  unfolding show_integer
  signed-inked fits =
      let minus = shown_negative negative m in
      let facts = fits-facts w minus m fits in
      let text = minus_text minus ++ digits_in w m in
      inked-after (blanks (w - length text)) text
      (inked-after (minus_text minus) (digits_in w m) (digits-inked (digits_in w m) (digits-all w m) (digits-some w m (omega (arith, facts)))))

module _ (w places : ℕ) (negative : Bool) (m : ℕ) where
  pub places-put : fits_decimal w places negative m ≡ true → put_decimal places negative m (blanks w) ≡ show_decimal w places negative m
  places-put fits = rw (blanks-length w, fits)

  pub places-wide : length (put_decimal places negative m (blanks w)) ≡ w
  places-wide = rw (blanks-length w) (go (fits_decimal w places negative m) refl)
    where
      go : (t : Bool) → fits_decimal w places negative m ≡ t → length (cond t (show_decimal w places negative m) (blanks w)) ≡ w
      go true e = decimal-length w places negative m e
      go false e = blanks-length w

-- unused columns, read from the left: the start, and one more
pub unused-start : (first : ℕ) (bytes : List ℕ) → unused_fault first bytes ≡ unused_fault (first + 0) bytes
unused-start first bytes = ap (λ (n : ℕ). unused_fault n bytes) (let same : first ≡ first + 0 = omega arith in same)

pub unused-step : (first : ℕ) (bytes : List ℕ) (i : ℕ) → i < length bytes
    → unused_fault (first + i) (drop i bytes) ≡ cond (eqb (get_or bytes i 0) 32) (unused_fault (first + (i + 1)) (drop (i + 1) bytes)) (keyed 5 (first + i))
unused-step first bytes i h =
    let next : suc (first + i) ≡ first + (i + 1) = omega arith in
    rw (drop-cons bytes i 0 h, next, add-one i)
