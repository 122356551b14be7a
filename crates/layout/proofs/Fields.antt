-- What a field shows: it fills its columns, and what it can hold is shown in printable bytes and read back without fault.
-- One law over every kind, width and column. Numbers are cited from `field`. Assumes nothing.
use mathlib.Core.Path.{◌≡◌, refl, sym, ap, ◌∙◌}
use mathlib.Core.Bool.{Bool, true, false, cond, not, ◌&&◌, ◌||◌}
use mathlib.Core.List.{List, [], ◌∷◌}
use Prim.Native.Nat.{ℕ, zero, suc, ◌<◌, ◌≤◌, ◌^◌}
use native.Mathlib.Omega.{arith}
use borrow.Author.Tests.{le-leb, leb-true, ltb-true, eqb-true, eq-eqb, ne_eqb, not-true}
use lib.Dec.{leb, ltb, eqb}
use lib.ListN.{length, take}
use Rattle.laws.specs.Tests.{within}
use Rattle.laws.specs.Texts.{is_printable, blanks}
use Rattle.field.specs.Read.{decimal_of}
use Rattle.field.specs.Show.{fits_whole, put_whole, show_decimal, fits_decimal, put_decimal, shown_negative, fits_signed, put_signed}
use Rattle.field.specs.Clock.{clock_of, clock_kept}
use Rattle.field.specs.Sign.{largest}
use Rattle.layout.specs.Fault.{clean}
use Rattle.layout.specs.Kind.{Kind, Held, number_in, negative_in, magnitude_in, words_in, same_bytes, is_one_of, is_listed, is_identifier, can_amount, can_clock, amount_fault, held_amount, fault_in, held_in, shown_in, fits_in, words_fit, holds_in, printable, is_nothing, number_with, amount_with, is_mark, words_with, can_signed}
use Rattle.layout.specs.Kind.Kind.{unused, fixed, whole, decimal, signed, clock, flag, letter, listed, identifier, filler, zero_whole, zero_decimal, text, maybe, maybe_signed}
use Rattle.layout.specs.Kind.Held.{nothing, one, amount, mark, words}
use Rattle.field.specs.declared.Exponent.TheVariants as exponents
use Rattle.laws.proofs.Bools.{and_left, and_right}
use Rattle.field.proofs.Back.{whole_back, exponent-back, decimal-back, signed_back}
use Rattle.field.proofs.ClockBack.{clock-back}
use Rattle.field.proofs.Shown.{integer-printable, decimal-printable}
use Rattle.layout.proofs.Lines.{blanks-length}
use Rattle.layout.proofs.Shown.{whole-put, whole_wide, places-put, places-wide, printable-byte, blanks-clean, blanks-printable, blanks-blank, text-wide, text-whole, signed-put, signed-wide, signed-inked}
use Rattle.layout.proofs.Identifiers.{identifier-named, identifier-bounds, identifier-code, identifier-printable}
use Rattle.std.specs.Prelude.{Option}
use Rattle.field.specs.declared.Signed.{Signed}
use Rattle.field.specs.Read.{some_amount}

pub not-false-true : false ≡ true → ⊥
not-false-true e = let z : ◌≡◌ {A = ℕ} 0 1 = ap (λ (t : Bool). cond t 1 0) e in omega arith

-- whatever is shown in w columns fills them
pub wide : (kind : Kind) (w : ℕ) (v : Held) → fits_in kind w ≡ true → length (shown_in kind w v) ≡ w
wide unused w v f = blanks-length w
wide (fixed number these) w v f = eqb-true (length these) w (and_left (eqb (length these) w) (ltb 0 number) f)
wide (whole low high) w v f = whole_wide w (number_in v)
wide (decimal places low high) w v f = places-wide w places false (number_in v)
wide (signed places) w v f = places-wide w places (negative_in v) (magnitude_in v)
wide (clock places) w v f = places-wide w places (negative_in v) (magnitude_in v)
wide (maybe_signed none high) w v f = go (eqb (magnitude_in v) none)
  where
    go : (t : Bool) → length (cond t (blanks w) (put_signed (negative_in v) (magnitude_in v) (blanks w))) ≡ w
    go true = blanks-length w
    go false = signed-wide w (negative_in v) (magnitude_in v)
wide (maybe none) w v f = go (eqb (number_in v) none)
  where
    go : (t : Bool) → length (cond t (blanks w) (put_whole (number_in v) (blanks w))) ≡ w
    go true = blanks-length w
    go false = whole_wide w (number_in v)
wide (flag sign) w v f = sym (eqb-true w 1 (and_left (eqb w 1) (ltb 32 sign && leb sign 126) f))
wide (letter these) w v f = text-wide w (number_in v ∷ [])
wide (listed these) w v f = text-wide w (words_in v)
wide identifier w v f = sym (eqb-true w 3 f)
wide filler w v f = sym (eqb-true w 3 f)
wide zero_whole w v f = whole_wide w 0
wide (zero_decimal places) w v f = places-wide w places false 0
wide text w v f = text-wide w (words_in v)

-- what the field can hold is read back from what it shows
pub record Keeps (kind : Kind) (w : ℕ) (v : Held) : Type 0 where
  pub plain : printable (shown_in kind w v) ≡ true
  pub sound : (column : ℕ) → fault_in kind column (shown_in kind w v) ≡ clean
  pub back : held_in kind (shown_in kind w v) ≡ v

-- A value that passes its test is of the test's shape.

none_left : (v : Held) → is_nothing v ≡ true → nothing ≡ v
none_left nothing h = refl
none_left (one n) h = absurd (not-false-true h)
none_left (amount negative m) h = absurd (not-false-true h)
none_left (mark set) h = absurd (not-false-true h)
none_left (words bytes) h = absurd (not-false-true h)

a-number : (test : ℕ → Bool) (v : Held) → number_with test v ≡ true → (n : ℕ) × (v ≡ one n) × (test n ≡ true)
a-number test nothing h = absurd (not-false-true h)
a-number test (one n) h = (n, refl, h)
a-number test (amount negative m) h = absurd (not-false-true h)
a-number test (mark set) h = absurd (not-false-true h)
a-number test (words bytes) h = absurd (not-false-true h)

an-amount : (test : Bool → ℕ → Bool) (v : Held) → amount_with test v ≡ true
    → (negative : Bool) × (m : ℕ) × (v ≡ amount negative m) × (test negative m ≡ true)
an-amount test nothing h = absurd (not-false-true h)
an-amount test (one n) h = absurd (not-false-true h)
an-amount test (amount negative m) h = (negative, m, refl, h)
an-amount test (mark set) h = absurd (not-false-true h)
an-amount test (words bytes) h = absurd (not-false-true h)

a-mark : (v : Held) → is_mark v ≡ true → (set : Bool) × (v ≡ mark set)
a-mark nothing h = absurd (not-false-true h)
a-mark (one n) h = absurd (not-false-true h)
a-mark (amount negative m) h = absurd (not-false-true h)
a-mark (mark set) h = (set, refl)
a-mark (words bytes) h = absurd (not-false-true h)

some_words : (test : List ℕ → Bool) (v : Held) → words_with test v ≡ true → (bytes : List ℕ) × (v ≡ words bytes) × (test bytes ≡ true)
some_words test nothing h = absurd (not-false-true h)
some_words test (one n) h = absurd (not-false-true h)
some_words test (amount negative m) h = absurd (not-false-true h)
some_words test (mark set) h = absurd (not-false-true h)
some_words test (words bytes) h = (bytes, refl, h)

-- Each kind.

pub same_refl : (bs : List ℕ) → same_bytes bs bs ≡ true
same_refl [] = refl
same_refl (b ∷ bs) = rw (eq-eqb b b refl) (same_refl bs)

-- the same bytes are one list
pub same-one : (bs cs : List ℕ) → same_bytes bs cs ≡ true → bs ≡ cs
same-one [] [] h = refl
same-one [] (c ∷ cs) h = absurd (not-false-true h)
same-one (b ∷ bs) [] h = absurd (not-false-true h)
same-one (b ∷ bs) (c ∷ cs) h =
    rw (eqb-true b c (and_left (eqb b c) (same_bytes bs cs) h), same-one bs cs (and_right (eqb b c) (same_bytes bs cs) h))

keeps-whole : (low high w n : ℕ) → (within low high n && fits_whole w n) ≡ true → Keeps (whole low high) w (one n)
keeps-whole low high w n h =
    let fits = and_right (within low high n) (fits_whole w n) h in
    let put = whole-put w n fits in
    let read = whole_back w n fits in
    record {
      plain = rw put (integer-printable w false n);
      sound = λ column. rw (put, read, and_left (within low high n) (fits_whole w n) h);
      back = rw (put, read);
    }

keeps-decimal : (places low high w m : ℕ) → (within low high m && fits_decimal w places false m) ≡ true → Keeps (decimal places low high) w (one m)
keeps-decimal places low high w m h =
    let fits = and_right (within low high m) (fits_decimal w places false m) h in
    let put = places-put w places false m fits in
    let read = decimal-back w places false m fits false (λ q. q) in
    record {
      plain = rw put (decimal-printable w places false m);
      sound = λ column. rw (put, read, and_left (within low high m) (fits_decimal w places false m) h);
      back = rw (put, read);
    }

-- no minus zero: the sign that is shown is the one that is held
sign-shown : (negative : Bool) (m : ℕ) → (not negative || ltb 0 m) ≡ true → shown_negative negative m ≡ negative
sign-shown true m h = h
sign-shown false m h = refl

module _ (places w : ℕ) (negative : Bool) (m : ℕ) (h : can_amount w places negative m ≡ true) where
  rest-holds : (fits_decimal w places negative m && (not negative || ltb 0 m)) ≡ true
  rest-holds = and_right (leb m largest) (fits_decimal w places negative m && (not negative || ltb 0 m)) h

  fits : fits_decimal w places negative m ≡ true
  fits = and_left (fits_decimal w places negative m) (not negative || ltb 0 m) rest-holds

  sign : shown_negative negative m ≡ negative
  sign = sign-shown negative m (and_right (fits_decimal w places negative m) (not negative || ltb 0 m) rest-holds)

  -- what is shown is kept, whoever reads it back: a reader of decimals, a reader of clocks
  keeps-by : (of : List ℕ → Option Signed) → of (show_decimal w places negative m) ≡ some_amount negative m
      → ((column : ℕ) → amount_fault column 0 largest (of (put_decimal places negative m (blanks w))) ≡ clean)
      × (held_amount (of (put_decimal places negative m (blanks w))) ≡ amount negative m)
  keeps-by of read =
      let put = places-put w places negative m fits in
      let bound = and_left (leb m largest) (fits_decimal w places negative m && (not negative || ltb 0 m)) h in
      (λ column. rw (put, read, le-leb 0 m (omega arith), bound), rw (put, read))

  plain-shown : printable (put_decimal places negative m (blanks w)) ≡ true
  plain-shown = rw (places-put w places negative m fits) (decimal-printable w places negative m)

  keeps-signed : Keeps (signed places) w (amount negative m)
  keeps-signed =
      let kept = keeps-by (λ bs. decimal_of bs places true) (decimal-back w places negative m fits true (λ q. refl) ∙ ap (λ (n : Bool). some_amount n m) sign) in
      record { plain = plain-shown; sound = kept.0; back = kept.1 }

  keeps-clock : clock_kept places negative m ≡ true → Keeps (clock places) w (amount negative m)
  keeps-clock held =
      let kept = keeps-by (λ bs. clock_of bs places) (clock-back w places negative m fits sign held) in
      record { plain = plain-shown; sound = kept.0; back = kept.1 }

-- unknown, or a number, with a minus or none
keeps-noted : (w none high : ℕ) (negative : Bool) (m : ℕ) → can_signed w none high negative m ≡ true
    → Keeps (maybe_signed none high) w (amount negative m)
keeps-noted w none high negative m h = go (eqb m none) refl h
  where
    go : (t : Bool) → eqb m none ≡ t → cond t (not negative) (leb m high && (fits_signed w negative m && (not negative || ltb 0 m))) ≡ true
        → Keeps (maybe_signed none high) w (amount negative m)
    go true e k =
        let plus : negative ≡ false = not-true negative k in
        record {
          plain = rw e (blanks-printable w);
          sound = λ column. rw (e, blanks-blank w);
          back = rw (e, blanks-blank w, plus, eqb-true m none e);
        }
    go false e k =
        let bound = and_left (leb m high) (fits_signed w negative m && (not negative || ltb 0 m)) k in
        let rest = and_right (leb m high) (fits_signed w negative m && (not negative || ltb 0 m)) k in
        let fits = and_left (fits_signed w negative m) (not negative || ltb 0 m) rest in
        let sign = sign-shown negative m (and_right (fits_signed w negative m) (not negative || ltb 0 m) rest) in
        let put = signed-put w negative m fits in
        let read = signed_back w negative m fits in
        let ink = signed-inked w negative m fits in
        record {
          plain = rw (e, put) (integer-printable w (shown_negative negative m) m);
          sound = λ column. rw (e, put, ink, read, le-leb 0 m (omega arith), bound);
          back = rw (e, put, ink, read, sign);
        }

keeps-maybe : (none w n : ℕ) → w ≤ 18 → (eqb n none || fits_whole w n) ≡ true → Keeps (maybe none) w (one n)
keeps-maybe none w n narrow h = go (eqb n none) refl h
  where
    go : (t : Bool) → eqb n none ≡ t → (t || fits_whole w n) ≡ true → Keeps (maybe none) w (one n)
    go true e k =
        let read = exponent-back w exponents.Unknown (le-leb w 18 (omega arith)) in
        record { plain = rw e (blanks-printable w); sound = λ column. rw (e, read); back = rw (e, read, eqb-true n none e) }
    go false e k =
        let put = whole-put w n k in
        let read = exponent-back w (exponents.Value n) k in
        record { plain = rw (e, put) (integer-printable w false n); sound = λ column. rw (e, put, read); back = rw (e, put, read) }

keeps-flag : (sign w : ℕ) (set : Bool) → 32 < sign → sign ≤ 126 → Keeps (flag sign) w (mark set)
keeps-flag sign w false p q = let other = ne_eqb 32 sign (λ e. omega arith) in record { plain = refl; sound = λ column. rw other; back = rw other }
keeps-flag sign w true p q =
    let same = eq-eqb sign sign refl in
    record { plain = rw (printable-byte sign (omega arith) q); sound = λ column. rw same; back = rw same }

-- a byte of a printable list is printable
one-printable : (b : ℕ) (these : List ℕ) → is_one_of b these ≡ true → printable these ≡ true → is_printable b ≡ true
one-printable b [] h p = absurd (not-false-true h)
one-printable b (c ∷ cs) h p = go (eqb b c) refl h (λ k. one-printable b cs k (and_right (is_printable c) (printable cs) p))
  where
    go : (t : Bool) → eqb b c ≡ t → (t || is_one_of b cs) ≡ true → (is_one_of b cs ≡ true → is_printable b ≡ true) → is_printable b ≡ true
    go true e k later = rw (eqb-true b c e, and_left (is_printable c) (printable cs) p)
    go false e k later = later k

-- the columns after a letter are blank; w is one more than they are
blanks-cut : (k : ℕ) → take k (blanks (suc k)) ≡ blanks k
blanks-cut zero = refl
blanks-cut (suc k) = ap {B = List ℕ} (λ t. 32 ∷ t) (blanks-cut k)

keeps-letter : (these : List ℕ) (w b : ℕ) → 1 ≤ w → printable these ≡ true → is_one_of b these ≡ true → Keeps (letter these) w (one b)
keeps-letter these zero b n p h = absurd (omega arith)
keeps-letter these (suc k) b n p h = record {
  plain = rw (blanks-cut k, one-printable b these h p) (blanks-printable k);
  sound = λ column. rw (blanks-cut k, h, blanks-blank k);
  back = refl;
}

-- a listed word has the columns of the others, and is printable
word_fits : (w : ℕ) (bs : List ℕ) (these : List (List ℕ)) → words_fit w these ≡ true → is_listed bs these ≡ true → (length bs ≡ w) × (printable bs ≡ true)
word_fits w bs [] f h = absurd (not-false-true h)
word_fits w bs (word ∷ these) f h =
    let here = and_left (eqb (length word) w && printable word) (words_fit w these) f in
    go (same_bytes bs word) refl h here (word_fits w bs these (and_right (eqb (length word) w && printable word) (words_fit w these) f))
  where
    go : (t : Bool) → same_bytes bs word ≡ t → (t || is_listed bs these) ≡ true → (eqb (length word) w && printable word) ≡ true
        → (is_listed bs these ≡ true → (length bs ≡ w) × (printable bs ≡ true)) → (length bs ≡ w) × (printable bs ≡ true)
    go true e k here later =
        let same = same-one bs word e in
        (ap length same ∙ eqb-true (length word) w (and_left (eqb (length word) w) (printable word) here), rw same (and_right (eqb (length word) w) (printable word) here))
    go false e k here later = later k

keeps-listed : (these : List (List ℕ)) (w : ℕ) (bs : List ℕ) → words_fit w these ≡ true → is_listed bs these ≡ true → Keeps (listed these) w (words bs)
keeps-listed these w bs f h =
    let fits = word_fits w bs these f h in
    let all = text-whole w bs fits.0 in
    record { plain = rw all fits.1; sound = λ column. rw (all, h); back = ap words all }

keeps-identifier : (w code : ℕ) → is_identifier code ≡ true → Keeps identifier w (one code)
keeps-identifier w code h = record {
  plain = identifier-printable code h;
  sound = λ column. rw (identifier-named code h, identifier-bounds code h);
  back = rw (identifier-named code h, identifier-code code h);
}

keeps-zero : (w : ℕ) → fits_whole w 0 ≡ true → Keeps zero_whole w nothing
keeps-zero w fits =
    let put = whole-put w 0 fits in
    let read = whole_back w 0 fits in
    record { plain = rw put (integer-printable w false 0); sound = λ column. rw (put, read); back = refl }

keeps-zeros : (places w : ℕ) → fits_decimal w places false 0 ≡ true → Keeps (zero_decimal places) w nothing
keeps-zeros places w fits =
    let put = places-put w places false 0 fits in
    let read = decimal-back w places false 0 fits false (λ q. q) in
    record { plain = rw put (decimal-printable w places false 0); sound = λ column. rw (put, read); back = refl }

keeps-text : (w : ℕ) (v : List ℕ) → length v ≡ w → printable v ≡ true → Keeps text w (words v)
keeps-text w v e p = let all = text-whole w v e in record { plain = rw all p; sound = λ column. refl; back = ap words all }

pub keeps : (kind : Kind) (w : ℕ) (v : Held) → fits_in kind w ≡ true → holds_in kind w v ≡ true → Keeps kind w v
keeps unused w v f h = record { plain = blanks-printable w; sound = λ column. blanks-clean w column; back = none_left v h }
keeps (fixed number these) w v f h =
    record {
      plain = and_right (is_nothing v) (printable these) h;
      sound = λ column. rw (same_refl these);
      back = none_left v (and_left (is_nothing v) (printable these) h);
    }
keeps (whole low high) w v f h =
    let one = a-number (λ n. within low high n && fits_whole w n) v h in
    rw one.1 (keeps-whole low high w one.0 one.2)
keeps (decimal places low high) w v f h =
    let one = a-number (λ m. within low high m && fits_decimal w places false m) v h in
    rw one.1 (keeps-decimal places low high w one.0 one.2)
keeps (signed places) w v f h =
    let it = an-amount (can_amount w places) v h in
    rw it.2 (keeps-signed places w it.0 it.1 it.3)
keeps (clock places) w v f h =
    let it = an-amount (can_clock w places) v h in
    let can = can_amount w places it.0 it.1 in
    rw it.2 (keeps-clock places w it.0 it.1 (and_left can _ it.3) (and_right can _ it.3))
keeps (maybe none) w v f h =
    let one = a-number (λ n. eqb n none || fits_whole w n) v h in
    rw one.1 (keeps-maybe none w one.0 (leb-true w 18 (and_left (leb w 18) (leb (10 ^ w) none) f)) one.2)
keeps (maybe_signed none high) w v f h =
    let it = an-amount (can_signed w none high) v h in
    rw it.2 (keeps-noted w none high it.0 it.1 it.3)
keeps (flag sign) w v f h =
    let one = a-mark v h in
    let signs = and_right (eqb w 1) (ltb 32 sign && leb sign 126) f in
    rw one.1
    (keeps-flag sign w one.0 (ltb-true 32 sign (and_left (ltb 32 sign) (leb sign 126) signs))
    (leb-true sign 126 (and_right (ltb 32 sign) (leb sign 126) signs)))
keeps (letter these) w v f h =
    let one = a-number (λ b. is_one_of b these) v h in
    rw one.1 (keeps-letter these w one.0 (leb-true 1 w (and_left (leb 1 w) (printable these) f)) (and_right (leb 1 w) (printable these) f) one.2)
keeps (listed these) w v f h =
    let one = some_words (λ bytes. is_listed bytes these) v h in
    rw one.1 (keeps-listed these w one.0 f one.2)
keeps identifier w v f h =
    let one = a-number is_identifier v h in
    rw one.1 (keeps-identifier w one.0 one.2)
keeps filler w v f h =
    let one = a-number (λ n. eqb n 0) v h in
    rw (one.1, eqb-true one.0 0 one.2) (record { plain = refl; sound = λ column. refl; back = refl })
keeps zero_whole w v f h = rw (sym (none_left v h)) (keeps-zero w f)
keeps (zero_decimal places) w v f h = rw (sym (none_left v h)) (keeps-zeros places w f)
keeps text w v f h =
    let one = some_words (λ bytes. eqb (length bytes) w && printable bytes) v h in
    rw one.1
    (keeps-text w one.0 (eqb-true (length one.0) w (and_left (eqb (length one.0) w) (printable one.0) one.2))
    (and_right (eqb (length one.0) w) (printable one.0) one.2))
