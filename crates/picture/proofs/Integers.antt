-- Bytes that may each stand after the one before them are an integer that reading takes. Assumes nothing.
use mathlib.Core.Path.{◌≡◌, refl, sym, ap, ◌∙◌}
use mathlib.Core.Bool.{Bool, true, false, ◌&&◌, ◌||◌}
use mathlib.Core.List.{List, [], ◌∷◌}
use Prim.Native.Nat.{ℕ, suc, ◌+◌, ◌≤◌}
use native.Mathlib.Omega.{arith}
use borrow.Author.Tests.{leb-true, eqb-true, ne_eqb}
use lib.Dec.{leb, eqb}
use lib.ListN.{length, drop}
use Rattle.field.specs.Digits.{blanks_of, is_digit, all_digits, value_from}
use Rattle.field.specs.Read.{digits_from, number_of, minus_first, signed_of, integer_of}
use Rattle.laws.proofs.Bools.{and_left, and_right, and_both}
use Rattle.std.specs.Prelude.{Some}
use Rattle.field.specs.Read.{some_amount}

-- whether b may stand after p: a digit after anything, a blank or a minus after a blank
abbrev pub may_follow : ℕ → ℕ → Bool
may_follow p b = is_digit b || (eqb p 32 && (eqb b 32 || eqb b 45))

-- each byte may stand after the one before it, and the last is a digit
abbrev pub led_from : ℕ → List ℕ → Bool
led_from p [] = is_digit p
led_from p (b ∷ s) = may_follow p b && led_from b s

pub no-blank : (p : ℕ) → is_digit p ≡ true → eqb p 32 ≡ false
no-blank p e = let h : 48 ≤ p = leb-true 48 p (and_left (leb 48 p) (leb p 57) e) in ne_eqb p 32 (λ n. omega arith)

no_minus : (p : ℕ) → is_digit p ≡ true → eqb p 45 ≡ false
no_minus p e = let h : 48 ≤ p = leb-true 48 p (and_left (leb 48 p) (leb p 57) e) in ne_eqb p 45 (λ n. omega arith)

or-take : (t u v : Bool) → u ≡ false → (t || (u && v)) ≡ true → t ≡ true
or-take true u v e h = refl
or-take false u v e h = sym e ∙ and_left u v h

-- after anything but a blank only a digit may stand
follow-other : (p b : ℕ) → eqb p 32 ≡ false → may_follow p b ≡ true → is_digit b ≡ true
follow-other p b e h = or-take (is_digit b) (eqb p 32) (eqb b 32 || eqb b 45) e h

after-digit : (p : ℕ) (s : List ℕ) → is_digit p ≡ true → led_from p s ≡ true → all_digits s ≡ true
after-digit p [] e h = refl
after-digit p (b ∷ s) e h =
    let d = follow-other p b (no-blank p e) (and_left (may_follow p b) (led_from b s) h) in
    and_both (is_digit b) (all_digits s) d (after-digit b s d (and_right (may_follow p b) (led_from b s) h))

-- a digit and what may follow it is a number
pub digits_number : (b : ℕ) (s : List ℕ) → is_digit b ≡ true → all_digits s ≡ true → number_of (b ∷ s) ≡ Some (value_from 0 (b ∷ s))
unfolding number_of digits_from
digits_number b s d h =
    let some : eqb (length (b ∷ s)) 0 ≡ false = ne_eqb (length (b ∷ s)) 0 (λ q. omega arith) in
    rw (some, d, h)

-- a number that is taken, whatever its sign and value
abbrev pub Taken : List ℕ → Type 0
Taken s = (n : Bool) × (v : ℕ) × (integer_of true s ≡ some_amount n v)

after_minus : (s : List ℕ) → led_from 45 s ≡ true → (v : ℕ) × (number_of s ≡ Some v)
after_minus [] h = absurd (not_digit h)
  where
    not_digit : false ≡ true → ⊥
    not_digit e = let z : ◌≡◌ {A = ℕ} 0 1 = cc in omega arith
after_minus (b ∷ s) h =
    let d = follow-other 45 b refl (and_left (may_follow 45 b) (led_from b s) h) in
    (value_from 0 (b ∷ s), digits_number b s d (after-digit b s d (and_right (may_follow 45 b) (led_from b s) h)))

-- a blank more before an integer changes nothing
pub integer-blank : (s : List ℕ) → integer_of true (32 ∷ s) ≡ integer_of true s
unfolding integer_of
integer-blank s =
    let one : 1 + blanks_of s ≡ suc (blanks_of s) = omega arith in
    ap (λ (n : ℕ). signed_of true (drop n (32 ∷ s))) one

-- the first byte after blanks: one more blank, a minus, or a digit
module _ (b : ℕ) (s : List ℕ) where
  first-blank : b ≡ 32 → Taken s → Taken (b ∷ s)
  first-blank e t = rw e (t.0, t.1, integer-blank s ∙ t.2)

  first-minus : b ≡ 45 → led_from b s ≡ true → Taken (b ∷ s)
  unfolding integer_of signed_of minus_first
  first-minus e h =
      let m = after_minus s (rw (sym e) h) in
      rw e (true, m.0, rw m.1 refl)

  first-digit : is_digit b ≡ true → led_from b s ≡ true → Taken (b ∷ s)
  unfolding integer_of signed_of minus_first
  first-digit d h =
      rw (no-blank b d) (false, value_from 0 (b ∷ s), rw (no_minus b d, digits_number b s d (after-digit b s d h)) refl)

first_byte : (b : ℕ) (s : List ℕ) (t u : Bool) → eqb b 32 ≡ t → eqb b 45 ≡ u → may_follow 32 b ≡ true → led_from b s ≡ true
    → (led_from 32 s ≡ true → Taken s) → Taken (b ∷ s)
first_byte b s true u e f m h rest = let n = eqb-true b 32 e in first-blank b s n (rest (rw (sym n) h))
first_byte b s false true e f m h rest = first-minus b s (eqb-true b 45 f) h
first_byte b s false false e f m h rest = first-digit b s (neither (is_digit b) (eqb b 32) (eqb b 45) e f m) h
  where
    neither : (d t u : Bool) → t ≡ false → u ≡ false → (d || (true && (t || u))) ≡ true → d ≡ true
    neither true t u e f m = refl
    neither false true u e f m = sym e
    neither false false true e f m = sym f
    neither false false false e f m = m

-- the law: bytes led so from a blank are an integer that is taken
pub integer-led : (s : List ℕ) → led_from 32 s ≡ true → Taken s
integer-led [] h = absurd (no h)
  where
    no : false ≡ true → ⊥
    no e = let z : ◌≡◌ {A = ℕ} 0 1 = cc in omega arith
integer-led (b ∷ s) h =
    first_byte b s (eqb b 32) (eqb b 45) refl refl (and_left (may_follow 32 b) (led_from b s) h) (and_right (may_follow 32 b) (led_from b s) h)
    (integer-led s)
