-- The answers of a field's reading, one law for each way that the code takes.
-- Assumes nothing.
use mathlib.Core.Path.{◌≡◌, refl, ap, ◌∙◌}
use mathlib.Core.List.{List, []}
use mathlib.Core.Bool.{Bool, true, false}
use Prim.Native.Nat.{ℕ, ◌+◌, ◌<◌, ◌≤◌}
use borrow.Author.Tests.{leb-true, ltb-true, eqb-true, le-leb, lt-ltb, eq-eqb, ne_eqb}
use lib.Dec.{leb, ltb, eqb}
use lib.ListN.{length, get_or, take, drop}
use Rattle.field.specs.Digits.{blanks_of, trim, point_of}
use Rattle.field.specs.Read.{digits_from, number_of, whole_of, as_exponent, exponent_of, minus_first, with_sign, signed_of, integer_of, carried, signed_whole_of, decimal_of}
use Rattle.field.specs.Clock.{has_point, Parted}
use Rattle.field.specs.declared.Signed.{Signed}
use Rattle.std.specs.Prelude.{Option, None}
use Rattle.field.specs.declared.Exponent.TheVariants as exponent
use Rattle.laws.proofs.Bools.{and_left, and_right, and-false}

module _ (s : List ℕ) where
  pub number-some : (length s ≡ 0 → ⊥) → digits_from 0 s ≡ number_of s
  unfolding number_of
  number-some n = rw (ne_eqb _ _ n)

  pub whole-read : length s ≤ 18 → number_of (trim s) ≡ whole_of s
  unfolding whole_of
  whole-read h = rw (le-leb _ _ h)

  pub exponent-blank : length s ≤ 18 → blanks_of s ≡ length s → exponent.Unknown ≡ exponent_of s
  unfolding exponent_of
  exponent-blank h e = rw (le-leb _ _ h, eq-eqb _ _ e)

  pub exponent-read : length s ≤ 18 → (blanks_of s ≡ length s → ⊥) → as_exponent (whole_of s) ≡ exponent_of s
  unfolding exponent_of
  exponent-read h n = rw (le-leb _ _ h, ne_eqb _ _ n)

  pub signed-read : length s ≤ 18 → carried (integer_of true s) [] ≡ signed_whole_of s
  unfolding signed_whole_of
  signed-read h = rw (le-leb _ _ h)

module _ (signed : Bool) where
  pub minus-none : (s : List ℕ) → (get_or s 0 0 ≡ 45 → ⊥) → minus_first signed s ≡ false
  unfolding minus_first
  minus-none s n = rw (ne_eqb (get_or s 0 0) 45 n) (and-false signed)

  -- a minus stands first only where one is allowed
  pub minus-allowed : (s : List ℕ) → minus_first signed s ≡ true → signed ≡ true
  unfolding minus_first
  minus-allowed s e = and_left signed (eqb (get_or s 0 0) 45) e

  pub signed-minus : (s : List ℕ) → minus_first signed s ≡ true → with_sign true (number_of (drop 1 s)) ≡ signed_of signed s
  unfolding signed_of
  signed-minus s e = rw e

  pub signed-plain : (s : List ℕ) → minus_first signed s ≡ false → with_sign false (number_of s) ≡ signed_of signed s
  unfolding signed_of
  signed-plain s e = rw e

-- a field that is parted at its point
module _ (s : List ℕ) (places : ℕ) where
  pub pointed : length s ≤ 18 → places < length s → get_or s (point_of places (length s)) 0 ≡ 46 → has_point s places ≡ true
  unfolding has_point
  pointed narrow room point = rw (le-leb _ _ narrow, lt-ltb _ _ room, eq-eqb _ _ point)

  pub parted-by : has_point s places ≡ true → Parted s places (take (point_of places (length s)) s) (drop (point_of places (length s) + 1) s)
  unfolding has_point
  parted-by e =
      let rest = and_right (leb (length s) 18) _ e in
      record {
        pointed = e;
        narrow = leb-true (length s) 18 (and_left (leb (length s) 18) _ e);
        room = ltb-true places (length s) (and_left (ltb places (length s)) _ rest);
        point = eqb-true (get_or s (point_of places (length s)) 0) 46 (and_right (ltb places (length s)) _ rest);
        before_it = refl;
        after_it = refl;
      }

  module _ (signed : Bool) where
    pub decimal_unparted : has_point s places ≡ false → None ≡ decimal_of s places signed
    unfolding decimal_of has_point
    decimal_unparted e = rw e

    pub decimal_parted : (before after : List ℕ) → Parted s places before after → carried (integer_of signed before) after ≡ decimal_of s places signed
    unfolding decimal_of has_point
    decimal_parted before after p = rw (p.pointed, p.before_it, p.after_it)

    -- whatever was read before the point
    pub decimal_from : (before after : List ℕ) → Parted s places before after → (r : Option Signed) → r ≡ integer_of signed before
        → carried r after ≡ decimal_of s places signed
    decimal_from before after p r e = ap (λ q. carried q after) e ∙ decimal_parted before after p

    pub decimal-read : has_point s places ≡ true
        → carried (integer_of signed (take (point_of places (length s)) s)) (drop (point_of places (length s) + 1) s) ≡ decimal_of s places signed
    decimal-read e = decimal_parted _ _ (parted-by e)
