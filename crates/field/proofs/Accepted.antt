-- What a field that was read has in it: each reader's answer taken apart again.
-- Assumes nothing.
use mathlib.Core.Path.{◌≡◌, refl, sym, ◌∙◌, ap}
use mathlib.Core.List.{List, []}
use mathlib.Core.Bool.{Bool, true, false, cond, not, ◌&&◌, ◌||◌}
use Prim.Native.Nat.{ℕ, ◌+◌, ◌<◌, ◌≤◌}
use native.Mathlib.Omega.{arith}
use borrow.Author.Tests.{leb-true, ltb-true, eqb-true, eqb-false}
use lib.Dec.{leb, ltb, eqb}
use lib.ListN.{length, get_or, take, drop}
use Rattle.field.specs.Digits.{blanks_of, trim, all_digits, value_from, point_of}
use Rattle.field.specs.Read.{some_amount, digits_from, number_of, whole_of, as_exponent, exponent_of, minus_first, with_sign, signed_of, integer_of, settled, carried, signed_whole_of, decimal_of}
use Rattle.field.specs.Show.{sign_width}
use Rattle.std.specs.Prelude.{Option, Some, None}
use Rattle.field.specs.declared.Signed.{Signed}
use Rattle.field.specs.declared.Exponent.TheVariants as exponent
use Rattle.laws.proofs.Bools.{and_left, and_right, tested}

-- a refusal is no value
no_whole : (v : ℕ) → None ≡ Some v → ⊥
no_whole v e = let z : ◌≡◌ {A = ℕ} 0 1 = cc in omega arith

no-amount : (n : Bool) (v : ℕ) → None ≡ some_amount n v → ⊥
no-amount n v e = let z : ◌≡◌ {A = ℕ} 0 1 = cc in omega arith

module _ (s : List ℕ) (v : ℕ) where
  pub digits-taken : (a : ℕ) → digits_from a s ≡ Some v → (all_digits s ≡ true) × (value_from a s ≡ v)
  unfolding digits_from
  digits-taken a e =
      let t = tested (all_digits s) (Some (value_from a s)) None (Some v) (no_whole v) e in
      let read = t.1 in
      (t.0, cc)

  pub number-taken : number_of s ≡ Some v → (0 < length s) × (digits_from 0 s ≡ Some v)
  unfolding number_of
  number-taken e = taken (eqb (length s) 0) refl e
    where
      some : (n : ℕ) → (n ≡ 0 → ⊥) → 0 < n
      some n h = omega arith

      taken : (t : Bool) → eqb (length s) 0 ≡ t → cond t None (digits_from 0 s) ≡ Some v → (0 < length s) × (digits_from 0 s ≡ Some v)
      taken true q e = absurd (no_whole v e)
      taken false q e = (some (length s) (eqb-false (length s) 0 q), e)

  pub whole-taken : whole_of s ≡ Some v → (length s ≤ 18) × (number_of (trim s) ≡ Some v)
  unfolding whole_of
  whole-taken e =
      let t = tested (leb (length s) 18) (number_of (trim s)) None (Some v) (no_whole v) e in
      (leb-true _ 18 t.0, t.1)

  -- a value of an exponent field is one of an integer field
  pub exponent-taken : exponent_of s ≡ exponent.Value v → whole_of s ≡ Some v
  unfolding exponent_of
  exponent-taken e =
      let t = tested (leb (length s) 18) (cond (eqb (blanks_of s) (length s)) exponent.Unknown (as_exponent (whole_of s))) exponent.Malformed (exponent.Value v) refusal e in
      known (eqb (blanks_of s) (length s)) t.1
    where
      refusal : exponent.Malformed ≡ exponent.Value v → ⊥
      refusal e = let z : ◌≡◌ {A = ℕ} 0 1 = cc in omega arith

      read : (r : Option ℕ) → as_exponent r ≡ exponent.Value v → r ≡ Some v
      read (Some u) e = cc
      read None e = cc

      known : (u : Bool) → cond u exponent.Unknown (as_exponent (whole_of s)) ≡ exponent.Value v → whole_of s ≡ Some v
      known true e = cc
      known false e = read (whole_of s) e

-- two amounts that are one have one sign and one magnitude
module _ (n k : Bool) (m l : ℕ) (e : some_amount n m ≡ some_amount k l) where
  same : ◌≡◌ {A = Signed} (record { negative = n; magnitude = m }) (record { negative = k; magnitude = l })
  same = cc

  pub same-sign : n ≡ k
  same-sign = ap (λ (a : Signed). a.negative) same

  pub same-magnitude : m ≡ l
  same-magnitude = ap (λ (a : Signed). a.magnitude) same

-- the number behind its sign
sign-taken : (t : Bool) (r : Option ℕ) (n : Bool) (v : ℕ) → with_sign t r ≡ some_amount n v → (t ≡ n) × (r ≡ Some v)
sign-taken t (Some u) n v e = (same-sign t n u v e, ap Some (same-magnitude t n u v e))
sign-taken t None n v e = absurd (no-amount n v e)

module _ (signed : Bool) (s : List ℕ) (n : Bool) (v : ℕ) where
  pub signed-taken : signed_of signed s ≡ some_amount n v → (minus_first signed s ≡ n) × (number_of (drop (sign_width n) s) ≡ Some v)
  unfolding signed_of
  signed-taken e = taken (minus_first signed s) refl e
    where
      taken : (t : Bool) → minus_first signed s ≡ t → cond t (with_sign true (number_of (drop 1 s))) (with_sign false (number_of s)) ≡ some_amount n v
          → (minus_first signed s ≡ n) × (number_of (drop (sign_width n) s) ≡ Some v)
      taken true q e =
          let t = sign-taken true (number_of (drop 1 s)) n v e in
          (q ∙ t.0, rw (sym t.0) t.1)
      taken false q e =
          let t = sign-taken false (number_of s) n v e in
          (q ∙ t.0, rw (sym t.0) t.1)

pub integer-minus : (signed : Bool) (s : List ℕ) (n : Bool) (v : ℕ) → integer_of signed s ≡ some_amount n v → minus_first signed (trim s) ≡ n
unfolding integer_of
integer-minus signed s n v e = (signed-taken signed (trim s) n v e).0

-- an integer `before` that the digits `after` carry on to the number m with the sign n
pub record Carried (signed : Bool) (before after : List ℕ) (n : Bool) (m : ℕ) : Type 0 where
  pub minus : Bool
  pub high : ℕ
  pub integer : integer_of signed before ≡ some_amount minus high
  pub digits : all_digits after ≡ true
  pub value : value_from high after ≡ m
  pub sign : (minus && ltb 0 m) ≡ n

carried-taken : (signed : Bool) (before after : List ℕ) (n : Bool) (m : ℕ) → carried (integer_of signed before) after ≡ some_amount n m → Carried signed before after n m
carried-taken signed before after n m = go (integer_of signed before) refl
  where
    go : (b : Option Signed) → integer_of signed before ≡ b → carried b after ≡ some_amount n m → Carried signed before after n m
    go (Some a) q e =
        let k = a.negative in
        let high = a.magnitude in
        let t = tested (all_digits after) (settled k (value_from high after)) None (some_amount n m) (no-amount n m) e in
        let value = same-magnitude _ n (value_from high after) m t.1 in
        let sign = same-sign (k && ltb 0 (value_from high after)) n _ m t.1 in
        record { minus = k; high = high; integer = q; digits = t.0; value = value; sign = rw (sym value) sign }
    go None q e = absurd (no-amount n m e)

-- a sign that was read is none of zero
pub settled-sign : (k n : Bool) (m : ℕ) → (k && ltb 0 m) ≡ n → (not n || ltb 0 m) ≡ true
settled-sign k true m e = and_right k (ltb 0 m) e
settled-sign k false m e = refl

-- what the reader of digits found decides how an integer is carried on
module _ (negative : Bool) (high : ℕ) (s : List ℕ) where
  pub carried_none : digits_from high s ≡ None → None ≡ carried (some_amount negative high) s
  unfolding digits_from
  carried_none e = none (all_digits s) e
    where
      none : (t : Bool) → cond t (Some (value_from high s)) None ≡ None → None ≡ cond t (settled negative (value_from high s)) None
      none true e = cc
      none false e = refl

  pub carried_some : (m : ℕ) → digits_from high s ≡ Some m → settled negative m ≡ carried (some_amount negative high) s
  carried_some m e =
      let t = digits-taken s m high e in
      rw t.0 (ap (settled negative) (sym t.1))

-- a decimal field that was read
pub record Taken (s : List ℕ) (p : ℕ) (signed n : Bool) (m : ℕ) : Type 0 where
  pub narrow : length s ≤ 18
  pub room : p < length s
  pub point : get_or s (point_of p (length s)) 0 ≡ 46
  pub parts : Carried signed (take (point_of p (length s)) s) (drop (point_of p (length s) + 1) s) n m

pub decimal-taken : (s : List ℕ) (p : ℕ) (signed n : Bool) (m : ℕ) → decimal_of s p signed ≡ some_amount n m → Taken s p signed n m
unfolding decimal_of
decimal-taken s p signed n m e =
    let t = tested (leb (length s) 18 && (ltb p (length s) && eqb (get_or s (point_of p (length s)) 0) 46))
    (carried (integer_of signed (take (point_of p (length s)) s)) (drop (point_of p (length s) + 1) s)) None (some_amount n m) (no-amount n m) e in
    let rest = and_right (leb (length s) 18) _ t.0 in
    record {
      narrow = leb-true _ 18 (and_left (leb (length s) 18) _ t.0);
      room = ltb-true p _ (and_left (ltb p (length s)) _ rest);
      point = eqb-true _ 46 (and_right (ltb p (length s)) _ rest);
      parts = carried-taken signed (take (point_of p (length s)) s) (drop (point_of p (length s) + 1) s) n m t.1;
    }

-- a signed integer field that was read
pub signed-whole-taken : (s : List ℕ) (n : Bool) (m : ℕ) → signed_whole_of s ≡ some_amount n m → (length s ≤ 18) × Carried true s [] n m
unfolding signed_whole_of
signed-whole-taken s n m e =
    let t = tested (leb (length s) 18) (carried (integer_of true s) []) None (some_amount n m) (no-amount n m) e in
    (leb-true _ 18 t.0, carried-taken true s [] n m t.1)
