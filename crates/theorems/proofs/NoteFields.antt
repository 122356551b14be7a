-- The fields of an EP or EV line: each is blank, and then unknown, or a number within its bound.
-- Assumes nothing.
use mathlib.Core.Path.{◌≡◌, refl, sym, ap, ◌∙◌, subst}
use mathlib.Core.Bool.{Bool, true, false, cond, false≢true}
use mathlib.Core.List.{List}
use mathlib.Core.Logic.{◌↔◌, ◌⊎◌, inl, inr}
use Prim.Native.Nat.{ℕ, zero, suc, ◌-◌, ◌^◌, ◌<◌, ◌≤◌}
use native.Mathlib.Omega.{arith}
use borrow.Author.Tests.{eqb-true, eqb-false, ltb-true}
use lib.Dec.{eqb, leb, ltb}
use lib.ListN.{length, drop, length-drop}
use lib.Seq.{length-take-le}
use Rattle.laws.specs.Texts.{every}
use Rattle.field.specs.Digits.{blanks_of}
use Rattle.field.specs.Read.{whole_of, exponent_of, as_exponent, signed_whole_of}
use Rattle.field.specs.Show.{fits_integer}
use Rattle.layout.specs.Fault.{clean}
use Rattle.layout.specs.Kind.{unnoted, is_blank, maybe_held, held_amount, magnitude_in, amount_fault, fault_in}
use Rattle.layout.specs.Kind.Held.{amount}
use Rattle.layout.specs.Line.{padded}
use Rattle.record.specs.Rows.{cut}
use Rattle.record.specs.Notes.{largest_deviation, largest_correlation, correlation, correlation_in, note_taken, note_of, note_fault, deviation_at, correlation_at}
use Rattle.field.specs.declared.Exponent.TheVariants as exponents
use Rattle.laws.proofs.Bools.{and_right}
use Rattle.field.proofs.Blanks.{blank-all}
use Rattle.field.proofs.Again.{exponent-again}
use Rattle.field.proofs.Reading.{exponent-blank, exponent-read}
use Rattle.layout.proofs.Lines.{padded-length}
use Rattle.file_laws.proofs.Clean.{amount-bounds}
use Rattle.file_laws.proofs.Exact.{field-clean}
use Rattle.theorems.specs.Files.{deviation_field, correlation_field}
use Rattle.std.specs.Prelude.{Option, Some, None}
use Rattle.field.specs.declared.Signed.{Signed}
use Rattle.field.specs.Read.{some_amount}

-- what a field holds: unknown where it is blank, else a number up to the most
abbrev pub Known : ℕ → List ℕ → ℕ → Type 0
Known most bs n = ((n ≡ unnoted) × (every is_blank bs ≡ true)) ⊎ ((n ≤ most) × (every is_blank bs ≡ false))

pub known-blank : (most : ℕ) (bs : List ℕ) (n : ℕ) → most < unnoted → Known most bs n → (n ≡ unnoted) ↔ (every is_blank bs ≡ true)
known-blank most bs n low (inl h) = (λ e. h.1, λ e. h.0)
known-blank most bs n low (inr h) = (λ e. absurd (omega (arith, h.0)), λ e. absurd (false≢true (sym h.1 ∙ e)))

pub known-within : (most : ℕ) (bs : List ℕ) (n : ℕ) → Known most bs n → (n ≡ unnoted → ⊥) → n ≤ most
known-within most bs n (inl h) some = absurd (some h.0)
known-within most bs n (inr h) some = h.0

pub known-few : (most : ℕ) (bs : List ℕ) (n : ℕ) → most < unnoted → Known most bs n → n ≤ unnoted
known-few most bs n low (inl h) = omega (arith, h.0)
known-few most bs n low (inr h) = omega (arith, h.0)

-- a deviation of so many columns
module _ (bs : List ℕ) (w : ℕ) (wide : length bs ≡ w) (some : 1 ≤ w) (fits : w ≤ 18) (most : ℕ) (bound : 10 ^ (w - 0) ≡ suc most) where
  whole-known : Known most bs (maybe_held unnoted (exponent_of bs))
  unfolding fits_integer
  whole-known = go (every is_blank bs) refl
    where
      value-good : (n : ℕ) → exponents.Value n ≡ exponents.Malformed → ⊥
      value-good n q = let z : ◌≡◌ {A = ℕ} 0 1 = cc in omega arith

      number : (a : Option ℕ) → exponent_of bs ≡ as_exponent a → maybe_held unnoted (as_exponent a) ≤ most
      number (Some n) q =
          let good = exponent-again bs (exponents.Value n) (value-good n) q in
          let fewer : ltb n (10 ^ (length bs - 0)) ≡ true = and_right (ltb 0 (length bs)) _ (and_right (leb (length bs) 18) _ good) in
          let below : n < 10 ^ (w - 0) = subst (λ (m : ℕ). n < 10 ^ (m - 0)) wide (ltb-true n (10 ^ (length bs - 0)) fewer) in
          omega (arith, below, bound)
      number None q = omega arith

      go : (t : Bool) → every is_blank bs ≡ t → Known most bs (maybe_held unnoted (exponent_of bs))
      go true e = inl (ap (maybe_held unnoted) (sym (exponent-blank bs (omega arith) (eqb-true (blanks_of bs) (length bs) (blank-all bs ∙ e)))), e)
      go false e =
          let read = exponent-read bs (omega arith) (eqb-false (blanks_of bs) (length bs) (blank-all bs ∙ e)) in
          inr (subst (λ (n : ℕ). n ≤ most) (ap (maybe_held unnoted) read) (number (whole_of bs) (sym read)), e)

-- a correlation without fault
module _ (column : ℕ) (bs : List ℕ) (f : fault_in correlation column bs ≡ clean) where
  signed-known : Known largest_correlation bs (correlation_in bs).magnitude
  signed-known = go (every is_blank bs) refl (signed_whole_of bs) f
    where
      go : (t : Bool) → every is_blank bs ≡ t → (a : Option Signed) → cond t clean (amount_fault column 0 largest_correlation a) ≡ clean
          → Known largest_correlation bs (magnitude_in (cond t (amount false unnoted) (held_amount a)))
      go true e a h = inl (refl, e)
      go false e (Some held) h = inr ((amount-bounds column 0 largest_correlation (some_amount held.negative held.magnitude) h).1, e)
      go false e None h = inr (omega arith, e)

columns-wide : (first last : ℕ) (l : List ℕ) → 1 ≤ first → last ≤ 80 → length (cut first last (padded l)) ≡ last - (first - 1)
columns-wide first last l starts ends =
    length-take-le (last - (first - 1)) (drop (first - 1) (padded l)) (omega (arith, length-drop (first - 1) (padded l), padded-length l))

-- THE DEVIATIONS of x, y, z and clock by 0 to 3: blank and unknown, or 0 to 9999, of the clock to 9999999;
pub deviation-known : (l : List ℕ) (which : ℕ) → which ≤ 3 → Known (largest_deviation (eqb which 3)) (deviation_field which l) (deviation_at (note_of l) which)
unfolding note_taken
deviation-known l zero h = whole-known (cut 5 8 (padded l)) 4 (columns-wide 5 8 l (omega arith) (omega arith)) (omega arith) (omega arith) (largest_deviation false) refl
deviation-known l (suc zero) h = whole-known (cut 10 13 (padded l)) 4 (columns-wide 10 13 l (omega arith) (omega arith)) (omega arith) (omega arith) (largest_deviation false) refl
deviation-known l (suc (suc zero)) h =
    whole-known (cut 15 18 (padded l)) 4 (columns-wide 15 18 l (omega arith) (omega arith)) (omega arith) (omega arith) (largest_deviation false) refl
deviation-known l (suc (suc (suc zero))) h =
    whole-known (cut 20 26 (padded l)) 7 (columns-wide 20 26 l (omega arith) (omega arith)) (omega arith) (omega arith) (largest_deviation true) refl
deviation-known l (suc (suc (suc (suc which)))) h = absurd (omega arith)

pub deviation-low : (which : ℕ) → largest_deviation (eqb which 3) < unnoted
deviation-low which = go (eqb which 3)
  where
    go : (t : Bool) → largest_deviation t < unnoted
    go true = omega arith
    go false = omega arith

-- the correlations xy, xz, xc, yz, yc and zc by 0 to 5: blank and unknown, or up to 9999999 with either sign.
pub correlation-known : (v : Bool) (l : List ℕ) → note_fault v (padded l) ≡ clean → (which : ℕ) → which ≤ 5
    → Known largest_correlation (correlation_field which l) (correlation_at (note_of l) which).magnitude
unfolding note_taken
correlation-known v l f zero h = signed-known 28 (cut 28 35 (padded l)) (field-clean v l f 9 (omega arith))
correlation-known v l f (suc zero) h = signed-known 37 (cut 37 44 (padded l)) (field-clean v l f 11 (omega arith))
correlation-known v l f (suc (suc zero)) h = signed-known 46 (cut 46 53 (padded l)) (field-clean v l f 13 (omega arith))
correlation-known v l f (suc (suc (suc zero))) h = signed-known 55 (cut 55 62 (padded l)) (field-clean v l f 15 (omega arith))
correlation-known v l f (suc (suc (suc (suc zero)))) h = signed-known 64 (cut 64 71 (padded l)) (field-clean v l f 17 (omega arith))
correlation-known v l f (suc (suc (suc (suc (suc zero))))) h = signed-known 73 (cut 73 80 (padded l)) (field-clean v l f 19 (omega arith))
correlation-known v l f (suc (suc (suc (suc (suc (suc which)))))) h = absurd (omega arith)
