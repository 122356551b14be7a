-- Where a field ends that fills its columns or is blank.
-- Assumes nothing.
use mathlib.Core.Path.{◌≡◌, ap, ◌∙◌}
use mathlib.Core.Bool.{Bool, false, cond}
use mathlib.Core.List.{List}
use Prim.Native.Nat.{ℕ, ◌-◌, ◌+◌, ◌≤◌}
use native.Mathlib.Omega.{arith}
use Rattle.laws.specs.Texts.{blanks}
use Rattle.field.specs.Show.{fits_whole, fits_signed, fits_decimal, put_signed}
use Rattle.layout.specs.Kind.{shown_in}
use Rattle.layout.specs.Kind.Kind.{whole, decimal}
use Rattle.layout.specs.Kind.Held.{one}
use Rattle.layout.specs.Inking.{text_end}
use Rattle.layout.proofs.Inked.{Fills, fills-end, blank-fills, whole-fills, decimal-fills, signed-fills}

module _ (first last earlier : ℕ) (begins : 1 ≤ first) (some : first ≤ last) where
  abbrev wide : ℕ
  wide = last - (first - 1)

  filled : {shown : Bool} {bytes : List ℕ} → Fills shown wide bytes → text_end (first - 1) bytes earlier ≡ cond shown last earlier
  filled {shown} f =
      let ends : first - 1 + wide ≡ last = omega arith in
      fills-end (first - 1) earlier (omega arith) f ∙ ap (λ (n : ℕ). cond shown n earlier) ends

  pub blank_end : text_end (first - 1) (blanks wide) earlier ≡ earlier
  blank_end = filled (blank-fills wide)

  pub whole_end : (n : ℕ) → text_end (first - 1) (shown_in (whole 0 0) wide (one n)) earlier ≡ cond (fits_whole wide n) last earlier
  whole_end n = filled (whole-fills wide n)

  pub decimal_end : (places m : ℕ) → text_end (first - 1) (shown_in (decimal places 0 0) wide (one m)) earlier ≡ cond (fits_decimal wide places false m) last earlier
  decimal_end places m = filled (decimal-fills wide places false m)

  pub signed_end : (negative : Bool) (m : ℕ) → text_end (first - 1) (put_signed negative m (blanks wide)) earlier ≡ cond (fits_signed wide negative m) last earlier
  signed_end negative m = filled (signed-fills wide negative m)
