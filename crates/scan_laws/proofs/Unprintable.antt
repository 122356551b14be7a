-- The first byte of a line that is outside 32 to 126: it is named, and no such byte stands before it.
-- Assumes nothing.
use mathlib.Core.Path.{◌≡◌, refl, sym, ap, ◌∙◌}
use mathlib.Core.Bool.{Bool, true, false, false≢true, ◌&&◌}
use mathlib.Core.List.{List, [], ◌∷◌}
use Prim.Native.Nat.{ℕ, zero, suc, ◌≤◌, ◌<◌}
use native.Mathlib.Omega.{arith}
use lib.ListN.{length, get_or}
use Rattle.laws.specs.Texts.{every, is_printable}
use Rattle.machine.specs.Faults.{first_unprintable}

pub unprintable-first : (line : List ℕ) → every is_printable line ≡ false
    → (i : ℕ) × (first_unprintable line ≡ suc i) × (i < length line) × (is_printable (get_or line i 32) ≡ false)
unfolding first_unprintable
unprintable-first [] e = absurd (false≢true (sym e))
unprintable-first (b ∷ bs) e = go (is_printable b) refl (unprintable-first bs)
  where
    go : (t : Bool) → is_printable b ≡ t
        → (every is_printable bs ≡ false → (i : ℕ) × (first_unprintable bs ≡ suc i) × (i < length bs) × (is_printable (get_or bs i 32) ≡ false))
        → (i : ℕ) × (first_unprintable (b ∷ bs) ≡ suc i) × (i < suc (length bs)) × (is_printable (get_or (b ∷ bs) i 32) ≡ false)
    go false f later = (0, rw f refl, omega arith, f)
    go true f later =
        let found = later (sym (ap (λ (t : Bool). t && every is_printable bs) f) ∙ e) in
        let here : first_unprintable (b ∷ bs) ≡ suc (first_unprintable bs) = rw f refl in
        (suc found.0, here ∙ ap suc found.1, omega (arith, found.2), found.3)

pub unprintable-before : (line : List ℕ) (i : ℕ) → is_printable (get_or line i 32) ≡ false → (every is_printable line ≡ false) × (first_unprintable line ≤ suc i)
unfolding first_unprintable
unprintable-before [] i e = absurd (false≢true (sym e))
unprintable-before (b ∷ bs) i e = go (is_printable b) refl i e (unprintable-before bs)
  where
    go : (t : Bool) → is_printable b ≡ t → (i : ℕ) → is_printable (get_or (b ∷ bs) i 32) ≡ false
        → ((i : ℕ) → is_printable (get_or bs i 32) ≡ false → (every is_printable bs ≡ false) × (first_unprintable bs ≤ suc i))
        → (every is_printable (b ∷ bs) ≡ false) × (first_unprintable (b ∷ bs) ≤ suc i)
    go false f i e later = (rw f refl, rw f (omega arith))
    go true f zero e later = absurd (false≢true (sym e ∙ f))
    go true f (suc i) e later = let before = later i e in (rw f before.0, rw f (omega (arith, before.1)))
