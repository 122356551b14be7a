-- The two loops that write digits from the right: what is still to be written stands before what is written.
-- Assumes nothing.
use mathlib.Core.Path.{◌≡◌, refl, sym, ◌∙◌, ap}
use mathlib.Core.List.{List, [], ◌∷◌, ◌++◌, append_assoc}
use Prim.Native.Nat.{ℕ, zero, suc, ◌+◌, ◌-◌, ◌/◌, ◌%◌, ◌^◌, ◌<◌, ◌≤◌}
use native.Mathlib.Omega.{arith}
use borrow.Author.Tests.{lt-ltb, le-ltb}
use lib.ListN.{length, take, drop, set}
use lib.Seq.{take-set-le, take-take}
use Rattle.field.specs.Show.{last_digit, digits_in, fixed_digits}
use Rattle.laws.proofs.Lists.{one_less}
use Rattle.laws.proofs.Lent.{snoc-turn}
use Rattle.field.proofs.Texts.{tenth-below}

module _ (v : ℕ) where
  fixed-step : (i : ℕ) → 0 < i → fixed_digits i v ≡ fixed_digits (i - 1) (v / 10) ++ (last_digit v ∷ [])
  fixed-step zero pos = absurd (omega arith)
  fixed-step (suc n) pos = ap (λ (k : ℕ). fixed_digits k (v / 10) ++ (last_digit v ∷ [])) (sym (one_less n))

  digits_last : (i : ℕ) → 0 < i → v < 10 → digits_in i v ≡ last_digit v ∷ []
  digits_last zero pos h = absurd (omega arith)
  digits_last (suc n) pos h = rw (lt-ltb v 10 h)

  digits_more : (i : ℕ) → 0 < i → 10 ≤ v → digits_in i v ≡ digits_in (i - 1) (v / 10) ++ (last_digit v ∷ [])
  digits_more zero pos h = absurd (omega arith)
  digits_more (suc n) pos h = rw (le-ltb v 10 h) (ap (λ (k : ℕ). digits_in k (v / 10) ++ (last_digit v ∷ [])) (sym (one_less n)))

module _ (text out : List ℕ) (i v d : ℕ) (pos : 0 < i) (h : i ≤ length out) (is : d ≡ last_digit v) where
  turn : (front whole : List ℕ) → whole ≡ front ++ (last_digit v ∷ []) → text ≡ whole ++ drop i out → text ≡ front ++ drop (i - 1) (set out (i - 1) d)
  turn front whole step e =
      snoc-turn text front out i d pos h
      (e ∙ ap (λ (t : List ℕ). t ++ drop i out) (step ∙ ap (λ (b : ℕ). front ++ (b ∷ [])) (sym is)))

  pub digits-turn : 10 ≤ v → text ≡ digits_in i v ++ drop i out → text ≡ digits_in (i - 1) (v / 10) ++ drop (i - 1) (set out (i - 1) d)
  digits-turn more = turn (digits_in (i - 1) (v / 10)) (digits_in i v) (digits_more v i pos more)

  pub digits-done : v < 10 → text ≡ digits_in i v ++ drop i out → text ≡ drop (i - 1) (set out (i - 1) d)
  digits-done last = turn [] (digits_in i v) (digits_last v i pos last)

-- two digits of the number at once
two-less : (i : ℕ) → i - 1 - 1 ≡ i - 2
two-less i = omega arith

hundredth : (v : ℕ) → v / 10 / 10 ≡ v / 100
hundredth v = omega arith

-- both bytes of a pair stand before the rest
pair-stored : (out : List ℕ) (at first last : ℕ) → at + 2 ≤ length out
    → drop at (set (set out at first) (at + 1) last) ≡ first ∷ last ∷ drop (at + 2) out
pair-stored [] at first last h = absurd (omega arith)
pair-stored (a ∷ []) at first last h = absurd (omega arith)
pair-stored (a ∷ b ∷ out) zero first last h = refl
pair-stored (a ∷ b ∷ out) (suc at) first last h =
    let one : suc at + 1 ≡ suc (at + 1) = omega arith in
    let two : suc at + 2 ≡ suc (at + 2) = omega arith in
    rw (one, two) (pair-stored (b ∷ out) at first last (omega arith))

module _ (out now : List ℕ) (i v : ℕ) (two : 1 < i) (h : i ≤ length out)
    (put : now ≡ set (set out (i - 2) (48 + v % 100 / 10)) (i - 2 + 1) (last_digit (v % 100))) where
  standing : drop (i - 2) now ≡ last_digit (v / 10) ∷ last_digit v ∷ drop i out
  standing =
      let above : i - 2 + 2 ≡ i = omega arith in
      let first : 48 + v % 100 / 10 ≡ last_digit (v / 10) = omega arith in
      let last : last_digit (v % 100) ≡ last_digit v = omega arith in
      ap (drop (i - 2)) (rw (first, last) at put) ∙ rw above at (pair-stored out (i - 2) (last_digit (v / 10)) (last_digit v) (omega arith))

  pair_turn : (text front whole : List ℕ) → whole ≡ (front ++ (last_digit (v / 10) ∷ [])) ++ (last_digit v ∷ [])
      → text ≡ whole ++ drop i out → text ≡ front ++ drop (i - 2) now
  pair_turn text front whole step e =
      e
      ∙ ap (λ (t : List ℕ). t ++ drop i out) (step ∙ append_assoc front (last_digit (v / 10) ∷ []) (last_digit v ∷ []))
      ∙ append_assoc front (last_digit (v / 10) ∷ last_digit v ∷ []) (drop i out)
      ∙ ap (λ (t : List ℕ). front ++ t) (sym standing)

  pub fixed-pair : (text : List ℕ) → text ≡ fixed_digits i v ++ drop i out → text ≡ fixed_digits (i - 2) (v / 100) ++ drop (i - 2) now
  fixed-pair text =
      let step = fixed-step v i (omega arith) ∙ ap (λ (t : List ℕ). t ++ (last_digit v ∷ [])) (fixed-step (v / 10) (i - 1) (omega arith)) in
      pair_turn text (fixed_digits (i - 2) (v / 100)) (fixed_digits i v) (rw (two-less i, hundredth v) at step)

  pub digits-pair : (text : List ℕ) → 100 ≤ v → text ≡ digits_in i v ++ drop i out → text ≡ digits_in (i - 2) (v / 100) ++ drop (i - 2) now
  digits-pair text more =
      let step =
      digits_more v i (omega arith) (omega arith)
      ∙ ap (λ (t : List ℕ). t ++ (last_digit v ∷ [])) (digits_more (v / 10) (i - 1) (omega arith) (omega arith)) in
      pair_turn text (digits_in (i - 2) (v / 100)) (digits_in i v) (rw (two-less i, hundredth v) at step)

  -- what stands before the pair is as it was
  pub kept_pair : (out₀ : List ℕ) → take i out ≡ take i out₀ → take (i - 2) now ≡ take (i - 2) out₀
  kept_pair out₀ e =
      ap (take (i - 2)) put
      ∙ take-set-le (i - 2) _ (i - 2 + 1) _ (omega arith)
      ∙ take-set-le (i - 2) out (i - 2) _ (omega arith)
      ∙ sym (take-take (i - 2) i out (omega arith))
      ∙ ap (take (i - 2)) e
      ∙ take-take (i - 2) i out₀ (omega arith)

-- a number fits the columns before its last digit without it
pub shorter-fits : (i v : ℕ) → 0 < i → v < 10 ^ i → v / 10 < 10 ^ (i - 1)
shorter-fits zero v pos h = absurd (omega arith)
shorter-fits (suc n) v pos h = rw (one_less n) (tenth-below n v h)

pub pair_fits : (i v : ℕ) → 1 < i → v < 10 ^ i → v / 100 < 10 ^ (i - 2)
pair_fits i v two h =
    rw (two-less i, hundredth v) at (shorter-fits (i - 1) (v / 10) (omega arith) (shorter-fits i v (omega arith) h))
