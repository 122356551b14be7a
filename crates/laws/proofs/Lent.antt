-- Lent memory: a part that comes back, and a loop that fills it from the left or from the right.
-- Assumes nothing.
use mathlib.Core.Path.{◌≡◌, sym, ◌∙◌, ap, ap₂}
use mathlib.Core.List.{List, [], ◌∷◌, ◌++◌, append_assoc, append-nil}
use Prim.Native.Nat.{ℕ, ◌+◌, ◌-◌, ◌<◌, ◌≤◌}
use native.Mathlib.Omega.{arith}
use borrow.Rule.Slice.PartMut.{put_mid, Post-is}
use lib.ListN.{length, take, drop, set, length-append, length-set, length-drop, take-append-drop}
use lib.Seq.{drop-length, drop_at, length-take-le, get_or-set_same, drop-set-lt, take-set-le, take-take}
use Rattle.laws.proofs.Lists.{rest-step}

-- the part `&mut s[a..]`: what it holds now follows what stands before it
pub rest_back : (a : ℕ) (s part : List ℕ) → a ≤ length s → put_mid a (length s - a) s part ≡ take a s ++ part
rest_back a s part h =
    ap (λ (t : List ℕ). take a s ++ (part ++ t)) (Post-is a (length s) s h ∙ drop-length s)
    ∙ ap (λ (t : List ℕ). take a s ++ t) (append-nil part)

-- that part alone, and the length of the whole
module _ (a : ℕ) (s part : List ℕ) (h : a ≤ length s) where
  before_back : length (take a s) ≡ a
  before_back = length-take-le a s h

  pub rest-dropped : drop a (put_mid a (length s - a) s part) ≡ part
  rest-dropped = ap (drop a) (rest_back a s part h) ∙ drop_at (take a s) part a before_back

  pub rest-length : length (put_mid a (length s - a) s part) ≡ a + length part
  rest-length = ap length (rest_back a s part h) ∙ length-append (take a s) part ∙ ap (λ (k : ℕ). k + length part) before_back

-- From the right: what is still to be written stands before what is written.

-- nothing stands yet at the right edge
pub right-edge : (text out : List ℕ) → text ≡ text ++ drop (length out) out
right-edge text out = sym (ap (λ (t : List ℕ). text ++ t) (drop-length out) ∙ append-nil text)

up : (i : ℕ) → 0 < i → i - 1 + 1 ≡ i
up i pos = omega arith

-- a store just before the place puts the byte before the rest
pub stored-before : (out : List ℕ) (i d : ℕ) → 0 < i → i ≤ length out → drop (i - 1) (set out (i - 1) d) ≡ d ∷ drop i out
stored-before out i d pos h =
    rest-step (set out (i - 1) d) (i - 1) (rw (length-set out (i - 1) d) (omega arith))
    ∙ ap₂ (λ (b : ℕ) (t : List ℕ). b ∷ t)
    (get_or-set_same out (i - 1) d 0 (omega arith))
    (drop-set-lt (i - 1 + 1) out (i - 1) d (omega arith) ∙ ap (λ (k : ℕ). drop k out) (up i pos))

-- a text whose last byte is next to be written
pub snoc-turn : (text front out : List ℕ) (i d : ℕ) → 0 < i → i ≤ length out
    → text ≡ (front ++ (d ∷ [])) ++ drop i out → text ≡ front ++ drop (i - 1) (set out (i - 1) d)
snoc-turn text front out i d pos h e =
    e ∙ append_assoc front (d ∷ []) (drop i out) ∙ ap (λ (t : List ℕ). front ++ t) (sym (stored-before out i d pos h))

-- what stands before the place is as it was
pub kept-turn : (out out₀ : List ℕ) (i d : ℕ) → take i out ≡ take i out₀ → take (i - 1) (set out (i - 1) d) ≡ take (i - 1) out₀
kept-turn out out₀ i d e =
    take-set-le (i - 1) out (i - 1) d (omega arith)
    ∙ sym (take-take (i - 1) i out (omega arith))
    ∙ ap (take (i - 1)) e
    ∙ take-take (i - 1) i out₀ (omega arith)

-- a text that stands from a place to the end
pub stands : (out out₀ text : List ℕ) (j : ℕ) → j ≤ length out → length out ≡ length out₀ → text ≡ drop j out → take j out ≡ take j out₀
    → (j ≡ length out₀ - length text) × (out ≡ take j out₀ ++ text)
stands out out₀ text j h same e kept = (
  omega (arith, ap length e, length-drop j out),
  sym (take-append-drop j out) ∙ ap₂ (λ (a b : List ℕ). a ++ b) kept (sym e),
)
