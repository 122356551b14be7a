-- Identifiers compared with each other: one step of each loop.
-- Assumes nothing.
use mathlib.Core.Path.{◌≡◌, refl, sym, ap}
use mathlib.Core.Bool.{false, ◌||◌}
use mathlib.Core.List.{List, [], ◌∷◌, ◌++◌, append-nil, append_assoc}
use Prim.Native.Nat.{ℕ, ◌+◌, ◌<◌, ◌≤◌}
use native.Mathlib.Numerals.{add-one}
use lib.Dec.{eqb}
use borrow.Author.Tests.{eq-eqb, eqb-true}
use Rattle.std.specs.List.{list_any}
use Rattle.std.proofs.lemmas.List.Folds.{list_any-append}
use Rattle.laws.proofs.Bools.{same_truth}
use lib.ListN.{length, get_or, take, drop}
use lib.Seq.{take-suc}
use Rattle.layout.specs.Kind.{is_one_of}
use Rattle.record.specs.Agrees.{repeats}
use Rattle.laws.proofs.Lists.{rest-step, rest-none}

-- among the identifiers of two lists: among those of one
pub among-append : (identifier : ℕ) (s t : List ℕ) → is_one_of identifier (s ++ t) ≡ (is_one_of identifier s || is_one_of identifier t)
among-append identifier s t = list_any-append (eqb identifier) s t

-- by `contains`, which compares each of the others with it
turned : (a b : ℕ) → eqb a b ≡ eqb b a
turned a b = same_truth (eqb a b) (eqb b a) (λ e. eq-eqb b a (sym (eqb-true a b e))) (λ e. eq-eqb a b (sym (eqb-true b a e)))

found : (identifier : ℕ) (s : List ℕ) → list_any (λ n. eqb n identifier) s ≡ is_one_of identifier s
found identifier [] = refl
found identifier (n ∷ s) = rw (turned n identifier, found identifier s)

-- the identifiers of a line one after the other, those before the place known too
pub repeats-start : (known new : List ℕ) → repeats (known ++ take 0 new) (drop 0 new) ≡ repeats known new
repeats-start known new = ap (λ (k : List ℕ). repeats k new) (append-nil known)

pub repeats-step : (known new : List ℕ) (i : ℕ) → i < length new
    → repeats (known ++ take i new) (drop i new)
    ≡ ((list_any (λ n. eqb n (get_or new i 0)) known || list_any (λ n. eqb n (get_or new i 0)) (take i new)) || repeats (known ++ take (i + 1) new) (drop (i + 1) new))
unfolding repeats
repeats-step known new i h =
    rw (
      rest-step new i h,
      found (get_or new i 0) known,
      found (get_or new i 0) (take i new),
      among-append (get_or new i 0) known (take i new),
      append_assoc known (take i new),
      add-one i,
      take-suc new i 0 h,
    )

pub repeats-end : (known new : List ℕ) (i : ℕ) → length new ≤ i → repeats (known ++ take i new) (drop i new) ≡ false
unfolding repeats
repeats-end known new i h = rw (rest-none new i h)
