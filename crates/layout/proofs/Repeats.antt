-- Slots that repeat over a line: one more slot of a loop that reads or draws, and that they tile their columns for every number of satellites.
-- Assumes nothing.
use mathlib.Core.Path.{◌≡◌, refl, ap, sym, ◌∙◌}
use mathlib.Core.Bool.{Bool, true, false}
use mathlib.Core.List.{List, [], ◌∷◌, ◌++◌, append_assoc}
use Prim.Native.Nat.{ℕ, zero, suc, ◌+◌, ◌-◌, ◌*◌, ◌<◌, ◌≤◌}
use native.Mathlib.Nat.{sub-zero}
use native.Mathlib.Numerals.{add-one}
use native.Mathlib.Omega.{arith}
use borrow.Author.Tests.{ltb-true, ltb-false, lt-ltb, le-ltb, eq-eqb, le-leb}
use lib.Dec.{ltb}
use lib.ListN.{length, get_or, take, drop, set}
use lib.Seq.{take-suc-set, drop-cons}
use Rattle.layout.specs.Fault.{lower}
use Rattle.layout.specs.Kind.{Kind, Held, silent, number_in, shown_in, fits_in, may_end_blank}
use Rattle.layout.specs.Kind.Held.{one}
use Rattle.layout.specs.Layout.{Item, Values, held_at, fault_at, entered, fault_from, values_of, tiled_from, slot_for, slot_at, slots_from, numbers_of, ones_of}
use Rattle.layout.specs.Inking.{text_end, end_from, inked_whole, inked}
use Rattle.layout.proofs.Fields.{wide}

-- there are satellites left for the slot k
left-some : (left k : ℕ) → ltb 0 (left - k) ≡ ltb k left
left-some left k = go (ltb k left) refl
  where
    go : (t : Bool) → ltb k left ≡ t → ltb 0 (left - k) ≡ t
    go true e = lt-ltb 0 (left - k) (omega (arith, ltb-true k left e))
    go false e = le-ltb 0 (left - k) (omega (arith, ltb-false k left e))

pub next-slot : (kind : Kind) (m n left k at : ℕ) → m ≡ suc n
    → slots_from kind m (left - k) at ≡ slot_at (ltb k left) kind at ∷ slots_from kind n (left - (k + 1)) (at + 3)
unfolding slots_from
next-slot kind m n left k at e =
    let one_less : left - k - 1 ≡ left - (k + 1) = omega arith in
    ap (λ (i : ℕ). slots_from kind i (left - k) at) e
    ∙ rw (left-some left k, one_less)

pub first_slot : (kind : Kind) (left : ℕ) → slots_from kind 17 left 10 ≡ slots_from kind 17 (left - 0) 10
first_slot kind left = ap (λ (n : ℕ). slots_from kind 17 n 10) (sym (sub-zero left))

pub no_slot : (kind : Kind) (m left at : ℕ) → m ≡ 0 → slots_from kind m left at ≡ []
unfolding slots_from
no_slot kind m left at e = ap (λ (k : ℕ). slots_from kind k left at) e

-- one more slot of a loop that reads, of a kind that holds one number
module _ (kind : Kind) (loud : silent kind ≡ false) (m n left k at : ℕ) (more : m ≡ suc n) (line : List ℕ) where
  pub next-fault : (lowest : ℕ) → fault_from lowest (slots_from kind m (left - k) at) line
      ≡ fault_from (lower lowest (fault_at (slot_at (ltb k left) kind at) line)) (slots_from kind n (left - (k + 1)) (at + 3)) line
  next-fault lowest = ap (λ (items : List Item). fault_from lowest items line) (next-slot kind m n left k at more)

  entry : (t : Bool) (vs : Values) → numbers_of (entered (silent (slot_at t kind at).kind) (held_at (slot_at t kind at) line) vs)
      ≡ number_in (held_at (slot_at t kind at) line) ∷ numbers_of vs
  entry true vs = rw loud
  entry false vs = refl

  pub next-numbers : numbers_of (values_of (slots_from kind m (left - k) at) line)
      ≡ number_in (held_at (slot_at (ltb k left) kind at) line) ∷ numbers_of (values_of (slots_from kind n (left - (k + 1)) (at + 3)) line)
  next-numbers =
      ap (λ (items : List Item). numbers_of (values_of items line)) (next-slot kind m n left k at more)
      ∙ entry (ltb k left) (values_of (slots_from kind n (left - (k + 1)) (at + 3)) line)

-- a store behind those made before
pub stored : (vs : List ℕ) (i v : ℕ) (rest : List ℕ) → i < length vs → take i vs ++ (v ∷ rest) ≡ take (i + 1) (set vs i v) ++ rest
stored vs i v rest h = rw (add-one i, take-suc-set vs i v h, append_assoc)

-- one more slot of a loop that finds their end, and of one that puts them in place
module _ (kind : Kind) (loud : silent kind ≡ false) where
  pub slot-end : (t : Bool) (at earlier : ℕ) (items : List Item) (v : Held) (vs : Values) → 1 ≤ at
      → end_from earlier (slot_at t kind at ∷ items) (v ∷ vs) ≡ end_from (text_end (at - 1) (shown_in (slot_for t kind) 3 v) earlier) items vs
  slot-end true at earlier items v vs p = let three : at + 2 - (at - 1) ≡ 3 = omega arith in rw (loud, three)
  slot-end false at earlier items v vs p = refl

  slot-inked : may_end_blank kind ≡ false → (t : Bool) (at code : ℕ) (vs : Values) (items : List Item) (line : List ℕ) → 1 ≤ at
      → inked (slot_at t kind at ∷ items) (one code ∷ vs) line ≡ inked items vs (inked_whole at (at + 2) (shown_in (slot_for t kind) 3 (one code)) line)
  slot-inked filling true at code vs items line p = let three : at + 2 - (at - 1) ≡ 3 = omega arith in rw (loud, filling, three)
  slot-inked filling false at code vs items line p = refl

  module _ (m n left k at : ℕ) (p : 1 ≤ at) (e : m ≡ suc n) (values : List ℕ) (h : k < length values) where
    pub next-end : (earlier : ℕ)
        → end_from earlier (slots_from kind m (left - k) at) (ones_of (drop k values))
        ≡ end_from (text_end (at - 1) (shown_in (slot_for (ltb k left) kind) 3 (one (get_or values k 0))) earlier) (slots_from kind n (left - (k + 1)) (at + 3))
        (ones_of (drop (k + 1) values))
    next-end earlier =
        rw (next-slot kind m n left k at e, drop-cons values k 0 h, add-one k)
        (slot-end (ltb k left) at earlier (slots_from kind n (left - suc k) (at + 3)) (one (get_or values k 0)) (ones_of (drop (suc k) values)) p)

    pub next-inked : may_end_blank kind ≡ false → (line : List ℕ)
        → inked (slots_from kind m (left - k) at) (ones_of (drop k values)) line
        ≡ inked (slots_from kind n (left - (k + 1)) (at + 3)) (ones_of (drop (k + 1) values))
        (inked_whole at (at + 2) (shown_in (slot_for (ltb k left) kind) 3 (one (get_or values k 0))) line)
    next-inked filling line =
        rw (next-slot kind m n left k at e, drop-cons values k 0 h, add-one k)
        (slot-inked filling (ltb k left) at (get_or values k 0) (ones_of (drop (suc k) values)) (slots_from kind n (left - suc k) (at + 3)) line p)

-- a slot fills its three columns
pub slot-length : (kind : Kind) → fits_in kind 3 ≡ true → (t : Bool) (code : ℕ) → length (shown_in (slot_for t kind) 3 (one code)) ≡ 3
slot-length kind fits true code = wide kind 3 (one code) fits
slot-length kind fits false code = refl

-- so many slots from the column at, then other items, tile
pub slots-tile : (kind : Kind) → fits_in kind 3 ≡ true → (count left at : ℕ) (more : List Item) → 1 ≤ at
    → tiled_from (at + 3 * count) more ≡ true → tiled_from at (slots_from kind count left at ++ more) ≡ true
unfolding slots_from
slots-tile kind fits zero left at more p t =
    let same : at + 3 * 0 ≡ at = omega arith in
    ap (λ (n : ℕ). tiled_from n more) (sym same) ∙ t
slots-tile kind fits (suc count) left at more p t =
    let same : at + 3 + 3 * count ≡ at + 3 * suc count = omega arith in
    here (ltb 0 left) (slots-tile kind fits count (left - 1) (at + 3) more (omega arith) (ap (λ (n : ℕ). tiled_from n more) same ∙ t))
  where
    next : suc (at + 2) ≡ at + 3
    next = omega arith

    three : at + 2 - (at - 1) ≡ 3
    three = omega arith

    here : (b : Bool) → tiled_from (at + 3) (slots_from kind count (left - 1) (at + 3) ++ more) ≡ true
        → tiled_from at (slot_at b kind at ∷ (slots_from kind count (left - 1) (at + 3) ++ more)) ≡ true
    here true rest = rw (eq-eqb at at refl, le-leb at (at + 2) (omega arith), three, fits, next) rest
    here false rest = rw (eq-eqb at at refl, le-leb at (at + 2) (omega arith), three, next) rest
