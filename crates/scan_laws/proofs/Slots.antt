-- The numbers in the slots of `+ ` and `++` lines: seventeen to a line, read alike however many satellites are left; and repetitions among them.
-- Assumes nothing.
use mathlib.Core.Path.{◌≡◌, refl, sym, ap, ◌∙◌}
use mathlib.Core.Bool.{Bool, true, false, ◌||◌}
use mathlib.Core.List.{List, [], ◌∷◌, ◌++◌, map, append_assoc, append-nil}
use Prim.Native.Nat.{ℕ, zero, suc, ◌+◌, ◌-◌, ◌*◌, ◌≤◌, min}
use native.Mathlib.Omega.{arith}
use native.Mathlib.Nat.{sub-zero}
use lib.Dec.{ltb}
use lib.ListN.{length, take, length-append, length-take}
use lib.Seq.{take-nil, length-take-le}
use borrow.Author.Tests.{lt-ltb}
use Rattle.laws.proofs.Lists.{one_less}
use Rattle.layout.specs.Kind.{is_one_of}
use Rattle.layout.specs.Kind.Kind.{unused}
use Rattle.layout.specs.Layout.{columns, slots_from, values_of, numbers_of}
use Rattle.layout.specs.Line.{padded}
use Rattle.lines.specs.Lent.{flat}
use Rattle.lines.proofs.Ends.{neither}
use Rattle.record.specs.SlotLines.{slot_kind, satellites_of, more_of}
use Rattle.header.specs.declared.types.Rules.{Rules}
use Rattle.record.specs.Agrees.{repeats}
use Rattle.file.specs.Table.{slot_numbers}
use Rattle.file.specs.Plain.{slot_identifiers}

-- the numbers in so many slots of identifiers or accuracies, of which the first `left` are of satellites
abbrev numbers_in : Bool → ℕ → ℕ → ℕ → List ℕ → List ℕ
numbers_in accuracies count left at p = numbers_of (values_of (slots_from (slot_kind accuracies) count left at ++ (columns 61 80 unused ∷ [])) p)

some_left : (k : ℕ) → ltb 0 (suc k) ≡ true
some_left k = lt-ltb 0 (suc k) (omega arith)

-- the slots of satellites are read alike however many are left
alike : (accuracies : Bool) (count left at : ℕ) (p : List ℕ) → take left (numbers_in accuracies count left at p) ≡ take left (numbers_in accuracies count count at p)
unfolding slots_from
alike accuracies zero left at p = refl
alike accuracies (suc count) zero at p = refl
alike true (suc count) (suc left) at p = rw (some_left left, some_left count, one_less left, one_less count, alike true count left (at + 3) p)
alike false (suc count) (suc left) at p = rw (some_left left, some_left count, one_less left, one_less count, alike false count left (at + 3) p)

-- each slot holds one number
one_each : (accuracies : Bool) (count left at : ℕ) (p : List ℕ) → length (numbers_in accuracies count left at p) ≡ count
unfolding slots_from
one_each accuracies zero left at p = refl
one_each accuracies (suc count) left at p = go accuracies (ltb 0 left) refl (one_each accuracies count (left - 1) (at + 3) p)
  where
    go : (a b : Bool) → ltb 0 left ≡ b → length (numbers_in a count (left - 1) (at + 3) p) ≡ count → length (numbers_in a (suc count) left at p) ≡ suc count
    go true true e more = rw e (ap suc more)
    go true false e more = rw e (ap suc more)
    go false true e more = rw e (ap suc more)
    go false false e more = rw e (ap suc more)

pub seventeen : (accuracies : Bool) (l : List ℕ) → length (slot_numbers accuracies l) ≡ 17
seventeen true l = one_each true 17 17 10 (padded l)
seventeen false l = one_each false 17 17 10 (padded l)

pub more-alike : (accuracies : Bool) (left : ℕ) (l : List ℕ) → take left (more_of accuracies left (padded l)).values ≡ take left (slot_numbers accuracies l)
more-alike true left l = alike true 17 left 10 (padded l)
more-alike false left l = alike false 17 left 10 (padded l)

-- the identifiers that a line brings where so many satellites are left
abbrev pub fresh_in : ℕ → List ℕ → List ℕ
fresh_in left l = take left (slot_numbers false l)

pub more-fresh : (left : ℕ) (l : List ℕ) → take left (more_of false left (padded l)).values ≡ fresh_in left l
more-fresh left l = more-alike false left l

pub first-fresh : (rules : Rules) (l : List ℕ) → take (satellites_of rules (padded l)).count (satellites_of rules (padded l)).identifiers ≡ fresh_in (satellites_of rules (padded l)).count l
first-fresh rules l = alike false 17 (satellites_of rules (padded l)).count 10 (padded l)

pub fresh-length : (left : ℕ) (l : List ℕ) → length (fresh_in left l) ≡ min left 17
fresh-length left l = length-take left (slot_numbers false l) ∙ ap (min left) (seventeen false l)

-- the first elements of two lists together
take-both : (n : ℕ) (xs ys : List ℕ) → take n (xs ++ ys) ≡ take n xs ++ take (n - length xs) ys
take-both n [] ys = rw (sub-zero n, take-nil {A = ℕ} n)
take-both zero (x ∷ xs) ys = ap (λ (k : ℕ). take k ys) none
  where
    none : 0 ≡ 0 - suc (length xs)
    none = omega arith
take-both (suc n) (x ∷ xs) ys =
    let less : suc n - suc (length xs) ≡ n - length xs = omega arith in
    rw less (ap (λ (r : List ℕ). x ∷ r) (take-both n xs ys))

-- the numbers of some lines, by the first of them
pub slots-cons : (accuracies : Bool) (left : ℕ) (l : List ℕ) (ls : List (List ℕ))
    → take left (flat (map (slot_numbers accuracies) (l ∷ ls)))
    ≡ take left (slot_numbers accuracies l) ++ take (left - 17) (flat (map (slot_numbers accuracies) ls))
unfolding flat
slots-cons accuracies left l ls =
    take-both left (slot_numbers accuracies l) (flat (map (slot_numbers accuracies) ls))
    ∙ ap (λ (k : ℕ). take left (slot_numbers accuracies l) ++ take (left - k) (flat (map (slot_numbers accuracies) ls))) (seventeen accuracies l)

pub identifiers-cons : (left : ℕ) (l : List ℕ) (ls : List (List ℕ)) → slot_identifiers left (l ∷ ls) ≡ fresh_in left l ++ slot_identifiers (left - 17) ls
identifiers-cons left l ls = slots-cons false left l ls

pub identifiers-none : (left : ℕ) → slot_identifiers left [] ≡ []
unfolding flat
identifiers-none left = take-nil {A = ℕ} left

-- enough lines have all identifiers
flat-length : (ls : List (List ℕ)) → length (flat (map (slot_numbers false) ls)) ≡ 17 * length ls
unfolding flat
flat-length [] = refl
flat-length (l ∷ ls) = omega (arith, length-append (slot_numbers false l) (flat (map (slot_numbers false) ls)), seventeen false l, flat-length ls)

pub identifiers-length : (n : ℕ) (ls : List (List ℕ)) → n ≤ 17 * length ls → length (slot_identifiers n ls) ≡ n
identifiers-length n ls h = length-take-le n (flat (map (slot_numbers false) ls)) (omega (arith, flat-length ls))

-- no identifier of two lists repeats where none of the first does and none of the second, the first being known
pub repeats-append : (known a b : List ℕ) → repeats known (a ++ b) ≡ repeats known a || repeats (known ++ a) b
unfolding repeats
repeats-append known [] b = ap (λ (k : List ℕ). repeats k b) (sym (append-nil known))
repeats-append known (x ∷ a) b =
    let next = known ++ (x ∷ []) in
    or_assoc (is_one_of x known) (repeats next (a ++ b)) (repeats next a) (repeats (known ++ (x ∷ a)) b)
    (repeats-append next a b ∙ ap (λ (k : List ℕ). repeats next a || repeats k b) (append_assoc known (x ∷ []) a))
  where
    or_assoc : (t u v w : Bool) → u ≡ (v || w) → (t || u) ≡ ((t || v) || w)
    or_assoc true u v w e = refl
    or_assoc false u v w e = e

-- the identifiers of all lines, by those of the first
pub all-identifiers : (left : ℕ) (known l : List ℕ) (ls : List (List ℕ)) → (known ++ fresh_in left l) ++ slot_identifiers (left - 17) ls ≡ known ++ slot_identifiers left (l ∷ ls)
all-identifiers left known l ls =
    append_assoc known (fresh_in left l) (slot_identifiers (left - 17) ls) ∙ ap (λ (r : List ℕ). known ++ r) (sym (identifiers-cons left l ls))

pub one_line : (left : ℕ) (known l : List ℕ) → known ++ fresh_in left l ≡ known ++ slot_identifiers left (l ∷ [])
one_line left known l =
    ap (λ (r : List ℕ). known ++ r)
    (sym (append-nil (fresh_in left l)) ∙ sym (ap (λ (r : List ℕ). fresh_in left l ++ r) (identifiers-none (left - 17))) ∙ sym (identifiers-cons left l []))

-- no identifier of the lines repeats, by the first and the others
pub first-new : (left : ℕ) (known l : List ℕ) (ls : List (List ℕ)) → repeats known (slot_identifiers left (l ∷ ls)) ≡ false
    → (repeats known (fresh_in left l) ≡ false) × (repeats (known ++ fresh_in left l) (slot_identifiers (left - 17) ls) ≡ false)
first-new left known l ls e =
    neither (repeats known (fresh_in left l)) (repeats (known ++ fresh_in left l) (slot_identifiers (left - 17) ls))
    (sym (repeats-append known (fresh_in left l) (slot_identifiers (left - 17) ls)) ∙ sym (ap (repeats known) (identifiers-cons left l ls)) ∙ e)

pub all_new : (left : ℕ) (known l : List ℕ) (ls : List (List ℕ)) → repeats known (fresh_in left l) ≡ false
    → repeats (known ++ fresh_in left l) (slot_identifiers (left - 17) ls) ≡ false → repeats known (slot_identifiers left (l ∷ ls)) ≡ false
all_new left known l ls e f =
    ap (repeats known) (identifiers-cons left l ls) ∙ repeats-append known (fresh_in left l) (slot_identifiers (left - 17) ls) ∙ rw (e, f)

pub none-new : (left : ℕ) (known : List ℕ) → repeats known (slot_identifiers left []) ≡ false
unfolding repeats
none-new left known = ap (repeats known) (identifiers-none left)
