-- What marks tell. Numbers that were new one after the other repeat none of those that the marks cover; and where the marks are exact, and each of the
-- numbers has one, they tell it both ways.
-- Assumes nothing.
use mathlib.Core.Path.{◌≡◌, refl, sym, ap, ap₂, ◌∙◌, subst}
use mathlib.Core.Bool.{Bool, true, false, not, cond, ◌&&◌, ◌||◌, or-false, and-true, false≢true}
use mathlib.Core.List.{List, [], ◌∷◌, ◌++◌, append_assoc, append-nil}
use Prim.Native.Nat.{ℕ, ◌+◌, ◌-◌, ◌≤◌, ◌<◌}
use native.Mathlib.Decide.{dec_le}
use native.Mathlib.Omega.{arith}
use borrow.Author.Tests.{eqb-true, eq-eqb, leb-true, ltb-true, le-leb, lt-ltb}
use lib.Dec.{eqb, leb, ltb}
use lib.ListN.{length, get_or, set, take, drop, take-append-drop, length-take, length-set, get_or-replicate, length-replicate}
use lib.Seq.{get_or-set_same, get_or-set_other, take_all, take-take}
use Rattle.laws.specs.Texts.{every}
use Rattle.laws.proofs.Bools.{and-false, and_left, and_right, and_both}
use Rattle.laws.proofs.Bounds.{within-true}
use Rattle.laws.proofs.Lists.{every-weaken, rest-step, rest-none}
use Rattle.layout.specs.Kind.{is_one_of}
use Rattle.record.specs.Agrees.{repeats}
use Rattle.marks.specs.Marks.{first_marked, last_marked, marks_many, is_markable, no_marks, has_mark, is_new, marked_with, marked_all, all_new, Covers}
use Rattle.marks.proofs.Comparing.{among-append}

-- as many marks as before
pub marked-length : (n : ℕ) (marks : List ℕ) → length (marked_with n marks) ≡ length marks
unfolding marked_with
marked-length n marks = go (has_mark marks n)
  where
    go : (has : Bool) → length (cond has (set marks (n - first_marked) 1) marks) ≡ length marks
    go true = length-set marks (n - first_marked) 1
    go false = refl

pub all-length : (ns marks : List ℕ) → length (marked_all ns marks) ≡ length marks
unfolding marked_all
all-length [] marks = refl
all-length (n ∷ ns) marks = all-length ns (marked_with n marks) ∙ marked-length n marks

-- so a number has a mark before and after
has_same : (a n : ℕ) (marks : List ℕ) → has_mark (marked_with a marks) n ≡ has_mark marks n
has_same a n marks = rw (marked-length a marks)

-- a number that has no mark is never new; where one has a mark
none-new : (marks : List ℕ) (n : ℕ) → has_mark marks n ≡ false → is_new marks n ≡ false
unfolding is_new
none-new marks n e = rw e

new-at : (marks : List ℕ) (n : ℕ) → has_mark marks n ≡ true → is_new marks n ≡ eqb (get_or marks (n - first_marked) 0) 0
unfolding is_new
new-at marks n e = rw e

mark-place : (marks : List ℕ) (n : ℕ) → has_mark marks n ≡ true → (first_marked ≤ n) × (n - first_marked < length marks)
mark-place marks n e = (leb-true first_marked n (and_left (leb first_marked n) _ e), ltb-true (n - first_marked) (length marks) (and_right (leb first_marked n) _ e))

-- after a number, what is new: what was new and is another
module _ (marks : List ℕ) (a n : ℕ) where
  pub new-after : is_new (marked_with a marks) n ≡ (not (eqb n a) && is_new marks n)
  unfolding marked_with
  new-after = go (has_mark marks n) refl (has_mark marks a) refl (eqb n a) refl
    where
      apart : eqb n a ≡ false → n ≡ a → ⊥
      apart r s = false≢true (sym r ∙ eq-eqb n a s)

      go : (h : Bool) → has_mark marks n ≡ h → (k : Bool) → has_mark marks a ≡ k → (e : Bool) → eqb n a ≡ e → is_new (marked_with a marks) n ≡ (not e && is_new marks n)
      go false p k q e r = none-new (marked_with a marks) n (has_same a n marks ∙ p) ∙ sym (ap (λ (b : Bool). not e && b) (none-new marks n p) ∙ and-false (not e))
      go true p true q true r =
          new-at (marked_with a marks) n (has_same a n marks ∙ p)
          ∙ ap (λ (b : ℕ). eqb b 0)
          (ap (λ (b : Bool). get_or (cond b (set marks (a - first_marked) 1) marks) (n - first_marked) 0) q
          ∙ ap (λ (x : ℕ). get_or (set marks (a - first_marked) 1) (x - first_marked) 0) (eqb-true n a r)
          ∙ get_or-set_same marks (a - first_marked) 1 0 (mark-place marks a q).1)
      go true p true q false r =
          new-at (marked_with a marks) n (has_same a n marks ∙ p)
          ∙ ap (λ (b : ℕ). eqb b 0)
          (ap (λ (b : Bool). get_or (cond b (set marks (a - first_marked) 1) marks) (n - first_marked) 0) q
          ∙ get_or-set_other marks (a - first_marked) (n - first_marked) 1 0 (λ s. apart r (omega (arith, s, (mark-place marks a q).0, (mark-place marks n p).0))))
          ∙ sym (new-at marks n p)
      go true p false q true r = absurd (false≢true (sym q ∙ ap (has_mark marks) (sym (eqb-true n a r)) ∙ p))
      go true p false q false r = ap (λ (b : Bool). is_new (cond b (set marks (a - first_marked) 1) marks) n) q

-- the marks are exactly of some numbers, as far as each has a mark
abbrev pub Exact : List ℕ → List ℕ → Type 0
Exact known marks = (n : ℕ) → has_mark marks n ≡ true → is_new marks n ≡ not (is_one_of n known)

module _ (known marks : List ℕ) (a : ℕ) where
  among_one : (n : ℕ) → is_one_of n (known ++ (a ∷ [])) ≡ (is_one_of n known || eqb n a)
  among_one n = among-append n known (a ∷ []) ∙ ap (λ (b : Bool). is_one_of n known || b) (or-false (eqb n a))

  -- one number more
  pub covers_one : Covers known marks → Covers (known ++ (a ∷ [])) (marked_with a marks)
  covers_one c n e = new-after marks a n ∙ go (is_one_of n known) refl (eqb n a) (sym (among_one n) ∙ e)
    where
      go : (k : Bool) → is_one_of n known ≡ k → (b : Bool) → (k || b) ≡ true → (not b && is_new marks n) ≡ false
      go true p b q = ap (λ (x : Bool). not b && x) (c n p) ∙ and-false (not b)
      go false p true q = refl
      go false p false q = absurd (false≢true q)

  pub exact_one : Exact known marks → Exact (known ++ (a ∷ [])) (marked_with a marks)
  exact_one x n h =
      new-after marks a n ∙ ap (λ (b : Bool). not (eqb n a) && b) (x n (sym (has_same a n marks) ∙ h))
      ∙ go (is_one_of n known) (eqb n a) ∙ sym (ap not (among_one n))
    where
      go : (k b : Bool) → (not b && not k) ≡ not (k || b)
      go true true = refl
      go true false = refl
      go false true = refl
      go false false = refl

-- and some more
pub covers-all : (more known marks : List ℕ) → Covers known marks → Covers (known ++ more) (marked_all more marks)
unfolding marked_all
covers-all [] known marks c = subst (λ (k : List ℕ). Covers k marks) (sym (append-nil known)) c
covers-all (a ∷ more) known marks c =
    subst (λ (k : List ℕ). Covers k (marked_all more (marked_with a marks))) (append_assoc known (a ∷ []) more)
    (covers-all more (known ++ (a ∷ [])) (marked_with a marks) (covers_one known marks a c))

pub exact-all : (more known marks : List ℕ) → Exact known marks → Exact (known ++ more) (marked_all more marks)
unfolding marked_all
exact-all [] known marks x = subst (λ (k : List ℕ). Exact k marks) (sym (append-nil known)) x
exact-all (a ∷ more) known marks x =
    subst (λ (k : List ℕ). Exact k (marked_all more (marked_with a marks))) (append_assoc known (a ∷ []) more)
    (exact-all more (known ++ (a ∷ [])) (marked_with a marks) (exact_one known marks a x))

-- WHAT WAS NEW ONE AFTER THE OTHER repeats nothing that the marks cover.
pub new-alone : (new known marks : List ℕ) → Covers known marks → all_new marks new ≡ true → repeats known new ≡ false
unfolding all_new repeats
new-alone [] known marks c e = refl
new-alone (a ∷ new) known marks c e =
    ap₂ (λ (x y : Bool). x || y)
    (go (is_one_of a known) refl)
    (new-alone new (known ++ (a ∷ [])) (marked_with a marks) (covers_one known marks a c) (and_right (is_new marks a) _ e))
  where
    go : (k : Bool) → is_one_of a known ≡ k → k ≡ false
    go true p = absurd (false≢true (sym (c a p) ∙ and_left (is_new marks a) _ e))
    go false p = refl

-- AND WHERE THE MARKS ARE EXACT and each number has one, they tell it both ways.
pub new-exactly : (new known marks : List ℕ) → Exact known marks → every (has_mark marks) new ≡ true → all_new marks new ≡ not (repeats known new)
unfolding all_new repeats
new-exactly [] known marks x e = refl
new-exactly (a ∷ new) known marks x e =
    ap₂ (λ (p q : Bool). p && q)
    (x a (and_left (has_mark marks a) _ e))
    (new-exactly new (known ++ (a ∷ [])) (marked_with a marks) (exact_one known marks a x)
    (every-weaken (has_mark marks) (has_mark (marked_with a marks)) (λ n h. has_same a n marks ∙ h) new (and_right (has_mark marks a) _ e)))
    ∙ go (is_one_of a known) (repeats (known ++ (a ∷ [])) new)
  where
    go : (k r : Bool) → (not k && not r) ≡ not (k || r)
    go true r = refl
    go false r = refl

-- before the first number
pub none-covered : (marks : List ℕ) → Covers [] marks
none-covered marks n e = absurd (false≢true e)

pub exact_none : Exact [] no_marks
exact_none n h = new-at no_marks n h ∙ ap (λ (b : ℕ). eqb b 0) (get_or-replicate marks_many (n - first_marked) 0 0 (omega (arith, (mark-place no_marks n h).1, length-replicate {A = ℕ} marks_many 0)))

-- a number from A00 to Z99 has a mark among so many
pub markable : (marks : List ℕ) → length marks ≡ marks_many → (n : ℕ) → is_markable n ≡ true → has_mark marks n ≡ true
markable marks size n e =
    let range = within-true first_marked last_marked n e in
    and_both (leb first_marked n) (ltb (n - first_marked) (length marks)) (le-leb first_marked n range.0) (lt-ltb (n - first_marked) (length marks) (omega (arith, range.1, range.0, size)))

-- Numbers marked one after the other, from place i on: what is left, with the flag so far, decides the whole.
pub record Marking (first numbers marks : List ℕ) (all : Bool) (i : ℕ) : Type 0 where
  pub flag : (all && all_new marks (drop i numbers)) ≡ all_new first numbers
  pub rest : marked_all (drop i numbers) marks ≡ marked_all numbers first
  pub many : length marks ≡ length first

module _ (first numbers marks : List ℕ) (all : Bool) (i : ℕ) (m : Marking first numbers marks all i) where
  pub marking-one : i < length numbers → (new : Bool) (after : List ℕ) → new ≡ is_new marks (get_or numbers i 0) → after ≡ marked_with (get_or numbers i 0) marks
      → Marking first numbers after (new && all) (i + 1)
  unfolding all_new marked_all
  marking-one h new after New-is after_is =
      let step = rest-step numbers i h in
      record {
        flag =
            ap₂ (λ (b : Bool) (k : List ℕ). (b && all) && all_new k (drop (i + 1) numbers)) New-is after_is
            ∙ turned (is_new marks (get_or numbers i 0)) all (all_new (marked_with (get_or numbers i 0) marks) (drop (i + 1) numbers))
            ∙ sym (ap (λ (l : List ℕ). all && all_new marks l) step) ∙ m.flag;
        rest = ap (marked_all (drop (i + 1) numbers)) after_is ∙ sym (ap (λ (l : List ℕ). marked_all l marks) step) ∙ m.rest;
        many = ap length after_is ∙ marked-length (get_or numbers i 0) marks ∙ m.many;
      }
    where
      turned : (a b c : Bool) → ((a && b) && c) ≡ (b && (a && c))
      turned true true c = refl
      turned true false c = refl
      turned false true c = refl
      turned false false c = refl

  pub marking-end : length numbers ≤ i → (all ≡ all_new first numbers) × (marks ≡ marked_all numbers first)
  unfolding all_new marked_all
  marking-end h =
      let none = rest-none numbers i h in
      (sym (and-true all) ∙ sym (ap (λ (l : List ℕ). all && all_new marks l) none) ∙ m.flag, sym (ap (λ (l : List ℕ). marked_all l marks) none) ∙ m.rest)

-- The known numbers marked, and then the new ones: none repeats where each was new, and where one was not, it repeats if each has a mark.
module _ (known new marks : List ℕ) (marks-are : marks ≡ marked_all known no_marks) where
  pub none-again : true ≡ all_new marks new → false ≡ repeats known new
  none-again e = sym (new-alone new known (marked_all known no_marks) (covers-all known [] no_marks (none-covered no_marks)) (sym (ap (λ (m : List ℕ). all_new m new) marks-are) ∙ sym e))

  pub one_again : false ≡ all_new marks new → true ≡ every is_markable new → true ≡ repeats known new
  one_again e each =
      let all = marked_all known no_marks in
      let have : every (has_mark all) new ≡ true = every-weaken is_markable (has_mark all) (markable all (all-length known no_marks ∙ length-replicate {A = ℕ} marks_many 0)) new (sym each) in
      ap not (e ∙ ap (λ (m : List ℕ). all_new m new) marks-are ∙ new-exactly new known all (exact-all known [] no_marks exact_none) have) ∙ not-not (repeats known new)
    where
      not-not : (b : Bool) → not (not b) ≡ b
      not-not true = refl
      not-not false = refl

-- fewer numbers are covered too, and so is a longer front once the rest of it is marked
pub covers-fewer : (less more marks : List ℕ) → Covers (less ++ more) marks → Covers less marks
covers-fewer less more marks c n e = c n (among-append n less more ∙ ap (λ (b : Bool). b || is_one_of n more) e)

pub covers-front : (marked many : ℕ) (numbers marks : List ℕ) → Covers (take marked numbers) marks
    → Covers (take many numbers) (marked_all (drop marked (take many numbers)) marks)
covers-front marked many numbers marks c =
    subst (λ (l : List ℕ). Covers l (marked_all (drop marked (take many numbers)) marks)) (take-append-drop marked (take many numbers))
    (covers-all (drop marked (take many numbers)) (take marked (take many numbers)) marks (go (dec_le marked many)))
  where
    go : Dec (marked ≤ many) → Covers (take marked (take many numbers)) marks
    go (yes h) = subst (λ (l : List ℕ). Covers l marks) (sym (take-take marked many numbers h)) c
    go (no h) =
        let same : take marked (take many numbers) ≡ take many (take marked numbers) =
        take_all marked (take many numbers) (omega (arith, length-take many numbers)) ∙ sym (take-take many marked numbers (omega arith)) in
        subst (λ (l : List ℕ). Covers l marks) (sym same) (covers-fewer (take many (take marked numbers)) (drop many (take marked numbers)) marks
        (subst (λ (l : List ℕ). Covers l marks) (sym (take-append-drop many (take marked numbers))) c))

-- the end of a list, and what the marks tell of the new numbers
pub ruleset marking = (marking-end)

pub ruleset telling = (none-again, one_again)
