-- Tests that hold together, and what follows from a test that passed.
-- Assumes nothing.
use mathlib.Core.Path.{◌≡◌, refl, sym}
use mathlib.Core.Bool.{Bool, true, false, cond, ◌&&◌, beq, false≢true}
use lib.Dec.{T}

pub and_left : (t u : Bool) → (t && u) ≡ true → t ≡ true
and_left true u e = refl
and_left false u e = e

pub and_right : (t u : Bool) → (t && u) ≡ true → u ≡ true
and_right true u e = e
and_right false u e = absurd (false≢true e)

pub and_both : (t u : Bool) → t ≡ true → u ≡ true → (t && u) ≡ true
and_both t u et eu = rw (et, eu)

pub and-false : (t : Bool) → (t && false) ≡ false
and-false true = refl
and-false false = refl

pub and-true : (t : Bool) → (t && true) ≡ t
and-true true = refl
and-true false = refl

-- the parts of a test that passed
pub both_true : (t u : Bool) → (t && u) ≡ true → (t ≡ true) × (u ≡ true)
both_true t u e = (and_left t u e, and_right t u e)

pub three-true : (t u v : Bool) → (t && u && v) ≡ true → (t ≡ true) × (u ≡ true) × (v ≡ true)
three-true t u v e =
    let p = both_true (t && u) v e in
    let q = both_true t u p.0 in
    (q.0, q.1, p.1)

-- the parts of a test that antt computed
pub both-passed : (t u : Bool) → T (t && u) → T t × T u
both-passed true u p = (tt, p)
both-passed false u p = absurd p

-- behind an answer that is not the refusal stands a test that passed
pub tested : {A : Type 0} (t : Bool) (r none v : A) → (none ≡ v → ⊥) → cond t r none ≡ v → (t ≡ true) × (r ≡ v)
tested true r none v apart e = (refl, e)
tested false r none v apart e = absurd (apart e)

-- tests that cannot both pass
pub not-both : (t u : Bool) → (t ≡ true → u ≡ true → ⊥) → (t && u) ≡ false
not-both true true h = absurd (h refl refl)
not-both true false h = refl
not-both false u h = refl

-- two tests that pass together are one
pub same_truth : (t u : Bool) → (t ≡ true → u ≡ true) → (u ≡ true → t ≡ true) → t ≡ u
same_truth true u p q = sym (p refl)
same_truth false true p q = q refl
same_truth false false p q = refl

-- a test that two Bools are the same
pub same_bool : (t u : Bool) → T (beq t u) → t ≡ u
same_bool true true p = refl
same_bool true false p = absurd p
same_bool false true p = absurd p
same_bool false false p = refl
