-- Each answer is known by its number and values: two that are told alike are one.
-- Assumes nothing.
use Rattle.std.proofs.Common.{◌≡◌, ℕ, Bool, true, false, cond, List, get_or, refl, ap, ap₂}
use Rattle.machine.specs.Told.{told_state, told_verdict, told_read}
use Rattle.machine.specs.declared.types.State.{State}
use Rattle.machine.specs.declared.types.Verdict.{Verdict}
use Rattle.machine.specs.declared.types.Verdict.TheVariants as verdict
use Rattle.machine.specs.declared.types.LineRead.{LineRead}
use Rattle.machine.specs.declared.types.LineRead.TheVariants as found

bit-one : (a b : Bool) → ◌≡◌ {A = ℕ} (cond a 1 0) (cond b 1 0) → a ≡ b
bit-one true true e = refl
bit-one true false e = cc
bit-one false true e = cc
bit-one false false e = refl

-- a state out of its numbers and its mode
abbrev state_from : List ℕ → Bool → State
state_from told v = record {
  due = get_or told 0 0;
  also = get_or told 1 0;
  lines = get_or told 2 0;
  left = get_or told 3 0;
  comments = get_or told 4 0;
  velocity = v;
  satellites = get_or told 6 0;
  epochs = get_or told 7 0;
  at8 = get_or told 8 0;
  gap8 = get_or told 9 0;
  interval8 = get_or told 10 0;
}

pub state-one : (a b : State) → told_state a ≡ told_state b → a ≡ b
state-one a b e = ap₂ state_from e (bit-one a.velocity b.velocity (ap (λ (told : List ℕ). get_or told 5 0) e))

pub told_verdict-one : (a b : Verdict) → told_verdict a ≡ told_verdict b → a ≡ b
unfolding told_verdict
told_verdict-one (verdict.Fault n c) (verdict.Fault n' c') e = cc
told_verdict-one (verdict.Fault n c) (verdict.Next s') e = cc
told_verdict-one (verdict.Fault n c) verdict.Finished e = cc
told_verdict-one (verdict.Next s) (verdict.Fault n' c') e = cc
told_verdict-one (verdict.Next s) (verdict.Next s') e = let same : s ≡ s' = state-one s s' (cc) in cc
told_verdict-one (verdict.Next s) verdict.Finished e = cc
told_verdict-one verdict.Finished (verdict.Fault n' c') e = cc
told_verdict-one verdict.Finished (verdict.Next s') e = cc
told_verdict-one verdict.Finished verdict.Finished e = refl

pub told_read-one : (a b : LineRead) → told_read a ≡ told_read b → a ≡ b
unfolding told_read
told_read-one found.NoLine found.NoLine e = refl
told_read-one found.NoLine (found.Fault n' c') e = cc
told_read-one found.NoLine (found.Next at' s') e = cc
told_read-one found.NoLine (found.Finished at') e = cc
told_read-one (found.Fault n c) found.NoLine e = cc
told_read-one (found.Fault n c) (found.Fault n' c') e = cc
told_read-one (found.Fault n c) (found.Next at' s') e = cc
told_read-one (found.Fault n c) (found.Finished at') e = cc
told_read-one (found.Next at s) found.NoLine e = cc
told_read-one (found.Next at s) (found.Fault n' c') e = cc
told_read-one (found.Next at s) (found.Next at' s') e = let same : s ≡ s' = state-one s s' (cc) in cc
told_read-one (found.Next at s) (found.Finished at') e = cc
told_read-one (found.Finished at) found.NoLine e = cc
told_read-one (found.Finished at) (found.Fault n' c') e = cc
told_read-one (found.Finished at) (found.Next at' s') e = cc
told_read-one (found.Finished at) (found.Finished at') e = cc
