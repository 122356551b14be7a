-- The told answers of a walk over rows are told apart.
-- Assumes nothing.
use Rattle.std.proofs.Common.{◌≡◌, ℕ, refl, ap, arith}
use Rattle.float_row.specs.declared.FloatRow.{FloatRow}
use Rattle.row_walk.specs.Told.{ToldStep, told_step}
use Rattle.row_walk.specs.declared.types.RowWalk.{RowWalk}
use Rattle.row_walk.specs.declared.types.RowStep.{RowStep}
use Rattle.row_walk.specs.declared.types.RowStep.TheVariants as step

-- which case it is
which-one : (a b : RowStep) → told_step a ≡ told_step b → (told_step a).which ≡ (told_step b).which
which-one a b e = ap (λ (t : ToldStep). t.which) e

module _ (e e' s s' : ℕ) (r r' : FloatRow) (n n' : RowWalk) (epochs : e ≡ e') (satellites : s ≡ s') (rows : r ≡ r') (nexts : n ≡ n') where
  same_at : step.At e s r n ≡ step.At e' s' r' n'
  same_at = cc

  same-absent : step.Absent e s r n ≡ step.Absent e' s' r' n'
  same-absent = cc

pub told_step-one : (a b : RowStep) → told_step a ≡ told_step b → a ≡ b
unfolding told_step
told_step-one (step.At e s r n) (step.At e' s' r' n') t =
    same_at e e' s s' r r' n n' (ap (λ (x : ToldStep). x.epoch) t) (ap (λ (x : ToldStep). x.satellite) t) (ap (λ (x : ToldStep). x.row) t) (ap (λ (x : ToldStep). x.next) t)
told_step-one (step.At e s r n) (step.Absent e' s' r' n') t = absurd (omega (arith, which-one (step.At e s r n) (step.Absent e' s' r' n') t))
told_step-one (step.At e s r n) step.End t = absurd (omega (arith, which-one (step.At e s r n) step.End t))
told_step-one (step.At e s r n) (step.Refused m l c) t = absurd (omega (arith, which-one (step.At e s r n) (step.Refused m l c) t))
told_step-one (step.Absent e s r n) (step.At e' s' r' n') t = absurd (omega (arith, which-one (step.Absent e s r n) (step.At e' s' r' n') t))
told_step-one (step.Absent e s r n) (step.Absent e' s' r' n') t =
    same-absent e e' s s' r r' n n' (ap (λ (x : ToldStep). x.epoch) t) (ap (λ (x : ToldStep). x.satellite) t) (ap (λ (x : ToldStep). x.row) t) (ap (λ (x : ToldStep). x.next) t)
told_step-one (step.Absent e s r n) step.End t = absurd (omega (arith, which-one (step.Absent e s r n) step.End t))
told_step-one (step.Absent e s r n) (step.Refused m l c) t = absurd (omega (arith, which-one (step.Absent e s r n) (step.Refused m l c) t))
told_step-one step.End (step.At e' s' r' n') t = absurd (omega (arith, which-one step.End (step.At e' s' r' n') t))
told_step-one step.End (step.Absent e' s' r' n') t = absurd (omega (arith, which-one step.End (step.Absent e' s' r' n') t))
told_step-one step.End step.End t = refl
told_step-one step.End (step.Refused m l c) t = absurd (omega (arith, which-one step.End (step.Refused m l c) t))
told_step-one (step.Refused m l c) (step.At e' s' r' n') t = absurd (omega (arith, which-one (step.Refused m l c) (step.At e' s' r' n') t))
told_step-one (step.Refused m l c) (step.Absent e' s' r' n') t = absurd (omega (arith, which-one (step.Refused m l c) (step.Absent e' s' r' n') t))
told_step-one (step.Refused m l c) step.End t = absurd (omega (arith, which-one (step.Refused m l c) step.End t))
told_step-one (step.Refused m l c) (step.Refused m' l' c') t =
    same (ap (λ (x : ToldStep). x.number) t) (ap (λ (x : ToldStep). x.line) t) (ap (λ (x : ToldStep). x.column) t)
  where
    same : m ≡ m' → l ≡ l' → c ≡ c' → step.Refused m l c ≡ step.Refused m' l' c'
    same p q r = cc
