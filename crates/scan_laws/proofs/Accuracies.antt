-- The `++` lines of a file: so many of them take the machine to the first `%c` line, and a run to a file has read so many.
-- Assumes nothing.
use mathlib.Core.Path.{◌≡◌, refl, ap, ◌∙◌}
use mathlib.Core.Bool.{true}
use mathlib.Core.List.{List, [], ◌∷◌, ◌++◌}
use Prim.Native.Nat.{ℕ, zero, suc, ◌-◌}
use native.Mathlib.Omega.{arith}
use lib.ListN.{length}
use borrow.Author.Tests.{eqb-true, ne_eqb}
use Rattle.laws.proofs.Bools.{and_left, and_right, and_both}
use Rattle.laws.proofs.Lists.{one_less}
use Rattle.layout.specs.Line.{padded}
use Rattle.record.specs.SlotLines.{more_of}
use Rattle.record.specs.LineKinds.{accuracies_kind, characters_kind}
use Rattle.header.specs.declared.types.Rules.{Rules}
use Rattle.record.specs.declared.types.LineKind.TheVariants as kind
use Rattle.machine.specs.Next.{expect, leave, after_accuracies}
use Rattle.machine.specs.declared.types.State.{State}
use Rattle.machine.specs.declared.types.Verdict.TheVariants as verdict
use Rattle.file.specs.Plain.{is_line, is_record, are_slots}
use Rattle.scan.specs.Run.{run, counted}
use Rattle.scan.specs.declared.Tally.{Tally}
use Rattle.scan.specs.Front as front
use Rattle.scan_laws.proofs.Reaching.{counted_over, Reach, reach-append, reach-one, identifiers-kept, due-line}

module _ (rules : Rules) (s : State) (identifiers : List ℕ) where
  -- so many `++` lines are due, with the slots of so many satellites
  abbrev pub accuracies_due : ℕ → ℕ → State
  accuracies_due lines left = leave left (expect accuracies_kind lines s)

  last_one : (left : ℕ) → after_accuracies (accuracies_due 1 left) ≡ leave (left - 17) (expect characters_kind 2 s)
  unfolding after_accuracies
  last_one left = refl

  one-of-more : (k left : ℕ) → after_accuracies (accuracies_due (suc (suc k)) left) ≡ accuracies_due (suc k) (left - 17)
  unfolding after_accuracies
  one-of-more k left = rw (one_less (suc k), ne_eqb (suc k) 0 (λ e. omega arith))

  line-reach : (lines left : ℕ) (next : State) (l : List ℕ) → after_accuracies (accuracies_due lines left) ≡ next
      → is_record rules kind.Accuracies (more_of true left (padded l)).fault l ≡ true → Reach rules (accuracies_due lines left) identifiers (l ∷ []) next identifiers
  line-reach lines left next l nexts is =
      reach-one rules kind.Accuracies (accuracies_due lines left) next identifiers identifiers l refl (and_left (is_line rules kind.Accuracies l) _ is)
      (eqb-true (more_of true left (padded l)).fault 0 (and_right (is_line rules kind.Accuracies l) _ is)) (ap verdict.Next nexts)
      (identifiers-kept rules (accuracies_due lines left) identifiers l refl)

  pub accuracies-reach : (k left : ℕ) (ls : List (List ℕ)) → length ls ≡ suc k → are_slots rules true left ls ≡ true
      → (x : ℕ) × Reach rules (accuracies_due (suc k) left) identifiers ls (leave x (expect characters_kind 2 s)) identifiers
  unfolding are_slots
  accuracies-reach k left [] many are = absurd (omega arith)
  accuracies-reach zero left (l ∷ []) many are = (left - 17, line-reach 1 left (leave (left - 17) (expect characters_kind 2 s)) l (last_one left) (and_left (is_record rules kind.Accuracies (more_of true left (padded l)).fault l) _ are))
  accuracies-reach zero left (l ∷ m ∷ ls) many are = absurd (omega arith)
  accuracies-reach (suc k) left (l ∷ ls) many are =
      let parts = is_record rules kind.Accuracies (more_of true left (padded l)).fault l in
      let others = accuracies-reach k (left - 17) ls (omega arith) (and_right parts _ are) in
      let first = line-reach (suc (suc k)) left (accuracies_due (suc k) (left - 17)) l (one-of-more k left) (and_left parts _ are) in
      (others.0, reach-append rules (accuracies_due (suc (suc k)) left) (accuracies_due (suc k) (left - 17)) (leave others.0 (expect characters_kind 2 s)) identifiers identifiers identifiers (l ∷ []) ls first others.1)

  -- the `++` lines that a run to a file has read
  pub record Rated (lines left : ℕ) (t t' : Tally) (ls : List (List ℕ)) : Type 0 where
    pub used : List (List ℕ)
    pub more : List (List ℕ)
    pub split : ls ≡ used ++ more
    pub many : length used ≡ lines
    pub are : are_slots rules true left used ≡ true
    pub over : ℕ
    pub goes : run rules (leave over (expect characters_kind 2 s)) identifiers (counted_over rules t used) more ≡ front.File t'

  record One (left : ℕ) (next : State) (t t' : Tally) (ls : List (List ℕ)) : Type 0 where
    line : List ℕ
    others : List (List ℕ)
    split : ls ≡ line ∷ others
    is : is_record rules kind.Accuracies (more_of true left (padded line)).fault line ≡ true
    goes : run rules next identifiers (counted rules t line) others ≡ front.File t'

  line_read : (lines left : ℕ) (next : State) (t t' : Tally) (ls : List (List ℕ)) → after_accuracies (accuracies_due lines left) ≡ next
      → run rules (accuracies_due lines left) identifiers t ls ≡ front.File t' → One left next t t' ls
  line_read lines left next t t' ls nexts e =
      let x = due-line rules kind.Accuracies (accuracies_due lines left) identifiers t t' ls refl refl e in
      let kept = identifiers-kept rules (accuracies_due lines left) identifiers x.line refl in
      record { line = x.line; others = x.others; split = x.split; is = rw (x.is-kind, x.clean); goes = rw (nexts, kept) at x.goes }

  pub accuracies-read : (k left : ℕ) (t t' : Tally) (ls : List (List ℕ)) → run rules (accuracies_due (suc k) left) identifiers t ls ≡ front.File t' → Rated (suc k) left t t' ls
  unfolding counted_over are_slots
  accuracies-read zero left t t' ls e =
      let x = line_read 1 left (leave (left - 17) (expect characters_kind 2 s)) t t' ls (last_one left) e in
      record { used = x.line ∷ []; more = x.others; split = x.split; many = refl; are = rw x.is; over = left - 17; goes = x.goes }
  accuracies-read (suc k) left t t' ls e =
      let x = line_read (suc (suc k)) left (accuracies_due (suc k) (left - 17)) t t' ls (one-of-more k left) e in
      let y = accuracies-read k (left - 17) (counted rules t x.line) t' x.others x.goes in
      record {
        used = x.line ∷ y.used;
        more = y.more;
        split = x.split ∙ ap (λ (r : List (List ℕ)). x.line ∷ r) y.split;
        many = ap suc y.many;
        are = and_both (is_record rules kind.Accuracies (more_of true left (padded x.line)).fault x.line) _ x.is y.are;
        over = y.over;
        goes = y.goes;
      }
