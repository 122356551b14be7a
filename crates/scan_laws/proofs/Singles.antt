-- A line that stands alone at its place: one of the kind due and without fault takes the machine on, and a run to a file has read one.
-- Assumes nothing.
use mathlib.Core.Path.{◌≡◌, refl, sym, ap, ◌∙◌}
use mathlib.Core.Bool.{Bool, true, false, ◌&&◌}
use mathlib.Core.List.{List, [], ◌∷◌}
use Prim.Native.Nat.{ℕ, min}
use native.Mathlib.Omega.{arith}
use lib.Dec.{eqb}
use borrow.Author.Tests.{eqb-true, eqb-false, ne_eqb}
use Rattle.laws.proofs.Bools.{and_left, and_right, and-true, and-false}
use Rattle.layout.specs.Fault.{lower, lower_of}
use Rattle.layout.specs.Kind.{unless}
use Rattle.layout.specs.Line.{padded}
use Rattle.record.specs.LineKinds.{no_kind, satellites_kind, told_kind}
use Rattle.header.specs.declared.types.Rules.{Rules}
use Rattle.record.specs.declared.types.LineKind.{LineKind}
use Rattle.machine.specs.Faults.{record_fault}
use Rattle.machine.specs.Next.{next_of}
use Rattle.machine.specs.declared.types.State.{State}
use Rattle.machine.specs.declared.types.Verdict.TheVariants as verdict
use Rattle.file.specs.Plain.{is_line, is_record}
use Rattle.scan.specs.Run.{run, counted}
use Rattle.scan.specs.declared.Tally.{Tally}
use Rattle.scan.specs.Front as front
use Rattle.scan_laws.proofs.Reaching.{Reach, reach-append, reach-one, identifiers-kept, due-line}

-- no fault and a test passed, as one: the fault of both is none
both-judged : (fault : ℕ) (ok : Bool) → eqb (lower fault (unless ok 8 0)) 0 ≡ (eqb fault 0 && ok)
unfolding lower_of
both-judged fault true = sym (and-true (eqb fault 0))
both-judged fault false = go (eqb fault 0) refl ∙ sym (and-false (eqb fault 0))
  where
    go : (b : Bool) → eqb fault 0 ≡ b → eqb (lower_of fault 1024) 0 ≡ false
    go true e = rw e
    go false e = rw e (ne_eqb (min fault 1024) 0 (λ z. omega (arith, eqb-false fault 0 e)))

and_assoc : (t u v : Bool) → (t && (u && v)) ≡ ((t && u) && v)
and_assoc true u v = refl
and_assoc false u v = refl

module _ (rules : Rules) where
  -- a record that agrees with others, as one without fault
  pub agreeing : (k : LineKind) (fault : ℕ) (ok : Bool) (l : List ℕ) → is_record rules k (lower fault (unless ok 8 0)) l ≡ (is_record rules k fault l && ok)
  agreeing k fault ok l = ap (λ (b : Bool). is_line rules k l && b) (both-judged fault ok) ∙ and_assoc (is_line rules k l) (eqb fault 0) ok

  pub reach-cons : (s s' s'' : State) (identifiers identifiers' identifiers'' : List ℕ) (l : List ℕ) (ls : List (List ℕ)) → Reach rules s identifiers (l ∷ []) s' identifiers'
      → Reach rules s' identifiers' ls s'' identifiers'' → Reach rules s identifiers (l ∷ ls) s'' identifiers''
  reach-cons s s' s'' identifiers identifiers' identifiers'' l ls p q = reach-append rules s s' s'' identifiers identifiers' identifiers'' (l ∷ []) ls p q

  module _ (k : LineKind) (s : State) (identifiers : List ℕ) (fault : List ℕ → ℕ) (next : List ℕ → State) (due : s.due ≡ told_kind k)
      (other : eqb (told_kind k) satellites_kind ≡ false) (faults : (l : List ℕ) → record_fault k rules s identifiers (padded l) ≡ fault l)
      (nexts : (l : List ℕ) → next_of k rules s (padded l) ≡ verdict.Next (next l)) where
    pub single-reach : (l : List ℕ) → is_record rules k (fault l) l ≡ true → Reach rules s identifiers (l ∷ []) (next l) identifiers
    single-reach l is =
        reach-one rules k s (next l) identifiers identifiers l due (and_left (is_line rules k l) _ is)
        (faults l ∙ eqb-true (fault l) 0 (and_right (is_line rules k l) _ is)) (nexts l)
        (identifiers-kept rules s identifiers l (ap (λ (d : ℕ). eqb d satellites_kind) due ∙ other))

    pub record Single (t t' : Tally) (ls : List (List ℕ)) : Type 0 where
      pub line : List ℕ
      pub others : List (List ℕ)
      pub split : ls ≡ line ∷ others
      pub is : is_record rules k (fault line) line ≡ true
      pub goes : run rules (next line) identifiers (counted rules t line) others ≡ front.File t'

    pub single-read : (t t' : Tally) (ls : List (List ℕ)) → s.also ≡ no_kind → run rules s identifiers t ls ≡ front.File t' → Single t t' ls
    single-read t t' ls also e =
        let x = due-line rules k s identifiers t t' ls due also e in
        let kept = identifiers-kept rules s identifiers x.line (ap (λ (d : ℕ). eqb d satellites_kind) due ∙ other) in
        let clean : fault x.line ≡ 0 = sym (faults x.line) ∙ x.clean in
        record {
          line = x.line;
          others = x.others;
          split = x.split;
          is = rw (x.is-kind, clean);
          goes = rw (nexts x.line, kept) at x.goes;
        }
