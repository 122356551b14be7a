-- Lines that take the machine from one state to another, whatever follows them; and the front of some lines that a run to a file has read.
-- Assumes nothing.
use mathlib.Core.Path.{◌≡◌, refl, sym, ap, ◌∙◌}
use mathlib.Core.Bool.{true, false}
use mathlib.Core.List.{List, [], ◌∷◌, ◌++◌, append_assoc}
use Prim.Native.Nat.{ℕ}
use lib.Dec.{eqb}
use Rattle.layout.specs.Line.{padded}
use Rattle.record.specs.LineKinds.{no_kind, satellites_kind, told_kind}
use Rattle.header.specs.declared.types.Rules.{Rules}
use Rattle.record.specs.declared.types.LineKind.{LineKind}
use Rattle.machine.specs.Faults.{record_fault}
use Rattle.machine.specs.Next.{next_of}
use Rattle.machine.specs.Step.{identifiers_brought}
use Rattle.machine.specs.declared.types.State.{State}
use Rattle.machine.specs.declared.types.Verdict.TheVariants as verdict
use Rattle.file.specs.Plain.{is_line}
use Rattle.scan.specs.Run.{run, counted}
use Rattle.scan.specs.declared.Tally.{Tally}
use Rattle.scan.specs.Front as front
use Rattle.scan_laws.proofs.Passing.{after, pass, pass-also, taken, is-due, some-line}

module _ (rules : Rules) where
  -- what has been read after some more lines
  unfoldable pub counted_over : Tally → List (List ℕ) → Tally
  counted_over t [] = t
  counted_over t (l ∷ ls) = counted_over (counted rules t l) ls

  pub counted-append : (t : Tally) (a b : List (List ℕ)) → counted_over t (a ++ b) ≡ counted_over (counted_over t a) b
  unfolding counted_over
  counted-append t [] b = refl
  counted-append t (l ∷ a) b = counted-append (counted rules t l) a b

  -- the lines take the machine from one state to another
  pub record Reach (s : State) (identifiers : List ℕ) (ls : List (List ℕ)) (s' : State) (identifiers' : List ℕ) : Type 0 where
    pub runs : (t : Tally) (more : List (List ℕ)) → run rules s identifiers t (ls ++ more) ≡ run rules s' identifiers' (counted_over t ls) more

  pub reach-none : (s : State) (identifiers : List ℕ) → Reach s identifiers [] s identifiers
  unfolding counted_over
  reach-none s identifiers = record { runs = λ t more. refl }

  pub reach-append : (s s' s'' : State) (identifiers identifiers' identifiers'' : List ℕ) (a b : List (List ℕ)) → Reach s identifiers a s' identifiers' → Reach s' identifiers' b s'' identifiers''
      → Reach s identifiers (a ++ b) s'' identifiers''
  reach-append s s' s'' identifiers identifiers' identifiers'' a b p q = record {
    runs = λ t more.
        ap (run rules s identifiers t) (append_assoc a b more)
        ∙ p.runs t (b ++ more)
        ∙ q.runs (counted_over t a) more
        ∙ ap (λ (x : Tally). run rules s'' identifiers'' x more) (sym (counted-append t a b));
  }

  -- one line of the kind due, or of the kind that may stand here too
  went : (k : LineKind) (s s' : State) (identifiers identifiers' : List ℕ) (t : Tally) (l : List ℕ) (ls : List (List ℕ)) → next_of k rules s (padded l) ≡ verdict.Next s'
      → identifiers_brought rules s identifiers l ≡ identifiers' → after rules k s identifiers t l ls ≡ run rules s' identifiers' (counted rules t l) ls
  went k s s' identifiers identifiers' t l ls next kept = rw (next, kept)

  pub reach-one : (k : LineKind) (s s' : State) (identifiers identifiers' : List ℕ) (l : List ℕ) → s.due ≡ told_kind k → is_line rules k l ≡ true
      → record_fault k rules s identifiers (padded l) ≡ 0 → next_of k rules s (padded l) ≡ verdict.Next s' → identifiers_brought rules s identifiers l ≡ identifiers'
      → Reach s identifiers (l ∷ []) s' identifiers'
  unfolding counted_over
  reach-one k s s' identifiers identifiers' l due is clean next kept =
      record { runs = λ t more. pass rules k s identifiers t l more due is clean ∙ went k s s' identifiers identifiers' t l more next kept }

  pub reach-also : (k : LineKind) (s s' : State) (identifiers identifiers' : List ℕ) (l : List ℕ) → s.also ≡ told_kind k → is_line rules k l ≡ true
      → record_fault k rules s identifiers (padded l) ≡ 0 → next_of k rules s (padded l) ≡ verdict.Next s' → identifiers_brought rules s identifiers l ≡ identifiers'
      → Reach s identifiers (l ∷ []) s' identifiers'
  unfolding counted_over
  reach-also k s s' identifiers identifiers' l also is clean next kept =
      record { runs = λ t more. pass-also rules k s identifiers t l more also is clean ∙ went k s s' identifiers identifiers' t l more next kept }

  -- only a line of kind 3 brings identifiers
  pub identifiers-kept : (s : State) (identifiers l : List ℕ) → eqb s.due satellites_kind ≡ false → identifiers_brought rules s identifiers l ≡ identifiers
  unfolding identifiers_brought
  identifiers-kept s identifiers l e = rw e

  -- the first line of a run to a file, where nothing but the kind due may stand
  pub record Due (k : LineKind) (s : State) (identifiers : List ℕ) (t t' : Tally) (ls : List (List ℕ)) : Type 0 where
    pub line : List ℕ
    pub others : List (List ℕ)
    pub split : ls ≡ line ∷ others
    pub is-kind : is_line rules k line ≡ true
    pub clean : record_fault k rules s identifiers (padded line) ≡ 0
    pub goes : after rules k s identifiers t line others ≡ front.File t'

  pub due-line : (k : LineKind) (s : State) (identifiers : List ℕ) (t t' : Tally) (ls : List (List ℕ)) → s.due ≡ told_kind k → s.also ≡ no_kind
      → run rules s identifiers t ls ≡ front.File t' → Due k s identifiers t t' ls
  due-line k s identifiers t t' [] due also e = absurd (some-line rules s identifiers t t' e)
  due-line k s identifiers t t' (l ∷ ls) due also e =
      let is = is-due rules k s identifiers t t' l ls due also e in
      let x = taken rules k s identifiers t t' l ls is e in
      record { line = l; others = ls; split = refl; is-kind = x.is-kind; clean = x.clean; goes = x.goes }

  -- a front of the lines was read, of which something holds; the rest is still to be read
  pub record Read (Holds : List (List ℕ) → Type 0) (s : State) (identifiers : List ℕ) (t t' : Tally) (ls : List (List ℕ)) : Type 0 where
    pub used : List (List ℕ)
    pub more : List (List ℕ)
    pub split : ls ≡ used ++ more
    pub holds : Holds used
    pub goes : run rules s identifiers (counted_over t used) more ≡ front.File t'

  -- two fronts one after the other
  pub split-on : (ls a b more rest : List (List ℕ)) → ls ≡ a ++ more → more ≡ b ++ rest → ls ≡ (a ++ b) ++ rest
  split-on ls a b more rest p q = p ∙ ap (λ (x : List (List ℕ)). a ++ x) q ∙ sym (append_assoc a b rest)

  pub goes_on : (s : State) (identifiers : List ℕ) (t t' : Tally) (a b rest : List (List ℕ)) → run rules s identifiers (counted_over (counted_over t a) b) rest ≡ front.File t'
      → run rules s identifiers (counted_over t (a ++ b)) rest ≡ front.File t'
  goes_on s identifiers t t' a b rest e = ap (λ (x : Tally). run rules s identifiers x rest) (counted-append t a b) ∙ e

  -- the lines end a file, whatever follows them
  pub record Ends (s : State) (identifiers : List ℕ) (ls : List (List ℕ)) : Type 0 where
    pub runs : (t : Tally) (more : List (List ℕ)) → run rules s identifiers t (ls ++ more) ≡ front.File (counted_over t ls)

  pub reach-end : (s s' : State) (identifiers identifiers' : List ℕ) (a b : List (List ℕ)) → Reach s identifiers a s' identifiers' → Ends s' identifiers' b → Ends s identifiers (a ++ b)
  reach-end s s' identifiers identifiers' a b p q = record {
    runs = λ t more.
        ap (run rules s identifiers t) (append_assoc a b more)
        ∙ p.runs t (b ++ more)
        ∙ q.runs (counted_over t a) more
        ∙ ap front.File (sym (counted-append t a b));
  }

  -- a file took up the lines `used`, which were tallied
  pub record Ending (t t' : Tally) (ls used more : List (List ℕ)) : Type 0 where
    pub split : ls ≡ used ++ more
    pub tally : t' ≡ counted_over t used

  pub ending-on : (t t' : Tally) (ls a others b more : List (List ℕ)) → ls ≡ a ++ others → Ending (counted_over t a) t' others b more → Ending t t' ls (a ++ b) more
  ending-on t t' ls a others b more split e =
      record { split = split-on ls a b others more split e.split; tally = e.tally ∙ sym (counted-append t a b) }
