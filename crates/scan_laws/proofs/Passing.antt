-- What a line holds where the machine goes on from it to a file, and that the machine goes on from every line that holds it.
-- Assumes nothing.
use mathlib.Core.Path.{◌≡◌, refl, sym, ap, ◌∙◌}
use mathlib.Core.Bool.{Bool, true, false, cond, ◌||◌}
use mathlib.Core.List.{List, [], ◌∷◌}
use Prim.Native.Nat.{ℕ, ◌+◌}
use native.Mathlib.Omega.{arith}
use lib.Dec.{eqb, leb}
use lib.ListN.{length}
use borrow.Author.Tests.{eqb-true, eq-eqb}
use Rattle.laws.specs.Texts.{every, is_printable}
use Rattle.laws.proofs.Bools.{and_left, and_right}
use Rattle.layout.specs.Fault.{keyed}
use Rattle.layout.specs.Line.{padded}
use Rattle.record.specs.LineKinds.{told_kind, kind_of, longest, no_kind}
use Rattle.record.proofs.Determined.{told_kind-one}
use Rattle.header.specs.declared.types.Rules.{Rules}
use Rattle.record.specs.declared.types.LineKind.{LineKind}
use Rattle.record.specs.declared.types.LineKind.TheVariants as kind
use Rattle.machine.specs.State.{stands}
use Rattle.machine.specs.Faults.{record_fault, standing_fault}
use Rattle.machine.specs.Next.{next_of}
use Rattle.machine.specs.Step.{on_key, judged_line, printed_line, step_of, identifiers_brought}
use Rattle.machine.specs.declared.types.State.{State}
use Rattle.machine.specs.declared.types.Verdict.{Verdict}
use Rattle.machine.specs.declared.types.Verdict.TheVariants as verdict
use Rattle.file.specs.Plain.{is_line}
use Rattle.scan.specs.Run.{on_verdict, run, counted}
use Rattle.scan.specs.declared.Tally.{Tally}
use Rattle.scan.specs.Front.{Front}
use Rattle.scan.specs.Front as front

-- a refusal is no file
pub not-refused : (number line column : ℕ) (t : Tally) → front.Refused number line column ≡ front.File t → ⊥
not-refused number line column t e = let z : ◌≡◌ {A = ℕ} 0 1 = cc in omega arith

-- a test before a fault was passed where a file came of it
passed_on : (ok : Bool) (v : Verdict) (n c : ℕ) (t t' : Tally) (more : State → Front) → on_verdict (cond ok v (verdict.Fault n c)) t more ≡ front.File t'
    → (ok ≡ true) × (on_verdict v t more ≡ front.File t')
passed_on true v n c t t' more e = (refl, e)
passed_on false v n c t t' more e = absurd (not-refused n t.lines c t' e)

-- a kind that may stand here, and its record without fault
pub placed : (here : Bool) (fault : ℕ) → cond here fault (keyed 4 0) ≡ 0 → (here ≡ true) × (fault ≡ 0)
placed true fault e = (refl, e)
placed false fault e = let z : keyed 4 0 ≡ 0 = e in absurd (omega arith)

or-true : (b : Bool) → (b || true) ≡ true
or-true true = refl
or-true false = refl

module _ (rules : Rules) where
  -- the kind of a line as it stands
  abbrev pub kind_here : List ℕ → LineKind
  kind_here l = kind_of rules (padded l)

  -- what a line holds where a file comes of it: its characters, its length, its place, no fault, and what follows from it
  pub record Good (s : State) (identifiers l : List ℕ) (t t' : Tally) (more : State → Front) : Type 0 where
    pub printed : every is_printable l ≡ true
    pub short : leb (length l) (longest rules (kind_here l)) ≡ true
    pub here : stands s (kind_here l) ≡ true
    pub clean : record_fault (kind_here l) rules s identifiers (padded l) ≡ 0
    pub goes : on_verdict (next_of (kind_here l) rules s (padded l)) t more ≡ front.File t'

  pub good : (s : State) (identifiers l : List ℕ) (t t' : Tally) (more : State → Front) → on_verdict (step_of rules s identifiers l) t more ≡ front.File t'
      → Good s identifiers l t t' more
  unfolding step_of printed_line judged_line on_key standing_fault
  good s identifiers l t t' more e =
      let printed = passed_on (every is_printable l) _ _ _ t t' more e in
      let short = passed_on (leb (length l) (longest rules (kind_here l))) _ _ _ t t' more printed.1 in
      let free = passed_on (eqb (standing_fault (kind_here l) rules s identifiers (padded l)) 0) _ _ _ t t' more short.1 in
      let place = placed (stands s (kind_here l)) _ (eqb-true (standing_fault (kind_here l) rules s identifiers (padded l)) 0 free.0) in
      record { printed = printed.0; short = short.0; here = place.0; clean = place.1; goes = free.1 }

  -- a line of a kind, by its characters, its length and its symbol
  pub is-line : (k : LineKind) (l : List ℕ) → every is_printable l ≡ true → leb (length l) (longest rules k) ≡ true → kind_here l ≡ k → is_line rules k l ≡ true
  is-line k l printed short is = rw (printed, short, eq-eqb (told_kind (kind_here l)) (told_kind k) (ap told_kind is))

  pub line-printed : (k : LineKind) (l : List ℕ) → is_line rules k l ≡ true → every is_printable l ≡ true
  line-printed k l is = and_left (every is_printable l) _ is

  pub line-short : (k : LineKind) (l : List ℕ) → is_line rules k l ≡ true → leb (length l) (longest rules k) ≡ true
  line-short k l is = and_left (leb (length l) (longest rules k)) _ (and_right (every is_printable l) _ is)

  pub line-kind : (k : LineKind) (l : List ℕ) → is_line rules k l ≡ true → kind_here l ≡ k
  line-kind k l is =
      told_kind-one (kind_here l) k
      (eqb-true (told_kind (kind_here l)) (told_kind k)
      (and_right (leb (length l) (longest rules k)) _ (and_right (every is_printable l) _ is)))

  -- the machine goes on from a line of a kind that may stand here and has no fault
  pub step-of : (k : LineKind) (s : State) (identifiers l : List ℕ) → is_line rules k l ≡ true → stands s k ≡ true → record_fault k rules s identifiers (padded l) ≡ 0
      → step_of rules s identifiers l ≡ next_of k rules s (padded l)
  unfolding step_of printed_line judged_line on_key standing_fault
  step-of k s identifiers l is here clean = rw (line-printed k l is, line-kind k l is, line-short k l is, here, clean)

  -- what a run does after a line of a kind
  abbrev pub after : LineKind → State → List ℕ → Tally → List ℕ → List (List ℕ) → Front
  after k s identifiers t l ls =
      on_verdict (next_of k rules s (padded l)) (counted rules t l) (λ s'. run rules s' (identifiers_brought rules s identifiers l) (counted rules t l) ls)

  -- the run goes on from a line of the kind due that has no fault
  pub pass : (k : LineKind) (s : State) (identifiers : List ℕ) (t : Tally) (l : List ℕ) (ls : List (List ℕ)) → s.due ≡ told_kind k → is_line rules k l ≡ true
      → record_fault k rules s identifiers (padded l) ≡ 0 → run rules s identifiers t (l ∷ ls) ≡ after k s identifiers t l ls
  unfolding run
  pass k s identifiers t l ls due is clean =
      let here : stands s k ≡ true = rw (eq-eqb (told_kind k) s.due (sym due)) in
      rw (step-of k s identifiers l is here clean)

  -- and from one of the kind that may stand here too
  pub pass-also : (k : LineKind) (s : State) (identifiers : List ℕ) (t : Tally) (l : List ℕ) (ls : List (List ℕ)) → s.also ≡ told_kind k → is_line rules k l ≡ true
      → record_fault k rules s identifiers (padded l) ≡ 0 → run rules s identifiers t (l ∷ ls) ≡ after k s identifiers t l ls
  unfolding run
  pass-also k s identifiers t l ls also is clean =
      let here : stands s k ≡ true = rw (eq-eqb (told_kind k) s.also (sym also)) (or-true (eqb (told_kind k) s.due)) in
      rw (step-of k s identifiers l is here clean)

  -- the first line of a run to a file
  pub record Taken (k : LineKind) (s : State) (identifiers : List ℕ) (t t' : Tally) (l : List ℕ) (ls : List (List ℕ)) : Type 0 where
    pub is-kind : is_line rules k l ≡ true
    pub clean : record_fault k rules s identifiers (padded l) ≡ 0
    pub goes : after k s identifiers t l ls ≡ front.File t'

  -- the line is of the kind that may stand here
  pub taken : (k : LineKind) (s : State) (identifiers : List ℕ) (t t' : Tally) (l : List ℕ) (ls : List (List ℕ)) → kind_here l ≡ k
      → run rules s identifiers t (l ∷ ls) ≡ front.File t' → Taken k s identifiers t t' l ls
  unfolding run
  taken k s identifiers t t' l ls is e =
      let g = good s identifiers l (counted rules t l) t' _ e in
      record {
        is-kind = is-line k l g.printed (rw is at g.short) is;
        clean = rw is at g.clean;
        goes = rw is at g.goes;
      }

  -- where nothing else may stand it is of the kind due
  pub is-due : (k : LineKind) (s : State) (identifiers : List ℕ) (t t' : Tally) (l : List ℕ) (ls : List (List ℕ)) → s.due ≡ told_kind k → s.also ≡ no_kind
      → run rules s identifiers t (l ∷ ls) ≡ front.File t' → kind_here l ≡ k
  unfolding run
  is-due k s identifiers t t' l ls due also e =
      let g = good s identifiers l (counted rules t l) t' _ e in
      go (eqb (told_kind (kind_here l)) s.due) refl g.here g.clean
    where
      other : (a : LineKind) → told_kind a ≡ no_kind → record_fault a rules s identifiers (padded l) ≡ 0 → ⊥
      other a none clean =
          let is : a ≡ kind.Other = told_kind-one a kind.Other none in
          let z : keyed 4 0 ≡ 0 = rw is at clean in
          omega arith

      go : (b : Bool) → eqb (told_kind (kind_here l)) s.due ≡ b → (b || eqb (told_kind (kind_here l)) s.also) ≡ true
          → record_fault (kind_here l) rules s identifiers (padded l) ≡ 0 → kind_here l ≡ k
      go true at here clean = told_kind-one (kind_here l) k (eqb-true (told_kind (kind_here l)) s.due at ∙ due)
      go false at here clean = absurd (other (kind_here l) (eqb-true (told_kind (kind_here l)) s.also here ∙ also) clean)

  -- a run over no line is no file
  pub some-line : (s : State) (identifiers : List ℕ) (t t' : Tally) → run rules s identifiers t [] ≡ front.File t' → ⊥
  unfolding run
  some-line s identifiers t t' e = not-refused 1 (t.lines + 1) 0 t' e
