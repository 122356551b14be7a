-- The judge's list of identifiers is never short: at each line that a run from the first reaches, the line reader with that list does what the machine
-- says. Assumes nothing.
use mathlib.Core.Path.{◌≡◌, refl, sym, ap, ◌∙◌, subst}
use mathlib.Core.Bool.{Bool, true, false, not, cond, false≢true}
use mathlib.Core.List.{List}
use mathlib.Core.Logic.{◌⊎◌, inl, inr}
use Prim.Native.Nat.{ℕ, ◌+◌, ◌-◌, ◌≤◌, zero-le}
use native.Mathlib.Omega.{arith}
use lib.Dec.{eqb}
use lib.ListN.{length}
use borrow.Author.Tests.{eqb-true, eq-eqb, le-leb}
use Rattle.layout.specs.Kind.{unless}
use Rattle.layout.specs.Line.{padded}
use Rattle.layout.proofs.Again.{lower-clean}
use Rattle.record.specs.SlotLines.{satellites_of, more_of}
use Rattle.header.specs.Rules.{max_satellites}
use Rattle.record.specs.LineKinds.{satellites_kind, floats_kind, integers_kind, position_correlation_kind, velocity_correlation_kind}
use Rattle.header.specs.declared.types.Rules.{Rules}
use Rattle.record.specs.declared.types.LineKind.{LineKind}
use Rattle.record.specs.declared.types.LineKind.TheVariants as kind
use Rattle.record.specs.Agrees.{repeats}
use Rattle.machine.specs.State.{seen, known_identifiers, is_first, identifiers_in, has_room}
use Rattle.machine.specs.Faults.{record_fault, satellites_fault}
use Rattle.machine.specs.Next.{line_less, after_first, after_second, after_count, after_identifiers, after_satellites, after_accuracies, comments_due, after_integers, after_epoch, satellite_done, after_position, next_of}
use Rattle.machine.specs.Step.{step_of, if_room, finds_room, step_within}
use Rattle.machine.proofs.Stepping.{brought-length}
use Rattle.machine.specs.declared.types.State.{State}
use Rattle.machine.specs.declared.types.Verdict.{Verdict}
use Rattle.machine.specs.declared.types.Verdict.TheVariants as verdict
use Rattle.file.specs.Plain.{Sound}
use Rattle.scan.specs.Run.{Going, nothing_seen, on_verdict, stepped, at_first}
use Rattle.scan.specs.Front as front
use Rattle.scan_laws.proofs.Bounds.{some-satellites}
use Rattle.scan_laws.proofs.Passing.{kind_here, is-line, good, step-of}
use Rattle.scan_laws.proofs.Slots.{fresh_in, first-fresh, more-fresh, fresh-length}

module _ (rules : Rules) where
  -- no more satellites than the version has; and, once their number is known, no more of them to come than there are
  record Bounded (s : State) : Type 0 where
    most : s.satellites ≤ rules.most_satellites
    left : (s.satellites ≡ 0) ⊎ (s.left ≤ s.satellites)

  -- the number of satellites stays, and no more of them are to come than before, or than there are
  fewer : (s s' : State) → Bounded s → s'.satellites ≡ s.satellites → (s'.left ≤ s.left) ⊎ (s'.left ≤ s.satellites) → Bounded s'
  fewer s s' b same less = record { most = omega (arith, b.most); left = go b.left less }
    where
      go : (s.satellites ≡ 0) ⊎ (s.left ≤ s.satellites) → (s'.left ≤ s.left) ⊎ (s'.left ≤ s.satellites) → (s'.satellites ≡ 0) ⊎ (s'.left ≤ s'.satellites)
      go (inl none) l = inl (same ∙ none)
      go (inr h) (inl l) = inr (omega arith)
      go (inr h) (inr l) = inr (omega arith)

  either : (b : Bool) (s t : State) → Bounded s → Bounded t → Bounded (cond b s t)
  either true s t p q = p
  either false s t p q = q

  module _ (s : State) (b : Bounded s) where
    same : (s' : State) → s'.satellites ≡ s.satellites → s'.left ≡ s.left → Bounded s'
    same s' e f = fewer s s' b e (inl (omega arith))

    less-lines : (next many : ℕ) → Bounded (line_less next many s)
    less-lines next many = either (eqb (s.lines - 1) 0) _ _ (same _ refl refl) (same _ refl refl)

    after-identifiers : Bounded (after_identifiers s)
    unfolding after_identifiers
    after-identifiers = either (eqb (s.lines - 1) 0) _ _ (fewer s _ b refl (inr (omega arith))) (fewer s _ b refl (inl (omega arith)))

    after-count : (n : ℕ) → n ≤ rules.most_satellites → Bounded (after_count n s)
    unfolding after_count
    after-count n h = record { most = h; left = inr (omega arith) }

    after-satellites : (identifiers p : List ℕ) → satellites_fault rules s identifiers p ≡ 0 → Bounded (after_satellites rules s p)
    unfolding after_satellites satellites_fault
    after-satellites identifiers p clean = go (is_first s) refl
      where
        go : (first : Bool) → is_first s ≡ first → Bounded (cond first (after_count (satellites_of rules p).count s) (after_identifiers s))
        go true e =
            let first : cond true (satellites_of rules p).fault (more_of false s.left p).fault ≡ 0 = rw e at (lower-clean (cond (is_first s) (satellites_of rules p).fault (more_of false s.left p).fault)
            (unless (not (repeats (known_identifiers s identifiers) (identifiers_in rules s p))) 8 0) clean).0 in
            after-count (satellites_of rules p).count (some-satellites rules p first).1
        go false e = after-identifiers

    after-accuracies : Bounded (after_accuracies s)
    unfolding after_accuracies
    after-accuracies = go (eqb (s.lines - 1) 0) refl
      where
        go : (b : Bool) → eqb (s.lines - 1) 0 ≡ b → Bounded (after_accuracies s)
        go true e = rw e (fewer s _ b refl (inl (omega arith)))
        go false e = rw e (fewer s _ b refl (inl (omega arith)))

    after-integers : Bounded (after_integers rules s)
    unfolding after_integers comments_due
    after-integers = either (eqb (s.lines - 1) 0) _ _ (same _ refl refl) (same _ refl refl)

    satellite-done : (also : ℕ) → Bounded (satellite_done also s)
    unfolding satellite_done
    satellite-done also = fewer s _ b refl (inl (omega arith))

    after-position : Bounded (after_position s)
    unfolding after_position
    after-position = either s.velocity _ _ (same _ refl refl) (satellite-done position_correlation_kind)

    on : (t s' : State) → Bounded t → verdict.Next t ≡ verdict.Next s' → Bounded s'
    on t s' bounded e = let same-state : t ≡ s' = cc in subst (λ (x : State). Bounded x) same-state bounded

    -- a line without fault keeps the bounds
    bounded-next : (k : LineKind) (identifiers p : List ℕ) (s' : State) → record_fault k rules s identifiers p ≡ 0 → next_of k rules s p ≡ verdict.Next s' → Bounded s'
    unfolding after_first after_second comments_due after_epoch
    bounded-next kind.Other identifiers p s' clean e = on s s' b e
    bounded-next kind.First identifiers p s' clean e = on _ s' (record { most = zero-le; left = inl refl }) e
    bounded-next kind.Second identifiers p s' clean e = on _ s' (same _ refl refl) e
    bounded-next kind.Satellites identifiers p s' clean e = on _ s' (after-satellites identifiers p clean) e
    bounded-next kind.Accuracies identifiers p s' clean e = on _ s' after-accuracies e
    bounded-next kind.Characters identifiers p s' clean e = on _ s' (less-lines floats_kind 2) e
    bounded-next kind.Floats identifiers p s' clean e = on _ s' (less-lines integers_kind 2) e
    bounded-next kind.Integers identifiers p s' clean e = on _ s' after-integers e
    bounded-next kind.Comment identifiers p s' clean e = on _ s' (same _ refl refl) e
    bounded-next kind.Epoch identifiers p s' clean e = on _ s' (fewer s _ b refl (inr (omega arith))) e
    bounded-next kind.Position identifiers p s' clean e = on _ s' after-position e
    bounded-next kind.Velocity identifiers p s' clean e = on _ s' (satellite-done velocity_correlation_kind) e
    bounded-next kind.PositionCorrelation identifiers p s' clean e = on _ s' (same _ refl refl) e
    bounded-next kind.VelocityCorrelation identifiers p s' clean e = on _ s' (same _ refl refl) e
    bounded-next kind.EndOfFile identifiers p s' clean e = let z : ◌≡◌ {A = ℕ} 0 1 = cc in absurd (omega arith)

  -- so does a line that goes on
  next-clean : (s s' : State) (identifiers l : List ℕ) → step_of rules s identifiers l ≡ verdict.Next s'
      → (record_fault (kind_here rules l) rules s identifiers (padded l) ≡ 0) × (next_of (kind_here rules l) rules s (padded l) ≡ verdict.Next s')
  next-clean s s' identifiers l e =
      let g = good rules s identifiers l nothing_seen nothing_seen (λ _. front.File nothing_seen) (ap (λ (v : Verdict). on_verdict v nothing_seen (λ _. front.File nothing_seen)) e) in
      let is = is-line rules (kind_here rules l) l g.printed g.short refl in
      (g.clean, sym (step-of rules (kind_here rules l) s identifiers l is g.here g.clean) ∙ e)

  -- what the judge has between two lines: a state within bounds, and places for as many identifiers as there can be
  pub record Ready (g : Going) : Type 0 where
    bounded : Bounded g.state
    places : length g.identifiers ≡ max_satellites

  pub ready-first : Ready at_first
  ready-first = record { bounded = record { most = zero-le; left = inl refl }; places = refl }

  pub ready-next : (g : Going) (l : List ℕ) (s : State) → Ready g → step_of rules g.state g.identifiers l ≡ verdict.Next s → Ready (stepped rules g l)
  unfolding stepped
  ready-next g l s ready e =
      let clean = next-clean g.state s g.identifiers l e in
      rw e (record {
        bounded = bounded-next g.state ready.bounded (kind_here rules l) g.identifiers (padded l) s clean.0 clean.1;
        places = brought-length rules g.state g.identifiers l ∙ ready.places;
      })

  -- there is room for what any line brings
  module _ (sound : Sound rules) (g : Going) (ready : Ready g) (l : List ℕ) where
    has-room : has_room rules g.state g.identifiers (padded l) ≡ true
    unfolding has_room identifiers_in
    has-room = go (is_first g.state) refl ready.bounded.left
      where
        go : (first : Bool) → is_first g.state ≡ first → (g.state.satellites ≡ 0) ⊎ (g.state.left ≤ g.state.satellites) → has_room rules g.state g.identifiers (padded l) ≡ true
        go true e left =
            let n = (satellites_of rules (padded l)).count in
            rw (e, first-fresh rules l)
            (le-leb (seen g.state + length (fresh_in n l)) (length g.identifiers) (omega (arith, eqb-true g.state.satellites 0 e, fresh-length n l, ready.places)))
        go false e (inl none) = absurd (false≢true (sym e ∙ eq-eqb g.state.satellites 0 none))
        go false e (inr h) =
            rw (e, more-fresh g.state.left l)
            (le-leb (seen g.state + length (fresh_in g.state.left l)) (length g.identifiers)
            (omega (arith, h, fresh-length g.state.left l, ready.places, ready.bounded.most, sound.identifiers-fit)))

    finds-room : finds_room rules g.state g.identifiers l ≡ true
    finds-room = rw has-room (either_true (eqb g.state.due satellites_kind))
      where
        either_true : (b : Bool) → cond b true true ≡ true
        either_true true = refl
        either_true false = refl

    -- so the line reader does what the machine says
    pub never-short : step_within rules g.state g.identifiers l ≡ step_of rules g.state g.identifiers l
    unfolding step_within
    never-short = rw finds-room (same-verdict (step_of rules g.state g.identifiers l))
      where
        same-verdict : (v : Verdict) → if_room true v ≡ v
        same-verdict (verdict.Fault number column) = refl
        same-verdict (verdict.Next s) = refl
        same-verdict verdict.Finished = refl
