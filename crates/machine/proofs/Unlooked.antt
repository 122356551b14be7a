-- A `+ ` line that names none of the known identifiers again does the same where none is known: so they need not be looked at one by one.
-- Assumes nothing.
use Rattle.std.proofs.Common.{◌≡◌, ℕ, ◌+◌, Bool, true, false, ◌||◌, List, [], ◌∷◌, ◌++◌, length, sym, refl, ap, ◌∙◌, ap₂}
use mathlib.Core.Bool.{false≢true}
use lib.Seq.{take-nil}
use Rattle.layout.specs.Kind.{is_one_of}
use Rattle.layout.specs.Line.{padded}
use Rattle.marks.proofs.Comparing.{among-append}
use Rattle.record.specs.Agrees.{repeats}
use Rattle.record.specs.LineKinds.{kind_of, satellites_kind, no_kind}
use Rattle.header.specs.declared.types.Rules.{Rules}
use Rattle.record.specs.declared.types.LineKind.{LineKind}
use Rattle.record.specs.declared.types.LineKind.TheVariants as kind
use Rattle.machine.specs.State.{seen, known_identifiers, identifiers_in}
use Rattle.machine.specs.Faults.{satellites_fault, standing_fault}
use Rattle.machine.specs.Step.{judged_line, printed_line, step_of, read_first, read_as}
use Rattle.machine.specs.declared.types.State.{State}
use Rattle.machine.specs.declared.types.Verdict.{Verdict}

-- what repeats none of some numbers repeats none of fewer
fewer : (new more less : List ℕ) → ((n : ℕ) → is_one_of n less ≡ true → is_one_of n more ≡ true) → repeats more new ≡ false → repeats less new ≡ false
unfolding repeats
fewer [] more less within e = refl
fewer (a ∷ new) more less within e =
    let parts = neither (is_one_of a more) (repeats (more ++ (a ∷ [])) new) e in
    ap₂ (λ (x y : Bool). x || y) (absent (is_one_of a less) refl parts.0) (fewer new (more ++ (a ∷ [])) (less ++ (a ∷ [])) grown parts.1)
  where
    neither : (x y : Bool) → (x || y) ≡ false → (x ≡ false) × (y ≡ false)
    neither true y f = absurd (false≢true (sym f))
    neither false y f = (refl, f)

    absent : (t : Bool) → is_one_of a less ≡ t → is_one_of a more ≡ false → t ≡ false
    absent true p q = absurd (false≢true (sym q ∙ within a p))
    absent false p q = refl

    either : (x y z : Bool) → (x ≡ true → y ≡ true) → (x || z) ≡ true → (y || z) ≡ true
    either true y z f g = ap (λ (b : Bool). b || z) (f refl)
    either false true z f g = refl
    either false false z f g = g

    grown : (n : ℕ) → is_one_of n (less ++ (a ∷ [])) ≡ true → is_one_of n (more ++ (a ∷ [])) ≡ true
    grown n g =
        among-append n more (a ∷ [])
        ∙ either (is_one_of n less) (is_one_of n more) (is_one_of n (a ∷ [])) (within n) (sym (among-append n less (a ∷ [])) ∙ g)

module _ (rules : Rules) (s : State) (identifiers : List ℕ) (due : s.due ≡ satellites_kind) (alone : s.also ≡ no_kind) where
  module _ (p : List ℕ) (new : repeats (known_identifiers s identifiers) (identifiers_in rules s p) ≡ false) where
    none : repeats (known_identifiers s []) (identifiers_in rules s p) ≡ false
    none = fewer (identifiers_in rules s p) (known_identifiers s identifiers) (known_identifiers s []) (λ n e. absurd (false≢true (ap (is_one_of n) (sym (take-nil (seen s))) ∙ e))) new

    standing : (k : LineKind) → standing_fault k rules s [] p ≡ standing_fault k rules s identifiers p
    unfolding standing_fault satellites_fault
    standing kind.Satellites = rw (none, new)
    standing kind.Characters = rw (due, alone)
    standing kind.Position = rw (due, alone)
    standing kind.Velocity = rw (due, alone)
    standing kind.Other = refl
    standing kind.First = refl
    standing kind.Second = refl
    standing kind.Accuracies = refl
    standing kind.Floats = refl
    standing kind.Integers = refl
    standing kind.Comment = refl
    standing kind.Epoch = refl
    standing kind.PositionCorrelation = refl
    standing kind.VelocityCorrelation = refl
    standing kind.EndOfFile = refl

  -- THE LINE DOES THE SAME where none is known.
  pub does-same : (l : List ℕ) → repeats (known_identifiers s identifiers) (identifiers_in rules s (padded l)) ≡ false → step_of rules s [] l ≡ step_of rules s identifiers l
  unfolding step_of printed_line judged_line
  does-same l new = rw (standing (padded l) new (kind_of rules (padded l)))

  -- and so does the line at a byte of some bytes
  pub reads_same : (at : ℕ) (l : List ℕ) (ls more : List (List ℕ)) → ls ≡ l ∷ more → repeats (known_identifiers s identifiers) (identifiers_in rules s (padded l)) ≡ false
      → read_first (step_of rules s []) at ls ≡ read_first (step_of rules s identifiers) at ls
  unfolding read_first
  reads_same at l ls more e new = rw e (ap (λ (v : Verdict). read_as v (at + length l + 1)) (does-same l new))
