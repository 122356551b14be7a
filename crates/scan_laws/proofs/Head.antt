-- The first two lines of a file, and what the machine knows after the `+ ` lines.
-- Assumes nothing.
use mathlib.Core.Path.{◌≡◌, refl, sym, ◌∙◌}
use mathlib.Core.Bool.{true}
use mathlib.Core.List.{List, [], ◌∷◌}
use Prim.Native.Nat.{ℕ, suc, ◌≤◌}
use native.Mathlib.Omega.{arith}
use lib.ListN.{length}
use borrow.Author.Tests.{eqb-true}
use Rattle.laws.proofs.Bools.{and_right}
use Rattle.layout.specs.Fault.{lower}
use Rattle.layout.specs.Kind.{unless}
use Rattle.layout.specs.Line.{padded}
use Rattle.record.specs.Opening.{first_of, second_of}
use Rattle.record.specs.SlotLines.{satellites_of}
use Rattle.header.specs.Rules.{slot_lines}
use Rattle.record.specs.LineKinds.{no_kind, second_kind, satellites_kind}
use Rattle.header.proofs.Theorems.{slots-enough}
use Rattle.header.specs.declared.types.Rules.{Rules}
use Rattle.record.specs.declared.types.First.{First}
use Rattle.record.specs.declared.types.LineKind.TheVariants as kind
use Rattle.record.specs.Agrees.{instant_in, second_agrees}
use Rattle.machine.specs.State.{start_state}
use Rattle.machine.specs.Faults.{record_fault, second_fault}
use Rattle.machine.specs.Next.{after_first, after_second, after_count}
use Rattle.machine.specs.declared.types.State.{State}
use Rattle.file.specs.Plain.{is_line, is_first_line, is_second_line, is_count_line, slot_identifiers}
use Rattle.scan.specs.Run.{run, counted}
use Rattle.scan.specs.declared.Tally.{Tally}
use Rattle.scan.specs.Front as front
use Rattle.scan_laws.proofs.Reaching.{Reach}
use Rattle.scan_laws.proofs.Singles.{agreeing, single-reach, Single, single-read}
use Rattle.scan_laws.proofs.Slots.{identifiers-length}
use Rattle.scan_laws.proofs.Bounds.{some-epoch, some-satellites}

module _ (rules : Rules) where
  -- after line 1
  abbrev pub opened : List ℕ → State
  opened first = after_first (first_of rules (padded first)) start_state

  -- after line 2
  abbrev pub dated : List ℕ → List ℕ → State
  dated first second = after_second (second_of (padded second)).interval8 (opened first)

  -- after the first `+ ` line
  abbrev pub counts : List ℕ → List ℕ → List ℕ → State
  counts first second count = after_count (satellites_of rules (padded count)).count (dated first second)

  module _ (identifiers : List ℕ) where
    pub first_reach : (l : List ℕ) → is_first_line rules l ≡ true → Reach rules start_state identifiers (l ∷ []) (opened l) identifiers
    first_reach l is = single-reach rules kind.First start_state identifiers (λ p. (first_of rules (padded p)).fault) opened refl refl (λ p. refl) (λ p. refl) l is

    pub first_read : (t t' : Tally) (ls : List (List ℕ)) → run rules start_state identifiers t ls ≡ front.File t'
        → Single rules kind.First start_state identifiers (λ p. (first_of rules (padded p)).fault) opened refl refl (λ p. refl) (λ p. refl) t t' ls
    first_read t t' ls e = single-read rules kind.First start_state identifiers (λ p. (first_of rules (padded p)).fault) opened refl refl (λ p. refl) (λ p. refl) t t' ls refl e

    module _ (first : List ℕ) where
      abbrev pub start8 : ℕ
      start8 = instant_in (first_of rules (padded first)).start

      abbrev pub fault_at_start : List ℕ → ℕ
      fault_at_start l = lower (second_of (padded l)).fault (unless (second_agrees start8 (second_of (padded l))) 8 0)

      pub second-due : (opened first).due ≡ second_kind
      unfolding after_first
      second-due = refl

      pub second-alone : (opened first).also ≡ no_kind
      unfolding after_first
      second-alone = refl

      pub second-faults : (l : List ℕ) → record_fault kind.Second rules (opened first) identifiers (padded l) ≡ fault_at_start l
      unfolding after_first second_fault
      second-faults l = refl

      pub second-reach : (l : List ℕ) → is_second_line rules start8 l ≡ true → Reach rules (opened first) identifiers (l ∷ []) (dated first l) identifiers
      second-reach l is =
          single-reach rules kind.Second (opened first) identifiers fault_at_start (dated first) second-due refl second-faults (λ p. refl) l
          (agreeing rules kind.Second (second_of (padded l)).fault (second_agrees start8 (second_of (padded l))) l ∙ is)

      pub record SecondRead (t t' : Tally) (ls : List (List ℕ)) : Type 0 where
        pub line : List ℕ
        pub others : List (List ℕ)
        pub split : ls ≡ line ∷ others
        pub is : is_second_line rules start8 line ≡ true
        pub goes : run rules (dated first line) identifiers (counted rules t line) others ≡ front.File t'

      pub second-read : (t t' : Tally) (ls : List (List ℕ)) → run rules (opened first) identifiers t ls ≡ front.File t' → SecondRead t t' ls
      second-read t t' ls e =
          let x = single-read rules kind.Second (opened first) identifiers fault_at_start (dated first) second-due refl second-faults (λ p. refl) t t' ls second-alone e in
          record {
            line = x.line;
            others = x.others;
            split = x.split;
            is = sym (agreeing rules kind.Second (second_of (padded x.line)).fault (second_agrees start8 (second_of (padded x.line))) x.line) ∙ x.is;
            goes = x.goes;
          }

  -- the `+ ` lines are due
  module _ (first second : List ℕ) where
    pub identifiers-due : (dated first second).due ≡ satellites_kind
    unfolding after_first after_second
    identifiers-due = refl

    pub identifiers-alone : (dated first second).also ≡ no_kind
    unfolding after_first after_second
    identifiers-alone = refl

    pub none_yet : (dated first second).satellites ≡ 0
    unfolding after_first after_second
    none_yet = refl

  -- what is known after the first three records
  module _ (first second count : List ℕ) where
    pub begins : is_first_line rules first ≡ true → 1 ≤ (counts first second count).epochs
    unfolding after_first after_second after_count
    begins is = some-epoch rules (padded first) (eqb-true (first_of rules (padded first)).fault 0 (and_right (is_line rules kind.First first) _ is))

    pub identifiers-all : (slots : List (List ℕ)) → suc (length slots) ≡ slot_lines (satellites_of rules (padded count)).count
        → length (slot_identifiers (satellites_of rules (padded count)).count (count ∷ slots)) ≡ (counts first second count).satellites
    unfolding after_count
    identifiers-all slots many =
        let n = (satellites_of rules (padded count)).count in
        identifiers-length n (count ∷ slots) (omega (arith, many, slots-enough n))

    pub some-identifier : (slots : List (List ℕ)) → is_count_line rules count ≡ true → suc (length slots) ≡ slot_lines (satellites_of rules (padded count)).count
        → 1 ≤ length (slot_identifiers (satellites_of rules (padded count)).count (count ∷ slots))
    unfolding after_count
    some-identifier slots is many =
        let n = (satellites_of rules (padded count)).count in
        omega (arith, identifiers-all slots many, (some-satellites rules (padded count) (eqb-true (satellites_of rules (padded count)).fault 0 (and_right (is_line rules kind.Satellites count) _ is))).0)
