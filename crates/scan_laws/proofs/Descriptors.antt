-- The six lines from the first `%c` to the second `%i`: they take the machine to the comments, and a run to a file has read them.
-- Assumes nothing.
use mathlib.Core.Path.{◌≡◌, refl, sym, ◌∙◌}
use mathlib.Core.Bool.{true}
use mathlib.Core.List.{List, [], ◌∷◌, ◌++◌}
use Prim.Native.Nat.{ℕ}
use lib.ListN.{length}
use lib.Seq.{take_at}
use Rattle.layout.specs.Fault.{lower}
use Rattle.layout.specs.Kind.{unless}
use Rattle.layout.specs.Layout.{fault_of}
use Rattle.layout.specs.Line.{padded}
use Rattle.record.specs.Descriptors.{descriptor_of, character_items, base_of, float_items, integer_items}
use Rattle.record.specs.LineKinds.{characters_kind, floats_kind, integers_kind}
use Rattle.header.specs.declared.types.Rules.{Rules}
use Rattle.record.specs.declared.types.LineKind.TheVariants as kind
use Rattle.record.specs.Agrees.{type_agrees}
use Rattle.machine.specs.Faults.{record_fault, characters_fault, floats_fault}
use Rattle.machine.specs.Next.{expect, next_of, comments_due, after_integers}
use Rattle.machine.specs.declared.types.State.{State}
use Rattle.machine.specs.declared.types.Verdict.TheVariants as verdict
use Rattle.file.specs.Plain.{is_descriptor_line, is_characters_line, is_bases_line, is_floats_line, is_integers_line}
use Rattle.scan.specs.Run.{run, counted}
use Rattle.scan.specs.declared.Tally.{Tally}
use Rattle.scan.specs.Front as front
use Rattle.scan_laws.proofs.Reaching.{counted_over, Reach}
use Rattle.scan_laws.proofs.Singles.{agreeing, reach-cons, single-reach, single-read}

module _ (rules : Rules) (b : State) (known rest : List ℕ) (many : length known ≡ b.satellites) where
  abbrev identifiers : List ℕ
  identifiers = known ++ rest

  -- the fault of each line at its place
  abbrev descriptor_fault : List ℕ → ℕ
  descriptor_fault l = lower (descriptor_of (padded l)).fault (unless (type_agrees (descriptor_of (padded l)).file_type known) 8 0)

  descriptor-faults : (l : List ℕ) → record_fault kind.Characters rules (expect characters_kind 2 b) identifiers (padded l) ≡ descriptor_fault l
  unfolding characters_fault
  descriptor-faults l = rw (take_at known rest b.satellites many)

  character-faults : (l : List ℕ) → record_fault kind.Characters rules (expect characters_kind 1 b) identifiers (padded l) ≡ fault_of character_items (padded l)
  unfolding characters_fault
  character-faults l = refl

  base-faults : (l : List ℕ) → record_fault kind.Floats rules (expect floats_kind 2 b) identifiers (padded l) ≡ (base_of (padded l)).fault
  unfolding floats_fault
  base-faults l = refl

  float-faults : (l : List ℕ) → record_fault kind.Floats rules (expect floats_kind 1 b) identifiers (padded l) ≡ fault_of float_items (padded l)
  unfolding floats_fault
  float-faults l = refl

  one-integers : (l : List ℕ) → next_of kind.Integers rules (expect integers_kind 2 b) (padded l) ≡ verdict.Next (expect integers_kind 1 b)
  unfolding after_integers
  one-integers l = refl

  -- after the second `%i` the comments
  abbrev pub commented : State
  commented = comments_due rules.fewest_comments rules.most_comments (expect integers_kind 1 b)

  two-integers : (l : List ℕ) → next_of kind.Integers rules (expect integers_kind 1 b) (padded l) ≡ verdict.Next commented
  unfolding after_integers
  two-integers l = refl

  abbrev integer_fault : List ℕ → ℕ
  integer_fault l = fault_of integer_items (padded l)

  -- the six lines
  module _ (d c bs f i i' : List ℕ) where
    pub six-reach : is_descriptor_line rules known d ≡ true → is_characters_line rules c ≡ true → is_bases_line rules bs ≡ true → is_floats_line rules f ≡ true
        → is_integers_line rules i ≡ true → is_integers_line rules i' ≡ true → Reach rules (expect characters_kind 2 b) identifiers (d ∷ c ∷ bs ∷ f ∷ i ∷ i' ∷ []) commented identifiers
    six-reach is-d is_c is_b is_f is-i is-i' =
        let agrees = agreeing rules kind.Characters (descriptor_of (padded d)).fault (type_agrees (descriptor_of (padded d)).file_type known) d in
        let r1 = single-reach rules kind.Characters (expect characters_kind 2 b) identifiers descriptor_fault (λ l. expect characters_kind 1 b) refl refl descriptor-faults (λ l. refl) d (agrees ∙ is-d) in
        let r2 = single-reach rules kind.Characters (expect characters_kind 1 b) identifiers (λ l. fault_of character_items (padded l)) (λ l. expect floats_kind 2 b) refl refl character-faults (λ l. refl) c is_c in
        let r3 = single-reach rules kind.Floats (expect floats_kind 2 b) identifiers (λ l. (base_of (padded l)).fault) (λ l. expect floats_kind 1 b) refl refl base-faults (λ l. refl) bs is_b in
        let r4 = single-reach rules kind.Floats (expect floats_kind 1 b) identifiers (λ l. fault_of float_items (padded l)) (λ l. expect integers_kind 2 b) refl refl float-faults (λ l. refl) f is_f in
        let r5 = single-reach rules kind.Integers (expect integers_kind 2 b) identifiers integer_fault (λ l. expect integers_kind 1 b) refl refl (λ l. refl) one-integers i is-i in
        let r6 = single-reach rules kind.Integers (expect integers_kind 1 b) identifiers integer_fault (λ l. commented) refl refl (λ l. refl) two-integers i' is-i' in
        reach-cons rules (expect characters_kind 2 b) (expect characters_kind 1 b) commented identifiers identifiers identifiers d (c ∷ bs ∷ f ∷ i ∷ i' ∷ []) r1
        (reach-cons rules (expect characters_kind 1 b) (expect floats_kind 2 b) commented identifiers identifiers identifiers c (bs ∷ f ∷ i ∷ i' ∷ []) r2
        (reach-cons rules (expect floats_kind 2 b) (expect floats_kind 1 b) commented identifiers identifiers identifiers bs (f ∷ i ∷ i' ∷ []) r3
        (reach-cons rules (expect floats_kind 1 b) (expect integers_kind 2 b) commented identifiers identifiers identifiers f (i ∷ i' ∷ []) r4
        (reach-cons rules (expect integers_kind 2 b) (expect integers_kind 1 b) commented identifiers identifiers identifiers i (i' ∷ []) r5 r6))))

  -- the six lines that a run to a file has read
  pub record Six (t t' : Tally) (ls : List (List ℕ)) : Type 0 where
    pub descriptor : List ℕ
    pub characters : List ℕ
    pub bases : List ℕ
    pub floats : List ℕ
    pub integers : List ℕ
    pub integers' : List ℕ
    pub more : List (List ℕ)
    pub split : ls ≡ descriptor ∷ characters ∷ bases ∷ floats ∷ integers ∷ integers' ∷ more
    pub is-descriptor : is_descriptor_line rules known descriptor ≡ true
    pub is-characters : is_characters_line rules characters ≡ true
    pub is-bases : is_bases_line rules bases ≡ true
    pub is-floats : is_floats_line rules floats ≡ true
    pub is-integers : is_integers_line rules integers ≡ true
    pub is-integers' : is_integers_line rules integers' ≡ true
    pub goes : run rules commented identifiers (counted_over rules t (descriptor ∷ characters ∷ bases ∷ floats ∷ integers ∷ integers' ∷ [])) more ≡ front.File t'

  split-six : (a b c d e f : List ℕ) (l₀ l₁ l₂ l₃ l₄ l₅ l₆ : List (List ℕ)) → l₀ ≡ a ∷ l₁ → l₁ ≡ b ∷ l₂ → l₂ ≡ c ∷ l₃ → l₃ ≡ d ∷ l₄ → l₄ ≡ e ∷ l₅ → l₅ ≡ f ∷ l₆
      → l₀ ≡ a ∷ b ∷ c ∷ d ∷ e ∷ f ∷ l₆
  split-six a b c d e f l₀ l₁ l₂ l₃ l₄ l₅ l₆ p q r s t u = rw (p, q, r, s, t, u)

  pub six-read : (t t' : Tally) (ls : List (List ℕ)) → run rules (expect characters_kind 2 b) identifiers t ls ≡ front.File t' → Six t t' ls
  unfolding counted_over
  six-read t t' ls e =
      let x1 = single-read rules kind.Characters (expect characters_kind 2 b) identifiers descriptor_fault (λ l. expect characters_kind 1 b) refl refl descriptor-faults (λ l. refl) t t' ls refl e in
      let t2 = counted rules t x1.line in
      let x2 = single-read rules kind.Characters (expect characters_kind 1 b) identifiers (λ l. fault_of character_items (padded l)) (λ l. expect floats_kind 2 b) refl refl character-faults (λ l. refl) t2 t' x1.others refl x1.goes in
      let t3 = counted rules t2 x2.line in
      let x3 = single-read rules kind.Floats (expect floats_kind 2 b) identifiers (λ l. (base_of (padded l)).fault) (λ l. expect floats_kind 1 b) refl refl base-faults (λ l. refl) t3 t' x2.others refl x2.goes in
      let t4 = counted rules t3 x3.line in
      let x4 = single-read rules kind.Floats (expect floats_kind 1 b) identifiers (λ l. fault_of float_items (padded l)) (λ l. expect integers_kind 2 b) refl refl float-faults (λ l. refl) t4 t' x3.others refl x3.goes in
      let t5 = counted rules t4 x4.line in
      let x5 = single-read rules kind.Integers (expect integers_kind 2 b) identifiers integer_fault (λ l. expect integers_kind 1 b) refl refl (λ l. refl) one-integers t5 t' x4.others refl x4.goes in
      let t6 = counted rules t5 x5.line in
      let x6 = single-read rules kind.Integers (expect integers_kind 1 b) identifiers integer_fault (λ l. commented) refl refl (λ l. refl) two-integers t6 t' x5.others refl x5.goes in
      let d = x1.line in
      record {
        descriptor = d;
        characters = x2.line;
        bases = x3.line;
        floats = x4.line;
        integers = x5.line;
        integers' = x6.line;
        more = x6.others;
        split = split-six d x2.line x3.line x4.line x5.line x6.line ls x1.others x2.others x3.others x4.others x5.others x6.others x1.split x2.split x3.split x4.split x5.split x6.split;
        is-descriptor = sym (agreeing rules kind.Characters (descriptor_of (padded d)).fault (type_agrees (descriptor_of (padded d)).file_type known) d) ∙ x1.is;
        is-characters = x2.is;
        is-bases = x3.is;
        is-floats = x4.is;
        is-integers = x5.is;
        is-integers' = x6.is;
        goes = x6.goes;
      }
