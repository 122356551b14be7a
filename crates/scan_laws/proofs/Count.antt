-- The `+ ` lines of a file, the first of them with the number of satellites: they take the machine to the `++` lines with all identifiers
-- known, and a run to a file has read such lines.
-- Assumes nothing.
use mathlib.Core.Path.{◌≡◌, sym, ap, ◌∙◌, subst}
use mathlib.Core.Bool.{true, false}
use mathlib.Core.List.{List, [], ◌∷◌, ◌++◌}
use Prim.Native.Nat.{ℕ, suc, ◌+◌, ◌-◌, ◌≤◌}
use native.Mathlib.Omega.{arith}
use lib.Dec.{eqb}
use lib.ListN.{length, drop, length-drop}
use borrow.Author.Tests.{eqb-true, eq-eqb, ne_eqb, le-leb}
use Rattle.laws.proofs.Bools.{and_left, and_right}
use Rattle.layout.specs.Line.{padded}
use Rattle.record.specs.SlotLines.{satellites_of}
use Rattle.header.specs.Rules.{slot_lines}
use Rattle.record.specs.LineKinds.{no_kind, satellites_kind, accuracies_kind}
use Rattle.header.specs.declared.types.Rules.{Rules}
use Rattle.record.specs.declared.types.LineKind.TheVariants as kind
use Rattle.record.specs.Agrees.{repeats}
use Rattle.machine.specs.State.{identifiers_in, fit_behind, laid_behind, identifiers_joined}
use Rattle.machine.specs.Faults.{satellites_fault}
use Rattle.machine.specs.Next.{expect, leave, after_count, after_satellites}
use Rattle.machine.specs.Step.{identifiers_brought}
use Rattle.machine.specs.declared.types.State.{State}
use Rattle.machine.specs.declared.types.Verdict.TheVariants as verdict
use Rattle.file.specs.Plain.{is_line, is_count_line, are_slots, slot_identifiers}
use Rattle.scan.specs.Run.{run, counted}
use Rattle.scan.specs.declared.Tally.{Tally}
use Rattle.scan.specs.Front as front
use Rattle.scan_laws.proofs.Reaching.{counted_over, Reach, reach-append, reach-one, due-line}
use Rattle.scan_laws.proofs.Slots.{fresh_in, first-fresh, fresh-length, all-identifiers, first-new, all_new}
use Rattle.scan_laws.proofs.Identifiers.{identifiers_fault, identifiers-clean, clean-identifiers, identifiers_due, identifiers-reach, identifiers-read}
use Rattle.scan_laws.proofs.Bounds.{some-satellites}

-- there are further `+ ` lines
pub further : (n : ℕ) → slot_lines n - 1 ≡ suc (slot_lines n - 2)
unfolding slot_lines
further n = omega arith

module _ (rules : Rules) where
  -- the number of satellites that a line says
  abbrev pub said : List ℕ → ℕ
  said l = (satellites_of rules (padded l)).count

  count-fit : (l : List ℕ) → is_count_line rules l ≡ true → (1 ≤ said l) × (said l ≤ rules.most_satellites)
  count-fit l is = some-satellites rules (padded l) (eqb-true (satellites_of rules (padded l)).fault 0 (and_right (is_line rules kind.Satellites l) _ is))

  module _ (s : State) (none : s.satellites ≡ 0) where
    is-first : eqb s.satellites 0 ≡ true
    is-first = eq-eqb s.satellites 0 none

    none_seen : s.satellites - s.left ≡ 0
    none_seen = omega (arith, none)

    pub count-faults : (identifiers l : List ℕ) → satellites_fault rules s identifiers (padded l) ≡ identifiers_fault (satellites_of rules (padded l)).fault (repeats [] (fresh_in (said l) l))
    unfolding satellites_fault identifiers_in
    count-faults identifiers l = rw (is-first, none_seen, first-fresh rules l)

  module _ (s : State) (identifiers : List ℕ) (due : s.due ≡ satellites_kind) (none : s.satellites ≡ 0) (room : rules.most_satellites ≤ length identifiers) (wide : 17 ≤ length identifiers) where
    -- the identifiers after the first line
    abbrev pub others : List ℕ → List ℕ
    others l = drop (length (fresh_in (said l) l)) identifiers

    pub count-brought : (l : List ℕ) → identifiers_brought rules s identifiers l ≡ fresh_in (said l) l ++ others l
    unfolding identifiers_brought identifiers_joined laid_behind identifiers_in
    count-brought l =
        let fits : fit_behind 0 (fresh_in (said l) l) identifiers ≡ true =
        le-leb (0 + length (fresh_in (said l) l)) (length identifiers) (omega (arith, fresh-length (said l) l, wide)) in
        rw (due, is-first s none, none_seen s none, first-fresh rules l, fits)

    pub count_next : (l : List ℕ) → after_satellites rules s (padded l) ≡ after_count (said l) s
    unfolding after_satellites
    count_next l = rw (is-first s none)

    pub count-due : (n : ℕ) (some : eqb (after_count n s).satellites 0 ≡ false) → after_count n s ≡ identifiers_due rules (after_count n s) some (suc (slot_lines n - 2)) (n - 17)
    unfolding after_count
    count-due n some = rw (further n)

    pub some-said : (l : List ℕ) → is_count_line rules l ≡ true → eqb (after_count (said l) s).satellites 0 ≡ false
    unfolding after_count
    some-said l is = ne_eqb (said l) 0 (λ e. omega (arith, (count-fit l is).0))

    pub first-many : (l : List ℕ) → length (fresh_in (said l) l) + (said l - 17) ≡ (after_count (said l) s).satellites
    unfolding after_count
    first-many l = omega (arith, fresh-length (said l) l)

    pub first-room : (l : List ℕ) → is_count_line rules l ≡ true → said l - 17 ≤ length (others l)
    first-room l is = omega (arith, length-drop (length (fresh_in (said l) l)) identifiers, fresh-length (said l) l, (count-fit l is).1, room)

    -- all identifiers are known, and the `++` lines are due
    abbrev pub all_known : ℕ → State
    all_known n = leave n (expect accuracies_kind (slot_lines n) (after_count n s))

    count-reach : (l : List ℕ) → is_count_line rules l ≡ true → repeats [] (fresh_in (said l) l) ≡ false
        → Reach rules s identifiers (l ∷ []) (after_count (said l) s) (fresh_in (said l) l ++ others l)
    count-reach l is new =
        let fault = (satellites_of rules (padded l)).fault in
        reach-one rules kind.Satellites s (after_count (said l) s) identifiers (fresh_in (said l) l ++ others l) l due (and_left (is_line rules kind.Satellites l) _ is)
        (count-faults s none identifiers l ∙ identifiers-clean fault (repeats [] (fresh_in (said l) l)) (eqb-true fault 0 (and_right (is_line rules kind.Satellites l) _ is)) new)
        (ap verdict.Next (count_next l)) (count-brought l)

    -- all `+ ` lines
    pub plus-reach : (l : List ℕ) (slots : List (List ℕ)) → is_count_line rules l ≡ true → are_slots rules false (said l - 17) slots ≡ true → suc (length slots) ≡ slot_lines (said l)
        → repeats [] (slot_identifiers (said l) (l ∷ slots)) ≡ false → (rest : List ℕ) × Reach rules s identifiers (l ∷ slots) (all_known (said l)) (slot_identifiers (said l) (l ∷ slots) ++ rest)
    unfolding after_count
    plus-reach l slots is are many new =
        let n = said l in
        let s₁ = after_count n s in
        let known = fresh_in n l in
        let parts = first-new n [] l slots new in
        let lines : length slots ≡ suc (slot_lines n - 2) = omega (arith, many, further n) in
        let first : Reach rules s identifiers (l ∷ []) (identifiers_due rules s₁ (some-said l is) (suc (slot_lines n - 2)) (n - 17)) (known ++ others l) =
        subst (λ (x : State). Reach rules s identifiers (l ∷ []) x (known ++ others l)) (count-due n (some-said l is)) (count-reach l is parts.0) in
        let more = identifiers-reach rules s₁ (some-said l is) (slot_lines n - 2) (n - 17) known (others l) slots lines (first-many l) (first-room l is) are parts.1 in (
          more.0,
          subst (λ (x : List ℕ). Reach rules s identifiers (l ∷ slots) (all_known n) (x ++ more.0)) (all-identifiers n [] l slots)
              (reach-append rules s (identifiers_due rules s₁ (some-said l is) (suc (slot_lines n - 2)) (n - 17)) (all_known n) identifiers (known ++ others l)
              ((known ++ slot_identifiers (n - 17) slots) ++ more.0) (l ∷ []) slots first more.1),
        )

    -- the `+ ` lines that a run to a file has read
    pub record Plus (t t' : Tally) (ls : List (List ℕ)) : Type 0 where
      pub count : List ℕ
      pub slots : List (List ℕ)
      pub more : List (List ℕ)
      pub split : ls ≡ count ∷ (slots ++ more)
      pub is-count : is_count_line rules count ≡ true
      pub are-slots : are_slots rules false (said count - 17) slots ≡ true
      pub slots-many : suc (length slots) ≡ slot_lines (said count)
      pub all-different : repeats [] (slot_identifiers (said count) (count ∷ slots)) ≡ false
      pub rest : List ℕ
      pub goes : run rules (all_known (said count)) (slot_identifiers (said count) (count ∷ slots) ++ rest) (counted_over rules t (count ∷ slots)) more ≡ front.File t'

    record Counted (t t' : Tally) (ls : List (List ℕ)) : Type 0 where
      line : List ℕ
      more : List (List ℕ)
      split : ls ≡ line ∷ more
      is : is_count_line rules line ≡ true
      new : repeats [] (fresh_in (said line) line) ≡ false
      goes : run rules (after_count (said line) s) (fresh_in (said line) line ++ others line) (counted rules t line) more ≡ front.File t'

    count-read : (t t' : Tally) (ls : List (List ℕ)) → s.also ≡ no_kind → run rules s identifiers t ls ≡ front.File t' → Counted t t' ls
    count-read t t' ls also e =
        let x = due-line rules kind.Satellites s identifiers t t' ls due also e in
        let l = x.line in
        let parts = clean-identifiers (satellites_of rules (padded l)).fault (repeats [] (fresh_in (said l) l)) (sym (count-faults s none identifiers l) ∙ x.clean) in
        record {
          line = l;
          more = x.others;
          split = x.split;
          is = rw (x.is-kind, parts.0);
          new = parts.1;
          goes = rw (count_next l, count-brought l) at x.goes;
        }

    plus-more : (t t' : Tally) (ls : List (List ℕ)) → Counted t t' ls → Plus t t' ls
    unfolding after_count counted_over
    plus-more t t' ls x =
        let l = x.line in
        let n = said l in
        let s₁ = after_count n s in
        let some = some-said l x.is in
        let goes : run rules (identifiers_due rules s₁ some (suc (slot_lines n - 2)) (n - 17)) (fresh_in n l ++ others l) (counted rules t l) x.more ≡ front.File t' =
        subst (λ (y : State). run rules y (fresh_in n l ++ others l) (counted rules t l) x.more ≡ front.File t') (count-due n some) x.goes in
        let y = identifiers-read rules s₁ some (slot_lines n - 2) (n - 17) (fresh_in n l) (others l) (counted rules t l) t' x.more (first-many l) (first-room l x.is) goes in
        record {
          count = l;
          slots = y.used;
          more = y.more;
          split = x.split ∙ ap (λ (r : List (List ℕ)). l ∷ r) y.split;
          is-count = x.is;
          are-slots = y.are;
          slots-many = omega (arith, y.many, further n);
          all-different = all_new n [] l y.used x.new y.new;
          rest = y.rest;
          goes =
              subst (λ (r : List ℕ). run rules (all_known n) (r ++ y.rest) (counted_over rules (counted rules t l) y.used) y.more ≡ front.File t')
              (all-identifiers n [] l y.used) y.goes;
        }

    pub plus-read : (t t' : Tally) (ls : List (List ℕ)) → s.also ≡ no_kind → run rules s identifiers t ls ≡ front.File t' → Plus t t' ls
    plus-read t t' ls also e = plus-more t t' ls (count-read t t' ls also e)
