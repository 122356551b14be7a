-- Judged with all identifiers of the header in hand, every line of an accepted file does what it does in the run, which learns them on the way.
-- Assumes nothing.
use mathlib.Core.Path.{◌≡◌, refl, sym, ap, ◌∙◌}
use mathlib.Core.Bool.{true}
use mathlib.Core.List.{List, [], ◌∷◌, ◌++◌, append_assoc}
use Prim.Native.Nat.{ℕ, zero, suc, ◌≤◌, ◌<◌}
use native.Mathlib.Nat.{le_of_suc-le-suc, not-suc-le-zero}
use native.Mathlib.Omega.{arith}
use lib.ListN.{length, take, drop, length-append, take-append-drop}
use lib.Seq.{take_at}
use borrow.Author.Tests.{eqb-true}
use Rattle.laws.proofs.Bools.{and_left, and_right}
use Rattle.layout.specs.Line.{padded}
use Rattle.lines.specs.Lines.{lines_of, nth}
use Rattle.record.specs.Opening.{first_of, second_of}
use Rattle.record.specs.SlotLines.{satellites_of}
use Rattle.header.specs.Rules.{slot_lines}
use Rattle.record.specs.LineKinds.{accuracies_kind, position_kind}
use Rattle.header.specs.declared.types.Rules.{Rules}
use Rattle.record.specs.declared.types.LineKind.TheVariants as kind
use Rattle.record.specs.Agrees.{second_agrees}
use Rattle.machine.specs.State.{start_state, no_identifiers}
use Rattle.machine.specs.Next.{expect, leave, after_count}
use Rattle.machine.specs.Step.{step_of}
use Rattle.file.specs.Kinds.{is_kind}
use Rattle.file.specs.Plain.{is_line, is_record, is_first_line, is_second_line, slot_identifiers, Plain, Sound}
use Rattle.scan.specs.Run.{scan_of, Going, stepped, stepped_over, at_first}
use Rattle.scan.specs.declared.Tally.{Tally}
use Rattle.scan.specs.Front as front
use Rattle.scan_laws.proofs.Reaching.{identifiers-kept}
use Rattle.scan_laws.proofs.Singles.{agreeing}
use Rattle.scan_laws.proofs.Head.{opened, dated, counts, start8, fault_at_start, second-due, second-faults, identifiers-due, none_yet, identifiers-all, some-identifier}
use Rattle.scan_laws.proofs.Accepts.{room, seventeen-fit, tail_of, identifiers-wide}
use Rattle.scan_laws.proofs.Used.{front_lines, accepted-front}
use Rattle.scan_laws.specs.Lines.{judged, behind}
use Rattle.scan_laws.proofs.Known.{Alike, Past, past-alike}
use Rattle.scan_laws.proofs.KnownIdentifiers.{From, alike-one, plus-alike}

-- the number of satellites that the header says, and their identifiers
abbrev pub satellites_in : {rules : Rules} {lines : List (List ℕ)} → Plain rules lines → ℕ
satellites_in {rules} p = (satellites_of rules (padded p.count)).count

abbrev pub plain_identifiers : {rules : Rules} {lines : List (List ℕ)} → Plain rules lines → List ℕ
plain_identifiers p = slot_identifiers (satellites_in p) (p.count ∷ p.slots)

module _ (rules : Rules) (n : ℕ) (identifiers : List ℕ) where
  -- lines 1 and 2 look at no identifier
  first_alike : (l : List ℕ) (ls : List (List ℕ)) → is_first_line rules l ≡ true → From rules n identifiers (opened rules l) no_identifiers ls
      → From rules n identifiers start_state no_identifiers (l ∷ ls)
  first_alike l ls is more =
      let clean : (first_of rules (padded l)).fault ≡ 0 = eqb-true (first_of rules (padded l)).fault 0 (and_right (is_line rules kind.First l) _ is) in
      alike-one rules n identifiers kind.First start_state (opened rules l) no_identifiers no_identifiers l ls refl refl (and_left (is_line rules kind.First l) _ is) clean clean refl
      (identifiers-kept rules start_state no_identifiers l refl) more

  second_alike : (first l : List ℕ) (ls : List (List ℕ)) → is_second_line rules (start8 rules no_identifiers first) l ≡ true
      → From rules n identifiers (dated rules first l) no_identifiers ls → From rules n identifiers (opened rules first) no_identifiers (l ∷ ls)
  second_alike first l ls is more =
      let record_is : is_record rules kind.Second (fault_at_start rules no_identifiers first l) l ≡ true =
      agreeing rules kind.Second (second_of (padded l)).fault (second_agrees (start8 rules no_identifiers first) (second_of (padded l))) l ∙ is in
      let clean = eqb-true (fault_at_start rules no_identifiers first l) 0 (and_right (is_line rules kind.Second l) _ record_is) in
      alike-one rules n identifiers kind.Second (opened rules first) (dated rules first l) no_identifiers no_identifiers l ls refl (second-due rules no_identifiers first)
      (and_left (is_line rules kind.Second l) _ record_is) (second-faults rules identifiers first l ∙ clean) (second-faults rules no_identifiers first l ∙ clean) refl
      (identifiers-kept rules (opened rules first) no_identifiers l (rw (second-due rules no_identifiers first))) more

  -- the line after the first k, of lines that do the same
  alike_at : (k : ℕ) (ls : List (List ℕ)) (g : Going) → k < length ls → Alike rules n identifiers g ls
      → (step_of rules (behind rules g ls k).state identifiers (nth k ls) ≡ judged rules (behind rules g ls k) (nth k ls))
      × (is_kind rules position_kind (nth k ls) ≡ true → (behind rules g ls k).state.satellites ≡ n)
  unfolding Alike nth stepped_over
  alike_at k [] g h a = absurd (not-suc-le-zero h)
  alike_at zero (l ∷ ls) g h a = (a.0, a.1)
  alike_at (suc k) (l ∷ ls) g h a = alike_at k ls (stepped rules g l) (le_of_suc-le-suc h) a.2

-- Every line of a plain file, and every line after it, does the same with all identifiers in hand.
pub plain-alike : (rules : Rules) (identifiers : List ℕ) → Sound rules → (used more : List (List ℕ)) (p : Plain rules used) → take (satellites_in p) identifiers ≡ plain_identifiers p
    → From rules (satellites_in p) identifiers start_state no_identifiers (used ++ more)
unfolding after_count
plain-alike rules identifiers sound used more p same =
    let n = satellites_in p in
    let ids = plain_identifiers p in
    let many : length ids ≡ n = identifiers-all rules p.first p.second p.count p.slots p.slots-many in
    let some : 1 ≤ n = omega (arith, some-identifier rules p.first p.second p.count p.slots p.is-count p.slots-many) in
    let all : identifiers ≡ ids ++ drop n identifiers = sym (take-append-drop n identifiers) ∙ ap (λ (x : List ℕ). x ++ drop n identifiers) same in
    let tail = tail_of rules sound no_identifiers identifiers-wide used p ++ more in
    let past : Past n (leave n (expect accuracies_kind (slot_lines n) (counts rules p.first p.second p.count))) =
    record { many = refl; later = omega arith; others = refl; row = omega arith } in
    let lines : used ++ more ≡ p.first ∷ p.second ∷ p.count ∷ (p.slots ++ tail) =
    ap (λ (x : List (List ℕ)). x ++ more) p.lines_are
    ∙ ap (λ (x : List (List ℕ)). p.first ∷ p.second ∷ p.count ∷ x) (append_assoc p.slots (tail_of rules sound no_identifiers identifiers-wide used p) more) in
    rw lines
    (first_alike rules n identifiers p.first (p.second ∷ p.count ∷ (p.slots ++ tail)) p.is-first
    (second_alike rules n identifiers p.first p.second (p.count ∷ (p.slots ++ tail)) p.is-second
    (plus-alike rules n identifiers (dated rules p.first p.second) no_identifiers (identifiers-due rules p.first p.second) (none_yet rules p.first p.second)
    (room rules sound no_identifiers identifiers-wide) (seventeen-fit rules sound no_identifiers identifiers-wide) p.count p.slots tail (drop n identifiers) p.is-count p.are-slots
    p.slots-many p.all-different all
    (λ r at. past-alike rules n some identifiers tail _ past (same ∙ sym (take_at ids r n many))))))

-- Judged with the identifiers of the header, each line of an accepted file does what it does in the run; and where a P line stands, the number of
-- satellites is that of the header.
pub known-plain : (rules : Rules) → Sound rules → (bytes : List ℕ) (t : Tally) → scan_of rules bytes ≡ front.File t → (p : Plain rules (front_lines bytes t))
    (identifiers : List ℕ) → take (satellites_in p) identifiers ≡ plain_identifiers p → (k : ℕ) → k < t.lines
    → (step_of rules (behind rules at_first (lines_of bytes) k).state identifiers (nth k (lines_of bytes))
    ≡ step_of rules (behind rules at_first (lines_of bytes) k).state (behind rules at_first (lines_of bytes) k).identifiers (nth k (lines_of bytes)))
    × (is_kind rules position_kind (nth k (lines_of bytes)) ≡ true → (behind rules at_first (lines_of bytes) k).state.satellites ≡ satellites_in p)
known-plain rules sound bytes t e p identifiers same k h =
    let a = accepted-front rules bytes t e in
    let below : k < length (lines_of bytes) = omega (arith, a.lines, ap length a.split, length-append (front_lines bytes t) a.rest) in
    alike_at rules (satellites_in p) identifiers k (lines_of bytes) at_first below (rw a.split (plain-alike rules identifiers sound (front_lines bytes t) a.rest p same 0))
