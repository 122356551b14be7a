-- The `+ ` lines of a file do the same with all identifiers in hand: each looks only at those of the lines before it.
-- Assumes nothing.
use mathlib.Core.Path.{◌≡◌, refl, sym, ap, ◌∙◌}
use mathlib.Core.Bool.{true, false, false≢true}
use mathlib.Core.List.{List, [], ◌∷◌, ◌++◌, append_assoc}
use Prim.Native.Nat.{ℕ, zero, suc, ◌+◌, ◌-◌, ◌≤◌}
use native.Mathlib.Omega.{arith}
use lib.Dec.{eqb}
use lib.ListN.{length, drop}
use borrow.Author.Tests.{eqb-true, eq-eqb}
use Rattle.laws.proofs.Bools.{and_left, and_right}
use Rattle.layout.specs.Line.{padded}
use Rattle.record.specs.LineKinds.{satellites_kind, position_kind, told_kind}
use Rattle.record.specs.SlotLines.{satellites_of, more_of}
use Rattle.header.specs.Rules.{slot_lines}
use Rattle.header.specs.declared.types.Rules.{Rules}
use Rattle.record.specs.declared.types.LineKind.{LineKind}
use Rattle.record.specs.declared.types.LineKind.TheVariants as kind
use Rattle.record.specs.Agrees.{repeats}
use Rattle.machine.specs.State.{stands}
use Rattle.machine.specs.Faults.{record_fault}
use Rattle.machine.specs.Next.{after_count, after_satellites, next_of}
use Rattle.machine.specs.Step.{identifiers_brought}
use Rattle.machine.specs.declared.types.State.{State}
use Rattle.machine.specs.declared.types.Verdict.TheVariants as verdict
use Rattle.file.specs.Plain.{is_line, is_record, is_count_line, are_slots, slot_identifiers}
use Rattle.scan.specs.Run.{stepped}
use Rattle.scan_laws.proofs.Passing.{line-kind, step-of}
use Rattle.scan_laws.proofs.Slots.{fresh_in, all-identifiers, one_line, first-new}
use Rattle.scan_laws.proofs.Identifiers.{identifiers-clean, identifiers_due, after_all, last_one, one-of-more, fault-is, brought, brought-is, many-on, room-on}
use Rattle.scan_laws.proofs.Count.{said, further, count-faults, others, count-brought, count_next, count-due, some-said, first-many, first-room, all_known}
use Rattle.scan_laws.proofs.Known.{Alike}

module _ (rules : Rules) (n : ℕ) (identifiers : List ℕ) where
  -- the lines do the same from a state and the identifiers known there, wherever it is
  abbrev pub From : State → List ℕ → List (List ℕ) → Type 0
  From s now ls = (at : ℕ) → Alike rules n identifiers (record { at = at; state = s; identifiers = now }) ls

  -- one line of the kind due that has no fault with either list
  pub alike-one : (k : LineKind) (s s' : State) (now now' l : List ℕ) (ls : List (List ℕ)) → eqb (told_kind k) position_kind ≡ false → s.due ≡ told_kind k → is_line rules k l ≡ true
      → record_fault k rules s identifiers (padded l) ≡ 0 → record_fault k rules s now (padded l) ≡ 0 → next_of k rules s (padded l) ≡ verdict.Next s'
      → identifiers_brought rules s now l ≡ now' → From s' now' ls → From s now (l ∷ ls)
  unfolding Alike stepped
  alike-one k s s' now now' l ls other due is clean clean' next kept more at =
      let here : stands s k ≡ true = rw (eq-eqb (told_kind k) s.due (sym due)) in
      let goes = step-of rules k s now l is here clean' ∙ next in (
        step-of rules k s identifiers l is here clean ∙ next ∙ sym goes,
        λ row. absurd (false≢true (sym other ∙ ap (λ (x : LineKind). eqb (told_kind x) position_kind) (sym (line-kind rules k l is)) ∙ row)),
        rw (goes, kept) (more (at + length l + 1)),
      )

  module _ (s : State) (some : eqb s.satellites 0 ≡ false) where
    -- a further `+ ` line
    line-alike : (left : ℕ) (known rest rest' : List ℕ) (many : length known + left ≡ s.satellites) → left ≤ length rest → identifiers ≡ known ++ rest'
        → (lines : ℕ) (next : State) (l : List ℕ) (ls : List (List ℕ)) → ((p : List ℕ) → after_satellites rules (identifiers_due rules s some lines left) p ≡ next)
        → is_record rules kind.Satellites (more_of false left (padded l)).fault l ≡ true → repeats known (fresh_in left l) ≡ false
        → From next (brought rules s some left known rest many l) ls → From (identifiers_due rules s some lines left) (known ++ rest) (l ∷ ls)
    line-alike left known rest rest' many room are lines next l ls nexts is new more =
        let clean =
        identifiers-clean (more_of false left (padded l)).fault (repeats known (fresh_in left l))
        (eqb-true (more_of false left (padded l)).fault 0 (and_right (is_line rules kind.Satellites l) _ is)) new in
        alike-one kind.Satellites (identifiers_due rules s some lines left) next (known ++ rest) (brought rules s some left known rest many l) l ls refl refl
        (and_left (is_line rules kind.Satellites l) _ is) (rw are (fault-is rules s some left known rest' many lines l ∙ clean))
        (fault-is rules s some left known rest many lines l ∙ clean) (ap verdict.Next (nexts (padded l)))
        (brought-is rules s some left known rest many room lines l) more

    -- all further `+ ` lines, where the lines after them do the same
    slots-alike : (k left : ℕ) (known rest rest' : List ℕ) (ls tail : List (List ℕ)) → length ls ≡ suc k → length known + left ≡ s.satellites → left ≤ length rest
        → are_slots rules false left ls ≡ true → repeats known (slot_identifiers left ls) ≡ false → identifiers ≡ (known ++ slot_identifiers left ls) ++ rest'
        → ((r : List ℕ) → From (after_all rules s some) ((known ++ slot_identifiers left ls) ++ r) tail)
        → From (identifiers_due rules s some (suc k) left) (known ++ rest) (ls ++ tail)
    unfolding are_slots
    slots-alike k left known rest rest' [] tail lines many room are new all more = absurd (omega arith)
    slots-alike zero left known rest rest' (l ∷ []) tail lines many room are new all more =
        line-alike left known rest (slot_identifiers left (l ∷ []) ++ rest') many room (all ∙ append_assoc known (slot_identifiers left (l ∷ [])) rest') 1
        (after_all rules s some) l tail (last_one rules s some left)
        (and_left (is_record rules kind.Satellites (more_of false left (padded l)).fault l) _ are) (first-new left known l [] new).0
        (rw (one_line left known l) (more (drop (length (fresh_in left l)) rest)))
    slots-alike zero left known rest rest' (l ∷ m ∷ ls) tail lines many room are new all more = absurd (omega arith)
    slots-alike (suc k) left known rest rest' (l ∷ ls) tail lines many room are new all more =
        let both = first-new left known l ls new in
        let is = is_record rules kind.Satellites (more_of false left (padded l)).fault l in
        line-alike left known rest (slot_identifiers left (l ∷ ls) ++ rest') many room (all ∙ append_assoc known (slot_identifiers left (l ∷ ls)) rest') (suc (suc k))
        (identifiers_due rules s some (suc k) (left - 17)) l (ls ++ tail) (one-of-more rules s some k left) (and_left is _ are) both.0
        (slots-alike k (left - 17) (known ++ fresh_in left l) (drop (length (fresh_in left l)) rest) rest' ls tail (omega arith)
        (many-on rules s some left known rest many l) (room-on rules s some left known rest many room l) (and_right is _ are) both.1
        (rw (all-identifiers left known l ls) all) (rw (all-identifiers left known l ls) more))

  -- All `+ ` lines, where the lines after them do the same.
  pub plus-alike : (s : State) (now : List ℕ) (due : s.due ≡ satellites_kind) (none : s.satellites ≡ 0) (room : rules.most_satellites ≤ length now) (wide : 17 ≤ length now)
      (l : List ℕ) (slots tail : List (List ℕ)) (rest : List ℕ) → is_count_line rules l ≡ true → are_slots rules false (said rules l - 17) slots ≡ true
      → suc (length slots) ≡ slot_lines (said rules l) → repeats [] (slot_identifiers (said rules l) (l ∷ slots)) ≡ false
      → identifiers ≡ slot_identifiers (said rules l) (l ∷ slots) ++ rest
      → ((r : List ℕ) → From (all_known rules s now due none room wide (said rules l)) (slot_identifiers (said rules l) (l ∷ slots) ++ r) tail) → From s now (l ∷ (slots ++ tail))
  unfolding after_count
  plus-alike s now due none room wide l slots tail rest is are many new all more =
      let n = said rules l in
      let some = some-said rules s now due none room wide l is in
      let both = first-new n [] l slots new in
      let fault = (satellites_of rules (padded l)).fault in
      let clean = identifiers-clean fault (repeats [] (fresh_in n l)) (eqb-true fault 0 (and_right (is_line rules kind.Satellites l) _ is)) both.0 in
      alike-one kind.Satellites s (after_count n s) now (fresh_in n l ++ others rules s now due none room wide l) l (slots ++ tail) refl due
      (and_left (is_line rules kind.Satellites l) _ is) (count-faults rules s none identifiers l ∙ clean) (count-faults rules s none now l ∙ clean)
      (ap verdict.Next (count_next rules s now due none room wide l)) (count-brought rules s now due none room wide l)
      (rw (count-due rules s now due none room wide n some)
      (slots-alike (after_count n s) some (slot_lines n - 2) (n - 17) (fresh_in n l) (others rules s now due none room wide l) rest slots tail
      (omega (arith, many, further n)) (first-many rules s now due none room wide l) (first-room rules s now due none room wide l is) are both.1
      (rw (all-identifiers n [] l slots) all) (rw (all-identifiers n [] l slots) more)))
