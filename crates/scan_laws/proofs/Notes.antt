-- Correlation lines: one may stand after its row.
-- Assumes nothing.
use mathlib.Core.Path.{◌≡◌, refl, sym, ap, ◌∙◌}
use mathlib.Core.Bool.{Bool, true, false, ◌&&◌}
use mathlib.Core.List.{List, [], ◌∷◌}
use Prim.Native.Nat.{ℕ}
use native.Mathlib.Omega.{arith}
use lib.Dec.{eqb, leb}
use lib.ListN.{length}
use borrow.Author.Tests.{eqb-true, leb-true}
use Rattle.laws.proofs.Bools.{and_left, and_right}
use Rattle.layout.specs.Line.{padded}
use Rattle.record.specs.LineKinds.{no_kind, satellites_kind, told_kind}
use Rattle.record.specs.Notes.{note_fault}
use Rattle.record.proofs.Determined.{told_kind-one}
use Rattle.header.specs.declared.types.Rules.{Rules}
use Rattle.machine.specs.Faults.{record_fault}
use Rattle.machine.specs.Next.{allow, next_of}
use Rattle.machine.specs.declared.types.State.{State}
use Rattle.machine.specs.declared.types.Verdict.TheVariants as verdict
use Rattle.file.specs.Kinds.{is_kind}
use Rattle.file.specs.Plain.{is_line, every_line, note_kind, is_note_line, are_notes}
use Rattle.scan.specs.Run.{run}
use Rattle.scan.specs.declared.Tally.{Tally}
use Rattle.scan.specs.Front as front
use Rattle.scan_laws.proofs.Passing.{kind_here, taken, some-line}
use Rattle.scan_laws.proofs.Forgetting.{forget}
use Rattle.scan_laws.proofs.Reaching.{counted_over, Reach, reach-none, reach-also, identifiers-kept, Read}

-- what the machine asks of a correlation line
note-fault : (velocity : Bool) (rules : Rules) (s : State) (identifiers p : List ℕ) → record_fault (note_kind velocity) rules s identifiers p ≡ note_fault velocity p
note-fault true rules s identifiers p = refl
note-fault false rules s identifiers p = refl

note-next : (velocity : Bool) (rules : Rules) (s : State) (p : List ℕ) → next_of (note_kind velocity) rules s p ≡ verdict.Next (allow no_kind s)
note-next true rules s p = refl
note-next false rules s p = refl

module _ (rules : Rules) (s : State) (identifiers : List ℕ) where
  -- one correlation line at most, where it may stand
  one-note : (velocity : Bool) (l : List ℕ) → s.also ≡ told_kind (note_kind velocity) → eqb s.due satellites_kind ≡ false → is_note_line rules velocity l ≡ true
      → Reach rules s identifiers (l ∷ []) (allow no_kind s) identifiers
  one-note velocity l also due is =
      reach-also rules (note_kind velocity) s (allow no_kind s) identifiers identifiers l also (and_left (is_line rules (note_kind velocity) l) _ is)
      (note-fault velocity rules s identifiers (padded l) ∙ eqb-true (note_fault velocity (padded l)) 0 (and_right (is_line rules (note_kind velocity) l) _ is))
      (note-next velocity rules s (padded l)) (identifiers-kept rules s identifiers l due)

  pub notes-reach : (velocity : Bool) (notes : List (List ℕ)) → s.also ≡ told_kind (note_kind velocity) → eqb s.due satellites_kind ≡ false
      → are_notes rules velocity notes ≡ true → (a : ℕ) × Reach rules s identifiers notes (allow a s) identifiers
  unfolding every_line
  notes-reach velocity [] also due are = (s.also, reach-none rules s identifiers)
  notes-reach velocity (l ∷ []) also due are = (0, one-note velocity l also due (and_left (is_note_line rules velocity l) true are))
  notes-reach velocity (l ∷ m ∷ ls) also due are =
      absurd (omega (arith, leb-true (length (l ∷ m ∷ ls)) 1 (and_left (leb (length (l ∷ m ∷ ls)) 1) _ are)))

  -- and what a run to a file has read of them
  read_one : (velocity : Bool) (t t' : Tally) (l : List ℕ) (ls : List (List ℕ)) → eqb s.due satellites_kind ≡ false → kind_here rules l ≡ note_kind velocity
      → run rules s identifiers t (l ∷ ls) ≡ front.File t' → Read rules (λ notes. are_notes rules velocity notes ≡ true) (allow no_kind s) identifiers t t' (l ∷ ls)
  unfolding counted_over every_line
  read_one velocity t t' l ls due is e =
      let x = taken rules (note_kind velocity) s identifiers t t' l ls is e in
      let fault : note_fault velocity (padded l) ≡ 0 = sym (note-fault velocity rules s identifiers (padded l)) ∙ x.clean in
      let kept = identifiers-kept rules s identifiers l due in
      record { used = l ∷ []; more = ls; split = refl; holds = rw (x.is-kind, fault); goes = rw (note-next velocity rules s (padded l), kept) at x.goes }

  pub notes-read : (velocity : Bool) (t t' : Tally) (ls : List (List ℕ)) → s.also ≡ told_kind (note_kind velocity) → eqb s.due satellites_kind ≡ false
      → run rules s identifiers t ls ≡ front.File t' → Read rules (λ notes. are_notes rules velocity notes ≡ true) (allow no_kind s) identifiers t t' ls
  unfolding counted_over every_line
  notes-read velocity t t' [] also due e = absurd (some-line rules s identifiers t t' e)
  notes-read velocity t t' (l ∷ ls) also due e = go (is_kind rules s.also l) refl
    where
      go : (b : Bool) → is_kind rules s.also l ≡ b → Read rules (λ notes. are_notes rules velocity notes ≡ true) (allow no_kind s) identifiers t t' (l ∷ ls)
      go true is =
          read_one velocity t t' l ls due
          (told_kind-one (kind_here rules l) (note_kind velocity) (eqb-true (told_kind (kind_here rules l)) s.also is ∙ also)) e
      go false other = record { used = []; more = l ∷ ls; split = refl; holds = refl; goes = sym (forget rules s identifiers t l ls other) ∙ e }
