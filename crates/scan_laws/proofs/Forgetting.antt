-- Where a line is not of the kind that may stand here besides the one due, the machine goes by what is due alone.
-- Assumes nothing.
use mathlib.Core.Path.{◌≡◌, refl}
use mathlib.Core.Bool.{Bool, true, false, cond}
use mathlib.Core.List.{List, ◌∷◌}
use Prim.Native.Nat.{ℕ}
use lib.Dec.{eqb}
use Rattle.layout.specs.Fault.{keyed}
use Rattle.layout.specs.Line.{padded}
use Rattle.record.specs.LineKinds.{no_kind, told_kind, kind_of}
use Rattle.header.specs.declared.types.Rules.{Rules}
use Rattle.record.specs.declared.types.LineKind.{LineKind}
use Rattle.record.specs.declared.types.LineKind.TheVariants as kind
use Rattle.machine.specs.State.{stands, identifiers_in, identifiers_joined}
use Rattle.machine.specs.Faults.{second_fault, satellites_fault, characters_fault, floats_fault, epoch_fault, named_fault, standing_fault}
use Rattle.machine.specs.Next.{allow, after_first, after_second, after_count, after_identifiers, after_satellites, after_accuracies, comments_due, after_integers, after_epoch, satellite_done, after_position}
use Rattle.machine.specs.Step.{on_key, judged_line, printed_line, step_of, identifiers_brought}
use Rattle.machine.specs.declared.types.State.{State}
use Rattle.file.specs.Kinds.{is_kind}
use Rattle.scan.specs.Run.{run}
use Rattle.scan.specs.declared.Tally.{Tally}

cond_same : {A : Type 0} (b : Bool) (x : A) → cond b x x ≡ x
cond_same true x = refl
cond_same false x = refl

module _ (rules : Rules) (s : State) (identifiers p : List ℕ) where
  judged : (k : LineKind) → eqb (told_kind k) s.also ≡ false → judged_line k rules s identifiers p ≡ judged_line k rules (allow no_kind s) identifiers p
  unfolding judged_line on_key standing_fault second_fault satellites_fault characters_fault floats_fault epoch_fault named_fault identifiers_in after_first after_second after_count after_identifiers after_satellites after_accuracies comments_due after_integers after_epoch satellite_done after_position
  judged kind.Other e = rw (cond_same (stands s kind.Other) (keyed 4 0), cond_same (stands (allow no_kind s) kind.Other) (keyed 4 0))
  judged kind.First e = rw e
  judged kind.Second e = rw e
  judged kind.Satellites e = rw e
  judged kind.Accuracies e = rw e
  judged kind.Characters e = rw e
  judged kind.Floats e = rw e
  judged kind.Integers e = rw e
  judged kind.Comment e = rw e
  judged kind.Epoch e = rw e
  judged kind.Position e = rw e
  judged kind.Velocity e = rw e
  judged kind.PositionCorrelation e = rw e
  judged kind.VelocityCorrelation e = rw e
  judged kind.EndOfFile e = rw e

-- the run over lines of which the first is of another kind than the one that may stand here too
pub forget : (rules : Rules) (s : State) (identifiers : List ℕ) (t : Tally) (l : List ℕ) (ls : List (List ℕ)) → is_kind rules s.also l ≡ false
    → run rules s identifiers t (l ∷ ls) ≡ run rules (allow no_kind s) identifiers t (l ∷ ls)
unfolding run step_of printed_line identifiers_brought identifiers_joined identifiers_in
forget rules s identifiers t l ls e = rw (judged rules s identifiers (padded l) (kind_of rules (padded l)) e)
