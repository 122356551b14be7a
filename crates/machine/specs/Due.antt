-- What must stand at a byte of a file, where the state and the identifiers are those of the lines before it: what a refusal by 4, 9 or 10 misses there,
-- and which of its causes 8 has in a `+ ` line.
use Rattle.std.specs.Prelude.{ℕ, ◌+◌, ◌%◌, ◌^◌, Bool, false, cond, ◌&&◌, ◌||◌, List, [], ◌∷◌, drop, ◌==◌}
use Rattle.layout.specs.Fault.{clean}
use Rattle.layout.specs.Line.{padded}
use Rattle.lines.specs.Lines.{lines_of}
use Rattle.record.specs.LineKinds.{satellites_kind, epoch_kind, position_kind, velocity_kind}
use Rattle.header.specs.declared.types.Rules.{Rules}
use Rattle.machine.specs.State.{identifier_due}
use Rattle.machine.specs.Faults.{slots_fault}
use Rattle.machine.specs.Step.{step_of}
use Rattle.machine.specs.declared.types.State.{State}
use Rattle.machine.specs.declared.types.Verdict.{Verdict}
use Rattle.machine.specs.declared.types.Verdict.TheVariants as verdict
use Rattle.machine.specs.declared.types.Due.{Due}

-- the instant of the epoch that is due, or 0; that of a file is far below 2^64
unfoldable pub instant_due : State → ℕ
instant_due s = cond (s.due == epoch_kind) ((s.at8 + s.gap8) % 2 ^ 64) 0

-- the identifier of the satellite whose row is due, or 0
unfoldable pub satellite_due : State → List ℕ → ℕ
satellite_due s identifiers = cond (s.due == position_kind || s.due == velocity_kind) (identifier_due s identifiers) 0

-- the line is refused with 8
unfoldable pub is_eight : Verdict → Bool
is_eight (verdict.Fault number column) = number == 8
is_eight (verdict.Next s) = false
is_eight verdict.Finished = false

-- a `+ ` line is due, and the first of these lines is refused with 8 though its slots are right, those after the last satellite too: it names an
-- identifier again
unfoldable pub again_at : Rules → State → List ℕ → List (List ℕ) → Bool
again_at rules s identifiers [] = false
again_at rules s identifiers (l ∷ ls) =
    cond (s.due == satellites_kind) (is_eight (step_of rules s identifiers l) && slots_fault rules s (padded l) == clean) false

unfoldable pub due_at : Rules → List ℕ → ℕ → State → List ℕ → Due
due_at rules bytes at s identifiers = record {
  kind = s.due;
  also = s.also;
  instant8 = instant_due s;
  identifier = satellite_due s identifiers;
  repeats = again_at rules s identifiers (lines_of (drop at bytes));
}
