-- The paper's number of each answer of the line reader, then which case it is (0 a fault, 1 the file goes on, 2 it ends, 3 no line), then its
-- values. 0 is accepted so far; 1 is that no complete line is left.
use Rattle.std.specs.Prelude.{ℕ, cond, List, [], ◌∷◌}
use Rattle.machine.specs.declared.types.State.{State}
use Rattle.machine.specs.declared.types.Verdict.{Verdict}
use Rattle.machine.specs.declared.types.Verdict.TheVariants as verdict
use Rattle.machine.specs.declared.types.LineRead.{LineRead}
use Rattle.machine.specs.declared.types.LineRead.TheVariants as found

-- a state by its numbers, 1 for mode V
abbrev pub told_state : State → List ℕ
told_state s =
    s.due
    ∷ s.also
    ∷ s.lines
    ∷ s.left
    ∷ s.comments
    ∷ cond s.velocity 1 0
    ∷ s.satellites
    ∷ s.epochs
    ∷ s.at8
    ∷ s.gap8
    ∷ s.interval8
    ∷ []

-- what a line does
unfoldable pub told_verdict : Verdict → List ℕ
told_verdict (verdict.Fault number column) = number ∷ 0 ∷ column ∷ []
told_verdict (verdict.Next s) = 0 ∷ 1 ∷ told_state s
told_verdict verdict.Finished = 0 ∷ 2 ∷ []

-- what the line reader finds
unfoldable pub told_read : LineRead → List ℕ
told_read found.NoLine = 1 ∷ 3 ∷ []
told_read (found.Fault number column) = number ∷ 0 ∷ column ∷ []
told_read (found.Next at s) = 0 ∷ 1 ∷ at ∷ told_state s
told_read (found.Finished at) = 0 ∷ 2 ∷ at ∷ []
