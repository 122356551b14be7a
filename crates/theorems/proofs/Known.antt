-- Judged with all identifiers of its header in hand, every line of an accepted file does what it does where they are learnt on the way.
-- Assumes nothing.
use mathlib.Core.Path.{◌≡◌, sym, ap, ◌∙◌}
use mathlib.Core.Bool.{true, false}
use mathlib.Core.List.{List}
use Prim.Native.Nat.{ℕ, ◌<◌}
use lib.ListN.{take}
use Rattle.lines.specs.Lines.{lines_of, nth}
use Rattle.header.specs.declared.types.Rules.{Rules}
use Rattle.machine.specs.Step.{step_of}
use Rattle.file.specs.Kinds.{is_kind}
use Rattle.file.specs.Plain.{Sound}
use Rattle.file.specs.Table.{count_of, slots_in}
use Rattle.scan.specs.Run.{scan_of, at_first}
use Rattle.scan.specs.declared.Tally.{Tally}
use Rattle.scan.specs.Front as front
use Rattle.file_laws.proofs.Counts.{count-is, identifiers-are}
use Rattle.scan_laws.proofs.Used.{front_lines}
use Rattle.scan_laws.specs.Lines.{behind}
use Rattle.scan_laws.proofs.Files.{plain-front}
use Rattle.scan_laws.proofs.KnownSteps.{known-plain}
use Rattle.record.specs.LineKinds.{position_kind}

-- the first entries are the identifiers of the file at the front of some bytes
abbrev pub Knows : Rules → List ℕ → Tally → List ℕ → Type 0
Knows rules bytes t identifiers =
    take (count_of rules (front_lines bytes t)) identifiers ≡ slots_in rules false (count_of rules (front_lines bytes t)) (front_lines bytes t)

-- With them, each of its lines does the same; and where a P line stands, the number of satellites is that of the header.
pub known-steps : (rules : Rules) → Sound rules → (bytes : List ℕ) (t : Tally) → scan_of rules bytes ≡ front.File t → (identifiers : List ℕ) → Knows rules bytes t identifiers
    → (k : ℕ) → k < t.lines
    → (step_of rules (behind rules at_first (lines_of bytes) k).state identifiers (nth k (lines_of bytes))
    ≡ step_of rules (behind rules at_first (lines_of bytes) k).state (behind rules at_first (lines_of bytes) k).identifiers (nth k (lines_of bytes)))
    × (is_kind rules position_kind (nth k (lines_of bytes)) ≡ true → (behind rules at_first (lines_of bytes) k).state.satellites ≡ count_of rules (front_lines bytes t))
known-steps rules sound bytes t e identifiers knows k h =
    let p = plain-front rules sound bytes t e in
    let both = known-plain rules sound bytes t e p identifiers (ap (λ (n : ℕ). take n identifiers) (sym (count-is p)) ∙ knows ∙ identifiers-are p) k h in
    (both.0, λ row. both.1 row ∙ sym (count-is p))
