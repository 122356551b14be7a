-- The run of the machine over the lines of some bytes: a file at the front, or the first faulty line. 01, "Numbers of the answers": "The first
-- faulty line decides"; 1 "no LF is left before the file's EOF line is complete"; 11 "whole file: bytes stand after the EOF line; they are not
-- examined, and the line is the one after EOF".
use Rattle.std.specs.Prelude.{Bool, cond, List, [], ◌∷◌, ◌≡◌, ℕ, ◌+◌, ltb, length}
use Rattle.lines.specs.Lines.{lines_of}
use Rattle.record.specs.LineKinds.{comment_kind}
use Rattle.file.specs.Kinds.{is_kind, is_row}
use Rattle.header.specs.Versions.{rules_in}
use Rattle.header.specs.declared.types.Rules.{Rules}
use Rattle.machine.specs.State.{start_state, no_identifiers}
use Rattle.machine.specs.Step.{step_of, identifiers_brought}
use Rattle.machine.specs.declared.types.State.{State}
use Rattle.machine.specs.declared.types.Verdict.{Verdict}
use Rattle.machine.specs.declared.types.Verdict.TheVariants as verdict
use Rattle.scan.specs.declared.Tally.{Tally}
use Rattle.std.specs.Prelude.{Ok, Err}
use Rattle.scan.specs.Front.{Front}
use Rattle.scan.specs.Front as front

-- before the first line
abbrev pub nothing_seen : Tally
nothing_seen = record { lines = 0; end = 0; comments = 0; rows = 0 }

-- one more where a test passes
abbrev pub one_more : Bool → ℕ → ℕ
one_more passed n = cond passed (n + 1) n

-- one line more, with its LF: a comment, a row, or another
unfoldable pub counted : Rules → Tally → List ℕ → Tally
counted rules t l = record {
  lines = t.lines + 1;
  end = t.end + length l + 1;
  comments = one_more (is_kind rules comment_kind l) t.comments;
  rows = one_more (is_row rules l) t.rows;
}

-- a fault is the refusal of its line; the last line ends the file
abbrev pub on_verdict : Verdict → Tally → (State → Front) → Front
on_verdict (verdict.Fault number column) t more = front.Refused number t.lines column
on_verdict (verdict.Next s) t more = more s
on_verdict verdict.Finished t more = front.File t

-- from a state, the identifiers known and what has been read before, over the lines that follow
unfoldable pub run : Rules → State → List ℕ → Tally → List (List ℕ) → Front
run rules s identifiers t [] = front.Refused 1 (t.lines + 1) 0
run rules s identifiers t (l ∷ ls) =
    on_verdict (step_of rules s identifiers l) (counted rules t l) (λ s'. run rules s' (identifiers_brought rules s identifiers l) (counted rules t l) ls)

-- the file at the front of some bytes
abbrev pub scan_of : Rules → List ℕ → Front
scan_of rules bytes = run rules start_state no_identifiers nothing_seen (lines_of bytes)

-- the whole of so many bytes is one file: nothing stands after its last line
unfoldable pub whole_front : ℕ → Front → Front
whole_front size (Ok t) = cond (ltb t.end size) (front.Refused 11 (t.lines + 1) 0) (front.File t)
whole_front size (Err refusal) = front.Refused refusal.number refusal.line refusal.column

-- the bytes are one accepted file
abbrev pub IsFile : Rules → List ℕ → Type 0
IsFile rules bytes = (t : Tally) × (whole_front (length bytes) (scan_of rules bytes) ≡ front.File t)

-- one accepted file of the version that its first bytes tell. 02, Ask 9: "accepted files of both versions mixed"
abbrev pub AnyFile : List ℕ → Type 0
AnyFile bytes = IsFile (rules_in bytes) bytes

-- Stepping: the byte, the state and the identifiers after so many lines. A line that is refused, or that ends the file, leaves them as they
-- were.
pub record Going : Type 0 where
  pub at : ℕ
  pub state : State
  pub identifiers : List ℕ

abbrev pub gone_on : Verdict → Rules → Going → List ℕ → Going
gone_on (verdict.Fault number column) rules g l = g
gone_on (verdict.Next s) rules g l = record { at = g.at + length l + 1; state = s; identifiers = identifiers_brought rules g.state g.identifiers l }
gone_on verdict.Finished rules g l = g

unfoldable pub stepped : Rules → Going → List ℕ → Going
stepped rules g l = gone_on (step_of rules g.state g.identifiers l) rules g l

-- after some lines, one after another
unfoldable pub stepped_over : Rules → Going → List (List ℕ) → Going
stepped_over rules g [] = g
stepped_over rules g (l ∷ ls) = stepped_over rules (stepped rules g l) ls

-- before the first line of a file
abbrev pub at_first : Going
at_first = record { at = 0; state = start_state; identifiers = no_identifiers }
