-- `machine::step::line_known` meets its contract.
-- Assumes nothing.
use Rattle.std.proofs.Common.{◌≡◌, ◌+◌, sym, ap, ◌∙◌, rules}
use Rattle.machine.specs.Step.{step_of, read_as, line_known}
use Rattle.machine.specs.Told.{told_read}
use Rattle.machine.specs.declared.types.Verdict.{Verdict}
use Rattle.machine.proofs.Told.{told_verdict-one}
use Rattle.machine.proofs.Stepping.{none_left, judged-read}
use Rattle.machine.proofs.step.line_known.Statement.{statement}
use Rattle.machine.proofs.step.line_known.Tie as tie

returns : tie.Need-returns-then-end-bytes
returns c =
    let a = c.args in
    ap told_read
    (none_left (step_of a.rules a.state a.identifiers.now) a.bytes.now a.at c.line_end-end.result c.line_end-end.ensures
    c.if-end-bytes.true)

-- where the line has been judged
judged : (c : tie.After-step_line) (w : Verdict) → c.step_line.result ≡ w
    → let ended = c.before.before.before in
    let a = ended.args in
    told_read (read_as w (ended.line_end-end.result + 1)) ≡ told_read (line_known a.rules a.bytes.now a.at a.state a.identifiers.now)
judged c w is =
    let ended = c.before.before.before in
    let a = ended.args in
    ap told_read
    (judged-read (step_of a.rules a.state a.identifiers.now) a.bytes.now a.at ended.line_end-end.result ended.line_end-end.ensures
    c.if-end-bytes.false w (sym is ∙ told_verdict-one c.step_line.result _ c.step_line.ensures))

returns-2 : tie.Need-returns-in-Fault
returns-2 c = judged c.before _ c.in-Fault.is

returns-3 : tie.Need-returns-in-Finished
returns-3 c = judged c.before _ c.in-Finished.is

returns-4 : tie.Need-returns-in-Next
returns-4 c = judged c.before _ c.in-Next.is

pub line_known_spec : {M : Type 1} → statement M
line_known_spec =
    tie.close
    (tie.spec
    (λ c κs. search rules)
    returns
    (λ c. search rules)
    (λ c. search rules)
    (λ c. search rules)
    (λ c κs. search rules)
    (λ c. search rules)
    (λ c. search rules)
    (λ c. search rules)
    (λ c. search rules)
    (λ c. search rules)
    returns-2
    returns-3
    returns-4)
