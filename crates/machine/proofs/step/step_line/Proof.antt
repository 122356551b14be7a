-- `machine::step::step_line` meets its contract.
-- Assumes nothing.
use Rattle.machine.proofs.Stepping.{short-enough, too_long, unprintable}
use Rattle.machine.proofs.Usual.{due-row-next}
use Rattle.machine.specs.declared.types.Verdict.TheVariants as verdict
use Rattle.std.proofs.Common.{sym, ap, ◌∙◌, rules}
use Rattle.machine.specs.Told.{told_verdict}
use Rattle.machine.proofs.step.step_line.Statement.{statement}
use Rattle.machine.proofs.step.step_line.Tie as tie

returns : tie.Need-returns-then-is_due_row
returns c =
    let told = c in
    let padding = c in
    let a = padding.args in
    ap told_verdict
    (ap verdict.Next c.after_position.ensures
    ∙ due-row-next a.rules a.state a.identifiers.now a.line.now padding.pad-padded.result padding.pad-padded.ensures (sym told.is_due_row.ensures ∙ c.if-is_due_row.true))

returns-2 : tie.Need-returns-then-not-is_plain
returns-2 c =
    let judged = c in
    let a = judged.args in
    ap told_verdict
    (unprintable a.rules a.state a.identifiers.now a.line.now c.first_unprintable.result (sym judged.is_plain.ensures ∙ c.if-not-is_plain.true) c.first_unprintable.ensures)

returns-3 : tie.Need-returns-then-line-longest
returns-3 c =
    let kinded = c in
    let judged = c in
    let padding = c in
    let a = padding.args in
    ap told_verdict
    (too_long a.rules a.state a.identifiers.now a.line.now (sym judged.is_plain.ensures ∙ kinded.if-not-is_plain.false) padding.pad-padded.result padding.pad-padded.ensures kinded.kind_of-kind.result kinded.kind_of-kind.ensures c.longest_line-longest.result c.longest_line-longest.ensures c.if-line-longest.true)

returns-4 : tie.Need-returns
returns-4 c =
    let measured = c in
    let kinded = c in
    let judged = c in
    let padding = c in
    let a = padding.args in
    ap told_verdict
    (short-enough a.rules a.state a.identifiers.now a.line.now (sym judged.is_plain.ensures ∙ kinded.if-not-is_plain.false) padding.pad-padded.result padding.pad-padded.ensures kinded.kind_of-kind.result kinded.kind_of-kind.ensures measured.longest_line-longest.result measured.longest_line-longest.ensures c.judge_line.result c.if-line-longest.false c.judge_line.ensures)

pub step_line_spec : {M : Type 1} → statement M
step_line_spec =
    tie.close
    (tie.spec
    (λ c κs. search rules)
    (λ c κs. search rules)
    (λ c κs. search rules)
    returns
    (λ c κs. c.pad-padded.ensures)
    (λ c κs. search rules)
    returns-2
    (λ c κs. search rules)
    (λ c κs. search rules)
    (λ c. search rules)
    returns-3
    (λ c κs. search rules)
    returns-4)
