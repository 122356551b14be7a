-- `row_walk::beginning::begin` meets its contract.
-- Assumes nothing.
use Rattle.std.proofs.Common.{false, ap, ◌∙◌, rules}
use Rattle.lines.specs.Lent.{laid}
use Rattle.lines.specs.Lines.{lines_of}
use Rattle.header.specs.Versions.{rules_in}
use Rattle.file.specs.Table.{slots_in}
use Rattle.header.specs.declared.types.Rules.{Rules}
use Rattle.row_walk.proofs.Stepping.{refused-begins, short-begins, begins-so}
use Rattle.row_walk.proofs.beginning.begin.Statement.{statement}
use Rattle.row_walk.proofs.beginning.begin.Tie as tie

returns : tie.Need-returns-then-reading-ne0
returns c =
    let judged-at = c.before.before in
    let a = judged-at.args in
    rw (← judged-at.judge-reading.ensures) (refused-begins (rules_in a.file.now) judged-at.judge-reading.result a.file.now a.identifiers.now c.if-reading-ne0.true)

returns-2 : tie.Need-returns-then-room-n
returns-2 c =
    let passed = c in
    let judged-at = passed.before.before in
    let a = judged-at.args in
    let short = short-begins (rules_in a.file.now) judged-at.judge-reading.result a.file.now a.identifiers.now passed.if-reading-ne0.false c.if-room-n.true in
    rw (← judged-at.judge-reading.ensures) (c.no_room.ensures ∙ short.0, short.1)

returns-3 : tie.Need-returns
returns-3 c =
    let filled = c in
    let ruled = c in
    let roomed = c in
    let passed = c in
    let judged-at = passed.before.before in
    let a = judged-at.args in
    let r = judged-at.judge-reading.result in
    rw (← judged-at.judge-reading.ensures)
    (begins-so (rules_in a.file.now) r a.file.now a.identifiers.now passed.if-reading-ne0.false _ roomed.if-room-n.false
    (filled.fill_slots.ensures
    ∙ ap (λ (rules : Rules). laid (slots_in rules false r.header.satellites (lines_of a.file.now)) a.identifiers.now) ruled.told_by.ensures))

pub begin_spec : {M : Type 1} → statement M
begin_spec =
    tie.close
    (tie.spec
    (λ c κs. search rules)
    returns
    (λ c κs. search rules)
    returns-2
    (λ c κs. search rules)
    (λ c κs. search rules)
    (λ c. search rules)
    returns-3)
