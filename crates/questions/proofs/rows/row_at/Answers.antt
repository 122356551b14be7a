-- The number of the P line is below the most epochs times the most satellites.
use Rattle.std.proofs.Common.{◌≤◌, ◌<◌, ◌*◌, ap, ◌∙◌, arith}
use Rattle.lines.specs.Lines.{lines_of}
use Rattle.header.specs.Rules.{max_satellites, max_epochs}
use Rattle.record.specs.declared.types.First.{First}
use Rattle.questions.proofs.Asking.{row-bounds, row_told, row-missing}
use Rattle.questions.proofs.rows.row_at.Goals as goal

small : (c : goal.Then-epoch-first) → (c.args.epoch * c.count_of-n.result ≤ max_epochs * max_satellites) × (c.args.satellite < max_satellites)
small c =
    let epochs = ap (λ (x : First). x.epochs) c.first_of-first.ensures.result in
    row-bounds c.first_of-first.result c.args.epoch c.args.satellite c.count_of-n.result c.if-epoch-first.true
    (omega (arith, c.requires.0, epochs))
    (omega (arith, c.requires.1, c.count_of-n.ensures.result))

pub overflow_mul-epoch : goal.overflow_mul-epoch
overflow_mul-epoch c = omega (arith, small c)

pub overflow_add-epoch : goal.overflow_add-epoch
overflow_add-epoch c = omega (arith, small c)

pub returns-then-epoch-first : goal.returns-then-epoch-first
returns-then-epoch-first c =
    let a = c.args in
    row_told a.rules (lines_of a.bytes.now) a.epoch a.satellite c.first_of-first.result c.count_of-n.result
    c.first_of-first.ensures.result c.count_of-n.ensures.result c.line_begins.result c.if-epoch-first.true c.line_begins.ensures.result

pub returns : goal.returns
returns c =
    let a = c.args in
    c.no_row.ensures
    ∙ row-missing a.rules (lines_of a.bytes.now) a.epoch a.satellite c.first_of-first.result c.count_of-n.result
    c.first_of-first.ensures.result c.count_of-n.ensures.result c.if-epoch-first.false
