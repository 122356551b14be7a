-- A note is stored where its whole line stands there, and that there is none in every other case.
use Rattle.std.proofs.Common.{ap, ◌∙◌}
use Rattle.lines.specs.Lent.{over}
use Rattle.file.specs.Table.{note_numbers}
use Rattle.fill.proofs.After.{after-note, after-cut, after_none}
use Rattle.fill.proofs.rows.store_after.Goals as goal
use Rattle.fill.proofs.rows.store_after.Goals.{then-begins_note+else-end-bytes, else-begins_note}

pub returns-then-end-bytes : goal.returns-then-end-bytes
returns-then-end-bytes c rules =
    let a = c.args in
    c.store_note.ensures
    ∙ ap (λ note. over (note_numbers note) a.out.now) c.note_of.ensures.result
    ∙ after-note rules a.bytes.now a.at c.begins_note.ensures a.out.now c.line_end-end.result c.line_end-end.ensures.result
    c.if-begins_note.true c.if-end-bytes.true

pub returns : goal.returns
returns c rules =
    let a = c.args in
    let begun = c.begins_note.ensures in
    c.store_no_note.ensures
    ∙ elim c.if-begins_note.branch [
      | then-begins_note+else-end-bytes w ↦
          after-cut rules a.bytes.now a.at begun a.out.now w.line_end-end.result w.line_end-end.ensures.result w.if-end-bytes.false
      | else-begins_note w ↦ after_none rules a.bytes.now a.at begun a.out.now w.if-begins_note.false
    ]
