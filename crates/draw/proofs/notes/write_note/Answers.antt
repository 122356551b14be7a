use Rattle.std.proofs.Common.{◌≡◌, ℕ, rules, Bool}
use Rattle.layout.specs.Inking.{line_end}
use Rattle.record.specs.Notes.{correlation_items, note_values, note_line}
use Rattle.record.specs.declared.types.Note.{Note}
use Rattle.record.proofs.Tiled.{correlation-tiled}
use Rattle.draw.proofs.Laying.{EndsIn, short, long, line_drawn}
use Rattle.draw.proofs.notes.write_note.Goals as goal

ends : (note : Note) (velocity : Bool) {n : ℕ} → n ≡ line_end (correlation_items velocity) (note_values note) → EndsIn (correlation_items velocity) (note_values note) n
ends note velocity told = record { tiles = correlation-tiled velocity; told = told }

pub lay_ended-requires-clause-short : goal.lay_ended-requires-clause-short
lay_ended-requires-clause-short c = let a = c.args in short (ends a.n a.velocity c.note_end-end.ensures)

pub returns : goal.returns
unfolding note_line
returns c =
    let a = c.args in
    let there = ends a.n a.velocity c.note_end-end.ensures in
    record { lays = c.lay_ended.ensures _ (long there) (λ old new wide met. line_drawn there old wide (search rules)) }
