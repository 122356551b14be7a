use Rattle.std.proofs.Common.{◌≡◌, ℕ, rules, List, [], ◌∷◌}
use Rattle.layout.specs.Kind.{shown_text}
use Rattle.layout.specs.Kind.Held.{words}
use Rattle.layout.specs.Inking.{text_end}
use Rattle.record.specs.Plain.{comment_items, comment_line}
use Rattle.record.proofs.Tiled.{comment-tiled}
use Rattle.layout.proofs.Ends.{line-end}
use Rattle.draw.proofs.Laying.{EndsIn, short, long, line_drawn}
use Rattle.draw.proofs.plain.write_comment.Goals as goal

ends : (text : List ℕ) {n : ℕ} → n ≡ text_end 3 (shown_text 77 text) 2 → EndsIn (comment_items) (words text ∷ []) n
ends text told = record { tiles = comment-tiled; told = rw (line-end comment_items (words text ∷ []) comment-tiled) (search rules) }

pub lay_ended-requires-clause-short : goal.lay_ended-requires-clause-short
lay_ended-requires-clause-short c = let a = c.args in short (ends a.text.now c.text_end-end.ensures)

pub returns : goal.returns
unfolding comment_line
returns c =
    let a = c.args in
    let there = ends a.text.now c.text_end-end.ensures in
    record { lays = c.lay_ended.ensures _ (long there) (λ old new wide met. line_drawn there old wide (search rules)) }
