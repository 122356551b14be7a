-- Eleven numbers, in their order.
use Rattle.std.proofs.Common.{◌≡◌, [], ◌∷◌, ◌++◌, drop, ap, ◌∙◌, rules}
use Rattle.file.specs.Table.{note_numbers}
use Rattle.fill.proofs.Storing.{numbers-note}
use Rattle.fill.proofs.rows.store_note.Goals as goal

pub returns : goal.returns
unfolding note_numbers
returns c =
    let copied : c.copy_from_slice.new.self
    ≡ c.stored_mark.result ∷ c.stored_number.result ∷ c.stored_number-2.result ∷ c.stored_number-3.result ∷ c.stored_number-4.result ∷ c.stored_signed.result ∷ c.stored_signed-2.result ∷ c.stored_signed-3.result ∷ c.stored_signed-4.result ∷ c.stored_signed-5.result ∷ c.stored_signed-6.result ∷ [] =
    search rules in
    let numbers = numbers-note c.args.note c.stored_mark.ensures c.stored_number.ensures.result c.stored_number-2.ensures.result c.stored_number-3.ensures.result c.stored_number-4.ensures.result
    c.stored_signed.ensures c.stored_signed-2.ensures c.stored_signed-3.ensures c.stored_signed-4.ensures c.stored_signed-5.ensures c.stored_signed-6.ensures in
    ap (λ new. new ++ drop 11 c.args.out.now) (copied ∙ numbers)
