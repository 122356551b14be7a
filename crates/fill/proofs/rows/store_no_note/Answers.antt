-- Eleven numbers, of which the first is 0.
use Rattle.std.proofs.Common.{rules}
use Rattle.field.specs.Sign.{signed_int}
use Rattle.file.specs.Table.{no_note, stored_int}
use Rattle.fill.proofs.rows.store_no_note.Goals as goal

pub returns : goal.returns
unfolding no_note stored_int signed_int
returns c = search rules
