-- `cases_tables::table::comment` is safe and ends: what is left without trailing blanks is no longer than the text.
-- Assumes nothing.
use Rattle.std.proofs.Common.{arith}
use Rattle.layout.proofs.Lines.{trimmed-shorter}
use Rattle.cases_tables.proofs.table.comment.Goals as goal

pub split_at-requires : goal.split_at-requires
split_at-requires g c = omega (arith, c.trimmed_length-n.ensures, trimmed-shorter c.args.text.now)
