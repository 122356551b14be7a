-- `header::is_file_type` meets its contract: a list of tests ends in `false`, which adds nothing.
-- Assumes nothing.
use mathlib.Core.Bool.{or_assoc, or-false}
use Rattle.header.proofs.is_file_type.Statement.{statement}
use Rattle.header.proofs.is_file_type.Tie as tie

returns : tie.Need-returns
returns c = simp (or_assoc, or-false)

pub is_file_type_spec : {M : Type 1} → statement M
is_file_type_spec = tie.close (tie.spec returns)
