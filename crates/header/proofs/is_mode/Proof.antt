-- `header::is_mode` meets its contract: a list of tests ends in `false`, which adds nothing.
-- Assumes nothing.
use mathlib.Core.Bool.{or-false}
use Rattle.header.proofs.is_mode.Statement.{statement}
use Rattle.header.proofs.is_mode.Tie as tie

returns : tie.Need-returns
returns c = simp or-false

pub is_mode_spec : {M : Type 1} → statement M
is_mode_spec = tie.close (tie.spec returns)
