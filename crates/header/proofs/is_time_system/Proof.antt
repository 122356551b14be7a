-- `header::is_time_system` meets its contract: words end in `true`, their list in `false`, which add nothing.
-- Assumes nothing.
use mathlib.Core.Bool.{and_assoc, or_assoc, or-false}
use Rattle.laws.proofs.Bools.{and-true}
use Rattle.header.proofs.is_time_system.Statement.{statement}
use Rattle.header.proofs.is_time_system.Tie as tie

returns : tie.Need-returns
returns c = simp (or_assoc, or-false) (simp (and_assoc, and-true))

pub is_time_system_spec : {M : Type 1} → statement M
is_time_system_spec = tie.close (tie.spec returns)
