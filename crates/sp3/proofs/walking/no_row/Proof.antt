-- `sp3::walking::no_row` meets its contract: zero by zero is no number.
-- Assumes nothing.
use mathlib.Core.Path.{refl}
use lib.Ieee.{div, of_bits}
use Rattle.sp3.proofs.walking.no_row.Statement.{statement}
use Rattle.sp3.proofs.walking.no_row.Tie as tie

returns : tie.Need-returns
unfolding div of_bits
returns c = refl

pub no_row_spec : {M : Type 1} → statement M
no_row_spec = tie.close (tie.spec returns)
