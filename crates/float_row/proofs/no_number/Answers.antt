use Rattle.std.proofs.Common.{refl}
use lib.Ieee.{of_bits}
use Rattle.float_row.proofs.no_number.Goals as goal

pub returns : goal.returns
unfolding of_bits
returns c = refl
