-- What must stand next, on plain states.
-- Assumes nothing.
use Rattle.std.proofs.Common.{◌≡◌, false}
use Rattle.record.specs.LineKinds.{position_correlation_kind}
use Rattle.machine.specs.Next.{satellite_done, after_position}
use Rattle.machine.specs.declared.types.State.{State}

-- in mode P the rows of a satellite end with its P
pub position-done : (s : State) → s.velocity ≡ false → satellite_done position_correlation_kind s ≡ after_position s
unfolding after_position
position-done s e = rw e
