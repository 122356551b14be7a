-- `reader::delivery::has_room` meets its contract.
-- Assumes nothing.
use Rattle.reader.specs.Reading.{room_for}
use mathlib.Core.Path.{refl}
use Rattle.reader.proofs.delivery.has_room.Statement.{statement}
use Rattle.reader.proofs.delivery.has_room.Tie as tie

returns : tie.Need-returns
unfolding room_for
returns c = refl

pub has_room_spec : {M : Type 1} → statement M
has_room_spec = tie.close (tie.spec returns)
