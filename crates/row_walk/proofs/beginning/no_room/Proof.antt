-- `row_walk::beginning::no_room` meets its contract.
-- Assumes nothing.
use Rattle.std.proofs.Common.{ap, rules}
use Rattle.header.specs.declared.types.Header.{Header}
use Rattle.reader.specs.declared.types.Reading.{Reading}
use Rattle.row_walk.proofs.beginning.no_room.Statement.{statement}
use Rattle.row_walk.proofs.beginning.no_room.Tie as tie

-- 12 beside a header
abbrev twelve : Header → Reading
twelve h = record { refusal = 12; line = 0; column = 0; length = 0; header = h; version = 32 }

returns : tie.Need-returns
returns c = ap twelve c.none.ensures

pub no_room_spec : {M : Type 1} → statement M
no_room_spec = tie.close (tie.spec (λ c κs. search rules) returns)
