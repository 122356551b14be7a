-- Spots between the lines of a file. 01: "Readers go line by line. First they take plain bytes and a place; afterwards a
-- walker that holds the file's bytes and its place serves the adjustment's loop."
use Rattle.std.specs.Prelude.{List, ℕ, zero, suc}
use Rattle.header.specs.declared.types.Rules.{Rules}
use Rattle.machine.specs.State.{start_state}
use Rattle.machine.specs.Step.{line_read, line_identifiers}
use Rattle.machine.specs.declared.types.LineRead.{LineRead}
use Rattle.machine.specs.declared.types.LineRead.TheVariants as found
use Rattle.line_walk.specs.declared.Spot.{Spot}

-- before the first line
abbrev pub first_spot : Spot
first_spot = record { at = 0; state = start_state }

-- a line that goes on gives the next spot and the state there; where no line is left, where it is refused and where it ends the file, the spot is as it was
abbrev pub gone_to : LineRead → Spot → Spot
gone_to found.NoLine p = p
gone_to (found.Fault number column) p = p
gone_to (found.Next at s) p = record { at = at; state = s }
gone_to (found.Finished at) p = p

-- the spot after the line at a spot
unfoldable pub spot_after : Rules → List ℕ → List ℕ → Spot → Spot
spot_after rules file identifiers p = gone_to (line_read rules file p.at p.state identifiers) p

-- so many lines further, where each line's identifiers are kept: the spot, and the identifiers there
unfoldable pub spots_after : Rules → List ℕ → List ℕ → Spot → ℕ → Spot
spots_after rules file identifiers p zero = p
spots_after rules file identifiers p (suc k) = spots_after rules file (line_identifiers rules file p.at p.state identifiers) (spot_after rules file identifiers p) k

unfoldable pub identifiers_past : Rules → List ℕ → List ℕ → Spot → ℕ → List ℕ
identifiers_past rules file identifiers p zero = identifiers
identifiers_past rules file identifiers p (suc k) = identifiers_past rules file (line_identifiers rules file p.at p.state identifiers) (spot_after rules file identifiers p) k
