-- The P line that is due, without fault and of the usual kind.
use Rattle.std.specs.Prelude.{ℕ, Bool, ◌&&◌, List, length, ◌==◌, nat_le}
use Rattle.layout.specs.Kind.{identifier_code}
use Rattle.record.specs.Rows.{cut}
use Rattle.record.specs.LineKinds.{position_kind}
use Rattle.picture.specs.Picture.{usual}
use Rattle.machine.specs.State.{identifier_due}
use Rattle.machine.specs.declared.types.State.{State}

abbrev pub due_row : State → List ℕ → List ℕ → List ℕ → Bool
due_row s identifiers line columns =
    (s.due == position_kind && nat_le (length line) 80) && (usual columns && identifier_code (cut 2 4 columns) == identifier_due s identifiers)
