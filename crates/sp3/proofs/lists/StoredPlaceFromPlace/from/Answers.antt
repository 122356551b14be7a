-- `StoredPlace::from` a `Place` meets its contract.
-- Assumes nothing.
use mathlib.Core.Path.{sym, ap, ◌∙◌}
use native.Mathlib.Omega.{arith}
use mir.Syntax.{w64}
use mir.ValLaws.{to_z-of_z}
use Rattle.sp3.specs.Doors.{place_door}
use Rattle.sp3.proofs.lists.StoredPlaceFromPlace.from.Goals as goal

pub returns-in-At : goal.returns-in-At
unfolding place_door
returns-in-At c =
    rw (
      to_z-of_z w64 c.in-At.x (record { sfits = omega arith }),
      to_z-of_z w64 c.in-At.y (record { sfits = omega arith }),
      to_z-of_z w64 c.in-At.z (record { sfits = omega arith }),
    ) (sym (ap place_door c.in-At.is))

pub returns-in-Absent : goal.returns-in-Absent
unfolding place_door
returns-in-Absent c = c.no_place.ensures ∙ sym (ap place_door c.in-Absent.is)

pub returns-in-NotThere : goal.returns-in-NotThere
unfolding place_door
returns-in-NotThere c = c.no_place-in-NotThere.ensures ∙ sym (ap place_door c.in-NotThere.is)
