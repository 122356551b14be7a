-- `StoredClock::from` a `ClockRead` meets its contract.
-- Assumes nothing.
use mathlib.Core.Path.{sym, ap, ◌∙◌}
use native.Mathlib.Omega.{arith}
use mir.Syntax.{w64}
use mir.ValLaws.{to_z-of_z}
use Rattle.sp3.specs.Doors.{clock_door}
use Rattle.sp3.proofs.lists.StoredClockFromClockRead.from.Goals as goal

pub returns-in-At : goal.returns-in-At
unfolding clock_door
returns-in-At c = rw (to_z-of_z w64 c.in-At.clock (record { sfits = omega arith })) (sym (ap clock_door c.in-At.is))

pub returns-in-Absent : goal.returns-in-Absent
unfolding clock_door
returns-in-Absent c = c.no_clock.ensures ∙ sym (ap clock_door c.in-Absent.is)

pub returns-in-NotThere : goal.returns-in-NotThere
unfolding clock_door
returns-in-NotThere c = c.no_clock-in-NotThere.ensures ∙ sym (ap clock_door c.in-NotThere.is)
