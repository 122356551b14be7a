-- `StoredFlag::from` a `Flag` meets its contract.
-- Assumes nothing.
use mathlib.Core.Path.{sym, ap, ◌∙◌}
use Rattle.sp3.specs.Doors.{flag_door}
use Rattle.sp3.proofs.lists.StoredFlagFromFlag.from.Goals as goal

pub returns-in-Set : goal.returns-in-Set
unfolding flag_door
returns-in-Set c = c.flag.ensures ∙ sym (ap flag_door c.in-Set.is)

pub returns-in-NotSet : goal.returns-in-NotSet
unfolding flag_door
returns-in-NotSet c = c.flag-in-NotSet.ensures ∙ sym (ap flag_door c.in-NotSet.is)

pub returns-in-NotThere : goal.returns-in-NotThere
unfolding flag_door
returns-in-NotThere c = c.flag-in-NotThere.ensures ∙ sym (ap flag_door c.in-NotThere.is)
