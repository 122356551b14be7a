-- `StoredExponent::from` a `ExponentRead` meets its contract.
-- Assumes nothing.
use mathlib.Core.Path.{sym, ap, ◌∙◌}
use Rattle.sp3.specs.Doors.{exponent_door}
use Rattle.sp3.proofs.lists.StoredExponentFromExponentRead.from.Goals as goal

pub returns-in-Value : goal.returns-in-Value
unfolding exponent_door
returns-in-Value c = c.exponent.ensures ∙ sym (ap exponent_door c.in-Value.is)

pub returns-in-Unknown : goal.returns-in-Unknown
unfolding exponent_door
returns-in-Unknown c = c.exponent-in-Unknown.ensures ∙ sym (ap exponent_door c.in-Unknown.is)

pub returns-in-TooLarge : goal.returns-in-TooLarge
unfolding exponent_door
returns-in-TooLarge c = c.exponent-in-TooLarge.ensures ∙ sym (ap exponent_door c.in-TooLarge.is)

pub returns-in-NotThere : goal.returns-in-NotThere
unfolding exponent_door
returns-in-NotThere c = c.exponent-in-NotThere.ensures ∙ sym (ap exponent_door c.in-NotThere.is)
