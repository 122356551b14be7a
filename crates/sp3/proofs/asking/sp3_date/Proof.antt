-- `sp3::asking::sp3_date` meets its contract.
-- Assumes nothing.
use mathlib.Core.Path.{ap, ◌∙◌}
use borrow.Author.Rules.{rules}
use Rattle.sp3.specs.Doors.{date_door}
use Rattle.sp3.proofs.asking.sp3_date.Statement.{statement}
use Rattle.sp3.proofs.asking.sp3_date.Tie as tie

returns : tie.Need-returns
returns c = c.from.ensures ∙ ap date_door c.date.ensures

pub sp3_date_spec : {M : Type 1} → statement M
sp3_date_spec =
    tie.close
    (tie.spec
    (λ c κs. search rules)
    (λ c κs. search rules)
    returns)
