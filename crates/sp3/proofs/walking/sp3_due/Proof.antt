-- `sp3::walking::sp3_due` meets its contract.
-- Assumes nothing.
use borrow.Author.Rules.{rules}
use Rattle.sp3.proofs.walking.sp3_due.Statement.{statement}
use Rattle.sp3.proofs.walking.sp3_due.Tie as tie

returns : tie.Need-returns
returns c = simp (c.due_at.ensures, c.told_by.ensures)

pub sp3_due_spec : {M : Type 1} → statement M
sp3_due_spec = tie.close (tie.spec (λ c κs. search rules) (λ c κs. search rules) returns)
