-- `header::making::refuse` meets its contract.
-- Assumes nothing.
use borrow.Author.Rules.{rules}
use Rattle.header.proofs.making.refuse.Statement.{statement}
use Rattle.header.proofs.making.refuse.Tie as tie

returns : tie.Need-returns
returns c = rw c.none.ensures

pub refuse_spec : {M : Type 1} → statement M
refuse_spec = tie.close (tie.spec (λ c κs. search rules) returns)
