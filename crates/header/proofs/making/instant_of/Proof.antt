-- `header::making::instant_of` meets its contract: it is the calendar's answer.
-- Assumes nothing.
use borrow.Author.Rules.{rules}
use Rattle.header.proofs.making.instant_of.Statement.{statement}
use Rattle.header.proofs.making.instant_of.Tie as tie

returns : tie.Need-returns
returns c = c.instant.ensures

pub instant_of_spec : {M : Type 1} → statement M
instant_of_spec = tie.close (tie.spec (λ c κs. search rules) returns)
