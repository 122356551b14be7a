-- `reader::judging::refused` meets its contract.
-- Assumes nothing.
use borrow.Author.Rules.{rules}
use Rattle.reader.proofs.judging.refused.Statement.{statement}
use Rattle.reader.proofs.judging.refused.Tie as tie

returns : tie.Need-returns
returns c = rw c.none.ensures

pub refused_spec : {M : Type 1} → statement M
refused_spec = tie.close (tie.spec (λ c κs. search rules) returns)
