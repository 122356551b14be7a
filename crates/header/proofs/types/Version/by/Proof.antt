-- `header::Version::by` meets its contract.
-- Assumes nothing.
use borrow.Author.Tests.{eq-eqb, ne_eqb}
use Rattle.header.specs.Versions.{version_by}
use Rattle.header.proofs.types.Version.by.Statement.{statement}
use Rattle.header.proofs.types.Version.by.Tie as tie

returns : tie.Need-returns-then-letter-eq99
unfolding version_by
returns c = rw (eq-eqb _ _ c.if-letter-eq99.true)

returns-2 : tie.Need-returns
unfolding version_by
returns-2 c = rw (ne_eqb _ _ c.if-letter-eq99.false)

pub by_spec : {M : Type 1} → statement M
by_spec = tie.close (tie.spec returns returns-2)
