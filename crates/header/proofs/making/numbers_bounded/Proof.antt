-- `header::making::numbers_bounded` meets its contract: each number by its own answer.
-- Assumes nothing.
use mathlib.Core.Path.{refl}
use borrow.Author.Rules.{rules}
use Rattle.header.specs.Header.{numbers_bounded}
use Rattle.header.proofs.Tests.{all-four}
use Rattle.header.proofs.making.numbers_bounded.Statement.{statement}
use Rattle.header.proofs.making.numbers_bounded.Tie as tie

returns : tie.Need-returns
unfolding numbers_bounded
returns c =
    all-four _ _ _ _ _ _ _ _ c.within.ensures c.within-2.ensures c.within-3.ensures refl

pub numbers_bounded_spec : {M : Type 1} → statement M
numbers_bounded_spec =
    tie.close (tie.spec (λ c κs. search rules) (λ c κs. search rules) (λ c κs. search rules) returns)
