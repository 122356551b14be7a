-- `header::making::texts_printable` meets its contract: each text by its own answer.
-- Assumes nothing.
use borrow.Author.Rules.{rules}
use Rattle.header.proofs.Tests.{all-four}
use Rattle.header.proofs.making.texts_printable.Statement.{statement}
use Rattle.header.proofs.making.texts_printable.Tie as tie

returns : tie.Need-returns
returns c =
    let third = c in
    let second = c in
    let first = c in
    all-four _ _ _ _ _ _ _ _ first.is_printable.ensures second.is_printable-2.ensures third.is_printable-3.ensures
    c.is_printable-4.ensures

pub texts_printable_spec : {M : Type 1} → statement M
texts_printable_spec =
    tie.close
    (tie.spec
    (λ c. search rules)
    (λ c κs. search rules)
    (λ c. search rules)
    (λ c κs. search rules)
    (λ c. search rules)
    (λ c κs. search rules)
    (λ c. search rules)
    (λ c κs. search rules)
    returns)
