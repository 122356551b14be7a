-- `header::Rules::told_by` meets its contract.
-- Assumes nothing.
use mathlib.Core.Path.{sym, ◌∙◌}
use borrow.Author.Rules.{rules}
use Rattle.header.specs.Versions.{rules_in}
use Rattle.header.proofs.types.Rules.told_by.Statement.{statement}
use Rattle.header.proofs.types.Rules.told_by.Tie as tie

returns : tie.Need-returns-then-begins_c
unfolding rules_in
returns c = rw (sym c.begins_c.ensures ∙ c.if-begins_c.true) c.of.ensures

returns-2 : tie.Need-returns
unfolding rules_in
returns-2 c = rw (sym c.begins_c.ensures ∙ c.if-begins_c.false) c.of-2.ensures

pub told_by_spec : {M : Type 1} → statement M
told_by_spec = tie.close (tie.spec (λ c κs. search rules) (λ c κs. search rules) returns (λ c κs. search rules) returns-2)
