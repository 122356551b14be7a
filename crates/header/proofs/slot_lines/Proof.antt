-- `header::slot_lines` meets its contract: up to 85 satellites the maximum is 5, above it is the quotient.
-- Assumes nothing.
use native.Mathlib.Omega.{arith}
use borrow.Author.Rules.{rules}
use Rattle.header.specs.Rules.{slot_lines}
use Rattle.header.proofs.slot_lines.Statement.{statement}
use Rattle.header.proofs.slot_lines.Tie as tie

returns : tie.Need-returns-then-n-le-IN_FIVE_LINES
unfolding slot_lines
returns c = omega arith

returns-2 : tie.Need-returns
unfolding slot_lines
returns-2 c = omega arith

pub slot_lines_spec : {M : Type 1} → statement M
slot_lines_spec = tie.close (tie.spec returns (λ c. search rules) (λ c. search rules) returns-2)
