-- `rewrite::text::put_number` meets its contract: the digits that `io` makes are laid.
-- Assumes nothing.
use mathlib.Core.Path.{◌≡◌, ◌∙◌}
use native.Mathlib.Omega.{arith}
use borrow.Author.Rules.{rules}
use lib.ListN.{take}
use Rattle.rewrite.specs.Printed.{number_text}
use Rattle.rewrite.proofs.Digits.{digits-shown}
use Rattle.rewrite.proofs.text.put_number.Statement.{statement}
use Rattle.rewrite.proofs.text.put_number.Tie as tie

shown : (c : tie.After-decimal-count) → take c.decimal-count.result c.decimal-count.new.out ≡ number_text c.args.n
shown c =
    let start = c in
    c.decimal-count.ensures.1.1.0 ∙ digits-shown 19 c.decimal-count.result start.args.n (omega (arith, start.ranges)) c.decimal-count.ensures.1.0

put-bytes-requires : tie.Need-put_bytes-requires
put-bytes-requires c κs = rw (shown c.before.before) c.requires

returns : tie.Need-returns
returns c = rw (shown c.before.before.before.before.before) at c.put_bytes.ensures

pub put_number_spec : {M : Type 1} → statement M
put_number_spec =
    tie.close
    (tie.spec (λ c κs. search rules) (λ c. search rules) (λ c. search rules) put-bytes-requires (λ c. search rules) returns)
