-- `rewrite::text::put_bytes` meets its contract.
-- Assumes nothing.
use borrow.Author.Rules.{rules}
use Rattle.rewrite.proofs.Saying.{copied}
use Rattle.rewrite.proofs.text.put_bytes.Statement.{statement}
use Rattle.rewrite.proofs.text.put_bytes.Tie as tie

returns : tie.Need-returns
returns c =
    let start = c in
    copied start.args.bytes.now start.args.out.now _ start.requires c.copy_front.ensures

pub put_bytes_spec : {M : Type 1} → statement M
put_bytes_spec = tie.close (tie.spec (λ c κs. search rules) (λ c. search rules) returns)
