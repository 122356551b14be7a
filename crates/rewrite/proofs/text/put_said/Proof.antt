-- `rewrite::text::put_said` meets its contract: a number directly after a word.
-- Assumes nothing.
use native.Mathlib.Omega.{arith}
use borrow.Author.Rules.{rules}
use lib.ListN.{length-append}
use Rattle.rewrite.specs.Printed.{number_text}
use Rattle.rewrite.proofs.Saying.{Next, next}
use Rattle.rewrite.proofs.text.put_said.Statement.{statement}
use Rattle.rewrite.proofs.text.put_said.Tie as tie

put-bytes-requires : tie.Need-put_bytes-at-requires
put-bytes-requires c κs =
    let start = c in
    omega (arith, start.requires, length-append start.args.word.now (number_text start.args.n))

abbrev start : tie.After-put_bytes-at → tie.Start
start c = c.before.before.before.before

after-word : (c : tie.After-put_bytes-at)
    → Next (start c).args.word.now (number_text (start c).args.n) (start c).args.out.now c.put_bytes-at.result c.put_bytes-at.new.out
after-word c = next (start c).args.word.now (number_text (start c).args.n) (start c).args.out.now (start c).requires c.put_bytes-at.ensures

add-result : tie.Need-overflow_add-result
add-result c =
    let worded = c.before.before.before.before.before.before in
    omega (arith, (start worded).well_formed, (after-word c.before.before.before.before.before.before).ends, c.put_number.ensures.length-told)

returns : tie.Need-returns
returns c = (after-word c.before.before.before.before.before.before).both c.put_number.ensures

pub put_said_spec : {M : Type 1} → statement M
put_said_spec =
    tie.close
    (tie.spec
    put-bytes-requires
    (λ c. (after-word c.before.before).within)
    (λ c. (after-word c.before.before).within)
    (λ c. search rules)
    (λ c κs. (after-word c.before.before.before).room)
    add-result
    (λ c. search rules)
    returns)
