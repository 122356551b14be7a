-- `reader::judging::found_in` meets its contract.
-- Assumes nothing.
use Rattle.reader.proofs.Found.{front-found, whole-found}
use Rattle.scan.proofs.Told.{told_front-one}
use borrow.Author.Rules.{rules}
use Rattle.reader.proofs.judging.found_in.Statement.{statement}
use Rattle.reader.proofs.judging.found_in.Tie as tie

returns : tie.Need-returns-then-whole
returns c =
    let a = c.args in
    whole-found a.whole a.rules a.bytes.now c.scan_whole.result c.if-whole.true (told_front-one _ _ c.scan_whole.ensures)

returns-2 : tie.Need-returns
returns-2 c =
    let a = c.args in
    front-found a.whole a.rules a.bytes.now c.scan_front.result c.if-whole.false (told_front-one _ _ c.scan_front.ensures)

pub found_in_spec : {M : Type 1} → statement M
found_in_spec = tie.close (tie.spec (λ c κs. search rules) returns (λ c κs. search rules) returns-2)
