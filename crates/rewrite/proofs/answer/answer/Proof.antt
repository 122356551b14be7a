-- `rewrite::answer::answer` meets its contract: the length is tested first.
-- Assumes nothing.
use native.Mathlib.Omega.{arith}
use borrow.Author.Rules.{rules}
use Rattle.header.specs.Versions.{rules_in}
use Rattle.reader.specs.Reading.{file_of}
use Rattle.rewrite.proofs.Saying.{seen}
use Rattle.rewrite.proofs.Answering.{answer-fits, printed-long, printed-short}
use Rattle.rewrite.proofs.answer.answer.Statement.{statement}
use Rattle.rewrite.proofs.answer.answer.Tie as tie

returns : tie.Need-returns-then-file-gt-LONGEST
returns c =
    let said = c in
    let tested = c in
    let start = c in
    seen (printed-long start.args.file.now tested.if-file-gt-LONGEST.true) (omega (arith, start.requires)) said.put_bytes.ensures

returns-2 : tie.Need-returns
returns-2 c =
    let said = c in
    let tested = c in
    let start = c in
    let fits = answer-fits start.args.file.now (file_of (rules_in start.args.file.now) start.args.file.now) in
    seen (printed-short start.args.file.now tested.if-file-gt-LONGEST.false) (omega (arith, start.requires, fits)) said.answer_short.ensures

pub answer_spec : {M : Type 1} → statement M
answer_spec =
    tie.close
    (tie.spec
    (λ c κs. search rules)
    (λ c. search rules)
    returns
    (λ c κs. search rules)
    (λ c. search rules)
    returns-2)
