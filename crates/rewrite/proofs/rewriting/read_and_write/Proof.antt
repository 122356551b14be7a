-- `rewrite::rewriting::read_and_write` meets its contract: the promises of the reader and the writer, one after the other.
-- Assumes nothing.
use borrow.Author.Rules.{rules}
use Rattle.rewrite.proofs.Composed.{refused-read, then-written}
use Rattle.rewrite.proofs.rewriting.read_and_write.Statement.{statement}
use Rattle.rewrite.proofs.rewriting.read_and_write.Tie as tie

returns : tie.Need-returns-then-read-ne0
returns c =
    let done = c in
    let a = done.args in
    refused-read a.file.now a.identifiers.now a.exponents.now a.comments.now a.rows.now
    done.read-read.result a.out.now done.read-read.ensures.0 c.if-read-ne0.true

returns-2 : tie.Need-returns
returns-2 c =
    let written = c in
    let told = c in
    let tested = c in
    let done = c in
    let a = done.args in
    let p = done.read-read.ensures in
    then-written a.file.now a.identifiers.now a.exponents.now a.comments.now a.rows.now
    done.read-read.result told.by-version.result _ _ _ _ written.write-written.result a.out.now _ told.by-version.ensures
    p.0 p.1.0 p.1.1.0 p.1.1.1.0 p.1.1.1.1 tested.if-read-ne0.false
    written.write-written.ensures.0 written.write-written.ensures.1

pub read_and_write_spec : {M : Type 1} → statement M
read_and_write_spec =
    tie.close
    (tie.spec
    (λ c κs. search rules)
    (λ c. search rules)
    (λ c. search rules)
    (λ c. search rules)
    (λ c. search rules)
    returns
    (λ c κs. search rules)
    (λ c κs. search rules)
    (λ c. search rules)
    (λ c. search rules)
    (λ c. search rules)
    (λ c. search rules)
    (λ c. search rules)
    returns-2)
