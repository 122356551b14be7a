-- `rewrite::answer::answer_short` meets its contract: the room that it lends is enough for all but comments, and a refusal is said in words.
-- Assumes nothing.
use Prim.Native.Nat.{ℕ, ◌*◌}
use native.Mathlib.Omega.{arith}
use borrow.Author.Rules.{rules}
use lib.IntN.{ℤ, pos}
use lib.ListN.{replicate, length-replicate}
use Rattle.header.specs.Rules.{max_satellites}
use Rattle.header.specs.Versions.{rules_in}
use Rattle.record.specs.Plain.{comment_width}
use Rattle.record.specs.Rows.{row_width}
use Rattle.theorems.specs.Room.{most_rows}
use Rattle.reader.specs.Reading.{file_of}
use Rattle.rewrite.specs.Printed.{most_comments, answered}
use Rattle.rewrite.proofs.Answering.{few_words, Outcome, outcome-of, outcome-said, outcome-laid}
use Rattle.rewrite.proofs.answer.answer_short.Statement.{statement}
use Rattle.rewrite.proofs.answer.answer_short.Tie as tie

answered-so : (c : tie.After-read_and_write-done)
    → Outcome (answered c.args.file.now (file_of (rules_in c.args.file.now) c.args.file.now)) c.args.out.now
    c.read_and_write-done.result c.read_and_write-done.new.out
answered-so c =
    outcome-of c.args.file.now (replicate max_satellites 0) (replicate max_satellites 0) (replicate (most_comments * comment_width) 0) (replicate (most_rows * row_width) (pos 0)) c.args.out.now
    c.requires.0 c.requires.1
    (length-replicate {0} {A = ℕ} max_satellites 0)
    (length-replicate {0} {A = ℕ} max_satellites 0)
    (length-replicate {0} {A = ℕ} (most_comments * comment_width) 0)
    (length-replicate {0} {A = ℤ} (most_rows * row_width) (pos 0))
    c.read_and_write-done.ensures.0 c.read_and_write-done.ensures.1

put-refusal-requires : tie.Need-put_refusal-requires
put-refusal-requires c κs =
    let done = c.read_and_write-done.result in
    omega (arith, few_words done.refusal done.line done.column)

returns : tie.Need-returns-then-done-ne0
returns c =
    let said = c in
    let tested = c in
    let done = c in
    outcome-said done.read_and_write-done.result (answered-so c.before.before.before.before.before.before.before.before.before.before.before.before) tested.if-done-ne0.true said.put_refusal.ensures

returns-2 : tie.Need-returns
returns-2 c =
    let done = c in
    outcome-laid done.read_and_write-done.result (answered-so c.before.before.before.before.before.before.before.before) c.if-done-ne0.false

pub answer_short_spec : {M : Type 1} → statement M
answer_short_spec =
    tie.close
    (tie.spec
    (λ c. search rules)
    (λ c. search rules)
    (λ c. search rules)
    (λ c. search rules)
    (λ c κs. search rules)
    put-refusal-requires
    (λ c. search rules)
    returns
    (λ c. search rules)
    returns-2)
