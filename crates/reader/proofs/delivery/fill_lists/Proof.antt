-- `reader::delivery::fill_lists` meets its contract.
-- Assumes nothing.
use Rattle.lines.specs.Lines.{lines_of}
use Rattle.reader.proofs.Delivering.{lists-left, lists_filled}
use borrow.Author.Rules.{rules}
use Rattle.reader.proofs.delivery.fill_lists.Statement.{statement}
use Rattle.reader.proofs.delivery.fill_lists.Tie as tie

returns : tie.Need-returns-then-not-enough
returns c =
    let a = c.args in
    lists-left a.enough a.rules a.n a.count (lines_of a.bytes.now) a.identifiers.now a.exponents.now a.comments.now a.rows.now
    (c.if-not-enough.true)

returns-2 : tie.Need-returns
returns-2 c =
    let rows-laid = c.before in
    let comments-laid = rows-laid.before.before.before.before in
    let exponents-laid = comments-laid.before.before.before.before in
    let identifiers-laid = exponents-laid.before.before.before.before in
    let start = identifiers-laid.before.before in
    let a = start.args in
    lists_filled a.enough a.rules a.n a.count (lines_of a.bytes.now) a.identifiers.now a.exponents.now a.comments.now a.rows.now
    _ _ _ _ (start.if-not-enough.false)
    identifiers-laid.fill_slots.ensures exponents-laid.fill_slots-2.ensures comments-laid.fill_comments.ensures rows-laid.fill_rows.ensures

pub fill_lists_spec : {M : Type 1} → statement M
fill_lists_spec = tie.close (tie.spec returns (λ c κs. search rules) (λ c κs. search rules) (λ c κs. search rules) (λ c κs. search rules) (λ c. search rules) (λ c. search rules) (λ c. search rules) (λ c. search rules) returns-2)
