use Rattle.header.specs.Versions.{rules_of}
use Rattle.canon.specs.Table.{table_of}
use Rattle.writer.proofs.Answering.{refused-keeps, written-fits, written-lays}
use Rattle.writer.proofs.whole.write.Goals as goal

pub returns-then-answer-ne0-clause-lent : goal.returns-then-answer-ne0-clause-lent
returns-then-answer-ne0-clause-lent c =
    let a = c.args in
    refused-keeps (rules_of a.version) (table_of a.h a.identifiers.now a.exponents.now a.comments.now a.rows.now) a.out.now c.measure-answer.ensures.result
    c.if-answer-ne0.true

pub put_table-requires-clause-table_value : goal.put_table-requires-clause-table_value
put_table-requires-clause-table_value c =
    let a = c.args in
    let fits = written-fits (rules_of a.version) (table_of a.h a.identifiers.now a.exponents.now a.comments.now a.rows.now) a.out.now c.measure-answer.ensures.result
    c.if-answer-ne0.false in
    rw c.of.ensures.result fits.0

pub put_table-requires-clause-table_in_bounds : goal.put_table-requires-clause-table_in_bounds
put_table-requires-clause-table_in_bounds c =
    let a = c.args in
    let fits = written-fits (rules_of a.version) (table_of a.h a.identifiers.now a.exponents.now a.comments.now a.rows.now) a.out.now c.measure-answer.ensures.result
    c.if-answer-ne0.false in
    rw c.of.ensures.result fits.1

pub returns-clause-lent : goal.returns-clause-lent
returns-clause-lent c =
    let a = c.args in
    let t = table_of a.h a.identifiers.now a.exponents.now a.comments.now a.rows.now in
    let fits = written-fits (rules_of a.version) t a.out.now c.measure-answer.ensures.result c.if-answer-ne0.false in
    written-lays (rules_of a.version) t a.out.now fits (rw c.of.ensures.result at c.put_table.ensures)
