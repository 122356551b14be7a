-- The refusal, or the row of the line that was found.
use Rattle.questions.proofs.RowAnswers.{refused_as, answered-as}
use Rattle.questions.proofs.rows.row.Goals as goal

pub returns-then-found-ne0 : goal.returns-then-found-ne0
returns-then-found-ne0 c = record { result = refused_as c.args.file.now c.row_begins-found.ensures.result c.if-found-ne0.true c.absent_row.ensures.result }

pub returns : goal.returns
returns c =
    record {
      result =
          answered-as c.args.file.now c.row_begins-found.ensures.result c.if-found-ne0.false c.line_at-line.ensures.result
          c.row_of.ensures.result c.float_row.ensures.result;
    }
