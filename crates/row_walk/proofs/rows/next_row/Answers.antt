-- What the line at the next row is to the walk, by the rules that the file tells.
use Rattle.std.proofs.Common.{◌≡◌, ℕ, List, refl, ap, ◌∙◌}
use Rattle.header.specs.Versions.{rules_in}
use Rattle.header.specs.declared.types.Rules.{Rules}
use Rattle.row_walk.specs.Rows.{step_at, row_step}
use Rattle.row_walk.specs.Told.{ToldStep, told_step}
use Rattle.row_walk.specs.declared.types.RowWalk.{RowWalk}
use Rattle.row_walk.specs.declared.types.RowStep.TheVariants as step
use Rattle.row_walk.proofs.Stepping.{steps-so}
use Rattle.row_walk.proofs.rows.next_row.Goals as goal

by-rules : (rules : Rules) (file identifiers : List ℕ) (from : RowWalk) (x : ToldStep) → rules ≡ rules_in file
    → x ≡ told_step (row_step rules file identifiers from) → x ≡ told_step (row_step (rules_in file) file identifiers from)
by-rules rules file identifiers from x told e = e ∙ ap (λ r. told_step (row_step r file identifiers from)) told

pub returns-in-NoLine : goal.returns-in-NoLine
unfolding step_at
returns-in-NoLine c =
    let a = c.args in
    let so = ap (λ l. step.Refused 1 l 0) c.line_number.ensures in
    record {
      result =
          by-rules c.told_by-rules.result a.file.now a.identifiers.now a.from _ c.told_by-rules.ensures.result
          (steps-so c.told_by-rules.result a.file.now a.identifiers.now a.from c.at_row-spot.result c.at_row-spot.ensures c.read_by.result _ _ c.read_by.ensures c.in-NoLine.is so);
    }

pub returns-in-Fault : goal.returns-in-Fault
unfolding step_at
returns-in-Fault c =
    let a = c.args in
    let so = ap (λ l. step.Refused c.in-Fault.number l c.in-Fault.column) c.line_number-in-Fault.ensures in
    record {
      result =
          by-rules c.told_by-rules.result a.file.now a.identifiers.now a.from _ c.told_by-rules.ensures.result
          (steps-so c.told_by-rules.result a.file.now a.identifiers.now a.from c.at_row-spot.result c.at_row-spot.ensures c.read_by.result _ _ c.read_by.ensures c.in-Fault.is so);
    }

pub returns-in-Finished : goal.returns-in-Finished
unfolding step_at
returns-in-Finished c =
    let a = c.args in
    record {
      result =
          by-rules c.told_by-rules.result a.file.now a.identifiers.now a.from _ c.told_by-rules.ensures.result
          (steps-so c.told_by-rules.result a.file.now a.identifiers.now a.from c.at_row-spot.result c.at_row-spot.ensures c.read_by.result _ _ c.read_by.ensures c.in-Finished.is refl);
    }

pub returns-in-Next : goal.returns-in-Next
unfolding step_at
returns-in-Next c =
    let a = c.args in
    record {
      result =
          by-rules c.told_by-rules.result a.file.now a.identifiers.now a.from _ c.told_by-rules.ensures.result
          (steps-so c.told_by-rules.result a.file.now a.identifiers.now a.from c.at_row-spot.result c.at_row-spot.ensures c.read_by.result _ _ c.read_by.ensures c.in-Next.is c.row_given.ensures);
    }
