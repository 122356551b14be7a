-- `sp3::walking::sp3_read_line` meets its contract.
-- Assumes nothing.
use mathlib.Core.Path.{ap, ◌∙◌}
use borrow.Author.Rules.{rules}
use Rattle.header.specs.declared.types.Rules.{Rules}
use Rattle.machine.specs.Step.{line_read, line_identifiers}
use Rattle.machine.specs.Told.{told_read}
use Rattle.machine.proofs.Told.{told_read-one}
use Rattle.sp3.specs.Doors.{line_door}
use Rattle.sp3.proofs.walking.sp3_read_line.Statement.{statement}
use Rattle.sp3.proofs.walking.sp3_read_line.Tie as tie

returns : tie.Need-returns
returns c =
    let done = c in
    let ruled = c in
    let a = ruled.args in (
      c.line_answer.ensures
          ∙ ap (line_door a.spot) (told_read-one _ _ (done.read_line-found.ensures.0
          ∙ ap (λ (k : Rules). told_read (line_read k a.bytes.now a.spot.at a.spot.state a.identifiers.now)) ruled.told_by.ensures)),
      done.read_line-found.ensures.1
          ∙ ap (λ (k : Rules). line_identifiers k a.bytes.now a.spot.at a.spot.state a.identifiers.now) ruled.told_by.ensures,
    )

pub sp3_read_line_spec : {M : Type 1} → statement M
sp3_read_line_spec =
    tie.close
    (tie.spec
    (λ c κs. search rules)
    (λ c κs. search rules)
    (λ c κs. search rules)
    (λ c. search rules)
    returns)
