-- `reader::judging::judge_front` meets its contract.
-- Assumes nothing.
use Rattle.header.specs.declared.types.Rules.{Rules}
use Rattle.reader.specs.Reading.{front_of, judged}
use Rattle.scan.specs.Front.{Front}
use borrow.Author.Rules.{rules}
use mathlib.Core.Path.{◌∙◌, ap, ap₂}
use Rattle.reader.proofs.judging.judge_front.Statement.{statement}
use Rattle.reader.proofs.judging.judge_front.Tie as tie

answer-requires : tie.Need-answer-requires
answer-requires c κs = c.found_in.ensures.1

returns : tie.Need-returns
returns c =
    let bytes = c.args.stretch.now in
    let ruled = c in
    c.answer.ensures
    ∙ ap₂ (λ (r : Rules) (f : Front). judged r bytes f) ruled.told_by-rules.ensures (c.found_in.ensures.0 ∙ ap (λ (r : Rules). front_of r bytes) ruled.told_by-rules.ensures)

pub judge_front_spec : {M : Type 1} → statement M
judge_front_spec = tie.close (tie.spec (λ c κs. search rules) (λ c κs. search rules) answer-requires returns)
