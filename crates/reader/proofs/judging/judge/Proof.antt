-- `reader::judging::judge` meets its contract.
-- Assumes nothing.
use Rattle.header.specs.declared.types.Rules.{Rules}
use Rattle.reader.specs.Reading.{file_of, judged}
use Rattle.scan.specs.Front.{Front}
use borrow.Author.Rules.{rules}
use mathlib.Core.Path.{◌∙◌, ap, ap₂}
use Rattle.reader.proofs.judging.judge.Statement.{statement}
use Rattle.reader.proofs.judging.judge.Tie as tie

answer-requires : tie.Need-answer-requires
answer-requires c κs = c.found_in.ensures.1

returns : tie.Need-returns
returns c =
    let bytes = c.args.file.now in
    let ruled = c in
    c.answer.ensures
    ∙ ap₂ (λ (r : Rules) (f : Front). judged r bytes f) ruled.told_by-rules.ensures (c.found_in.ensures.0 ∙ ap (λ (r : Rules). file_of r bytes) ruled.told_by-rules.ensures)

pub judge_spec : {M : Type 1} → statement M
judge_spec = tie.close (tie.spec (λ c κs. search rules) (λ c κs. search rules) answer-requires returns)
