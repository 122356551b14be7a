-- `reader::judging::answer` meets its contract.
-- Assumes nothing.
use Rattle.reader.proofs.Found.{file-judged, file-within, refusal-judged}
use borrow.Author.Rules.{rules}
use mathlib.Core.Path.{◌∙◌}
use Rattle.reader.proofs.judging.answer.Statement.{statement}
use Rattle.reader.proofs.judging.answer.Tie as tie

part-header-of-end : tie.Need-slice_bounds-header_of-end
part-header-of-end c = file-within c.args.rules c.args.bytes.now c.args.found c.in-Ok.tally c.in-Ok.is c.requires

returns : tie.Need-returns-in-Err
returns c = c.refused.ensures ∙ refusal-judged c.args.rules c.args.bytes.now c.args.found c.in-Err.refusal.number c.in-Err.refusal.line c.in-Err.refusal.column c.in-Err.is

returns-2 : tie.Need-returns-in-Ok
returns-2 c = file-judged c.args.rules c.args.bytes.now c.args.found c.in-Ok.tally c.in-Ok.is c.requires c.header_of.result c.header_of.ensures

pub answer_spec : {M : Type 1} → statement M
answer_spec = tie.close (tie.spec (λ c. search rules) (λ c κs. search rules) (λ c. search rules) (λ c. search rules) (λ c. search rules) part-header-of-end (λ c κs. search rules) returns returns-2)
