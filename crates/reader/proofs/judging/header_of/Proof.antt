-- `reader::judging::header_of` meets its contract.
-- Assumes nothing.
use mathlib.Core.Path.{◌∙◌}
use borrow.Author.Rules.{rules}
use Rattle.reader.proofs.judging.header_of.Statement.{statement}
use Rattle.reader.proofs.judging.header_of.Tie as tie

returns : tie.Need-returns
returns c =
    let counted = c in
    let timed = c in
    let based = c in
    let base-line = based.before.before in
    let described = base-line.before.before in
    let descriptor-line = described.before.before in
    let seconded = descriptor-line.before in
    let second-line = seconded.before.before in
    let first = second-line.before.before.before in
    c.of.ensures
    ∙ rw (
      counted.count_of.ensures,
      timed.instant_in.ensures,
      based.read_bases-based.ensures,
      base-line.padded_line-base_line.ensures,
      described.read_descriptor-descriptor.ensures,
      descriptor-line.padded_line-descriptor_line.ensures,
      seconded.read_second-second.ensures,
      second-line.padded_line-second_line.ensures,
      first.first_of-first.ensures,
    )

pub header_of_spec : {M : Type 1} → statement M
header_of_spec = tie.close (tie.spec (λ c κs. search rules) (λ c κs. search rules) (λ c κs. search rules) (λ c κs. search rules) (λ c κs. search rules) (λ c κs. search rules) (λ c κs. search rules) (λ c κs. search rules) (λ c κs. search rules) (λ c κs. search rules) returns)
