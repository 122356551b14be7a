use Rattle.std.proofs.Common.{◌≡◌, ◌-◌, length, sym, arith, ◌∙◌}
use Rattle.laws.specs.Texts.{blanks}
use Rattle.layout.specs.Inking.{inked_whole}
use Rattle.layout.proofs.Inking.{past-whole, whole_length}
use Rattle.draw.proofs.columns.ink_spaced.Goals as goal

pub returns-then-line-last : goal.returns-then-line-last
returns-then-line-last c =
    let line = c.args.line.now in
    let from = c.args.first - 1 in
    let one : from - (from - 1) ≡ 1 = omega arith in
    let blank = inked_whole from from (blanks 1) line in
    let kept : length blank ≡ length line = whole_length from from (blanks 1) line (omega arith) (omega arith) (sym one) in
    rw one at c.ink_blank.ensures ∙ sym (past-whole c.args.first c.args.last _ blank (omega (arith, kept, c.if-line-last.true)))
