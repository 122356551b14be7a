use Rattle.std.proofs.Common.{◌≡◌, ◌∙◌, sym}
use Rattle.draw.proofs.RowEnds.{body_end, body_ends, flagged_end, position_ends}
use Rattle.draw.proofs.rows.flagged_end.Goals as goal

pub returns-then-p : goal.returns-then-p
returns-then-p c = let e : 80 ≡ flagged_end c.args.p = simp (c.if-p.true) in e ∙ position_ends c.args.p

pub returns-then-p-2 : goal.returns-then-p-2
returns-then-p-2 c = let e : 79 ≡ flagged_end c.args.p = simp (c.if-p.false, c.if-p-2.true) in e ∙ position_ends c.args.p

pub returns-then-p-3 : goal.returns-then-p-3
returns-then-p-3 c = let e : 76 ≡ flagged_end c.args.p = simp (c.if-p.false, c.if-p-2.false, c.if-p-3.true) in e ∙ position_ends c.args.p

pub returns-then-p-4 : goal.returns-then-p-4
returns-then-p-4 c = let e : 75 ≡ flagged_end c.args.p = simp (c.if-p.false, c.if-p-2.false, c.if-p-3.false, c.if-p-4.true) in e ∙ position_ends c.args.p

pub returns : goal.returns
returns c =
    let e : body_end c.args.p ≡ flagged_end c.args.p = simp (c.if-p.false, c.if-p-2.false, c.if-p-3.false, c.if-p-4.false) in
    c.body_end.ensures ∙ sym (body_ends c.args.p) ∙ e ∙ position_ends c.args.p
