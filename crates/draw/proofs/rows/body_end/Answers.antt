use Rattle.std.proofs.Common.{◌≡◌, ◌∙◌}
use Rattle.draw.proofs.RowEnds.{body_end, body_ends}
use Rattle.draw.proofs.rows.body_end.Goals as goal

pub returns-then-fits_whole : goal.returns-then-fits_whole
returns-then-fits_whole c = let e : 73 ≡ body_end c.args.p = simp (← c.fits_whole.ensures.result, c.if-fits_whole.true) in e ∙ body_ends c.args.p

pub returns-then-fits_whole-2 : goal.returns-then-fits_whole-2
returns-then-fits_whole-2 c = let e : 69 ≡ body_end c.args.p = simp (← c.fits_whole.ensures.result, c.if-fits_whole.false, ← c.fits_whole-2.ensures.result, c.if-fits_whole-2.true) in e ∙ body_ends c.args.p

pub returns-then-fits_whole-3 : goal.returns-then-fits_whole-3
returns-then-fits_whole-3 c = let e : 66 ≡ body_end c.args.p = simp (← c.fits_whole.ensures.result, c.if-fits_whole.false, ← c.fits_whole-2.ensures.result, c.if-fits_whole-2.false, ← c.fits_whole-3.ensures.result, c.if-fits_whole-3.true) in e ∙ body_ends c.args.p

pub returns-then-fits_whole-4 : goal.returns-then-fits_whole-4
returns-then-fits_whole-4 c = let e : 63 ≡ body_end c.args.p = simp (← c.fits_whole.ensures.result, c.if-fits_whole.false, ← c.fits_whole-2.ensures.result, c.if-fits_whole-2.false, ← c.fits_whole-3.ensures.result, c.if-fits_whole-3.false, ← c.fits_whole-4.ensures.result, c.if-fits_whole-4.true) in e ∙ body_ends c.args.p

pub returns-then-fits : goal.returns-then-fits
returns-then-fits c = let e : 60 ≡ body_end c.args.p = simp (← c.fits_whole.ensures.result, c.if-fits_whole.false, ← c.fits_whole-2.ensures.result, c.if-fits_whole-2.false, ← c.fits_whole-3.ensures.result, c.if-fits_whole-3.false, ← c.fits_whole-4.ensures.result, c.if-fits_whole-4.false, ← c.fits.ensures, c.if-fits.true) in e ∙ body_ends c.args.p

pub returns-then-fits-2 : goal.returns-then-fits-2
returns-then-fits-2 c = let e : 46 ≡ body_end c.args.p = simp (← c.fits_whole.ensures.result, c.if-fits_whole.false, ← c.fits_whole-2.ensures.result, c.if-fits_whole-2.false, ← c.fits_whole-3.ensures.result, c.if-fits_whole-3.false, ← c.fits_whole-4.ensures.result, c.if-fits_whole-4.false, ← c.fits.ensures, c.if-fits.false, ← c.fits-2.ensures, c.if-fits-2.true) in e ∙ body_ends c.args.p

pub returns-then-fits-3 : goal.returns-then-fits-3
returns-then-fits-3 c = let e : 32 ≡ body_end c.args.p = simp (← c.fits_whole.ensures.result, c.if-fits_whole.false, ← c.fits_whole-2.ensures.result, c.if-fits_whole-2.false, ← c.fits_whole-3.ensures.result, c.if-fits_whole-3.false, ← c.fits_whole-4.ensures.result, c.if-fits_whole-4.false, ← c.fits.ensures, c.if-fits.false, ← c.fits-2.ensures, c.if-fits-2.false, ← c.fits-3.ensures, c.if-fits-3.true) in e ∙ body_ends c.args.p

pub returns-then-fits-4 : goal.returns-then-fits-4
returns-then-fits-4 c = let e : 18 ≡ body_end c.args.p = simp (← c.fits_whole.ensures.result, c.if-fits_whole.false, ← c.fits_whole-2.ensures.result, c.if-fits_whole-2.false, ← c.fits_whole-3.ensures.result, c.if-fits_whole-3.false, ← c.fits_whole-4.ensures.result, c.if-fits_whole-4.false, ← c.fits.ensures, c.if-fits.false, ← c.fits-2.ensures, c.if-fits-2.false, ← c.fits-3.ensures, c.if-fits-3.false, ← c.fits-4.ensures, c.if-fits-4.true) in e ∙ body_ends c.args.p

pub returns-else-fits-4 : goal.returns-else-fits-4
returns-else-fits-4 c = let e : 4 ≡ body_end c.args.p = simp (← c.fits_whole.ensures.result, c.if-fits_whole.false, ← c.fits_whole-2.ensures.result, c.if-fits_whole-2.false, ← c.fits_whole-3.ensures.result, c.if-fits_whole-3.false, ← c.fits_whole-4.ensures.result, c.if-fits_whole-4.false, ← c.fits.ensures, c.if-fits.false, ← c.fits-2.ensures, c.if-fits-2.false, ← c.fits-3.ensures, c.if-fits-3.false, ← c.fits-4.ensures, c.if-fits-4.false) in e ∙ body_ends c.args.p
