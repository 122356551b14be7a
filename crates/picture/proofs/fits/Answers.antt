use Rattle.picture.specs.Picture.{fits_at}
use Rattle.picture.proofs.Blocks.{below_end}
use Rattle.picture.proofs.fits.Goals as goal

pub returns : goal.returns
returns c =
    let a = c.args in
    let p = a.pictures.now in
    below_end (fits_at p.low.now p.high.now p.also.now p.sign.now a.line.now a.at) 32 c.loop-i.i c.loop-i.ok c.loop-i.auto.i-end c.loop-i-test.false c.loop-i.invariant
