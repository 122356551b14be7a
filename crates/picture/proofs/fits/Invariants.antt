use Rattle.std.proofs.Common.{◌≡◌}
use Rattle.laws.specs.Tests.{every_below}
use Rattle.picture.specs.Picture.{fits_at}
use Rattle.picture.proofs.fits.Given as goal

abbrev pub invariant-loop-i : goal.invariant-loop-i
invariant-loop-i l = l.ok ≡ every_below l.i (fits_at l.pictures.low.now l.pictures.high.now l.pictures.also.now l.pictures.sign.now l.line l.at)
