use Rattle.std.proofs.Common.{refl, ◌∙◌}
use Rattle.picture.proofs.Blocks.{block-is, usual-by}
use Rattle.picture.proofs.is_usual.Goals as goal

pub returns : goal.returns
returns c =
    let line = c.args.line.now in
    let by = usual-by line c.fits-front.result c.fits-middle.result c.fits-last.result (c.fits-front.ensures ∙ block-is line 0 refl)
    (c.fits-middle.ensures ∙ block-is line 32 refl)
    (c.fits-last.ensures ∙ block-is line 47 refl) in
    record { result = rw c.told-line at by }
