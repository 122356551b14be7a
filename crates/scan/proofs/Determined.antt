-- Any two outcomes that a contract allows agree.
-- Assumes nothing.
use mathlib.Core.Path.{◌≡◌, sym, ◌∙◌}
use Rattle.scan.proofs.Told.{told_front-one}
use Rattle.scan.proofs.scan_front.Reads as scan-front
use Rattle.scan.proofs.scan_whole.Reads as scan-whole

pub scan-front-determined : (κs : _) (a : _) (r r' : _) (s s' : _) → scan-front.Post κs a r s → scan-front.Post κs a r' s' → r ≡ r'
scan-front-determined κs a r r' s s' p q = told_front-one r r' (p ∙ sym q)

pub scan-whole-determined : (κs : _) (a : _) (r r' : _) (s s' : _) → scan-whole.Post κs a r s → scan-whole.Post κs a r' s' → r ≡ r'
scan-whole-determined κs a r r' s s' p q = told_front-one r r' (p ∙ sym q)
