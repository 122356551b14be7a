-- Any two outcomes that a contract allows agree, in the result and in what is lent.
-- Assumes nothing.
use mathlib.Core.Path.{◌≡◌, sym, ◌∙◌}
use Rattle.laws.proofs.within.Reads as within
use Rattle.laws.proofs.fewer.Reads as fewer
use Rattle.laws.proofs.fill_blanks.Reads as fill

pub within-determined : (κs : _) (a : _) (r r' : _) (s s' : _) → within.Post κs a r s → within.Post κs a r' s' → r ≡ r'
within-determined κs a r r' s s' p q = p ∙ sym q

pub fewer-determined : (κs : _) (a : _) (r r' : _) (s s' : _) → fewer.Post κs a r s → fewer.Post κs a r' s' → r ≡ r'
fewer-determined κs a r r' s s' p q = p ∙ sym q

pub fill-blanks-determined : (κs : _) (a : _) (r r' : _) (s s' : _) → fill.Post κs a r s → fill.Post κs a r' s' → s.0.now ≡ s'.0.now
fill-blanks-determined κs a r r' s s' p q = p ∙ sym q
