-- Any two outcomes that a contract allows agree, in the result and in every lent place.
-- Assumes nothing.
use mathlib.Core.Path.{◌≡◌, sym, ◌∙◌}
use Rattle.fill.proofs.fill.fill_slots.Reads as slots
use Rattle.fill.proofs.fill.fill_comments.Reads as comments
use Rattle.fill.proofs.fill.fill_rows.Reads as rows

pub fill-slots-determined : (κs : _) (a : _) (r r' : _) (s s' : _) → slots.Post κs a r s → slots.Post κs a r' s' → s.1.1.1.1.0.now ≡ s'.1.1.1.1.0.now
fill-slots-determined κs a r r' s s' p q = p ∙ sym q

pub fill-comments-determined : (κs : _) (a : _) (r r' : _) (s s' : _) → comments.Post κs a r s → comments.Post κs a r' s' → s.1.1.1.0.now ≡ s'.1.1.1.0.now
fill-comments-determined κs a r r' s s' p q = p ∙ sym q

pub fill-rows-determined : (κs : _) (a : _) (r r' : _) (s s' : _) → rows.Post κs a r s → rows.Post κs a r' s' → s.1.1.0.now ≡ s'.1.1.0.now
fill-rows-determined κs a r r' s s' p q = p ∙ sym q
