-- Any two outcomes that a contract allows agree, in the result and in every lent place.
-- Assumes nothing.
use mathlib.Core.Path.{◌≡◌, sym, ◌∙◌}
use Rattle.marks.proofs.mark_identifiers.Reads as mark-identifiers
use Rattle.marks.proofs.repeats_identifier.Reads as repeats-identifier

pub mark-identifiers-determined : (κs : _) (a : _) (r r' : _) (s s' : _) → mark-identifiers.Post κs a r s → mark-identifiers.Post κs a r' s' → (r ≡ r') × (s.0.now ≡ s'.0.now)
mark-identifiers-determined κs a r r' s s' p q = (p.0 ∙ sym q.0, p.1 ∙ sym q.1)

pub repeats-identifier-determined : (κs : _) (a : _) (r r' : _) (s s' : _) → repeats-identifier.Post κs a r s → repeats-identifier.Post κs a r' s' → r ≡ r'
repeats-identifier-determined κs a r r' s s' p q = p ∙ sym q
