-- Any two outcomes that the contract allows agree, in the answer and in every lent place.
-- Assumes nothing.
use mathlib.Core.Path.{◌≡◌, sym, ◌∙◌}
use Rattle.divide.proofs.divide.Reads as divide

pub divide-determined : (κs : _) (a : _) (r r' : _) (s s' : _) → divide.Post κs a r s → divide.Post κs a r' s'
    → (r ≡ r') × (s.1.0.now ≡ s'.1.0.now)
divide-determined κs a r r' s s' p q = (p.0 ∙ sym q.0, p.1 ∙ sym q.1)
