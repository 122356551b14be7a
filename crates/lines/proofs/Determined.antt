-- Any two outcomes that a contract allows agree, in the result and in every lent place.
-- Assumes nothing.
use mathlib.Core.Path.{◌≡◌, sym, ◌∙◌}
use Rattle.lines.proofs.line_end.Reads as line
use Rattle.lines.proofs.lay_numbers.Reads as lay

pub line-end-determined : (κs : _) (a : _) (r r' : _) (s s' : _) → line.Post κs a r s → line.Post κs a r' s' → r ≡ r'
line-end-determined κs a r r' s s' p q = p ∙ sym q

pub lay-numbers-determined : (κs : _) (a : _) (r r' : _) (s s' : _) → lay.Post κs a r s → lay.Post κs a r' s' → s.0.now ≡ s'.0.now
lay-numbers-determined κs a r r' s s' p q = p ∙ sym q
