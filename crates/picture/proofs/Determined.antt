-- The contract of `is_usual` leaves one outcome. Assumes nothing.
use mathlib.Core.Path.{◌≡◌, sym, ◌∙◌}
use Rattle.picture.proofs.is_usual.Reads as is-usual

pub is-usual-determined : (κs : _) (a : _) (r r' : _) (s s' : _) → is-usual.Post κs a r s → is-usual.Post κs a r' s' → r ≡ r'
is-usual-determined κs a r r' s s' p q = p ∙ sym q
