-- Any two outcomes that a contract allows agree.
-- Assumes nothing.
use mathlib.Core.Path.{◌≡◌, sym, ◌∙◌}
use Rattle.canon.proofs.bounds.cell_width.Reads as cell
use Rattle.canon.proofs.measuring.measure.Reads as measure
use Rattle.canon.proofs.measuring.form_length.Reads as form-length

pub cell-width-determined : (κs : _) (a : _) (r r' : _) (s s' : _) → cell.Post κs a r s → cell.Post κs a r' s' → r ≡ r'
cell-width-determined κs a r r' s s' p q = p ∙ sym q

pub measure-determined : (κs : _) (a : _) (r r' : _) (s s' : _) → measure.Post κs a r s → measure.Post κs a r' s' → r ≡ r'
measure-determined κs a r r' s s' p q = p ∙ sym q

pub form-length-determined : (κs : _) (a : _) (r r' : _) (s s' : _) → form-length.Post κs a r s → form-length.Post κs a r' s' → r ≡ r'
form-length-determined κs a r r' s s' p q = p ∙ sym q
