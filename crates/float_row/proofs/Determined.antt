-- Any two outcomes that a contract allows agree.
-- Assumes nothing.
use Rattle.std.proofs.Common.{◌≡◌, sym, ◌∙◌}
use Rattle.float_row.proofs.absent_row.Reads as absent-row
use Rattle.float_row.proofs.float_row.Reads as float-row

pub float-row-determined : (κs : _) (a : _) (r r' : _) (s s' : _) → float-row.Post κs a r s → float-row.Post κs a r' s' → r ≡ r'
float-row-determined κs a r r' s s' p q = p ∙ sym q

pub absent-row-determined : (κs : _) (a : _) (r r' : _) (s s' : _) → absent-row.Post κs a r s → absent-row.Post κs a r' s' → r ≡ r'
absent-row-determined κs a r r' s s' p q = p ∙ sym q
