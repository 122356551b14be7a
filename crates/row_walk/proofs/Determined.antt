-- Any two outcomes that a contract allows agree, in the answer and in every lent place.
-- Assumes nothing.
use Rattle.std.proofs.Common.{◌≡◌, sym, ◌∙◌}
use Rattle.row_walk.proofs.beginning.begin.Reads as begin
use Rattle.row_walk.proofs.rows.first.Reads as first
use Rattle.row_walk.proofs.rows.next_row.Reads as next_row
use Rattle.row_walk.proofs.rows.read_known.Reads as read_Known
use Rattle.machine.proofs.Told.{told_read-one}
use Rattle.row_walk.proofs.Told.{told_step-one}

-- the answer and the lent identifiers
pub begin-determined : (κs : _) (a : _) (r r' : _) (s s' : _) → begin.Post κs a r s → begin.Post κs a r' s' → (r ≡ r') × (s.1.0.now ≡ s'.1.0.now)
begin-determined κs a r r' s s' p q = (p.0 ∙ sym q.0, p.1 ∙ sym q.1)

pub first-determined : (κs : _) (a : _) (r r' : _) (s s' : _) → first.Post κs a r s → first.Post κs a r' s' → r ≡ r'
first-determined κs a r r' s s' p q = p ∙ sym q

pub next-row-determined : (κs : _) (a : _) (r r' : _) (s s' : _) → next_row.Post κs a r s → next_row.Post κs a r' s' → r ≡ r'
next-row-determined κs a r r' s s' p q = told_step-one r r' (p ∙ sym q)

pub read-known-determined : (κs : _) (a : _) (r r' : _) (s s' : _) → read_Known.Post κs a r s → read_Known.Post κs a r' s' → r ≡ r'
read-known-determined κs a r r' s s' p q = told_read-one r r' (p ∙ sym q)
