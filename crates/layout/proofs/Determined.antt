-- Any two outcomes that a contract allows agree, in the result and in every lent place.
-- Assumes nothing.
use mathlib.Core.Path.{◌≡◌, sym, ◌∙◌}
use mathlib.Core.List.{List}
use Prim.Native.Nat.{ℕ}
use Rattle.layout.specs.Line.{Lays}
use Rattle.layout.proofs.lower.Reads as lower
use Rattle.layout.proofs.number_of.Reads as number
use Rattle.layout.proofs.column_of.Reads as column
use Rattle.layout.proofs.is_printable.Reads as printable
use Rattle.layout.proofs.copy_front.Reads as copy
use Rattle.layout.proofs.pad.Reads as pad
use Rattle.layout.proofs.trimmed_length.Reads as trimmed
use Rattle.layout.proofs.lay_line.Reads as lay

-- what is laid for a line is one thing, and so is the length that is told
pub lays_one : (bytes out : List ℕ) (r r' : ℕ) (after after' : List ℕ) → Lays bytes out r after → Lays bytes out r' after' → (r ≡ r') × (after ≡ after')
lays_one bytes out r r' after after' p q = (p.length-told ∙ sym q.length-told, p.laid ∙ sym q.laid)

pub lower-determined : (κs : _) (a : _) (r r' : _) (s s' : _) → lower.Post κs a r s → lower.Post κs a r' s' → r ≡ r'
lower-determined κs a r r' s s' p q = p ∙ sym q

pub number-of-determined : (κs : _) (a : _) (r r' : _) (s s' : _) → number.Post κs a r s → number.Post κs a r' s' → r ≡ r'
number-of-determined κs a r r' s s' p q = p ∙ sym q

pub column-of-determined : (κs : _) (a : _) (r r' : _) (s s' : _) → column.Post κs a r s → column.Post κs a r' s' → r ≡ r'
column-of-determined κs a r r' s s' p q = p ∙ sym q

pub is-printable-determined : (κs : _) (a : _) (r r' : _) (s s' : _) → printable.Post κs a r s → printable.Post κs a r' s' → r ≡ r'
is-printable-determined κs a r r' s s' p q = p ∙ sym q

pub copy-front-determined : (κs : _) (a : _) (r r' : _) (s s' : _) → copy.Post κs a r s → copy.Post κs a r' s' → s.0.now ≡ s'.0.now
copy-front-determined κs a r r' s s' p q = p ∙ sym q

pub pad-determined : (κs : _) (a : _) (r r' : _) (s s' : _) → pad.Post κs a r s → pad.Post κs a r' s' → r ≡ r'
pad-determined κs a r r' s s' p q = p ∙ sym q

pub trimmed-length-determined : (κs : _) (a : _) (r r' : _) (s s' : _) → trimmed.Post κs a r s → trimmed.Post κs a r' s' → r ≡ r'
trimmed-length-determined κs a r r' s s' p q = p ∙ sym q

pub lay-line-determined : (κs : _) (a : _) (r r' : _) (s s' : _) → lay.Post κs a r s → lay.Post κs a r' s' → (r ≡ r') × (s.1.0.now ≡ s'.1.0.now)
lay-line-determined κs a r r' s s' p q = lays_one _ _ r r' _ _ p q
