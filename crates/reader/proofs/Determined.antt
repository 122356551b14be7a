-- Any two outcomes that a contract allows agree, in the answer and in every lent place.
-- Assumes nothing.
use mathlib.Core.Path.{◌≡◌, sym, ◌∙◌}
use Rattle.reader.proofs.judging.judge.Reads as judge
use Rattle.reader.proofs.judging.judge_front.Reads as judge-front
use Rattle.reader.proofs.delivery.read.Reads as read
use Rattle.reader.proofs.delivery.read_front.Reads as read-front

pub judge-determined : (κs : _) (a : _) (r r' : _) (s s' : _) → judge.Post κs a r s → judge.Post κs a r' s' → r ≡ r'
judge-determined κs a r r' s s' p q = p ∙ sym q

pub judge-front-determined : (κs : _) (a : _) (r r' : _) (s s' : _) → judge-front.Post κs a r s → judge-front.Post κs a r' s' → r ≡ r'
judge-front-determined κs a r r' s s' p q = p ∙ sym q

-- the answer and the four lent lists
pub read-determined : (κs : _) (a : _) (r r' : _) (s s' : _) → read.Post κs a r s → read.Post κs a r' s'
    → (r ≡ r') × (s.1.0.now ≡ s'.1.0.now) × (s.1.1.0.now ≡ s'.1.1.0.now) × (s.1.1.1.0.now ≡ s'.1.1.1.0.now) × (s.1.1.1.1.0.now ≡ s'.1.1.1.1.0.now)
read-determined κs a r r' s s' p q =
    (p.0 ∙ sym q.0, p.1.0 ∙ sym q.1.0, p.1.1.0 ∙ sym q.1.1.0, p.1.1.1.0 ∙ sym q.1.1.1.0, p.1.1.1.1 ∙ sym q.1.1.1.1)

-- the answer and the four lent lists
pub read-front-determined : (κs : _) (a : _) (r r' : _) (s s' : _) → read-front.Post κs a r s → read-front.Post κs a r' s'
    → (r ≡ r') × (s.1.0.now ≡ s'.1.0.now) × (s.1.1.0.now ≡ s'.1.1.0.now) × (s.1.1.1.0.now ≡ s'.1.1.1.0.now) × (s.1.1.1.1.0.now ≡ s'.1.1.1.1.0.now)
read-front-determined κs a r r' s s' p q =
    (p.0 ∙ sym q.0, p.1.0 ∙ sym q.1.0, p.1.1.0 ∙ sym q.1.1.0, p.1.1.1.0 ∙ sym q.1.1.1.0, p.1.1.1.1 ∙ sym q.1.1.1.1)
