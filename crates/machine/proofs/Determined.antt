-- Any two outcomes that a contract allows agree, in the result and in every lent place.
-- Assumes nothing.
use Rattle.std.proofs.Common.{◌≡◌, sym, ◌∙◌}
use Rattle.machine.proofs.Told.{told_verdict-one, told_read-one}
use Rattle.machine.proofs.checks.instant_in.Reads as instant-in
use Rattle.machine.proofs.checks.type_agrees.Reads as type-agrees
use Rattle.machine.proofs.due.due_at.Reads as due-at
use Rattle.machine.proofs.faults.kind_number.Reads as kind-number
use Rattle.machine.proofs.step.start.Reads as start
use Rattle.machine.proofs.step.step_line.Reads as step_line
use Rattle.machine.proofs.step.keep_identifiers.Reads as keep-identifiers
use Rattle.machine.proofs.step.mark_brought.Reads as mark-brought
use Rattle.machine.proofs.step.mark_known.Reads as mark-known
use Rattle.machine.proofs.step.line_known.Reads as line-known
use Rattle.machine.proofs.step.read_line.Reads as read-line

pub instant-in-determined : (κs : _) (a : _) (r r' : _) (s s' : _) → instant-in.Post κs a r s → instant-in.Post κs a r' s' → r ≡ r'
instant-in-determined κs a r r' s s' p q = p ∙ sym q

pub type-agrees-determined : (κs : _) (a : _) (r r' : _) (s s' : _) → type-agrees.Post κs a r s → type-agrees.Post κs a r' s' → r ≡ r'
type-agrees-determined κs a r r' s s' p q = p ∙ sym q

pub due-at-determined : (κs : _) (a : _) (r r' : _) (s s' : _) → due-at.Post κs a r s → due-at.Post κs a r' s' → r ≡ r'
due-at-determined κs a r r' s s' p q = p ∙ sym q

pub kind-number-determined : (κs : _) (a : _) (r r' : _) (s s' : _) → kind-number.Post κs a r s → kind-number.Post κs a r' s' → r ≡ r'
kind-number-determined κs a r r' s s' p q = p ∙ sym q

pub start-determined : (κs : _) (a : _) (r r' : _) (s s' : _) → start.Post κs a r s → start.Post κs a r' s' → r ≡ r'
start-determined κs a r r' s s' p q = p ∙ sym q

pub step-line-determined : (κs : _) (a : _) (r r' : _) (s s' : _) → step_line.Post κs a r s → step_line.Post κs a r' s' → r ≡ r'
step-line-determined κs a r r' s s' p q = told_verdict-one r r' (p ∙ sym q)

pub keep-identifiers-determined : (κs : _) (a : _) (r r' : _) (s s' : _) → keep-identifiers.Post κs a r s → keep-identifiers.Post κs a r' s'
    → (r ≡ r') × (s.1.1.0.now ≡ s'.1.1.0.now)
keep-identifiers-determined κs a r r' s s' p q = (p.0 ∙ sym q.0, p.1 ∙ sym q.1)

pub mark-brought-determined : (κs : _) (a : _) (r r' : _) (s s' : _) → mark-brought.Post κs a r s → mark-brought.Post κs a r' s'
    → (r ≡ r') × (s.1.1.0.now ≡ s'.1.1.0.now)
mark-brought-determined κs a r r' s s' p q = (p.0 ∙ sym q.0, p.1 ∙ sym q.1)

pub mark-known-determined : (κs : _) (a : _) (r r' : _) (s s' : _) → mark-known.Post κs a r s → mark-known.Post κs a r' s'
    → (r ≡ r') × (s.1.1.1.0.now ≡ s'.1.1.1.0.now)
mark-known-determined κs a r r' s s' p q = (p.0 ∙ sym q.0, p.1 ∙ sym q.1)

pub line-known-determined : (κs : _) (a : _) (r r' : _) (s s' : _) → line-known.Post κs a r s → line-known.Post κs a r' s' → r ≡ r'
line-known-determined κs a r r' s s' p q = told_read-one r r' (p ∙ sym q)

pub read-line-determined : (κs : _) (a : _) (r r' : _) (s s' : _) → read-line.Post κs a r s → read-line.Post κs a r' s'
    → (r ≡ r') × (s.1.1.1.1.0.now ≡ s'.1.1.1.1.0.now)
read-line-determined κs a r r' s s' p q = (told_read-one r r' (p.0 ∙ sym q.0), p.1 ∙ sym q.1)
