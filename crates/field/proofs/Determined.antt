-- Any two outcomes that a contract allows agree, in the result and in every lent place.
-- Assumes nothing.
use mathlib.Core.Path.{◌≡◌, sym, ◌∙◌}
use Rattle.field.proofs.Told.{told_whole-one, told_amount-one, told_exponent-one, told_number-one}
use Rattle.field.proofs.read.whole.Reads as whole
use Rattle.field.proofs.read.signed_whole.Reads as signed
use Rattle.field.proofs.read.exponent.Reads as exponent
use Rattle.field.proofs.read.decimal.Reads as decimal
use Rattle.field.proofs.read.clock.Reads as clock
use Rattle.field.proofs.known.figure.Reads as figure
use Rattle.field.proofs.known.magnitude.Reads as known-magnitude
use Rattle.field.proofs.known.is_negative.Reads as known-negative
use Rattle.field.proofs.known.clock_held.Reads as clock-held
use Rattle.field.proofs.write.fits_signed_whole.Reads as fits_signed
use Rattle.field.proofs.write.fits_whole.Reads as fits_whole
use Rattle.field.proofs.write.fits_decimal.Reads as fits-decimal
use Rattle.field.proofs.write.put_whole.Reads as put_whole
use Rattle.field.proofs.write.put_signed_whole.Reads as put-signed
use Rattle.field.proofs.write.put_exponent.Reads as put-exponent
use Rattle.field.proofs.write.put_decimal.Reads as put-decimal
use Rattle.field.proofs.sign.number.Reads as number
use Rattle.field.proofs.sign.is_negative.Reads as negative
use Rattle.field.proofs.sign.magnitude_of.Reads as magnitude

pub whole-determined : (κs : _) (a : _) (r r' : _) (s s' : _) → whole.Post κs a r s → whole.Post κs a r' s' → r ≡ r'
whole-determined κs a r r' s s' p q = told_whole-one r r' (p ∙ sym q)

pub signed-whole-determined : (κs : _) (a : _) (r r' : _) (s s' : _) → signed.Post κs a r s → signed.Post κs a r' s' → r ≡ r'
signed-whole-determined κs a r r' s s' p q = told_amount-one r r' (p ∙ sym q)

pub exponent-determined : (κs : _) (a : _) (r r' : _) (s s' : _) → exponent.Post κs a r s → exponent.Post κs a r' s' → r ≡ r'
exponent-determined κs a r r' s s' p q = told_exponent-one r r' (p ∙ sym q)

pub decimal-determined : (κs : _) (a : _) (r r' : _) (s s' : _) → decimal.Post κs a r s → decimal.Post κs a r' s' → r ≡ r'
decimal-determined κs a r r' s s' p q = told_amount-one r r' (p ∙ sym q)

pub clock-determined : (κs : _) (a : _) (r r' : _) (s s' : _) → clock.Post κs a r s → clock.Post κs a r' s' → r ≡ r'
clock-determined κs a r r' s s' p q = told_amount-one r r' (p ∙ sym q)

pub magnitude-determined : (κs : _) (a : _) (r r' : _) (s s' : _) → known-magnitude.Post κs a r s → known-magnitude.Post κs a r' s' → r ≡ r'
magnitude-determined κs a r r' s s' p q = p ∙ sym q

pub figure-determined : (κs : _) (a : _) (r r' : _) (s s' : _) → figure.Post κs a r s → figure.Post κs a r' s' → r ≡ r'
figure-determined κs a r r' s s' p q = p ∙ sym q

pub known-is-negative-determined : (κs : _) (a : _) (r r' : _) (s s' : _) → known-negative.Post κs a r s → known-negative.Post κs a r' s' → r ≡ r'
known-is-negative-determined κs a r r' s s' p q = p ∙ sym q

pub clock-held-determined : (κs : _) (a : _) (r r' : _) (s s' : _) → clock-held.Post κs a r s → clock-held.Post κs a r' s' → r ≡ r'
clock-held-determined κs a r r' s s' p q = p ∙ sym q

pub fits-signed-whole-determined : (κs : _) (a : _) (r r' : _) (s s' : _) → fits_signed.Post κs a r s → fits_signed.Post κs a r' s' → r ≡ r'
fits-signed-whole-determined κs a r r' s s' p q = p ∙ sym q

pub fits-whole-determined : (κs : _) (a : _) (r r' : _) (s s' : _) → fits_whole.Post κs a r s → fits_whole.Post κs a r' s' → r ≡ r'
fits-whole-determined κs a r r' s s' p q = p ∙ sym q

pub fits-decimal-determined : (κs : _) (a : _) (r r' : _) (s s' : _) → fits-decimal.Post κs a r s → fits-decimal.Post κs a r' s' → r ≡ r'
fits-decimal-determined κs a r r' s s' p q = p ∙ sym q

pub put-whole-determined : (κs : _) (a : _) (r r' : _) (s s' : _) → put_whole.Post κs a r s → put_whole.Post κs a r' s' → (r ≡ r') × (s.0.now ≡ s'.0.now)
put-whole-determined κs a r r' s s' p q = (p.0 ∙ sym q.0, p.1 ∙ sym q.1)

pub put-signed-whole-determined : (κs : _) (a : _) (r r' : _) (s s' : _) → put-signed.Post κs a r s → put-signed.Post κs a r' s' → (r ≡ r') × (s.0.now ≡ s'.0.now)
put-signed-whole-determined κs a r r' s s' p q = (p.0 ∙ sym q.0, p.1 ∙ sym q.1)

pub put-exponent-determined : (κs : _) (a : _) (r r' : _) (s s' : _) → put-exponent.Post κs a r s → put-exponent.Post κs a r' s' → (r ≡ r') × (s.0.now ≡ s'.0.now)
put-exponent-determined κs a r r' s s' p q = (p.0 ∙ sym q.0, p.1 ∙ sym q.1)

pub put-decimal-determined : (κs : _) (a : _) (r r' : _) (s s' : _) → put-decimal.Post κs a r s → put-decimal.Post κs a r' s' → (r ≡ r') × (s.0.now ≡ s'.0.now)
put-decimal-determined κs a r r' s s' p q = (p.0 ∙ sym q.0, p.1 ∙ sym q.1)

pub number-determined : (κs : _) (a : _) (r r' : _) (s s' : _) → number.Post κs a r s → number.Post κs a r' s' → r ≡ r'
number-determined κs a r r' s s' p q = told_number-one r r' (p ∙ sym q)

pub is-negative-determined : (κs : _) (a : _) (r r' : _) (s s' : _) → negative.Post κs a r s → negative.Post κs a r' s' → r ≡ r'
is-negative-determined κs a r r' s s' p q = p ∙ sym q

pub magnitude-of-determined : (κs : _) (a : _) (r r' : _) (s s' : _) → magnitude.Post κs a r s → magnitude.Post κs a r' s' → r ≡ r'
magnitude-of-determined κs a r r' s s' p q = p ∙ sym q
