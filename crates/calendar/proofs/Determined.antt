-- Any two outcomes that a contract allows agree.
-- Assumes nothing.
use mathlib.Core.Path.{◌≡◌, sym, ◌∙◌}
use Rattle.calendar.proofs.Told.{told_date-one, told_named-one, told_instant-one, told_week-one, told_fraction-one}
use Rattle.calendar.proofs.date.Reads as date
use Rattle.calendar.proofs.civil.Reads as civil
use Rattle.calendar.proofs.instant.Reads as instant
use Rattle.calendar.proofs.clock_of.Reads as clock
use Rattle.calendar.proofs.week_of.Reads as week
use Rattle.calendar.proofs.fraction_agrees.Reads as fits
use Rattle.calendar.proofs.fraction_of.Reads as fraction

pub date-determined : (κs : _) (a : _) (r r' : _) (s s' : _) → date.Post κs a r s → date.Post κs a r' s' → r ≡ r'
date-determined κs a r r' s s' p q = told_date-one r r' (p ∙ sym q)

pub civil-determined : (κs : _) (a : _) (r r' : _) (s s' : _) → civil.Post κs a r s → civil.Post κs a r' s' → r ≡ r'
civil-determined κs a r r' s s' p q = told_named-one r r' (p ∙ sym q)

pub instant-determined : (κs : _) (a : _) (r r' : _) (s s' : _) → instant.Post κs a r s → instant.Post κs a r' s' → r ≡ r'
instant-determined κs a r r' s s' p q = told_instant-one r r' (p ∙ sym q)

pub clock-of-determined : (κs : _) (a : _) (r r' : _) (s s' : _) → clock.Post κs a r s → clock.Post κs a r' s' → r ≡ r'
clock-of-determined κs a r r' s s' p q = p ∙ sym q

pub week-of-determined : (κs : _) (a : _) (r r' : _) (s s' : _) → week.Post κs a r s → week.Post κs a r' s' → r ≡ r'
week-of-determined κs a r r' s s' p q = told_week-one r r' (p ∙ sym q)

pub fraction-agrees-determined : (κs : _) (a : _) (r r' : _) (s s' : _) → fits.Post κs a r s → fits.Post κs a r' s' → r ≡ r'
fraction-agrees-determined κs a r r' s s' p q = p ∙ sym q

pub fraction-of-determined : (κs : _) (a : _) (r r' : _) (s s' : _) → fraction.Post κs a r s → fraction.Post κs a r' s' → r ≡ r'
fraction-of-determined κs a r r' s s' p q = told_fraction-one r r' (p ∙ sym q)
