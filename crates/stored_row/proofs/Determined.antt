-- Any two outcomes that a contract allows agree.
-- Assumes nothing.
use mathlib.Core.Path.{◌≡◌, sym, ◌∙◌}
use Rattle.stored_row.proofs.Told.{told_place-one, told_clock-one, told_exponent_read-one, told_flag-one, told_note-one, told_note_deviation-one, told_note_correlation-one}
use Rattle.stored_row.proofs.rows.stored_number.Reads as stored-number
use Rattle.stored_row.proofs.rows.place_of.Reads as place_of
use Rattle.stored_row.proofs.rows.clock_of.Reads as clock-of
use Rattle.stored_row.proofs.rows.exponent_of.Reads as exponent-of
use Rattle.stored_row.proofs.rows.flag_of.Reads as flag-of
use Rattle.stored_row.proofs.notes.note_of.Reads as note-of
use Rattle.stored_row.proofs.notes.note_deviation_of.Reads as note-deviation-of
use Rattle.stored_row.proofs.notes.note_correlation_of.Reads as note-correlation-of

pub stored-number-determined : (κs : _) (a : _) (r r' : _) (s s' : _) → stored-number.Post κs a r s → stored-number.Post κs a r' s' → r ≡ r'
stored-number-determined κs a r r' s s' p q = p ∙ sym q

pub place-of-determined : (κs : _) (a : _) (r r' : _) (s s' : _) → place_of.Post κs a r s → place_of.Post κs a r' s' → r ≡ r'
place-of-determined κs a r r' s s' p q = told_place-one r r' (p ∙ sym q)

pub clock-of-determined : (κs : _) (a : _) (r r' : _) (s s' : _) → clock-of.Post κs a r s → clock-of.Post κs a r' s' → r ≡ r'
clock-of-determined κs a r r' s s' p q = told_clock-one r r' (p ∙ sym q)

pub exponent-of-determined : (κs : _) (a : _) (r r' : _) (s s' : _) → exponent-of.Post κs a r s → exponent-of.Post κs a r' s' → r ≡ r'
exponent-of-determined κs a r r' s s' p q = told_exponent_read-one r r' (p ∙ sym q)

pub flag-of-determined : (κs : _) (a : _) (r r' : _) (s s' : _) → flag-of.Post κs a r s → flag-of.Post κs a r' s' → r ≡ r'
flag-of-determined κs a r r' s s' p q = told_flag-one r r' (p ∙ sym q)

pub note-of-determined : (κs : _) (a : _) (r r' : _) (s s' : _) → note-of.Post κs a r s → note-of.Post κs a r' s' → r ≡ r'
note-of-determined κs a r r' s s' p q = told_note-one r r' (p ∙ sym q)

pub note-deviation-of-determined : (κs : _) (a : _) (r r' : _) (s s' : _) → note-deviation-of.Post κs a r s → note-deviation-of.Post κs a r' s' → r ≡ r'
note-deviation-of-determined κs a r r' s s' p q = told_note_deviation-one r r' (p ∙ sym q)

pub note-correlation-of-determined : (κs : _) (a : _) (r r' : _) (s s' : _) → note-correlation-of.Post κs a r s → note-correlation-of.Post κs a r' s' → r ≡ r'
note-correlation-of-determined κs a r r' s s' p q = told_note_correlation-one r r' (p ∙ sym q)
