-- Any two outcomes that the contract of an export allows agree, in the answer and in every lent place: the export promises what the door of its name
-- promises, so the theorem of the door is that of the export.
-- Assumes nothing.
use mathlib.Core.Path.{◌≡◌}
use Rattle.sp3.proofs.Determined as doors
use Rattle.sp3_c.proofs.reading.sp3_judge.Reads as sp3-judge
use Rattle.sp3_c.proofs.reading.sp3_judge_front.Reads as sp3-judge-front
use Rattle.sp3_c.proofs.reading.sp3_read.Reads as sp3-read
use Rattle.sp3_c.proofs.reading.sp3_read_front.Reads as sp3-read-front
use Rattle.sp3_c.proofs.reading.sp3_write.Reads as sp3-write
use Rattle.sp3_c.proofs.reading.sp3_form_length.Reads as sp3-form-length
use Rattle.sp3_c.proofs.reading.sp3_write_c.Reads as sp3-write-c
use Rattle.sp3_c.proofs.reading.sp3_form_length_c.Reads as sp3-form-length-c
use Rattle.sp3_c.proofs.reading.sp3_divide.Reads as sp3-divide
use Rattle.sp3_c.proofs.asking.sp3_comment.Reads as sp3-comment
use Rattle.sp3_c.proofs.asking.sp3_identifier.Reads as sp3-identifier
use Rattle.sp3_c.proofs.asking.sp3_satellite_of.Reads as sp3-satellite-of
use Rattle.sp3_c.proofs.asking.sp3_row.Reads as sp3-row
use Rattle.sp3_c.proofs.asking.sp3_date.Reads as sp3-date
use Rattle.sp3_c.proofs.asking.sp3_moment.Reads as sp3-moment
use Rattle.sp3_c.proofs.asking.sp3_header.Reads as sp3-header
use Rattle.sp3_c.proofs.lists.sp3_place_of.Reads as sp3-place-of
use Rattle.sp3_c.proofs.lists.sp3_clock_of.Reads as sp3-clock-of
use Rattle.sp3_c.proofs.lists.sp3_exponent_of.Reads as sp3-exponent-of
use Rattle.sp3_c.proofs.lists.sp3_flag_of.Reads as sp3-flag-of
use Rattle.sp3_c.proofs.lists.sp3_note_of.Reads as sp3-note-of
use Rattle.sp3_c.proofs.lists.sp3_note_deviation_of.Reads as sp3-note-deviation-of
use Rattle.sp3_c.proofs.lists.sp3_note_correlation_of.Reads as sp3-note-correlation-of
use Rattle.sp3_c.proofs.walking.sp3_first_spot.Reads as sp3-first-spot
use Rattle.sp3_c.proofs.walking.sp3_read_line.Reads as sp3-read-line
use Rattle.sp3_c.proofs.walking.sp3_due.Reads as sp3-due
use Rattle.sp3_c.proofs.walking.sp3_next_line.Reads as sp3-next-line
use Rattle.sp3_c.proofs.walking.sp3_after_lines.Reads as sp3-after-lines
use Rattle.sp3_c.proofs.walking.sp3_begin.Reads as sp3-begin
use Rattle.sp3_c.proofs.walking.sp3_first_row.Reads as sp3-first-row
use Rattle.sp3_c.proofs.walking.sp3_next_row.Reads as sp3-next-row

pub sp3-judge-determined : (κs : _) (a : _) (r r' : _) (s s' : _) → sp3-judge.Post κs a r s → sp3-judge.Post κs a r' s' → r ≡ r'
sp3-judge-determined = doors.sp3-judge-determined

pub sp3-judge-front-determined : (κs : _) (a : _) (r r' : _) (s s' : _) → sp3-judge-front.Post κs a r s → sp3-judge-front.Post κs a r' s' → r ≡ r'
sp3-judge-front-determined = doors.sp3-judge-front-determined

pub sp3-read-determined : (κs : _) (a : _) (r r' : _) (s s' : _) → sp3-read.Post κs a r s → sp3-read.Post κs a r' s'
    → (r ≡ r') × (s.1.0.now ≡ s'.1.0.now) × (s.1.1.0.now ≡ s'.1.1.0.now) × (s.1.1.1.0.now ≡ s'.1.1.1.0.now) × (s.1.1.1.1.0.now ≡ s'.1.1.1.1.0.now)
sp3-read-determined = doors.sp3-read-determined

pub sp3-read-front-determined : (κs : _) (a : _) (r r' : _) (s s' : _) → sp3-read-front.Post κs a r s → sp3-read-front.Post κs a r' s'
    → (r ≡ r') × (s.1.0.now ≡ s'.1.0.now) × (s.1.1.0.now ≡ s'.1.1.0.now) × (s.1.1.1.0.now ≡ s'.1.1.1.0.now) × (s.1.1.1.1.0.now ≡ s'.1.1.1.1.0.now)
sp3-read-front-determined = doors.sp3-read-front-determined

pub sp3-write-determined : (κs : _) (a : _) (r r' : _) (s s' : _) → sp3-write.Post κs a r s → sp3-write.Post κs a r' s'
    → (r ≡ r') × (s.1.1.1.1.1.0.now ≡ s'.1.1.1.1.1.0.now)
sp3-write-determined = doors.sp3-write-determined

pub sp3-write-c-determined : (κs : _) (a : _) (r r' : _) (s s' : _) → sp3-write-c.Post κs a r s → sp3-write-c.Post κs a r' s'
    → (r ≡ r') × (s.1.1.1.1.1.0.now ≡ s'.1.1.1.1.1.0.now)
sp3-write-c-determined = doors.sp3-write-c-determined

pub sp3-divide-determined : (κs : _) (a : _) (r r' : _) (s s' : _) → sp3-divide.Post κs a r s → sp3-divide.Post κs a r' s'
    → (r ≡ r') × (s.1.0.now ≡ s'.1.0.now)
sp3-divide-determined = doors.sp3-divide-determined

pub sp3-comment-determined : (κs : _) (a : _) (r r' : _) (s s' : _) → sp3-comment.Post κs a r s → sp3-comment.Post κs a r' s' → r ≡ r'
sp3-comment-determined = doors.sp3-comment-determined

pub sp3-identifier-determined : (κs : _) (a : _) (r r' : _) (s s' : _) → sp3-identifier.Post κs a r s → sp3-identifier.Post κs a r' s' → r ≡ r'
sp3-identifier-determined = doors.sp3-identifier-determined

pub sp3-satellite-of-determined : (κs : _) (a : _) (r r' : _) (s s' : _) → sp3-satellite-of.Post κs a r s → sp3-satellite-of.Post κs a r' s' → r ≡ r'
sp3-satellite-of-determined = doors.sp3-satellite-of-determined

pub sp3-row-determined : (κs : _) (a : _) (r r' : _) (s s' : _) → sp3-row.Post κs a r s → sp3-row.Post κs a r' s' → r ≡ r'
sp3-row-determined = doors.sp3-row-determined

pub sp3-date-determined : (κs : _) (a : _) (r r' : _) (s s' : _) → sp3-date.Post κs a r s → sp3-date.Post κs a r' s' → r ≡ r'
sp3-date-determined = doors.sp3-date-determined

pub sp3-moment-determined : (κs : _) (a : _) (r r' : _) (s s' : _) → sp3-moment.Post κs a r s → sp3-moment.Post κs a r' s' → r ≡ r'
sp3-moment-determined = doors.sp3-moment-determined

pub sp3-header-determined : (κs : _) (a : _) (r r' : _) (s s' : _) → sp3-header.Post κs a r s → sp3-header.Post κs a r' s' → r ≡ r'
sp3-header-determined = doors.sp3-header-determined

pub sp3-place-of-determined : (κs : _) (a : _) (r r' : _) (s s' : _) → sp3-place-of.Post κs a r s → sp3-place-of.Post κs a r' s' → r ≡ r'
sp3-place-of-determined = doors.sp3-place-of-determined

pub sp3-clock-of-determined : (κs : _) (a : _) (r r' : _) (s s' : _) → sp3-clock-of.Post κs a r s → sp3-clock-of.Post κs a r' s' → r ≡ r'
sp3-clock-of-determined = doors.sp3-clock-of-determined

pub sp3-exponent-of-determined : (κs : _) (a : _) (r r' : _) (s s' : _) → sp3-exponent-of.Post κs a r s → sp3-exponent-of.Post κs a r' s' → r ≡ r'
sp3-exponent-of-determined = doors.sp3-exponent-of-determined

pub sp3-flag-of-determined : (κs : _) (a : _) (r r' : _) (s s' : _) → sp3-flag-of.Post κs a r s → sp3-flag-of.Post κs a r' s' → r ≡ r'
sp3-flag-of-determined = doors.sp3-flag-of-determined

pub sp3-note-of-determined : (κs : _) (a : _) (r r' : _) (s s' : _) → sp3-note-of.Post κs a r s → sp3-note-of.Post κs a r' s' → r ≡ r'
sp3-note-of-determined = doors.sp3-note-of-determined

pub sp3-note-deviation-of-determined : (κs : _) (a : _) (r r' : _) (s s' : _) → sp3-note-deviation-of.Post κs a r s → sp3-note-deviation-of.Post κs a r' s' → r ≡ r'
sp3-note-deviation-of-determined = doors.sp3-note-deviation-of-determined

pub sp3-note-correlation-of-determined : (κs : _) (a : _) (r r' : _) (s s' : _) → sp3-note-correlation-of.Post κs a r s → sp3-note-correlation-of.Post κs a r' s' → r ≡ r'
sp3-note-correlation-of-determined = doors.sp3-note-correlation-of-determined

pub sp3-first-spot-determined : (κs : _) (a : _) (r r' : _) (s s' : _) → sp3-first-spot.Post κs a r s → sp3-first-spot.Post κs a r' s' → r ≡ r'
sp3-first-spot-determined = doors.sp3-first-spot-determined

pub sp3-read-line-determined : (κs : _) (a : _) (r r' : _) (s s' : _) → sp3-read-line.Post κs a r s → sp3-read-line.Post κs a r' s'
    → (r ≡ r') × (s.1.1.0.now ≡ s'.1.1.0.now)
sp3-read-line-determined = doors.sp3-read-line-determined

pub sp3-due-determined : (κs : _) (a : _) (r r' : _) (s s' : _) → sp3-due.Post κs a r s → sp3-due.Post κs a r' s' → r ≡ r'
sp3-due-determined = doors.sp3-due-determined

pub sp3-next-line-determined : (κs : _) (a : _) (r r' : _) (s s' : _) → sp3-next-line.Post κs a r s → sp3-next-line.Post κs a r' s' → r ≡ r'
sp3-next-line-determined = doors.sp3-next-line-determined

pub sp3-after-lines-determined : (κs : _) (a : _) (r r' : _) (s s' : _) → sp3-after-lines.Post κs a r s → sp3-after-lines.Post κs a r' s'
    → (r ≡ r') × (s.1.0.now ≡ s'.1.0.now)
sp3-after-lines-determined = doors.sp3-after-lines-determined

pub sp3-begin-determined : (κs : _) (a : _) (r r' : _) (s s' : _) → sp3-begin.Post κs a r s → sp3-begin.Post κs a r' s'
    → (r ≡ r') × (s.1.0.now ≡ s'.1.0.now)
sp3-begin-determined = doors.sp3-begin-determined

pub sp3-first-row-determined : (κs : _) (a : _) (r r' : _) (s s' : _) → sp3-first-row.Post κs a r s → sp3-first-row.Post κs a r' s' → r ≡ r'
sp3-first-row-determined = doors.sp3-first-row-determined

pub sp3-next-row-determined : (κs : _) (a : _) (r r' : _) (s s' : _) → sp3-next-row.Post κs a r s → sp3-next-row.Post κs a r' s' → r ≡ r'
sp3-next-row-determined = doors.sp3-next-row-determined

pub sp3-form-length-determined : (κs : _) (a : _) (r r' : _) (s s' : _) → sp3-form-length.Post κs a r s → sp3-form-length.Post κs a r' s' → r ≡ r'
sp3-form-length-determined = doors.sp3-form-length-determined

pub sp3-form-length-c-determined : (κs : _) (a : _) (r r' : _) (s s' : _) → sp3-form-length-c.Post κs a r s → sp3-form-length-c.Post κs a r' s' → r ≡ r'
sp3-form-length-c-determined = doors.sp3-form-length-c-determined
