-- Any two outcomes that a contract allows agree.
-- Assumes nothing.
use mathlib.Core.Path.{◌≡◌, refl, sym, ◌∙◌}
use native.Mathlib.Omega.{arith}
use Rattle.header.specs.Versions.{told_version}
use Rattle.header.specs.declared.types.Version.{Version}
use Rattle.header.specs.declared.types.Version.TheVariants as version
use Rattle.header.proofs.is_mode.Reads as mode
use Rattle.header.proofs.is_file_type.Reads as file
use Rattle.header.proofs.is_time_system.Reads as time
use Rattle.header.proofs.slot_lines.Reads as slots
use Rattle.header.proofs.making.texts_printable.Reads as texts
use Rattle.header.proofs.types.Rules.c.Reads as rules-c
use Rattle.header.proofs.types.Rules.d.Reads as rules-d
use Rattle.header.proofs.types.Rules.of.Reads as rules-of
use Rattle.header.proofs.types.Rules.told_by.Reads as told-by
use Rattle.header.proofs.types.Version.by.Reads as by
use Rattle.header.proofs.types.Header.bounds_hold.Reads as bounds
use Rattle.header.proofs.types.Header.of.Reads as made
use Rattle.header.proofs.types.Header.none.Reads as none
use Rattle.header.proofs.types.Header.new.Reads as new

pub is-mode-determined : (κs : _) (a : _) (r r' : _) (s s' : _) → mode.Post κs a r s → mode.Post κs a r' s' → r ≡ r'
is-mode-determined κs a r r' s s' p q = p ∙ sym q

pub is-file-type-determined : (κs : _) (a : _) (r r' : _) (s s' : _) → file.Post κs a r s → file.Post κs a r' s' → r ≡ r'
is-file-type-determined κs a r r' s s' p q = p ∙ sym q

pub is-time-system-determined : (κs : _) (a : _) (r r' : _) (s s' : _) → time.Post κs a r s → time.Post κs a r' s' → r ≡ r'
is-time-system-determined κs a r r' s s' p q = p ∙ sym q

pub slot-lines-determined : (κs : _) (a : _) (r r' : _) (s s' : _) → slots.Post κs a r s → slots.Post κs a r' s' → r ≡ r'
slot-lines-determined κs a r r' s s' p q = p ∙ sym q

pub texts-printable-determined : (κs : _) (a : _) (r r' : _) (s s' : _) → texts.Post κs a r s → texts.Post κs a r' s' → r ≡ r'
texts-printable-determined κs a r r' s s' p q = p ∙ sym q

pub rules-c-determined : (κs : _) (a : _) (r r' : _) (s s' : _) → rules-c.Post κs a r s → rules-c.Post κs a r' s' → r ≡ r'
rules-c-determined κs a r r' s s' p q = p ∙ sym q

pub rules-d-determined : (κs : _) (a : _) (r r' : _) (s s' : _) → rules-d.Post κs a r s → rules-d.Post κs a r' s' → r ≡ r'
rules-d-determined κs a r r' s s' p q = p ∙ sym q

pub rules-of-determined : (κs : _) (a : _) (r r' : _) (s s' : _) → rules-of.Post κs a r s → rules-of.Post κs a r' s' → r ≡ r'
rules-of-determined κs a r r' s s' p q = p ∙ sym q

pub rules-told-by-determined : (κs : _) (a : _) (r r' : _) (s s' : _) → told-by.Post κs a r s → told-by.Post κs a r' s' → r ≡ r'
rules-told-by-determined κs a r r' s s' p q = p ∙ sym q

-- a version is told by its letter alone
pub told_version-one : (v w : Version) → told_version v ≡ told_version w → v ≡ w
told_version-one version.C version.C e = refl
told_version-one version.C version.D e = absurd (omega arith)
told_version-one version.D version.C e = absurd (omega arith)
told_version-one version.D version.D e = refl

pub version-by-determined : (κs : _) (a : _) (r r' : _) (s s' : _) → by.Post κs a r s → by.Post κs a r' s' → r ≡ r'
version-by-determined κs a r r' s s' p q = told_version-one r r' (p ∙ sym q)

pub header-bounds-hold-determined : (κs : _) (a : _) (r r' : _) (s s' : _) → bounds.Post κs a r s → bounds.Post κs a r' s' → r ≡ r'
header-bounds-hold-determined κs a r r' s s' p q = p.0 ∙ sym q.0

pub header-of-determined : (κs : _) (a : _) (r r' : _) (s s' : _) → made.Post κs a r s → made.Post κs a r' s' → r ≡ r'
header-of-determined κs a r r' s s' p q = p ∙ sym q

pub header-none-determined : (κs : _) (a : _) (r r' : _) (s s' : _) → none.Post κs a r s → none.Post κs a r' s' → r ≡ r'
header-none-determined κs a r r' s s' p q = p ∙ sym q

pub header-new-determined : (κs : _) (a : _) (r r' : _) (s s' : _) → new.Post κs a r s → new.Post κs a r' s' → r ≡ r'
header-new-determined κs a r r' s s' p q = p ∙ sym q
