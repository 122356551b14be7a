-- Any two outcomes that a contract allows agree, in the result and in every lent place.
-- Assumes nothing.
use mathlib.Core.Path.{◌≡◌, refl, sym, ap, ◌∙◌}
use mathlib.Core.List.{List, [], ◌∷◌}
use Prim.Native.Nat.{ℕ}
use lib.ListN.{get_or}
use Rattle.record.specs.LineKinds.{told_kind}
use Rattle.record.specs.declared.types.LineKind.{LineKind}
use Rattle.record.specs.declared.types.LineKind.TheVariants as kind
use Rattle.record.proofs.absence.place_absent.Reads as place-absent
use Rattle.record.proofs.absence.clock_absent.Reads as clock-absent
use Rattle.record.proofs.absence.is_unknown.Reads as is-unknown
use Rattle.record.proofs.absence.is_too_large.Reads as is-too-large
use Rattle.record.proofs.kind.kinds_hold.Reads as kinds-hold
use Rattle.record.proofs.rows.widths_hold.Reads as widths-hold
use Rattle.record.proofs.kind.kind_of.Reads as kind-of
use Rattle.record.proofs.kind.kind_by.Reads as kind-by
use Rattle.record.proofs.opening.read_first.Reads as read_first
use Rattle.record.proofs.opening.read_second.Reads as read-second
use Rattle.record.proofs.opening.read_epoch.Reads as read-epoch
use Rattle.record.proofs.slots.read_satellites.Reads as read-satellites
use Rattle.record.proofs.slots.read_slots.Reads as read-slots
use Rattle.record.proofs.descriptors.read_descriptor.Reads as read-descriptor
use Rattle.record.proofs.descriptors.characters_fault.Reads as characters-fault
use Rattle.record.proofs.descriptors.read_bases.Reads as read-bases
use Rattle.record.proofs.descriptors.floats_fault.Reads as floats-fault
use Rattle.record.proofs.descriptors.integers_fault.Reads as integers-fault
use Rattle.record.proofs.plain.comment_fault.Reads as comment-fault
use Rattle.record.proofs.notes.correlation_fault.Reads as correlation-fault
use Rattle.record.proofs.plain.end_fault.Reads as end-fault
use Rattle.record.proofs.rows.row_fault.Reads as row-fault
use Rattle.record.proofs.rows.row_of.Reads as row_of
use Rattle.record.proofs.notes.note_of.Reads as note-of
use Rattle.record.proofs.rows.satellite_in.Reads as satellite-in

-- the kinds in the order of their numbers
abbrev kinds : List LineKind
kinds =
    kind.Other
    ∷ kind.First
    ∷ kind.Second
    ∷ kind.Satellites
    ∷ kind.Accuracies
    ∷ kind.Characters
    ∷ kind.Floats
    ∷ kind.Integers
    ∷ kind.Comment
    ∷ kind.Epoch
    ∷ kind.Position
    ∷ kind.Velocity
    ∷ kind.PositionCorrelation
    ∷ kind.VelocityCorrelation
    ∷ kind.EndOfFile
    ∷ []

-- the kind of a number
abbrev kind_at : ℕ → LineKind
kind_at n = get_or kinds n kind.Other

kind-back : (a : LineKind) → kind_at (told_kind a) ≡ a
kind-back kind.Other = refl
kind-back kind.First = refl
kind-back kind.Second = refl
kind-back kind.Satellites = refl
kind-back kind.Accuracies = refl
kind-back kind.Characters = refl
kind-back kind.Floats = refl
kind-back kind.Integers = refl
kind-back kind.Comment = refl
kind-back kind.Epoch = refl
kind-back kind.Position = refl
kind-back kind.Velocity = refl
kind-back kind.PositionCorrelation = refl
kind-back kind.VelocityCorrelation = refl
kind-back kind.EndOfFile = refl

pub told_kind-one : (a b : LineKind) → told_kind a ≡ told_kind b → a ≡ b
told_kind-one a b e = sym (kind-back a) ∙ (ap kind_at e ∙ kind-back b)

pub kind-of-determined : (κs : _) (a : _) (r r' : _) (s s' : _) → kind-of.Post κs a r s → kind-of.Post κs a r' s' → r ≡ r'
kind-of-determined κs a r r' s s' p q = told_kind-one r r' (p ∙ sym q)

pub read-first-determined : (κs : _) (a : _) (r r' : _) (s s' : _) → read_first.Post κs a r s → read_first.Post κs a r' s' → r ≡ r'
read-first-determined κs a r r' s s' p q = p ∙ sym q

pub read-second-determined : (κs : _) (a : _) (r r' : _) (s s' : _) → read-second.Post κs a r s → read-second.Post κs a r' s' → r ≡ r'
read-second-determined κs a r r' s s' p q = p ∙ sym q

pub read-epoch-determined : (κs : _) (a : _) (r r' : _) (s s' : _) → read-epoch.Post κs a r s → read-epoch.Post κs a r' s' → r ≡ r'
read-epoch-determined κs a r r' s s' p q = p ∙ sym q

pub read-satellites-determined : (κs : _) (a : _) (r r' : _) (s s' : _) → read-satellites.Post κs a r s → read-satellites.Post κs a r' s' → r ≡ r'
read-satellites-determined κs a r r' s s' p q = p ∙ sym q

pub read-slots-determined : (κs : _) (a : _) (r r' : _) (s s' : _) → read-slots.Post κs a r s → read-slots.Post κs a r' s' → r ≡ r'
read-slots-determined κs a r r' s s' p q = p ∙ sym q

pub read-descriptor-determined : (κs : _) (a : _) (r r' : _) (s s' : _) → read-descriptor.Post κs a r s → read-descriptor.Post κs a r' s' → r ≡ r'
read-descriptor-determined κs a r r' s s' p q = p ∙ sym q

pub characters-fault-determined : (κs : _) (a : _) (r r' : _) (s s' : _) → characters-fault.Post κs a r s → characters-fault.Post κs a r' s' → r ≡ r'
characters-fault-determined κs a r r' s s' p q = p ∙ sym q

pub read-bases-determined : (κs : _) (a : _) (r r' : _) (s s' : _) → read-bases.Post κs a r s → read-bases.Post κs a r' s' → r ≡ r'
read-bases-determined κs a r r' s s' p q = p ∙ sym q

pub floats-fault-determined : (κs : _) (a : _) (r r' : _) (s s' : _) → floats-fault.Post κs a r s → floats-fault.Post κs a r' s' → r ≡ r'
floats-fault-determined κs a r r' s s' p q = p ∙ sym q

pub integers-fault-determined : (κs : _) (a : _) (r r' : _) (s s' : _) → integers-fault.Post κs a r s → integers-fault.Post κs a r' s' → r ≡ r'
integers-fault-determined κs a r r' s s' p q = p ∙ sym q

pub comment-fault-determined : (κs : _) (a : _) (r r' : _) (s s' : _) → comment-fault.Post κs a r s → comment-fault.Post κs a r' s' → r ≡ r'
comment-fault-determined κs a r r' s s' p q = p ∙ sym q

pub correlation-fault-determined : (κs : _) (a : _) (r r' : _) (s s' : _) → correlation-fault.Post κs a r s → correlation-fault.Post κs a r' s' → r ≡ r'
correlation-fault-determined κs a r r' s s' p q = p ∙ sym q

pub end-fault-determined : (κs : _) (a : _) (r r' : _) (s s' : _) → end-fault.Post κs a r s → end-fault.Post κs a r' s' → r ≡ r'
end-fault-determined κs a r r' s s' p q = p ∙ sym q

pub row-fault-determined : (κs : _) (a : _) (r r' : _) (s s' : _) → row-fault.Post κs a r s → row-fault.Post κs a r' s' → r ≡ r'
row-fault-determined κs a r r' s s' p q = p ∙ sym q

pub row-of-determined : (κs : _) (a : _) (r r' : _) (s s' : _) → row_of.Post κs a r s → row_of.Post κs a r' s' → r ≡ r'
row-of-determined κs a r r' s s' p q = p ∙ sym q

pub note-of-determined : (κs : _) (a : _) (r r' : _) (s s' : _) → note-of.Post κs a r s → note-of.Post κs a r' s' → r ≡ r'
note-of-determined κs a r r' s s' p q = p ∙ sym q

pub place-absent-determined : (κs : _) (a : _) (r r' : _) (s s' : _) → place-absent.Post κs a r s → place-absent.Post κs a r' s' → r ≡ r'
place-absent-determined κs a r r' s s' p q = p ∙ sym q

pub clock-absent-determined : (κs : _) (a : _) (r r' : _) (s s' : _) → clock-absent.Post κs a r s → clock-absent.Post κs a r' s' → r ≡ r'
clock-absent-determined κs a r r' s s' p q = p ∙ sym q

pub is-unknown-determined : (κs : _) (a : _) (r r' : _) (s s' : _) → is-unknown.Post κs a r s → is-unknown.Post κs a r' s' → r ≡ r'
is-unknown-determined κs a r r' s s' p q = p ∙ sym q

pub is-too-large-determined : (κs : _) (a : _) (r r' : _) (s s' : _) → is-too-large.Post κs a r s → is-too-large.Post κs a r' s' → r ≡ r'
is-too-large-determined κs a r r' s s' p q = p ∙ sym q

pub satellite-in-determined : (κs : _) (a : _) (r r' : _) (s s' : _) → satellite-in.Post κs a r s → satellite-in.Post κs a r' s' → r ≡ r'
satellite-in-determined κs a r r' s s' p q = p ∙ sym q

pub kind-by-determined : (κs : _) (a : _) (r r' : _) (s s' : _) → kind-by.Post κs a r s → kind-by.Post κs a r' s' → r ≡ r'
kind-by-determined κs a r r' s s' p q = told_kind-one r r' (p ∙ sym q)

pub kinds-hold-determined : (κs : _) (a : _) (r r' : _) (s s' : _) → kinds-hold.Post κs a r s → kinds-hold.Post κs a r' s' → r ≡ r'
kinds-hold-determined κs a r r' s s' p q = p.0 ∙ sym q.0

pub widths-hold-determined : (κs : _) (a : _) (r r' : _) (s s' : _) → widths-hold.Post κs a r s → widths-hold.Post κs a r' s' → r ≡ r'
widths-hold-determined κs a r r' s s' p q = p.0 ∙ sym q.0
