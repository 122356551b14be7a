-- Any two outcomes that a writer's contract allows agree, in the length and in the lent output: what is laid for a line is one thing.
-- Assumes nothing.
use mathlib.Core.Path.{◌≡◌}
use Rattle.layout.proofs.Determined.{lays_one}
use Rattle.draw.proofs.opening.write_first.Reads as write-first
use Rattle.draw.proofs.opening.write_second.Reads as write-second
use Rattle.draw.proofs.opening.write_epoch.Reads as write-epoch
use Rattle.draw.proofs.slots.write_satellites.Reads as write-satellites
use Rattle.draw.proofs.slots.write_slots.Reads as write-slots
use Rattle.draw.proofs.descriptors.write_descriptor.Reads as write-descriptor
use Rattle.draw.proofs.descriptors.write_characters.Reads as write-characters
use Rattle.draw.proofs.descriptors.write_bases.Reads as write-bases
use Rattle.draw.proofs.descriptors.write_floats.Reads as write-floats
use Rattle.draw.proofs.descriptors.write_integers.Reads as write-integers
use Rattle.draw.proofs.plain.write_comment.Reads as write-comment
use Rattle.draw.proofs.plain.write_end.Reads as write-end
use Rattle.draw.proofs.rows.write_row.Reads as write-row
use Rattle.draw.proofs.notes.write_note.Reads as write-note

pub write-first-determined : (κs : _) (a : _) (r r' : _) (s s' : _) → write-first.Post κs a r s → write-first.Post κs a r' s' → (r ≡ r') × (s.1.1.0.now ≡ s'.1.1.0.now)
write-first-determined κs a r r' s s' p q = lays_one _ _ r r' _ _ p q

pub write-second-determined : (κs : _) (a : _) (r r' : _) (s s' : _) → write-second.Post κs a r s → write-second.Post κs a r' s' → (r ≡ r') × (s.1.0.now ≡ s'.1.0.now)
write-second-determined κs a r r' s s' p q = lays_one _ _ r r' _ _ p q

pub write-epoch-determined : (κs : _) (a : _) (r r' : _) (s s' : _) → write-epoch.Post κs a r s → write-epoch.Post κs a r' s' → (r ≡ r') × (s.1.0.now ≡ s'.1.0.now)
write-epoch-determined κs a r r' s s' p q = lays_one _ _ r r' _ _ p q

pub write-satellites-determined : (κs : _) (a : _) (r r' : _) (s s' : _) → write-satellites.Post κs a r s → write-satellites.Post κs a r' s' → (r ≡ r') × (s.1.1.0.now ≡ s'.1.1.0.now)
write-satellites-determined κs a r r' s s' p q = lays_one _ _ r r' _ _ p q

pub write-slots-determined : (κs : _) (a : _) (r r' : _) (s s' : _) → write-slots.Post κs a r s → write-slots.Post κs a r' s' → (r ≡ r') × (s.1.1.1.0.now ≡ s'.1.1.1.0.now)
write-slots-determined κs a r r' s s' p q = lays_one _ _ r r' _ _ p q

pub write-descriptor-determined : (κs : _) (a : _) (r r' : _) (s s' : _) → write-descriptor.Post κs a r s → write-descriptor.Post κs a r' s' → (r ≡ r') × (s.1.0.now ≡ s'.1.0.now)
write-descriptor-determined κs a r r' s s' p q = lays_one _ _ r r' _ _ p q

pub write-characters-determined : (κs : _) (a : _) (r r' : _) (s s' : _) → write-characters.Post κs a r s → write-characters.Post κs a r' s' → (r ≡ r') × (s.0.now ≡ s'.0.now)
write-characters-determined κs a r r' s s' p q = lays_one _ _ r r' _ _ p q

pub write-bases-determined : (κs : _) (a : _) (r r' : _) (s s' : _) → write-bases.Post κs a r s → write-bases.Post κs a r' s' → (r ≡ r') × (s.1.0.now ≡ s'.1.0.now)
write-bases-determined κs a r r' s s' p q = lays_one _ _ r r' _ _ p q

pub write-floats-determined : (κs : _) (a : _) (r r' : _) (s s' : _) → write-floats.Post κs a r s → write-floats.Post κs a r' s' → (r ≡ r') × (s.0.now ≡ s'.0.now)
write-floats-determined κs a r r' s s' p q = lays_one _ _ r r' _ _ p q

pub write-integers-determined : (κs : _) (a : _) (r r' : _) (s s' : _) → write-integers.Post κs a r s → write-integers.Post κs a r' s' → (r ≡ r') × (s.0.now ≡ s'.0.now)
write-integers-determined κs a r r' s s' p q = lays_one _ _ r r' _ _ p q

pub write-comment-determined : (κs : _) (a : _) (r r' : _) (s s' : _) → write-comment.Post κs a r s → write-comment.Post κs a r' s' → (r ≡ r') × (s.1.0.now ≡ s'.1.0.now)
write-comment-determined κs a r r' s s' p q = lays_one _ _ r r' _ _ p q

pub write-end-determined : (κs : _) (a : _) (r r' : _) (s s' : _) → write-end.Post κs a r s → write-end.Post κs a r' s' → (r ≡ r') × (s.0.now ≡ s'.0.now)
write-end-determined κs a r r' s s' p q = lays_one _ _ r r' _ _ p q

pub write-row-determined : (κs : _) (a : _) (r r' : _) (s s' : _) → write-row.Post κs a r s → write-row.Post κs a r' s' → (r ≡ r') × (s.1.1.0.now ≡ s'.1.1.0.now)
write-row-determined κs a r r' s s' p q = lays_one _ _ r r' _ _ p q

pub write-note-determined : (κs : _) (a : _) (r r' : _) (s s' : _) → write-note.Post κs a r s → write-note.Post κs a r' s' → (r ≡ r') × (s.1.1.0.now ≡ s'.1.1.0.now)
write-note-determined κs a r r' s s' p q = lays_one _ _ r r' _ _ p q
