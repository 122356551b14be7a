-- Any two outcomes that a contract allows agree, in the result, and of a line that is handed back in every byte and in its address.
-- Assumes nothing.
use mathlib.Core.Path.{◌≡◌, sym, ap, ◌∙◌}
use mathlib.Core.List.{List}
use Prim.Native.Nat.{ℕ}
use denote.Ref.{Bor}
use Rattle.laws.specs.Places.{Same}
use Rattle.file.specs.declared.complete.CompleteLines.{CompleteLines}
use Rattle.file.proofs.kind_in.Reads as kind-in
use Rattle.file.proofs.line_begins.Reads as line-begins
use Rattle.file.proofs.nothing_at.Reads as nothing-at
use Rattle.file.proofs.line_at.Reads as line-at
use Rattle.file.proofs.line_of.Reads as line-of
use Rattle.file.proofs.records.padded_line.Reads as padded-line
use Rattle.file.proofs.records.first_of.Reads as first_of
use Rattle.file.proofs.records.count_of.Reads as count_of
use Rattle.file.proofs.complete.complete_lines.Reads as complete-lines

pub kind-in-determined : (κs : _) (a : _) (r r' : _) (s s' : _) → kind-in.Post κs a r s → kind-in.Post κs a r' s' → r ≡ r'
kind-in-determined κs a r r' s s' p q = p ∙ sym q

pub line-begins-determined : (κs : _) (a : _) (r r' : _) (s s' : _) → line-begins.Post κs a r s → line-begins.Post κs a r' s' → r ≡ r'
line-begins-determined κs a r r' s s' p q = p ∙ sym q

pub nothing-at-determined : (κs : _) (a : _) (r r' : _) (s s' : _) → nothing-at.Post κs a r s → nothing-at.Post κs a r' s' → Same r r'
nothing-at-determined κs a r r' s s' p q = (p.0 ∙ sym q.0, p.1 ∙ sym q.1)

pub line-at-determined : (κs : _) (a : _) (r r' : _) (s s' : _) → line-at.Post κs a r s → line-at.Post κs a r' s' → Same r r'
line-at-determined κs a r r' s s' p q = (p.0 ∙ sym q.0, p.1 ∙ sym q.1)

pub line-of-determined : (κs : _) (a : _) (r r' : _) (s s' : _) → line-of.Post κs a r s → line-of.Post κs a r' s' → Same r r'
line-of-determined κs a r r' s s' p q = (p.0 ∙ sym q.0, p.1 ∙ sym q.1)

pub padded-line-determined : (κs : _) (a : _) (r r' : _) (s s' : _) → padded-line.Post κs a r s → padded-line.Post κs a r' s' → r ≡ r'
padded-line-determined κs a r r' s s' p q = p ∙ sym q

pub first-of-determined : (κs : _) (a : _) (r r' : _) (s s' : _) → first_of.Post κs a r s → first_of.Post κs a r' s' → r ≡ r'
first-of-determined κs a r r' s s' p q = p ∙ sym q

pub count-of-determined : (κs : _) (a : _) (r r' : _) (s s' : _) → count_of.Post κs a r s → count_of.Post κs a r' s' → r ≡ r'
count-of-determined κs a r r' s s' p q = p ∙ sym q

-- the lines of some bytes, by the bytes that are left
abbrev lines_from : Bor (List ℕ) → CompleteLines
lines_from rest = record { rest = rest }

-- what the lines are taken from, in every byte and in its address
pub complete-lines-determined : (κs : _) (a : _) (r r' : _) (s s' : _) → complete-lines.Post κs a r s → complete-lines.Post κs a r' s'
    → r ≡ r'
complete-lines-determined κs a r r' s s' p q = ap lines_from (p ∙ sym q)
