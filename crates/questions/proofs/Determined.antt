-- Any two outcomes that a contract allows agree, in the result, and of a text that is handed back in every byte and in its address.
-- Assumes nothing.
use mathlib.Core.Path.{◌≡◌, sym, ◌∙◌}
use Rattle.laws.specs.Places.{Same}
use Rattle.questions.proofs.comments.comment_answer.Reads as comment-answer
use Rattle.questions.proofs.comments.comment.Reads as comment
use Rattle.questions.proofs.rows.row_begins.Reads as row-begins
use Rattle.questions.proofs.rows.row.Reads as row
use Rattle.questions.proofs.satellites.identifier_of.Reads as identifier-of
use Rattle.questions.proofs.satellites.satellite_of.Reads as satellite-of

pub comment-answer-determined : (κs : _) (a : _) (r r' : _) (s s' : _) → comment-answer.Post κs a r s → comment-answer.Post κs a r' s' → r ≡ r'
comment-answer-determined κs a r r' s s' p q = p ∙ sym q

pub comment-determined : (κs : _) (a : _) (r r' : _) (s s' : _) → comment.Post κs a r s → comment.Post κs a r' s' → Same r r'
comment-determined κs a r r' s s' p q = (p.0 ∙ sym q.0, p.1 ∙ sym q.1)

pub row-begins-determined : (κs : _) (a : _) (r r' : _) (s s' : _) → row-begins.Post κs a r s → row-begins.Post κs a r' s' → r ≡ r'
row-begins-determined κs a r r' s s' p q = p ∙ sym q

pub row-determined : (κs : _) (a : _) (r r' : _) (s s' : _) → row.Post κs a r s → row.Post κs a r' s' → r ≡ r'
row-determined κs a r r' s s' p q = p ∙ sym q

pub satellite-of-determined : (κs : _) (a : _) (r r' : _) (s s' : _) → satellite-of.Post κs a r s → satellite-of.Post κs a r' s' → r ≡ r'
satellite-of-determined κs a r r' s s' p q = p ∙ sym q

pub identifier-of-determined : (κs : _) (a : _) (r r' : _) (s s' : _) → identifier-of.Post κs a r s → identifier-of.Post κs a r' s' → r ≡ r'
identifier-of-determined κs a r r' s s' p q = p ∙ sym q
