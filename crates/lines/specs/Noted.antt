-- Lines of which some are rows, and a note may stand directly after a row: the part of each row, with what its note says or with what stands for none.
use Rattle.std.specs.Prelude.{Bool, cond, List, [], ◌∷◌, ◌++◌, ℕ}

module _ {A : Type 0} (is_row is_note : List ℕ → Bool) (row note : List ℕ → List A) (none : List A) where
  -- what stands directly after a row
  abbrev pub note_at : List (List ℕ) → List A
  note_at [] = none
  note_at (l ∷ ls) = cond (is_note l) (note l) none

  abbrev pub row_parts : List (List ℕ) → List (List A)
  row_parts [] = []
  row_parts (l ∷ ls) = cond (is_row l) ((row l ++ note_at ls) ∷ row_parts ls) (row_parts ls)
