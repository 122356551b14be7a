-- Lent memory that is filled from its first place on. 01, "Numbers of the answers": "After success the places past those filled are unchanged
-- too."
use Rattle.std.specs.Prelude.{List, [], ◌∷◌, ◌++◌, length, take, drop}

-- the places from the first on hold the new elements; those past them are as they were
abbrev pub over : {A : Type 0} → List A → List A → List A
over new old = new ++ drop (length new) old

-- the same, of as many elements as there is room for
abbrev pub laid : {A : Type 0} → List A → List A → List A
laid new old = take (length old) new ++ drop (length new) old

-- lists one after another
unfoldable pub flat : {A : Type 0} → List (List A) → List A
flat [] = []
flat (part ∷ parts) = part ++ flat parts
