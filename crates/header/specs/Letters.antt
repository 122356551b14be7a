-- The letters and words that a field may hold. 01, "Records in order": "mode P or V"; "the file type G, M, R, L, S, I, E, C or J with a blank
-- after it, and a time system: GPS, GLO, GAL, BDT, TAI, UTC, IRN, QZS".
use Rattle.std.specs.Prelude.{List, [], ◌∷◌, ℕ}

-- P, V
abbrev pub modes : List ℕ
modes = 80 ∷ 86 ∷ []

-- G, M, R, L, S, I, E, C, J
abbrev pub file_types : List ℕ
file_types = 71 ∷ 77 ∷ 82 ∷ 76 ∷ 83 ∷ 73 ∷ 69 ∷ 67 ∷ 74 ∷ []

-- GPS, GLO, GAL, BDT, TAI, UTC, IRN, QZS
abbrev pub time_systems : List (List ℕ)
time_systems =
    (71 ∷ 80 ∷ 83 ∷ [])
    ∷ (71 ∷ 76 ∷ 79 ∷ [])
    ∷ (71 ∷ 65 ∷ 76 ∷ [])
    ∷ (66 ∷ 68 ∷ 84 ∷ [])
    ∷ (84 ∷ 65 ∷ 73 ∷ [])
    ∷ (85 ∷ 84 ∷ 67 ∷ [])
    ∷ (73 ∷ 82 ∷ 78 ∷ [])
    ∷ (81 ∷ 90 ∷ 83 ∷ [])
    ∷ []
