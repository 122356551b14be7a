-- Lines beside each other: files that are the same but for what stands in EP and EV lines.
-- Assumes nothing.
use mathlib.Core.Path.{◌≡◌}
use mathlib.Core.Logic.{◌⊎◌}
use mathlib.Core.Bool.{Bool, true, false}
use mathlib.Core.List.{List, [], ◌∷◌}
use Prim.Native.Nat.{ℕ}
use Rattle.header.specs.declared.types.Rules.{Rules}
use Rattle.file.specs.Plain.{is_note_line}

-- as many lines, of which each two that stand beside each other are related
abbrev pub Beside : (List ℕ → List ℕ → Type 0) → List (List ℕ) → List (List ℕ) → Type 0
Beside related [] [] = Unit
Beside related [] (m ∷ b) = ⊥
Beside related (l ∷ a) [] = ⊥
Beside related (l ∷ a) (m ∷ b) = related l m × Beside related a b

pub beside-turned : (related also : List ℕ → List ℕ → Type 0) → ((l m : List ℕ) → related l m → also m l) → (a b : List (List ℕ)) → Beside related a b → Beside also b a
beside-turned related also w [] [] s = tt
beside-turned related also w [] (m ∷ b) s = absurd s
beside-turned related also w (l ∷ a) [] s = absurd s
beside-turned related also w (l ∷ a) (m ∷ b) s = (w l m s.0, beside-turned related also w a b s.1)

module _ (rules : Rules) where
  -- two EP lines without fault (false), or two such EV lines (true)
  abbrev pub BothNotes : Bool → List ℕ → List ℕ → Type 0
  BothNotes v l m = (is_note_line rules v l ≡ true) × (is_note_line rules v m ≡ true)

  -- the same line, or two such lines
  abbrev pub SameLine : List ℕ → List ℕ → Type 0
  SameLine l m = (l ≡ m) ⊎ (BothNotes false l m ⊎ BothNotes true l m)

  -- as many lines, the same but for what stands in EP and EV
  abbrev pub SameBut : List (List ℕ) → List (List ℕ) → Type 0
  SameBut a b = Beside SameLine a b
