-- Lines of which some are rows, and a note may stand directly after a row: the part of each row, with what its note says or with what stands for none.
-- Assumes nothing.
use mathlib.Core.Path.{◌≡◌, refl, ap}
use mathlib.Core.Bool.{Bool, true, false, cond}
use mathlib.Core.List.{List, [], ◌∷◌, ◌++◌}
use Prim.Native.Nat.{ℕ, zero, suc, ◌<◌}
use native.Mathlib.Nat.{le_of_suc-le-suc, not-suc-le-zero}
use lib.ListN.{length, get_or}
use Rattle.lines.specs.Lines.{select, nth, after_nth}
use Rattle.lines.specs.Noted as noted
use Rattle.lines.proofs.Each.{Each}

module _ {A : Type 0} (is_row is_note : List ℕ → Bool) (row note : List ℕ → List A) (none : List A) where
  abbrev note_at : List (List ℕ) → List A
  note_at ls = noted.note_at is_row is_note row note none ls

  abbrev row_parts : List (List ℕ) → List (List A)
  row_parts ls = noted.row_parts is_row is_note row note none ls

  -- as many as rows
  pub parts-many : (ls : List (List ℕ)) → length (row_parts ls) ≡ length (select is_row ls)
  unfolding select
  parts-many [] = refl
  parts-many (l ∷ ls) = go (is_row l) (parts-many ls)
    where
      go : (t : Bool) → length (row_parts ls) ≡ length (select is_row ls)
          → length (cond t ((row l ++ note_at ls) ∷ row_parts ls) (row_parts ls)) ≡ length (cond t (l ∷ select is_row ls) (select is_row ls))
      go true e = ap suc e
      go false e = e

  -- of lines and others after them that begin with no note
  pub parts-append : (a b : List (List ℕ)) → note_at b ≡ none → row_parts (a ++ b) ≡ row_parts a ++ row_parts b
  parts-append [] b h = refl
  parts-append (l ∷ a) b h = go (is_row l) (parts-append a b h) (same a)
    where
      same : (c : List (List ℕ)) → note_at (c ++ b) ≡ note_at c
      same [] = h
      same (m ∷ c) = refl

      go : (t : Bool) → row_parts (a ++ b) ≡ row_parts a ++ row_parts b → note_at (a ++ b) ≡ note_at a
          → cond t ((row l ++ note_at (a ++ b)) ∷ row_parts (a ++ b)) (row_parts (a ++ b)) ≡ cond t ((row l ++ note_at a) ∷ row_parts a) (row_parts a) ++ row_parts b
      go true e f = rw (e, f)
      go false e f = e

  -- lines of which none is a row, and others after them
  pub parts-skip : (a b : List (List ℕ)) → Each (λ (l : List ℕ). is_row l ≡ false) a → row_parts (a ++ b) ≡ row_parts b
  parts-skip [] b none = refl
  parts-skip (l ∷ a) b none = rw none.0 (parts-skip a b none.1)

  -- what holds of every row with what stands after it holds of every part
  pub parts-each : (holds : List A → Type 0) → ((l : List ℕ) (ls : List (List ℕ)) → holds (row l ++ note_at ls)) → (ls : List (List ℕ)) → Each holds (row_parts ls)
  parts-each holds each [] = tt
  parts-each holds each (l ∷ ls) = go (is_row l) (parts-each holds each ls)
    where
      go : (t : Bool) → Each holds (row_parts ls) → Each holds (cond t ((row l ++ note_at ls) ∷ row_parts ls) (row_parts ls))
      go true more = (each l ls, more)
      go false more = more

  -- the part of the r-th row is that row, with what stands directly after it
  pub part_at : (ls : List (List ℕ)) (r : ℕ) → r < length (select is_row ls)
      → get_or (row_parts ls) r [] ≡ row (nth r (select is_row ls)) ++ note_at (after_nth is_row r ls)
  unfolding select nth after_nth
  part_at [] r h = absurd (not-suc-le-zero h)
  part_at (l ∷ ls) zero h = go (is_row l) h (part_at ls 0)
    where
      go : (t : Bool) → 0 < length (cond t (l ∷ select is_row ls) (select is_row ls))
          → (0 < length (select is_row ls) → get_or (row_parts ls) 0 [] ≡ row (nth 0 (select is_row ls)) ++ note_at (after_nth is_row 0 ls))
          → get_or (cond t ((row l ++ note_at ls) ∷ row_parts ls) (row_parts ls)) 0 []
          ≡ row (nth 0 (cond t (l ∷ select is_row ls) (select is_row ls))) ++ note_at (cond t ls (after_nth is_row 0 ls))
      go true q later = refl
      go false q later = later q
  part_at (l ∷ ls) (suc r) h = go (is_row l) h (part_at ls r) (part_at ls (suc r))
    where
      go : (t : Bool) → suc r < length (cond t (l ∷ select is_row ls) (select is_row ls))
          → (r < length (select is_row ls) → get_or (row_parts ls) r [] ≡ row (nth r (select is_row ls)) ++ note_at (after_nth is_row r ls))
          → (suc r < length (select is_row ls) → get_or (row_parts ls) (suc r) [] ≡ row (nth (suc r) (select is_row ls)) ++ note_at (after_nth is_row (suc r) ls))
          → get_or (cond t ((row l ++ note_at ls) ∷ row_parts ls) (row_parts ls)) (suc r) []
          ≡ row (nth (suc r) (cond t (l ∷ select is_row ls) (select is_row ls))) ++ note_at (cond t (after_nth is_row r ls) (after_nth is_row (suc r) ls))
      go true q here later = here (le_of_suc-le-suc q)
      go false q here later = later q

  -- what stands after a row is none, or a note of the lines
  module _ (holds : List A → Type 0) (z : holds none) where
    abbrev Notes : List (List ℕ) → Type 0
    Notes ls = Each (λ (l : List ℕ). is_note l ≡ true → holds (note l)) ls

    first-note : (ls : List (List ℕ)) → Notes ls → holds (note_at ls)
    first-note [] each = z
    first-note (l ∷ ls) each = go (is_note l) each.0
      where
        go : (t : Bool) → (t ≡ true → holds (note l)) → holds (cond t (note l) none)
        go true h = h refl
        go false h = z

    either : (t : Bool) (a b : List (List ℕ)) → holds (note_at a) → holds (note_at b) → holds (note_at (cond t a b))
    either true a b p q = p
    either false a b p q = q

    pub note-holds : (ls : List (List ℕ)) → Notes ls → (r : ℕ) → holds (note_at (after_nth is_row r ls))
    unfolding after_nth
    note-holds [] each r = z
    note-holds (l ∷ ls) each zero = either (is_row l) ls (after_nth is_row 0 ls) (first-note ls each.1) (note-holds ls each.1 0)
    note-holds (l ∷ ls) each (suc r) =
        either (is_row l) (after_nth is_row r ls) (after_nth is_row (suc r) ls) (note-holds ls each.1 r) (note-holds ls each.1 (suc r))
