-- EP and EV lines are part of the table: accepted files that differ in one of them have different rows.
-- Assumes nothing.
use mathlib.Core.Path.{◌≡◌, refl, sym, ap, subst, ◌∙◌}
use mathlib.Core.Bool.{Bool, true, false, cond, false≢true}
use mathlib.Core.List.{List, [], ◌∷◌, ◌++◌, append_assoc}
use Prim.Native.Nat.{ℕ}
use native.Mathlib.Omega.{arith}
use lib.IntN.{ℤ, nat_abs}
use lib.ListN.{length, take, drop}
use lib.Seq.{take_at, drop_at}
use Rattle.header.specs.declared.types.Rules.{Rules}
use Rattle.layout.specs.Line.{padded}
use Rattle.lines.specs.Lent.{flat}
use Rattle.lines.specs.Lines.{lines_of, join_lines}
use Rattle.record.specs.Rows.{note_width}
use Rattle.record.specs.Notes.{note_fault, note_of}
use Rattle.file.specs.Exact.{exact_note, exact_none}
use Rattle.file.specs.Kinds.{kind_in, is_row, is_note}
use Rattle.file.specs.Plain.{note_kind, is_note_line}
use Rattle.file.specs.Table.{row_in, row_numbers, note_numbers, no_note, note_after, rows_of_lines, rows_in}
use Rattle.scan.specs.Run.{IsFile}
use Rattle.scan_laws.proofs.Files.{plain-accepts, file-plain}
use Rattle.lines.proofs.Picking.{flat_append}
use Rattle.lines.proofs.Noted.{parts-append}
use Rattle.file_laws.proofs.Clean.{record-clean}
use Rattle.file_laws.proofs.Exact.{note-exact, none-exact}
use Rattle.file_laws.proofs.Notes.{SameBut}
use Rattle.file_laws.proofs.Skipped.{same-plain}
use Rattle.file_laws.proofs.Following.{is_row_kind, is_note_kind, row_told, row-quiet, Following, file-follows}
use Rattle.file.proofs.Wide.{after-wide}
use Rattle.theorems.proofs.LentNotes.{note-line}
use Rattle.canon_laws.specs.Held.{Proper}

-- the first number of a note, as a size
first_is : List ℤ → ℕ
first_is [] = 0
first_is (n ∷ ns) = nat_abs n

module _ {rules : Rules} (proper : Proper rules) where
  -- Where EP lines are replaced by EP lines and EV lines by EV lines, an accepted file stays accepted.
  pub still-accepted : (a : List ℕ) (lines : List (List ℕ)) → IsFile rules a → SameBut rules (lines_of a) lines → IsFile rules (join_lines lines)
  still-accepted a lines accepted same =
      plain-accepts rules proper.sound (join_lines lines) (lines, refl, same-plain rules (lines_of a) lines same (file-plain rules proper.sound a accepted))

  -- the numbers of the rows before a row, of the row, of what stands directly after it, and of the others
  in_parts : (before rest : List (List ℕ)) (row : List ℕ) → is_row rules row ≡ true → is_note rules row ≡ false
      → rows_in rules (before ++ (row ∷ rest)) ≡ rows_in rules before ++ (row_numbers (row_in rules row) ++ (note_after rules rest ++ rows_in rules rest))
  unfolding rows_of_lines flat
  in_parts before rest row is-row no-note =
      ap flat
      (parts-append (is_row rules) (is_note rules) (λ (l : List ℕ). row_numbers (row_in rules l)) (λ (l : List ℕ). note_numbers (note_of l)) no_note before (row ∷ rest) (rw no-note))
      ∙ flat_append (rows_of_lines rules before) (rows_of_lines rules (row ∷ rest))
      ∙ rw is-row
      (ap (λ (s : List ℤ). rows_in rules before ++ s) (append_assoc (row_numbers (row_in rules row)) (note_after rules rest) (rows_in rules rest)))

  -- the same rows have the same note after the same row
  module _ (before rest rest' : List (List ℕ)) (row : List ℕ) (is-row : is_row rules row ≡ true) (no-note : is_note rules row ≡ false)
      (same : rows_in rules (before ++ (row ∷ rest)) ≡ rows_in rules (before ++ (row ∷ rest'))) where
    same-note : note_after rules rest ≡ note_after rules rest'
    same-note =
        let own = row_numbers (row_in rules row) in
        let front = rows_in rules before in
        let whole = sym (in_parts before rest row is-row no-note) ∙ same ∙ in_parts before rest' row is-row no-note in
        let behind = sym (drop_at front (own ++ (note_after rules rest ++ rows_in rules rest)) (length front) refl) ∙ ap (drop (length front)) whole
        ∙ drop_at front (own ++ (note_after rules rest' ++ rows_in rules rest')) (length front) refl in
        let noted = sym (drop_at own (note_after rules rest ++ rows_in rules rest) (length own) refl) ∙ ap (drop (length own)) behind
        ∙ drop_at own (note_after rules rest' ++ rows_in rules rest') (length own) refl in
        sym (take_at (note_after rules rest) (rows_in rules rest) note_width (after-wide rules rest)) ∙ ap (take note_width) noted
        ∙ take_at (note_after rules rest') (rows_in rules rest') note_width (after-wide rules rest')

  -- a note without fault is read as its fields say
  noted : (v : Bool) (l : List ℕ) (others : List (List ℕ)) → is_note_line rules v l ≡ true → note_after rules (l ∷ others) ≡ exact_note (note_of l)
  noted v l others is = rw (note-line proper v l is) (note-exact v l (record-clean rules (note_kind v) (note_fault v (padded l)) l is))

  -- a note in an accepted file
  module _ (bytes : List ℕ) (accepted : IsFile rules bytes) (before rest : List (List ℕ)) (row note : List ℕ)
      (lines : lines_of bytes ≡ before ++ (row ∷ note ∷ rest)) (is : is_note rules note ≡ true) where
    behind : Following rules (kind_in rules row) (note ∷ rest)
    behind = back before 0 (subst (Following rules 0) lines (file-follows (file-plain rules proper.sound bytes accepted)))
      where
        back : (ls : List (List ℕ)) (k : ℕ) → Following rules k (ls ++ (row ∷ note ∷ rest)) → Following rules (kind_in rules row) (note ∷ rest)
        back [] k f = f.1
        back (l ∷ ls) k f = back ls (kind_in rules l) f.1

    -- stands after a row,
    is-row : is_row rules row ≡ true
    is-row = ap is_row_kind (behind.0 is).1 ∙ row_told (behind.0 is).0

    row_apart : is_note rules row ≡ false
    row_apart = ap is_note_kind (behind.0 is).1 ∙ row-quiet (behind.0 is).0

    -- has no fault,
    own-note : note_after rules (note ∷ rest) ≡ exact_note (note_of note)
    own-note = noted (behind.0 is).0 note rest (behind.0 is).2

    -- and no note stands after it.
    quiet-after : note_after rules rest ≡ no_note
    quiet-after = go rest behind.1
      where
        go : (ls : List (List ℕ)) → Following rules (kind_in rules note) ls → note_after rules ls ≡ no_note
        go [] f = refl
        go (l ∷ ls) f = by (is_note rules l) refl
          where
            by : (t : Bool) → is_note rules l ≡ t → cond t (note_numbers (note_of l)) no_note ≡ no_note
            by true q =
                let own = f.0 q in
                absurd (false≢true (sym (row-quiet own.0) ∙ ap is_note_kind (sym own.1) ∙ is))
            by false q = refl

  -- Two accepted files
  module _ (a : List ℕ) (accepted : IsFile rules a) (before rest : List (List ℕ)) (row note : List ℕ)
      (lines : lines_of a ≡ before ++ (row ∷ note ∷ rest)) (is : is_note rules note ≡ true) (b : List ℕ) (also : IsFile rules b) where
    -- that differ only in what one EP or EV line says have different rows,
    pub notes-differ : (other : List ℕ) → is_note rules other ≡ true → lines_of b ≡ before ++ (row ∷ other ∷ rest)
        → (exact_note (note_of note) ≡ exact_note (note_of other) → ⊥) → rows_in rules (lines_of a) ≡ rows_in rules (lines_of b) → ⊥
    notes-differ other is-other lines-b apart same =
        apart
        (sym (own-note a accepted before rest row note lines is)
        ∙ same-note before (note ∷ rest) (other ∷ rest) row (is-row a accepted before rest row note lines is) (row_apart a accepted before rest row note lines is)
        (ap (rows_in rules) (sym lines) ∙ same ∙ ap (rows_in rules) lines-b)
        ∙ own-note b also before rest row other lines-b is-other)

    -- and so do one that has such a line, whatever stands in it, and one without.
    pub note-or-none : lines_of b ≡ before ++ (row ∷ rest) → rows_in rules (lines_of a) ≡ rows_in rules (lines_of b) → ⊥
    unfolding exact_note exact_none first_is
    note-or-none lines-b same =
        let numbers : exact_note (note_of note) ≡ exact_none =
        sym (own-note a accepted before rest row note lines is)
        ∙ same-note before (note ∷ rest) rest row (is-row a accepted before rest row note lines is) (row_apart a accepted before rest row note lines is)
        (ap (rows_in rules) (sym lines) ∙ same ∙ ap (rows_in rules) lines-b)
        ∙ quiet-after a accepted before rest row note lines is
        ∙ none-exact in
        let z : ◌≡◌ {A = ℕ} 1 0 = ap first_is numbers in
        omega arith
