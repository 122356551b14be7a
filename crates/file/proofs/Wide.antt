-- The widths of what is stored: a row has the numbers of its line and as many of its note, whether one stands there or none.
-- Assumes nothing.
use mathlib.Core.Path.{◌≡◌, refl}
use mathlib.Core.Bool.{Bool, true, false, cond}
use mathlib.Core.List.{List, [], ◌∷◌, ◌++◌}
use Prim.Native.Nat.{ℕ, ◌*◌}
use native.Mathlib.Omega.{arith}
use lib.IntN.{ℤ}
use lib.ListN.{length, length-append}
use Rattle.lines.proofs.Each.{Each}
use Rattle.lines.proofs.Noted.{parts-many}
use Rattle.lines.proofs.Picking.{length-flat}
use Rattle.record.specs.Rows.{bare_width, note_width, row_width}
use Rattle.record.specs.Notes.{note_of}
use Rattle.record.specs.declared.types.Row.{Row}
use Rattle.record.specs.declared.types.Note.{Note}
use Rattle.header.specs.declared.types.Rules.{Rules}
use Rattle.file.specs.Kinds.{is_row, is_note}
use Rattle.file.specs.Table.{row_in, row_numbers, note_numbers, no_note, note_after, row_lines, rows_of_lines, rows_in}

pub row-wide : (row : Row) → length (row_numbers row) ≡ bare_width
unfolding row_numbers
row-wide row = refl

pub note-wide : (n : Note) → length (note_numbers n) ≡ note_width
unfolding note_numbers
note-wide n = refl

pub no-note-wide : length no_note ≡ note_width
unfolding no_note
no-note-wide = refl

pub after-wide : (rules : Rules) (ls : List (List ℕ)) → length (note_after rules ls) ≡ note_width
after-wide rules [] = no-note-wide
after-wide rules (l ∷ ls) = go (is_note rules l)
  where
    go : (t : Bool) → length (cond t (note_numbers (note_of l)) no_note) ≡ note_width
    go true = note-wide (note_of l)
    go false = no-note-wide

-- the part of a row, with what stands after it
pub part-wide : (rules : Rules) (row : Row) (ls : List (List ℕ)) → length (row_numbers row ++ note_after rules ls) ≡ row_width
part-wide rules row ls = omega (arith, length-append (row_numbers row) (note_after rules ls), row-wide row, after-wide rules ls)

-- each part of some lines
pub parts-wide : (rules : Rules) (ls : List (List ℕ)) → Each (λ (part : List ℤ). length part ≡ row_width) (rows_of_lines rules ls)
unfolding rows_of_lines
parts-wide rules [] = tt
parts-wide rules (l ∷ ls) = go (is_row rules l) (parts-wide rules ls)
  where
    go : (t : Bool) → Each (λ (part : List ℤ). length part ≡ row_width) (rows_of_lines rules ls)
        → Each (λ (part : List ℤ). length part ≡ row_width) (cond t ((row_numbers (row_in rules l) ++ note_after rules ls) ∷ rows_of_lines rules ls) (rows_of_lines rules ls))
    go true more = (part-wide rules (row_in rules l) ls, more)
    go false more = more

-- as many as rows
pub rows-many : (rules : Rules) (ls : List (List ℕ)) → length (rows_of_lines rules ls) ≡ length (row_lines rules ls)
unfolding rows_of_lines
rows-many rules ls = parts-many (is_row rules) (is_note rules) (λ line. row_numbers (row_in rules line)) (λ line. note_numbers (note_of line)) no_note ls

pub rows-wide : (rules : Rules) (ls : List (List ℕ)) → length (rows_in rules ls) ≡ length (row_lines rules ls) * row_width
rows-wide rules ls = omega (arith, length-flat row_width (rows_of_lines rules ls) (parts-wide rules ls), rows-many rules ls)
