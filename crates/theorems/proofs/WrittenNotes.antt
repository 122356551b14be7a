-- EP and EV lines in what was written. 02, Ask 1: "the canonical form writes it there, even when all its fields are blank".
-- Assumes nothing.
use mathlib.Core.Path.{◌≡◌, refl, ap, subst, ◌∙◌}
use mathlib.Core.Bool.{Bool, true, false, cond}
use mathlib.Core.List.{List, ◌∷◌, ◌++◌, append-nil}
use mathlib.Core.Logic.{◌↔◌}
use Prim.Native.Nat.{ℕ, ◌*◌, ◌≤◌}
use native.Mathlib.Omega.{arith}
use lib.IntN.{ℤ, pos}
use lib.ListN.{length, replicate}
use lib.Seq.{drop-length}
use Rattle.header.specs.declared.types.Rules.{Rules}
use Rattle.layout.specs.Kind.{unnoted}
use Rattle.layout.specs.Line.{ended}
use Rattle.record.specs.Rows.{row_width}
use Rattle.record.specs.Notes.{correlation_symbol, note_line}
use Rattle.reader.specs.Reading.{file_of, read_answer, rows_after}
use Rattle.canon.specs.Table.{Table, cell_width, cells_in, table_identifiers, exponents_of, comments_of, rows_of}
use Rattle.canon.specs.Canonical.{note_shown}
use Rattle.canon.specs.Measured.{measured_in}
use Rattle.canon.proofs.Parts.{Parts, parts}
use Rattle.stored_row.specs.Stored.{note_in}
use Rattle.stored_row.specs.declared.types.NoteMark.TheVariants as note_mark
use Rattle.theorems.specs.Again.{written_bytes}
use Rattle.theorems.specs.Files.{header, There, table_row, HasNote}
use Rattle.theorems.specs.Room.{Room}
use Rattle.theorems.proofs.Writing.{valid-table}
use Rattle.theorems.proofs.Rewritten.{written-accepted, room-reads, rows_back}
use Rattle.theorems.proofs.LentNotes.{the-note}
use Rattle.canon_laws.specs.Held.{Proper}

-- a record of which nothing is known is its symbol alone
pub bare-note : (v : Bool) (mark : ℤ) → note_line v (note_shown (mark ∷ replicate 10 (pos unnoted))) ≡ ended (correlation_symbol v)
unfolding note_line note_shown
bare-note true mark = refl
bare-note false mark = refl

module _ {rules : Rules} (proper : Proper rules) where
  module _ (t : Table) (out : List ℕ) (success : (measured_in rules t (length out)).refusal ≡ 0) where
    abbrev again : List ℕ
    again = written_bytes rules t out

    long : Parts rules t
    long = parts rules t (valid-table proper t out success)

    -- the lists of the table are room for what was written,
    own_room : Room t.header (length (table_identifiers t)) (length (exponents_of t)) (length (comments_of t)) (length (rows_of t))
    own_room = record {
      identifiers = omega (arith, long.identifiers-many);
      exponents = omega (arith, long.exponents-many);
      comments = omega (arith, long.comments-many);
      rows = go t.header.velocity (cells_in t.header) (length (rows_of t)) long.rows-many;
    }
      where
        go : (v : Bool) (cells n : ℕ) → n ≡ cells * cell_width v → cond v (2 * row_width * cells) (row_width * cells) ≤ n
        go true cells n many = omega (arith, many)
        go false cells n many = omega (arith, many)

    own_read : (read_answer rules again (file_of rules again) (table_identifiers t) (exponents_of t) (comments_of t) (rows_of t)).refusal ≡ 0
    own_read = room-reads proper t out success (table_identifiers t) (exponents_of t) (comments_of t) (rows_of t) own_room

    -- and are left as they are
    rows-kept : rows_after rules again (file_of rules again) (table_identifiers t) (exponents_of t) (comments_of t) (rows_of t) ≡ rows_of t
    rows-kept =
        rows_back proper t out success (table_identifiers t) (exponents_of t) (comments_of t) (rows_of t) own_read
        ∙ ap (λ (s : List ℤ). rows_of t ++ s) (drop-length (rows_of t))
        ∙ append-nil (rows_of t)

    -- A RECORD IS WRITTEN EXACTLY WHERE THE TABLE HAS ONE: EP after a P row, EV after a V row.
    pub note-written : (k j : ℕ) → There rules again k j → (v : Bool) → (v ≡ true → (header rules again).velocity ≡ true)
        → (note_in (rows_of t) (table_row rules v again k j) ≡ note_mark.Stands) ↔ ((l : List ℕ) × HasNote rules v again k j l)
    note-written k j there v mode =
        subst
        (λ (s : List ℤ). (note_in s (table_row rules v again k j) ≡ note_mark.Stands) ↔ ((l : List ℕ) × HasNote rules v again k j l))
        rows-kept
        (the-note proper again (written-accepted proper t out success) (table_identifiers t) (exponents_of t) (comments_of t) (rows_of t) own_read k j there v mode)
