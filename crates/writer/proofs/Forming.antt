-- The parts of a canonical form: the opening, the comments, the epochs and the last line.
-- Assumes nothing.
use mathlib.Core.List.{List, [], ◌∷◌, ◌++◌}
use Prim.Native.Nat.{ℕ, ◌≤◌}
use lib.ListN.{length}
use Rattle.lines.specs.Lent.{flat}
use Rattle.layout.specs.Line.{Lays}
use Rattle.record.specs.Descriptors.{fixed_line}
use Rattle.record.specs.Plain.{end_items}
use Rattle.header.specs.declared.types.Rules.{Rules}
use Rattle.canon.specs.Table.{Table, table_identifiers, exponents_of, comments_of, rows_of}
use Rattle.canon.specs.Canonical.{lines_before, comment_lines, epochs_lines, canonical_lines, canonical}
use Rattle.writer.proofs.Laying.{Laying, laying-first, first-room}

abbrev pub opening : Rules → Table → List (List ℕ)
opening rules t = lines_before rules t.header (table_identifiers t) (exponents_of t)

abbrev pub comments : Table → List (List ℕ)
comments t = comment_lines t.header.comments (comments_of t)

abbrev pub epochs : Table → List (List ℕ)
epochs t = epochs_lines t.header.velocity (table_identifiers t) t.header.interval8 t.header.epochs t.header.start8 (rows_of t)

abbrev pub ending : List (List ℕ)
ending = fixed_line end_items ∷ []

abbrev pub all : Rules → Table → List (List ℕ)
all rules t = opening rules t ++ (comments t ++ (epochs t ++ ending))

-- the opening has room, and is laid first
pub opening-fits : (rules : Rules) (t : Table) (out : List ℕ) → length (canonical rules t) ≤ length out → length (flat (opening rules t)) ≤ length out
unfolding canonical canonical_lines
opening-fits rules t out h = first-room (opening rules t) (comments t ++ (epochs t ++ ending)) out h

pub opening-laid : (rules : Rules) (t : Table) {out now : List ℕ} {at : ℕ} → length (canonical rules t) ≤ length out → Lays (flat (opening rules t)) out at now
    → Laying (all rules t) out at now (comments t ++ (epochs t ++ ending))
unfolding canonical canonical_lines
opening-laid rules t h l = laying-first (opening rules t) (comments t ++ (epochs t ++ ending)) h l
