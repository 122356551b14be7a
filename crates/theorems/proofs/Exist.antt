-- Accepted files exist, and their tables differ: so neither a reader or writer that only refuses keeps its promise, nor one with a constant table.
-- Assumes nothing.
use mathlib.Core.Path.{◌≡◌, refl, sym, ap, ◌∙◌}
use mathlib.Core.Bool.{true}
use mathlib.Core.List.{List, [], ◌∷◌}
use Prim.Native.Nat.{ℕ}
use native.Mathlib.Omega.{arith}
use lib.IntN.{ℤ, pos}
use Rattle.header.specs.Versions.{rules_of}
use Rattle.header.specs.declared.types.Version.{Version}
use Rattle.header.specs.declared.types.Version.TheVariants as version
use Rattle.lines.specs.Lines.{lines_of}
use Rattle.file.specs.Table.{rows_in}
use Rattle.scan.specs.Run.{IsFile}
use Rattle.record.specs.Agrees.{repeats, type_agrees}
use Rattle.canon.specs.Table.{rows_of}
use Rattle.canon.specs.Valid.{is_instant, texts_fit, times_valid, counts_valid, words_valid, header_valid, lists_long, identifiers_valid, exponents_valid, comment_valid, comments_valid, row_valid, note_valid, noted_valid, cell_valid, rows_valid, counts_hold, valid}
use Rattle.canon_laws.specs.Held.{Holds}
use Rattle.theorems.specs.Made.{paper_header, one_row}
use Rattle.theorems.proofs.Rewritten.{valid-exactly}
use Rattle.canon_laws.proofs.Versions.{of-proper}

valid-one : (v : Version) → valid (rules_of v) (one_row (pos 1) (pos 0)) ≡ true
unfolding is_instant texts_fit times_valid counts_valid words_valid header_valid lists_long identifiers_valid exponents_valid comment_valid comments_valid row_valid note_valid noted_valid cell_valid rows_valid counts_hold valid one_row paper_header repeats type_agrees
valid-one version.C = refl
valid-one version.D = refl

valid-two : (v : Version) → valid (rules_of v) (one_row (pos 2) (pos 0)) ≡ true
unfolding is_instant texts_fit times_valid counts_valid words_valid header_valid lists_long identifiers_valid exponents_valid comment_valid comments_valid row_valid note_valid noted_valid cell_valid rows_valid counts_hold valid one_row paper_header repeats type_agrees
valid-two version.C = refl
valid-two version.D = refl

valid-noted : (v : Version) → valid (rules_of v) (one_row (pos 1) (pos 1)) ≡ true
unfolding is_instant texts_fit times_valid counts_valid words_valid header_valid lists_long identifiers_valid exponents_valid comment_valid comments_valid row_valid note_valid noted_valid cell_valid rows_valid counts_hold valid one_row paper_header repeats type_agrees
valid-noted version.C = refl
valid-noted version.D = refl

-- A FILE of each version IS ACCEPTED that has this table,
pub accepted-one : (v : Version) → (bytes : List ℕ) × IsFile (rules_of v) bytes × Holds (rules_of v) (lines_of bytes) (one_row (pos 1) (pos 0))
accepted-one v = (valid-exactly (of-proper v) (one_row (pos 1) (pos 0))).0 (valid-one v)

pub accepted-two : (v : Version) → (bytes : List ℕ) × IsFile (rules_of v) bytes × Holds (rules_of v) (lines_of bytes) (one_row (pos 2) (pos 0))
accepted-two v = (valid-exactly (of-proper v) (one_row (pos 2) (pos 0))).0 (valid-two v)

-- and one with `EP` alone after its row.
pub accepted-noted : (v : Version) → (bytes : List ℕ) × IsFile (rules_of v) bytes × Holds (rules_of v) (lines_of bytes) (one_row (pos 1) (pos 1))
accepted-noted v = (valid-exactly (of-proper v) (one_row (pos 1) (pos 1))).0 (valid-noted v)

-- the first number of the rows
first_of : List ℤ → ℤ
first_of [] = pos 0
first_of (n ∷ ns) = n

apart : rows_of (one_row (pos 1) (pos 0)) ≡ rows_of (one_row (pos 2) (pos 0)) → ⊥
unfolding one_row paper_header first_of
apart e =
    let same : pos 1 ≡ pos 2 = ap first_of e in
    let z : ◌≡◌ {A = ℕ} 1 2 = cc in
    omega arith

-- and two accepted files have different rows.
pub tables-differ : (v : Version)
    → (a : List ℕ) × (b : List ℕ) × IsFile (rules_of v) a × IsFile (rules_of v) b × (rows_in (rules_of v) (lines_of a) ≡ rows_in (rules_of v) (lines_of b) → ⊥)
tables-differ v =
    let one = accepted-one v in
    let two = accepted-two v in
    (one.0, two.0, one.1, two.1, λ e. apart (sym one.2.rows_are ∙ e ∙ two.2.rows_are))
