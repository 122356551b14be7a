-- A file as the front page speaks of it: the header of its table, its satellites, its P and V lines, and the row of an epoch and a satellite. Epochs,
-- satellites and rows are counted from 0.
use Rattle.std.specs.Prelude.{◌≡◌, Bool, true, false, cond, List, ◌∷◌, ◌++◌, [], ℕ, ◌+◌, ◌*◌, ◌<◌, length, get_or}
use Rattle.header.specs.declared.types.Rules.{Rules}
use Rattle.lines.specs.Lines.{lines_of, nth, after_nth}
use Rattle.record.specs.LineKinds.{epoch_kind}
use Rattle.layout.specs.Line.{padded}
use Rattle.record.specs.Rows.{row_of, cut}
use Rattle.file.specs.Kinds.{is_row, of_kind, row_number}
use Rattle.file.specs.Plain.{is_epoch_line, is_row_line, is_note_line}
use Rattle.file.specs.Table.{header_in}
use Rattle.reader.specs.Reading.{identifiers_of}
use Rattle.header.specs.declared.types.Header.{Header}
use Rattle.record.specs.declared.types.Row.{Row}

-- the header of its table, and its j-th identifier
abbrev pub header : Rules → List ℕ → Header
header rules bytes = header_in rules (lines_of bytes)

abbrev pub identifier : Rules → List ℕ → ℕ → ℕ
identifier rules bytes j = get_or (identifiers_of rules (lines_of bytes)) j 0

-- its P lines (false), or its V lines (true), in file order
abbrev pub row_lines_of : Rules → Bool → List ℕ → List (List ℕ)
row_lines_of rules velocity bytes = of_kind rules (row_number velocity) (lines_of bytes)

-- the number of the row of epoch k and satellite j among them
abbrev pub row_at : Rules → List ℕ → ℕ → ℕ → ℕ
row_at rules bytes k j = k * (header rules bytes).satellites + j

-- the file has that epoch and that satellite
pub record There (rules : Rules) (bytes : List ℕ) (k j : ℕ) : Type 0 where
  pub epoch : k < (header rules bytes).epochs
  pub satellite : j < (header rules bytes).satellites

-- the line of that row, and the row that its columns hold
abbrev pub line_asked : Rules → Bool → List ℕ → ℕ → ℕ → List ℕ
line_asked rules velocity bytes k j = nth (row_at rules bytes k j) (row_lines_of rules velocity bytes)

abbrev pub held : Rules → Bool → List ℕ → ℕ → ℕ → Row
held rules velocity bytes k j = row_of velocity (line_asked rules velocity bytes k j)

-- its number among all rows of the table: in mode V each V row stands after its P row
abbrev pub table_row : Rules → Bool → List ℕ → ℕ → ℕ → ℕ
table_row rules true bytes k j = 2 * row_at rules bytes k j + 1
table_row rules false bytes k j = cond (header rules bytes).velocity (2 * row_at rules bytes k j) (row_at rules bytes k j)

-- the lines after that row's line; the first of them is the line directly after it
abbrev pub lines_after : Rules → Bool → List ℕ → ℕ → ℕ → List (List ℕ)
lines_after rules velocity bytes k j = after_nth (is_row rules) (table_row rules velocity bytes k j) (lines_of bytes)

-- this line stands directly after it, and is an EP line (an EV line after a V row)
pub record HasNote (rules : Rules) (velocity : Bool) (bytes : List ℕ) (k j : ℕ) (line : List ℕ) : Type 0 where
  pub others : List (List ℕ)
  pub stands : lines_after rules velocity bytes k j ≡ line ∷ others
  pub is-note : is_note_line rules velocity line ≡ true

-- the columns of its deviations by 0 to 3 (x, y, z, clock), and of its correlations by 0 to 5 (xy, xz, xc, yz, yc, zc)
abbrev pub deviation_field : ℕ → List ℕ → List ℕ
deviation_field which line = get_or (cut 5 8 (padded line) ∷ cut 10 13 (padded line) ∷ cut 15 18 (padded line) ∷ cut 20 26 (padded line) ∷ []) which []

abbrev pub correlation_field : ℕ → List ℕ → List ℕ
correlation_field which line =
    get_or
    (cut 28 35 (padded line)
    ∷ cut 37 44 (padded line)
    ∷ cut 46 53 (padded line)
    ∷ cut 55 62 (padded line)
    ∷ cut 64 71 (padded line)
    ∷ cut 73 80 (padded line)
    ∷ [])
    which
    []

-- Row k * n + j of the P lines, or of the V lines, is the line of epoch k that names identifier j: epoch k is the epoch line with k epoch lines before it
-- and the lines that follow it up to the next; it stands at the start plus k times the interval; and of its rows the j-th names identifier j, and no
-- other does.
pub record RowOf (rules : Rules) (velocity : Bool) (bytes : List ℕ) (k j : ℕ) : Type 0 where
  pub earlier : List (List ℕ)
  pub epoch : List ℕ
  pub rows : List (List ℕ)
  pub later : List (List ℕ)
  pub lines_are : lines_of bytes ≡ earlier ++ ((epoch ∷ rows) ++ later)
  pub earlier-epochs : length (of_kind rules epoch_kind earlier) ≡ k
  pub no-other-epoch : of_kind rules epoch_kind rows ≡ []
  pub at-instant : is_epoch_line rules ((header rules bytes).start8 + k * (header rules bytes).interval8) epoch ≡ true
  pub its-row : line_asked rules velocity bytes k j ≡ nth j (of_kind rules (row_number velocity) (epoch ∷ rows))
  pub names-it : is_row_line rules velocity (identifier rules bytes j) (line_asked rules velocity bytes k j) ≡ true
  pub no_other :
      (i : ℕ)
      → i < (header rules bytes).satellites
      → is_row_line rules velocity (identifier rules bytes j) (nth i (of_kind rules (row_number velocity) (epoch ∷ rows))) ≡ true
      → i ≡ j
