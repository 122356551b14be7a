-- Room for a reading. 01: "A reading needs room for n identifiers and exponents, for n times epochs rows (twice that in mode V) and 77 bytes for each
-- comment". Reading a whole file (true) and reading the file at the front of some bytes (false) are said at once.
use Rattle.std.specs.Prelude.{Bool, true, false, cond, ◌⊎◌, List, ℕ, ◌*◌, ◌≤◌, ◌<◌}
use Rattle.header.specs.declared.types.Rules.{Rules}
use Rattle.record.specs.Plain.{comment_width}
use Rattle.record.specs.Rows.{row_width}
use Rattle.reader.specs.Reading.{front_of, file_of, delivered, enough}
use Rattle.header.specs.declared.types.Header.{Header}
use Rattle.reader.specs.declared.types.Reading.{Reading}
use Rattle.scan.specs.Front.{Front}

-- what is found in some bytes
abbrev pub found_in : Rules → Bool → List ℕ → Front
found_in rules true bytes = file_of rules bytes
found_in rules false bytes = front_of rules bytes

-- what a reading answers where so many identifiers, exponents, bytes of comments and numbers of rows are lent, and whether it fills them
abbrev pub answer : Rules → Bool → List ℕ → ℕ → ℕ → ℕ → ℕ → Reading
answer rules whole bytes i x c r = delivered rules bytes (found_in rules whole bytes) i x c r

abbrev pub fills : Rules → Bool → List ℕ → ℕ → ℕ → ℕ → ℕ → Bool
fills rules whole bytes i x c r = enough rules bytes (found_in rules whole bytes) i x c r

-- the numbers of all rows
abbrev pub rows_needed : Header → ℕ
rows_needed h = cond h.velocity (2 * row_width * (h.satellites * h.epochs)) (row_width * (h.satellites * h.epochs))

-- there is room for a table with this header
pub record Room (h : Header) (i x c r : ℕ) : Type 0 where
  pub identifiers : h.satellites ≤ i
  pub exponents : h.satellites ≤ x
  pub comments : comment_width * h.comments ≤ c
  pub rows : rows_needed h ≤ r

-- some of it is missing
abbrev pub Short : Header → ℕ → ℕ → ℕ → ℕ → Type 0
Short h i x c r = (i < h.satellites) ⊎ ((x < h.satellites) ⊎ ((c < comment_width * h.comments) ⊎ (r < rows_needed h)))

-- The room of the program `rewrite`. 01: "Over 65,536 bytes it prints `too long`. It has room for 800 comments and 65,536 bytes of output, and for all
-- rows": so many are all rows of a file that is not too long.
abbrev pub most_bytes : ℕ
most_bytes = 65_536

abbrev pub most_comments : ℕ
most_comments = 800

abbrev pub most_rows : ℕ
most_rows = 1_191
