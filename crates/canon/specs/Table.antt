-- A table to be written. 01, "What the build covers": "A table holds the mode, start, number of epochs, interval, four texts, identifiers with
-- their exponents, file type, time system, two bases, the comments without trailing blanks, and the rows in file order". Its lists are lent;
-- "places past them aren't looked at": what belongs to the table are so many first places as its counts say.
use Rattle.std.specs.Prelude.{Bool, true, false, List, ℕ, ◌*◌, ℤ, take}
use Rattle.record.specs.Plain.{comment_width}
use Rattle.record.specs.Rows.{row_width, both_width}
use Rattle.header.specs.declared.types.Header.{Header}

pub record Table : Type 0 where
  pub header : Header
  pub identifiers : List ℕ
  pub exponents : List ℕ
  pub comments : List ℕ
  pub rows : List ℤ

abbrev pub table_of : Header → List ℕ → List ℕ → List ℕ → List ℤ → Table
table_of h identifiers exponents comments rows =
    record { header = h; identifiers = identifiers; exponents = exponents; comments = comments; rows = rows }

-- the numbers of one satellite in one epoch: a P row with its note, in mode V a V row with its own after it
abbrev pub cell_width : Bool → ℕ
cell_width true = both_width
cell_width false = row_width

-- how many of them there are
abbrev pub cells_in : Header → ℕ
cells_in h = h.satellites * h.epochs

-- What belongs to the table: its identifiers, their exponents, the bytes of its comments, the numbers of its rows.
abbrev pub table_identifiers : Table → List ℕ
table_identifiers t = take t.header.satellites t.identifiers

abbrev pub exponents_of : Table → List ℕ
exponents_of t = take t.header.satellites t.exponents

abbrev pub comments_of : Table → List ℕ
comments_of t = take (t.header.comments * comment_width) t.comments

abbrev pub rows_of : Table → List ℤ
rows_of t = take (cells_in t.header * cell_width t.header.velocity) t.rows
