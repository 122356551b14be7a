-- Files and tables. 01, "The canonical form": "A table is valid exactly when some accepted file has it"; "lists shorter than its counts make it invalid,
-- places past them aren't looked at". When the lines of a file have a table, the table that they have, and a file written again.
use Rattle.std.specs.Prelude.{◌≡◌, true, false, List, ℕ, ◌≤◌, eqb}
use Rattle.laws.specs.Texts.{is_printable}
use Rattle.lines.specs.Lines.{lines_of}
use Rattle.header.specs.Rules.{d}
use Rattle.header.specs.declared.types.Rules.{Rules}
use Rattle.file.specs.Table.{count_of, header_in, slots_in, comments_in, rows_in}
use Rattle.file.specs.Plain.{Sound}
use Rattle.canon.specs.Table.{Table, table_of, table_identifiers, exponents_of, comments_of, rows_of}
use Rattle.canon.specs.Canonical.{canonical}
use Rattle.canon_laws.specs.Within.{Within}

-- the lines have the table: its header, and of its lists so many first places as its counts say
pub record Holds (rules : Rules) (lines : List (List ℕ)) (t : Table) : Type 0 where
  pub header_is : header_in rules lines ≡ t.header
  pub identifiers-are : slots_in rules false (count_of rules lines) lines ≡ table_identifiers t
  pub exponents-are : slots_in rules true (count_of rules lines) lines ≡ exponents_of t
  pub comments-are : comments_in rules lines ≡ comments_of t
  pub rows_are : rows_in rules lines ≡ rows_of t

-- the table that some lines have, its lists no longer than its counts
abbrev pub table_in : Rules → List (List ℕ) → Table
table_in rules lines =
    table_of (header_in rules lines) (slots_in rules false (count_of rules lines) lines) (slots_in rules true (count_of rules lines) lines) (comments_in rules lines)
    (rows_in rules lines)

-- what a file is written again as: the form of its table
abbrev pub rewritten : Rules → List ℕ → List ℕ
rewritten rules bytes = canonical rules (table_in rules (lines_of bytes))

-- rules that a version can have whose tables are to be written: its letter may stand in a line and is not the `#` of line 2, a comment's symbol
-- fits its line, and its bounds lie within those of SP3-d, by which a table that is not valid is told from one that is outside its version's bounds
pub record Proper (rules : Rules) : Type 0 where
  pub sound : Sound rules
  pub letter-printable : is_printable rules.letter ≡ true
  pub letter-own : eqb rules.letter 35 ≡ false
  pub symbol-fits : 2 ≤ rules.comment_columns
  pub within_d : Within rules d
