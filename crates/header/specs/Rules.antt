-- The rules of a version as one record, which what is defined over a version takes as an argument: `c` and `d`.
-- 01, "Bounds: .. at most 100,000 epochs, at least one of each"; 02, Ask 6: "Take 999, as document 000 does"; 01, "Records in order": "Four or
-- more comments"; "Lines": "It has at most 80 characters".
use Rattle.std.specs.Prelude.{ℕ, ◌+◌, ◌/◌, max}
use Rattle.header.specs.declared.types.Rules.{Rules}

-- the bounds of a header: satellites, epochs, comments
abbrev pub max_satellites : ℕ
max_satellites = 999

abbrev pub max_epochs : ℕ
max_epochs = 100_000

abbrev pub min_comments : ℕ
min_comments = 4

-- SP3-d: its letter in column 2, its most satellites, its fewest and most comments (no bound: the most that a count can be), and the
-- columns of a comment line
abbrev pub d : Rules
d = record {
  letter = 100;
  most_satellites = max_satellites;
  fewest_comments = min_comments;
  most_comments = 18_446_744_073_709_551_615;
  comment_columns = 80;
}

-- SP3-c. 02, Ask 9: "`#c`, at most 85 satellites, exactly five lines of each kind, exactly four comments, comment lines of at most 60 characters, all
-- else as in 01"; 85 satellites have five lines of each kind
abbrev pub max_satellites_c : ℕ
max_satellites_c = 85

abbrev pub comment_columns_c : ℕ
comment_columns_c = 60

abbrev pub c : Rules
c = record {
  letter = 99;
  most_satellites = max_satellites_c;
  fewest_comments = min_comments;
  most_comments = min_comments;
  comment_columns = comment_columns_c;
}

-- `+ ` lines: "exactly n / 17 rounded up, or five where that is less than five"; as many `++` lines
unfoldable pub slot_lines : ℕ → ℕ
slot_lines n = max 5 ((n + 16) / 17)
