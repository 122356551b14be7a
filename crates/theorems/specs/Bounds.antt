-- The bounds of a version as the front page speaks of them. 02, Ask 9: "a valid table has one canonical form in each version whose bounds it keeps".
use Rattle.std.specs.Prelude.{List, ℕ, ◌*◌, ◌≤◌, ◌<◌, length, take, drop}
use Rattle.header.specs.declared.types.Rules.{Rules}
use Rattle.layout.specs.Line.{trimmed}
use Rattle.record.specs.Plain.{comment_width}
use Rattle.canon.specs.Table.{Table, comments_of}
use Rattle.canon.specs.Valid.{comment_columns}

-- the i-th comment of a table, counted from 0
abbrev pub comment_of : Table → ℕ → List ℕ
comment_of t i = take comment_width (drop (i * comment_width) (comments_of t))

-- a table keeps the bounds of a version: its satellites, its comments, and each comment's text without its trailing blanks
pub record Keeps (rules : Rules) (t : Table) : Type 0 where
  pub satellites : t.header.satellites ≤ rules.most_satellites
  pub fewest : rules.fewest_comments ≤ t.header.comments
  pub most : t.header.comments ≤ rules.most_comments
  pub texts : (i : ℕ) → i < t.header.comments → length (trimmed (comment_of t i)) ≤ comment_columns rules
