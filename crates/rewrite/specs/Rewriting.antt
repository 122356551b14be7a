-- A file read into lent lists and its table written from them: first the answer of the reading, then that of the writing.
use Rattle.std.specs.Prelude.{cond, List, ℕ, eqb, ℤ}
use Rattle.header.specs.Versions.{version_by, rules_of, rules_in}
use Rattle.reader.specs.Reading.{file_of, read_answer, identifiers_after, exponents_after, comments_after, rows_after}
use Rattle.canon.specs.Table.{Table, table_of}
use Rattle.canon.specs.Measured.{measured_in}
use Rattle.writer.specs.Writing.{out_after}
use Rattle.header.specs.declared.types.Rules.{Rules}
use Rattle.reader.specs.declared.types.Reading.{Reading}
use Rattle.canon.specs.declared.types.Measured.{Measured}
use Rattle.rewrite.specs.declared.types.Rewritten.{Rewritten}

-- the refusal of a reading with its line and column; what a writing answers, with neither
abbrev pub as_read : Reading → Rewritten
as_read r = record { refusal = r.refusal; line = r.line; column = r.column; length = 0 }

abbrev pub as_written : Measured → Rewritten
as_written m = record { refusal = m.refusal; line = 0; column = 0; length = m.length }

-- Of these bytes, with these lists lent.
module _ (bytes identifiers exponents comments : List ℕ) (rows : List ℤ) where
  -- the rules that they tell
  abbrev rules : Rules
  rules = rules_in bytes

  abbrev pub reading : Reading
  reading = read_answer rules bytes (file_of rules bytes) identifiers exponents comments rows

  -- what is lent to the writing: the header that was read, and the lists as the reading left them
  abbrev pub table_read : Table
  table_read =
      table_of reading.header
      (identifiers_after rules bytes (file_of rules bytes) identifiers exponents comments rows)
      (exponents_after rules bytes (file_of rules bytes) identifiers exponents comments rows)
      (comments_after rules bytes (file_of rules bytes) identifiers exponents comments rows)
      (rows_after rules bytes (file_of rules bytes) identifiers exponents comments rows)

  -- the rules of the version that the reading told
  abbrev pub version_read : Rules
  version_read = rules_of (version_by reading.version)

  -- the answer where so many bytes are lent for the form, and those bytes afterwards
  unfoldable pub rewrite_answer : ℕ → Rewritten
  rewrite_answer room = cond (eqb reading.refusal 0) (as_written (measured_in version_read table_read room)) (as_read reading)

  unfoldable pub out_rewritten : List ℕ → List ℕ
  out_rewritten out = cond (eqb reading.refusal 0) (out_after version_read table_read out) out
