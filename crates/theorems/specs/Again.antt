-- Reading and writing, one after the other: the table that is handed from `read` to `write`, and the bytes from `write` to `read`.
use Rattle.std.specs.Prelude.{List, ℕ, ℤ, length, take, Bool}
use Rattle.header.specs.declared.types.Header.{Header}
use Rattle.header.specs.declared.types.Rules.{Rules}
use Rattle.reader.specs.Reading.{read_answer, identifiers_after, exponents_after, comments_after, rows_after}
use Rattle.reader.specs.declared.types.Reading.{Reading}
use Rattle.canon.specs.Table.{Table, table_of}
use Rattle.canon.specs.Measured.{measured_in}
use Rattle.writer.specs.Writing.{out_after}
use Rattle.theorems.specs.Room.{found_in}

-- the answer of a reading with success, by the letter of the version, the length and the header
abbrev pub told_file : ℕ → ℕ → Header → Reading
told_file letter n h = record { refusal = 0; line = 0; column = 0; length = n; header = h; version = letter }

-- the header that a reading answered and the four lists as it left them, for a whole file (true) or one at the front (false)
abbrev pub lent_table : Rules → Bool → List ℕ → List ℕ → List ℕ → List ℕ → List ℤ → Table
lent_table rules whole bytes identifiers exponents comments rows =
    let found = found_in rules whole bytes in
    table_of (read_answer rules bytes found identifiers exponents comments rows).header
    (identifiers_after rules bytes found identifiers exponents comments rows)
    (exponents_after rules bytes found identifiers exponents comments rows)
    (comments_after rules bytes found identifiers exponents comments rows)
    (rows_after rules bytes found identifiers exponents comments rows)

-- the first bytes of the output after a writing, as many as it answered
abbrev pub written_bytes : Rules → Table → List ℕ → List ℕ
written_bytes rules t out = take (measured_in rules t (length out)).length (out_after rules t out)
