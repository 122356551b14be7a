-- The row question as the front page speaks of it. 01: "The adjustment asks for a row of an accepted file and gets its three coordinates and the clock as
-- f64 in the same units, exactly, or the word absent in place of either".
use Rattle.std.specs.Prelude.{List, ℕ}
use Rattle.header.specs.declared.types.Rules.{Rules}
use Rattle.reader.specs.Reading.{file_of}
use Rattle.questions.specs.Questions.{row_begins, row_answer}
use Rattle.float_row.specs.Floats.{absent_row}
use Rattle.float_row.specs.declared.FloatRow.{FloatRow}
use Rattle.questions.specs.declared.types.RowAnswer.{RowAnswer}

-- what `row` answers for epoch k and satellite j of some bytes
abbrev pub asked : Rules → List ℕ → ℕ → ℕ → RowAnswer
asked rules bytes k j = row_answer bytes (row_begins rules bytes (file_of rules bytes) k j)

-- a row found, and a refusal, beside which place and clock are absent
abbrev pub row_found : FloatRow → RowAnswer
row_found row = record { refusal = 0; line = 0; column = 0; row = row }

abbrev pub row_refused : ℕ → ℕ → ℕ → RowAnswer
row_refused number line column = record { refusal = number; line = line; column = column; row = absent_row }
