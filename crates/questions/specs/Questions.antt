-- Questions about one file, which is read whole: its own refusal comes first, then 13 with line 0. 01: "Epochs, satellites of the header and
-- comments are asked for by number from 0"; "When a comment is asked for by its number, a comment's text is handed back as that stretch of the
-- file, without its trailing blanks, empty on a refusal"; 13 "what is asked by number isn't there".
use Rattle.std.specs.Prelude.{Bool, false, cond, not, ◌&&◌, List, [], ◌∷◌, ℕ, suc, ◌+◌, ◌*◌, min, eqb, ltb, length, drop}
use Rattle.layout.specs.Line.{trimmed}
use Rattle.layout.specs.Kind.{named, identifier_number, identifier_code}
use Rattle.lines.specs.Lines.{nth, begins_from}
use Rattle.record.specs.LineKinds.{comment_kind, position_kind}
use Rattle.record.specs.Rows.{row_of}
use Rattle.file.specs.Kinds.{is_kind, of_kind}
use Rattle.file.specs.Table.{first_in, count_of}
use Rattle.header.specs.declared.types.Rules.{Rules}
use Rattle.std.specs.Prelude.{Ok, Err}
use Rattle.scan.specs.Front.{Front}
use Rattle.scan.specs.Front as front
use Rattle.reader.specs.Reading.{lines_to, identifiers_of}
use Rattle.float_row.specs.Floats.{float_row, absent_row, line_from}
use Rattle.questions.specs.declared.types.CommentAnswer.{CommentAnswer}
use Rattle.questions.specs.declared.types.SatelliteAnswer.{SatelliteAnswer}
use Rattle.questions.specs.declared.types.RowBegins.{RowBegins}
use Rattle.questions.specs.declared.types.RowAnswer.{RowAnswer}

-- the text of a comment's line: from column 4 on, without trailing blanks
abbrev pub text_in : List ℕ → List ℕ
text_in line = trimmed (drop 3 line)

abbrev pub no_comment : ℕ → ℕ → ℕ → CommentAnswer
no_comment number line column = record { refusal = number; line = line; column = column; at = 0; length = 0 }

-- the k-th comment's line, and the byte at which it begins
abbrev pub comment_line : Rules → List (List ℕ) → ℕ → List ℕ
comment_line rules lines k = nth k (of_kind rules comment_kind lines)

abbrev pub comment_begins : Rules → List (List ℕ) → ℕ → ℕ
comment_begins rules lines k = begins_from (is_kind rules comment_kind) k 0 lines

-- where its text lies: at column 4, or at the line's end where the line is shorter
abbrev pub comment_at : Rules → List (List ℕ) → ℕ → CommentAnswer
comment_at rules lines k = record {
  refusal = 0;
  line = 0;
  column = 0;
  at = comment_begins rules lines k + min 3 (length (comment_line rules lines k));
  length = length (text_in (comment_line rules lines k));
}

unfoldable pub comment_answer : Rules → List ℕ → Front → ℕ → CommentAnswer
comment_answer rules bytes (Ok t) k = cond (ltb k t.comments) (comment_at rules (lines_to t.end bytes) k) (no_comment 13 0 0)
comment_answer rules bytes (Err refusal) k = no_comment refusal.number refusal.line refusal.column

-- the text itself, empty on a refusal
unfoldable pub comment_words : Rules → List ℕ → Front → ℕ → List ℕ
comment_words rules bytes (Ok t) k = cond (ltb k t.comments) (text_in (comment_line rules (lines_to t.end bytes) k)) []
comment_words rules bytes (Err refusal) k = []

-- the identifier that a text names: a capital letter and 01 to 99, as one number (G07 is 7107); 0, which is no satellite, for any other text
unfoldable pub identifier_named : List ℕ → ℕ
identifier_named text = cond (eqb (length text) 3 && (named text && not (eqb (identifier_number text) 0))) (identifier_code text) 0

-- the number of the first that is this one, counted from 0; as many as there are where none is
unfoldable pub index_of : ℕ → List ℕ → ℕ
index_of identifier [] = 0
index_of identifier (x ∷ xs) = cond (eqb identifier x) 0 (suc (index_of identifier xs))

abbrev pub no_satellite : ℕ → ℕ → ℕ → SatelliteAnswer
no_satellite number line column = record { refusal = number; line = line; column = column; number = 0 }

-- the number of an identifier among those of the header
abbrev pub satellite_in : ℕ → List ℕ → SatelliteAnswer
satellite_in identifier identifiers =
    cond (ltb (index_of identifier identifiers) (length identifiers)) (record { refusal = 0; line = 0; column = 0; number = index_of identifier identifiers }) (no_satellite 13 0 0)

unfoldable pub satellite_answer : Rules → List ℕ → Front → ℕ → SatelliteAnswer
satellite_answer rules bytes (Ok t) identifier = satellite_in identifier (identifiers_of rules (lines_to t.end bytes))
satellite_answer rules bytes (Err refusal) identifier = no_satellite refusal.number refusal.line refusal.column

-- Where the P line of (epoch, satellite) lies in an accepted file: it is the (epoch times n plus satellite)-th P line.
abbrev pub epochs_of : Rules → List (List ℕ) → ℕ
epochs_of rules lines = (first_in rules lines).epochs

abbrev pub row_index : Rules → List (List ℕ) → ℕ → ℕ → ℕ
row_index rules lines epoch satellite = epoch * count_of rules lines + satellite

abbrev pub no_row : ℕ → ℕ → ℕ → RowBegins
no_row number line column = record { refusal = number; line = line; column = column; at = 0 }

abbrev pub has_row : Rules → List (List ℕ) → ℕ → ℕ → Bool
has_row rules lines epoch satellite = ltb epoch (epochs_of rules lines) && ltb satellite (count_of rules lines)

abbrev pub row_at : Rules → List (List ℕ) → ℕ → ℕ → RowBegins
row_at rules lines epoch satellite =
    cond (has_row rules lines epoch satellite)
    (record { refusal = 0; line = 0; column = 0; at = begins_from (is_kind rules position_kind) (row_index rules lines epoch satellite) 0 lines })
    (no_row 13 0 0)

unfoldable pub row_begins : Rules → List ℕ → Front → ℕ → ℕ → RowBegins
row_begins rules bytes (Ok t) epoch satellite = row_at rules (lines_to t.end bytes) epoch satellite
row_begins rules bytes (Err refusal) epoch satellite = no_row refusal.number refusal.line refusal.column

-- its row as floats, or the refusal with both absent
unfoldable pub row_answer : List ℕ → RowBegins → RowAnswer
row_answer bytes found =
    cond (eqb found.refusal 0)
    (record { refusal = 0; line = 0; column = 0; row = float_row (row_of false (line_from found.at bytes)) })
    (record { refusal = found.refusal; line = found.line; column = found.column; row = absent_row })
