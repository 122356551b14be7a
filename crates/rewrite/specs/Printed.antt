-- What the program prints. 01, "One file whole": "The program `rewrite` takes a file from standard input and prints its canonical bytes, or one line
-- `refused 9 line 23` (number, then line). Over 65,536 bytes it prints `too long`. It has room for 800 comments and 65,536 bytes of output, and for
-- all rows; past that it prints `refused 12 line 0`." 02, "Tell the column": "`rewrite` prints `refused 6 line 24 column 5`." Every line that it prints ends with LF.
use Rattle.std.specs.Prelude.{cond, ◌&&◌, List, [], ◌∷◌, ◌++◌, ℕ, leb, length}
use Rattle.field.specs.Show.{digits_in}
use Rattle.header.specs.Versions.{rules_in}
use Rattle.lines.specs.Lines.{lines_of}
use Rattle.file.specs.Table.{header_in}
use Rattle.reader.specs.Reading.{file_of}
use Rattle.canon_laws.specs.Held.{rewritten}
use Rattle.std.specs.Prelude.{Ok, Err}
use Rattle.scan.specs.Front.{Front}
use Rattle.scan.specs.Front as front
pub use Rattle.theorems.specs.Room.{most_bytes, most_comments}

-- `too long` and LF
abbrev pub too_long : List ℕ
too_long = 116 ∷ 111 ∷ 111 ∷ 32 ∷ 108 ∷ 111 ∷ 110 ∷ 103 ∷ 10 ∷ []

-- `refused `
abbrev pub refused_word : List ℕ
refused_word = 114 ∷ 101 ∷ 102 ∷ 117 ∷ 115 ∷ 101 ∷ 100 ∷ 32 ∷ []

-- ` line ` and ` column `
abbrev pub line_word : List ℕ
line_word = 32 ∷ 108 ∷ 105 ∷ 110 ∷ 101 ∷ 32 ∷ []

abbrev pub column_word : List ℕ
column_word = 32 ∷ 99 ∷ 111 ∷ 108 ∷ 117 ∷ 109 ∷ 110 ∷ 32 ∷ []

-- a number in decimal digits, without leading zeros
abbrev pub number_text : ℕ → List ℕ
number_text n = digits_in 20 n

-- a word and a number
abbrev pub said : List ℕ → ℕ → List ℕ
said word n = word ++ number_text n

-- `refused N line L column C` and LF, the column 0 where the refusal names none
unfoldable pub refused_text : ℕ → ℕ → ℕ → List ℕ
refused_text number line column = ((said refused_word number ++ said line_word line) ++ said column_word column) ++ (10 ∷ [])

-- the canonical form of a file in its own version
abbrev pub form_of : List ℕ → List ℕ
form_of bytes = rewritten (rules_in bytes) bytes

-- of a file that is accepted, the canonical form where there is room; the refusal of another
unfoldable pub answered : List ℕ → Front → List ℕ
answered bytes (Ok t) =
    cond (leb (header_in (rules_in bytes) (lines_of bytes)).comments most_comments && leb (length (form_of bytes)) most_bytes) (form_of bytes) (refused_text 12 0 0)
answered bytes (Err refusal) = refused_text refusal.number refusal.line refusal.column

-- all that is printed
unfoldable pub printed : List ℕ → List ℕ
printed bytes = cond (leb (length bytes) most_bytes) (answered bytes (file_of (rules_in bytes) bytes)) too_long
