-- The rules of SP3-d as they were before 02, Ask 6: "The combined broadcast file outgrew 255. Take 999, as document 000 does".
use Rattle.std.specs.Prelude.{Bool, true, false, List, ℕ}
use Rattle.header.specs.Rules.{d}
use Rattle.reader.specs.Reading.{front_of, file_of}
use Rattle.header.specs.declared.types.Rules.{Rules}
use Rattle.scan.specs.Front.{Front}

-- rules with another bound of satellites, all else as it is
abbrev pub with_most : ℕ → Rules → Rules
with_most most rules = record {
  letter = rules.letter;
  most_satellites = most;
  fewest_comments = rules.fewest_comments;
  most_comments = rules.most_comments;
  comment_columns = rules.comment_columns;
}

-- the most satellites of a file as it was, and the rules with that bound
abbrev pub satellites_before : ℕ
satellites_before = 255

abbrev pub before : Rules
before = with_most satellites_before d

-- what was found in some bytes: a whole file (true), or one at the front (false)
abbrev pub found_before : Bool → List ℕ → Front
found_before true bytes = file_of before bytes
found_before false bytes = front_of before bytes
