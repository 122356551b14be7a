-- A stretch as the front page speaks of it: the accepted files at its front, of both versions mixed, what is left after them, and more files than there is
-- room for.
use Rattle.std.specs.Prelude.{◌≡◌, ◌⊎◌, List, [], ◌++◌, ℕ, ◌≤◌, ◌<◌, length, take}
use Rattle.header.specs.Versions.{rules_in}
use Rattle.lines.specs.Lent.{over}
use Rattle.scan.specs.Run.{scan_of, AnyFile}
use Rattle.divide.specs.Dividing.{Divides, lengths_after}
use Rattle.scan.specs.Front as front
use Rattle.divide.specs.declared.Division.{Division}

-- what is left after the files: nothing, with refusal, line and column 0; or a rest that is refused by the rules that it tells
abbrev pub Left : List ℕ → ℕ → ℕ → ℕ → Type 0
Left rest refusal line column =
    ((rest ≡ []) × (refusal ≡ 0) × (line ≡ 0) × (column ≡ 0))
    ⊎ ((0 < length rest) × (scan_of (rules_in rest) rest ≡ front.Refused refusal line column))

-- THE FRONT OF A STRETCH: accepted files laid end to end, with the lengths that are written, and a rest; no division of any beginning of the
-- stretch has other files or more of them.
pub record AtFront (bytes old : List ℕ) (answer : Division) : Type 0 where
  pub files : List ℕ
  pub rest : List ℕ
  pub lengths : List ℕ
  pub bytes-are : bytes ≡ files ++ rest
  pub are-files : Divides AnyFile files lengths
  pub room : length lengths ≤ length old
  pub written : lengths_after bytes old ≡ over lengths old
  pub count-is : answer.count ≡ length lengths
  pub rest-begins : answer.rest ≡ length files
  pub left : Left rest answer.refusal answer.line answer.column
  pub all_there : (a b ks : List ℕ) → bytes ≡ a ++ b → Divides AnyFile a ks → take (length ks) lengths ≡ ks

-- more accepted files stand at the front than there is room for
abbrev pub TooMany : List ℕ → ℕ → Type 0
TooMany bytes room = (a : List ℕ) × (b : List ℕ) × (ls : List ℕ) × (bytes ≡ a ++ b) × Divides AnyFile a ls × (room < length ls)
