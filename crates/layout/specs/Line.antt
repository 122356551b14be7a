-- A line as bytes. 01, "Lines": "A line is the bytes up to the next LF. .. A short line counts as padded with blanks."
-- "The canonical form": "trailing blanks cut from each line. Each canonical line stands directly after the one before in the lent output."
use Rattle.std.specs.Prelude.{◌≡◌, cond, List, [], ◌∷◌, ◌++◌, ℕ, length, take, drop, leb, eqb}
use Rattle.laws.specs.Texts.{blanks}

-- a short line counts as padded with blanks to 80 columns
unfoldable pub padded : List ℕ → List ℕ
padded line = take 80 (line ++ blanks 80)

-- a byte before a line that is cut already
abbrev pub cons_trimmed : ℕ → List ℕ → List ℕ
cons_trimmed b [] = cond (eqb b 32) [] (b ∷ [])
cons_trimmed b (c ∷ cs) = b ∷ c ∷ cs

-- a line without its trailing blanks
abbrev pub trimmed : List ℕ → List ℕ
trimmed [] = []
trimmed (b ∷ bs) = cons_trimmed b (trimmed bs)

-- a line as it is written: cut, and ended by LF (10)
abbrev pub ended : List ℕ → List ℕ
ended line = trimmed line ++ (10 ∷ [])

-- the bytes up to the next LF
abbrev pub line_of : List ℕ → List ℕ
line_of [] = []
line_of (b ∷ bs) = cond (eqb b 10) [] (b ∷ line_of bs)

-- what a line's bytes leave of the lent output: laid at its front where there is room
abbrev pub laid_in : List ℕ → List ℕ → List ℕ
laid_in bytes out = cond (leb (length bytes) (length out)) (bytes ++ drop (length bytes) out) out

-- what a line writer does with the lent output, and the length that it tells: the line's, whether there was room or not
pub record Lays (bytes out : List ℕ) (r : ℕ) (after : List ℕ) : Type 0 where
  pub length-told : r ≡ length bytes
  pub laid : after ≡ laid_in bytes out
