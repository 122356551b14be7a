-- Bytes as lines. 01, "Lines": "A line is the bytes up to the next LF." A file is read line by line; bytes after the last LF are no line.
use Rattle.std.specs.Prelude.{Bool, not, cond, ◌&&◌, List, [], ◌∷◌, ◌++◌, ℕ, zero, suc, ◌+◌, eqb, ltb, length, get_or, take}
use Rattle.std.specs.List.{list_any}

-- the byte that ends a line, LF
abbrev pub is_lf : ℕ → Bool
is_lf b = eqb b 10

-- how many bytes stand before the first LF, or in all where there is none
unfoldable pub line_length : List ℕ → ℕ
line_length [] = 0
line_length (b ∷ bs) = cond (is_lf b) 0 (suc (line_length bs))

-- whether some bytes have an LF
unfoldable pub has_lf : List ℕ → Bool
has_lf bytes = list_any is_lf bytes

-- whether 80 columns and then an LF stand first
unfoldable pub is_full_line : List ℕ → Bool
is_full_line s = ltb 80 (length s) && (is_lf (get_or s 80 0) && not (has_lf (take 80 s)))

-- a byte before the first of some lines
unfoldable pub on_first : ℕ → List (List ℕ) → List (List ℕ)
on_first b [] = []
on_first b (l ∷ ls) = (b ∷ l) ∷ ls

-- the complete lines of the bytes, without their LF
unfoldable pub lines_of : List ℕ → List (List ℕ)
lines_of [] = []
lines_of (b ∷ bs) = cond (is_lf b) ([] ∷ lines_of bs) (on_first b (lines_of bs))

-- the bytes of some lines, each with its LF
unfoldable pub join_lines : List (List ℕ) → List ℕ
join_lines [] = []
join_lines (l ∷ ls) = l ++ (10 ∷ join_lines ls)

-- how many bytes those are
unfoldable pub bytes_in : List (List ℕ) → ℕ
bytes_in [] = 0
bytes_in (l ∷ ls) = suc (length l) + bytes_in ls

-- the lines that pass a test, in their order
unfoldable pub select : (List ℕ → Bool) → List (List ℕ) → List (List ℕ)
select test [] = []
select test (l ∷ ls) = cond (test l) (l ∷ select test ls) (select test ls)

-- the k-th of some lines, counted from 0; an empty one where there is none
unfoldable pub nth : ℕ → List (List ℕ) → List ℕ
nth k [] = []
nth zero (l ∷ ls) = l
nth (suc k) (l ∷ ls) = nth k ls

-- the lines after the k-th that passes a test
unfoldable pub after_nth : (List ℕ → Bool) → ℕ → List (List ℕ) → List (List ℕ)
after_nth test k [] = []
after_nth test zero (l ∷ ls) = cond (test l) ls (after_nth test zero ls)
after_nth test (suc k) (l ∷ ls) = cond (test l) (after_nth test k ls) (after_nth test (suc k) ls)

-- the k-th line that passes a test is met here, where `here` stands for it, or later
abbrev pub met_at : ℕ → ℕ → (ℕ → ℕ) → ℕ
met_at zero here later = here
met_at (suc k) here later = later k

-- the byte at which the k-th line that passes a test begins, counted from the byte `at`, where the lines begin; where there is none, the byte
-- after them
unfoldable pub begins_from : (List ℕ → Bool) → ℕ → ℕ → List (List ℕ) → ℕ
begins_from test k at [] = at
begins_from test k at (l ∷ ls) =
    cond (test l)
    (met_at k at (λ k'. begins_from test k' (at + length l + 1) ls))
    (begins_from test k (at + length l + 1) ls)
