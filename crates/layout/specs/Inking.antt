-- A line put in place, as the writers do it: where it ends once its trailing blanks are cut, and its items' bytes laid one after the other over
-- the bytes up to that end, whatever stood there. 01, "The canonical form": "trailing blanks cut from each line. Each canonical line stands directly
-- after the one before in the lent output."
use Rattle.std.specs.Prelude.{Bool, true, false, cond, List, [], ◌∷◌, ◌++◌, ℕ, ◌+◌, ◌-◌, leb, eqb, length, take, drop}
use Rattle.layout.specs.Kind.{is_unused, may_end_blank}
use Rattle.layout.specs.Layout.{Item, Values, bytes_of, left_of, show_line}
use Rattle.layout.specs.Line.{trimmed}

-- the last column of a shown line that is not blank
unfoldable pub line_end : List Item → Values → ℕ
line_end items vs = length (trimmed (show_line items vs))

-- the last column of a text that has some, after so many columns, else what stands before it
abbrev pub text_end : ℕ → List ℕ → ℕ → ℕ
text_end before text earlier = cond (eqb (length (trimmed text)) 0) earlier (before + length (trimmed text))

-- the last column of some items that is not blank, else an earlier one
abbrev pub end_from : ℕ → List Item → Values → ℕ
end_from earlier [] vs = earlier
end_from earlier (item ∷ items) vs = end_from (text_end (item.first - 1) (bytes_of item vs) earlier) items (left_of item vs)

-- the line with these bytes in the columns first to last
abbrev pub overlaid : ℕ → ℕ → List ℕ → List ℕ → List ℕ
overlaid first last bytes line = take (first - 1) line ++ (bytes ++ drop (last - (first - 1)) (drop (first - 1) line))

-- the items' bytes laid over a line, one after the other
abbrev pub drawn : List Item → Values → List ℕ → List ℕ
drawn [] vs line = line
drawn (item ∷ items) vs line =
    drawn items (left_of item vs) (cond (is_unused item.kind) line (overlaid item.first item.last (bytes_of item vs) line))

-- a line that has all these columns, with these bytes in them; another stays as it is
unfoldable pub inked_whole : ℕ → ℕ → List ℕ → List ℕ → List ℕ
inked_whole first last bytes line = cond (leb last (length line)) (overlaid first last bytes line) line

-- these bytes in the columns, as far as the line goes
unfoldable pub inked_part : ℕ → ℕ → List ℕ → List ℕ → List ℕ
inked_part first last bytes line = take (length line) (overlaid first last bytes line)

-- bytes of a kind that may end in blanks after others, or of another, in their columns
abbrev pub inked_by : Bool → ℕ → ℕ → List ℕ → List ℕ → List ℕ
inked_by true first last bytes line = inked_part first last bytes line
inked_by false first last bytes line = inked_whole first last bytes line

-- the items' bytes put in place, one after the other
abbrev pub inked : List Item → Values → List ℕ → List ℕ
inked [] vs line = line
inked (item ∷ items) vs line =
    inked items (left_of item vs) (inked_by (may_end_blank item.kind) item.first item.last (bytes_of item vs) line)
