-- Comments and the end of the file. 01, "Records in order", 7 and 10.
use Rattle.std.specs.Prelude.{List, [], ◌∷◌, ℕ}
use Rattle.layout.specs.Kind.Kind.{unused, fixed, text}
use Rattle.layout.specs.Kind.Held.{words}
use Rattle.layout.specs.Layout.{Item, columns, column, part_at, part_of, show_line}
use Rattle.layout.specs.Line.{ended}

-- `/*`: Columns 1-2 Symbols A2, 4-80 Comment A77; 3 Unused
abbrev pub comment_items : List Item
comment_items = part_at 0 1 2 (fixed 4 (47 ∷ 42 ∷ [])) ∷ column 3 unused ∷ columns 4 80 text ∷ []

-- the bytes of a stored comment: columns 4 to 80
abbrev pub comment_width : ℕ
comment_width = 77

-- the text of a comment's line of 80 columns
abbrev pub comment_of : List ℕ → List ℕ
comment_of line = part_of (columns 4 80 text) line

unfoldable pub comment_line : List ℕ → List ℕ
comment_line bytes = ended (show_line comment_items (words bytes ∷ []))

-- EOF: Columns 1-3 End of File A3; 4-80 blank
abbrev pub end_items : List Item
end_items = part_at 0 1 3 (fixed 4 (69 ∷ 79 ∷ 70 ∷ [])) ∷ columns 4 80 unused ∷ []
