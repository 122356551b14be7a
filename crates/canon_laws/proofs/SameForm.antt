-- A form depends on the rules of a version by their letter alone, which is its second byte; the table that some lines have, too, by the letter alone.
-- Assumes nothing.
use mathlib.Core.Path.{◌≡◌, refl, sym, ap, ◌∙◌}
use mathlib.Core.Bool.{false}
use mathlib.Core.List.{List, [], ◌∷◌, ◌++◌}
use Prim.Native.Nat.{ℕ}
use lib.Dec.{eqb}
use lib.ListN.{drop}
use Rattle.layout.specs.Line.{cons_trimmed, trimmed, ended}
use Rattle.layout.specs.Layout.{show_line}
use Rattle.lines.specs.Lent.{flat}
use Rattle.record.specs.LineKinds.{kind_of}
use Rattle.record.specs.Opening.{first_items, first_values, first_line}
use Rattle.record.specs.SlotLines.{satellites_line}
use Rattle.header.specs.Rules.{d}
use Rattle.header.specs.declared.types.Rules.{Rules}
use Rattle.record.specs.declared.types.First.{First}
use Rattle.file.specs.Table.{header_in, slots_in, comments_in, rows_of_lines}
use Rattle.canon.specs.Table.{Table}
use Rattle.canon.specs.Canonical.{first_shown, lines_before, canonical_lines, canonical}
use Rattle.canon_laws.specs.Held.{table_in}

-- rules of which nothing but the letter is said
abbrev pub lettered : ℕ → Rules
lettered letter = record {
  letter = letter;
  most_satellites = 0;
  fewest_comments = 0;
  most_comments = 0;
  comment_columns = 0;
}

-- ONE LETTER, ONE FORM,
pub form-letter : (r s : Rules) (t : Table) → r.letter ≡ s.letter → canonical r t ≡ canonical s t
unfolding canonical canonical_lines lines_before first_line satellites_line
form-letter r s t e = ap (λ (letter : ℕ). canonical (lettered letter) t) e

-- what stands in line 1 from column 3 on, and the lines after it
first_rest : First → List ℕ
first_rest f = ended (show_line (drop 1 (first_items d)) (first_values f))

others : Table → List ℕ
others t = flat (drop 1 (canonical_lines d t))

-- a byte that is not blank stays before what is cut
inked : (b : ℕ) (bs : List ℕ) → eqb b 32 ≡ false → cons_trimmed b bs ≡ b ∷ bs
inked b [] e = rw e
inked b (c ∷ cs) e = refl

module _ (rules : Rules) (ink : eqb rules.letter 32 ≡ false) where
  first-letter : (f : First) → first_line rules f ≡ 35 ∷ rules.letter ∷ first_rest f
  unfolding first_line first_rest
  first-letter f =
      ap (λ (s : List ℕ). cons_trimmed 35 s ++ (10 ∷ [])) (inked rules.letter (trimmed (show_line (drop 1 (first_items rules)) (first_values f))) ink)

  form-parts : (t : Table) → canonical rules t ≡ 35 ∷ rules.letter ∷ (first_rest (first_shown t.header) ++ others t)
  unfolding canonical canonical_lines lines_before satellites_line flat others
  form-parts t = ap (λ (s : List ℕ). s ++ others t) (first-letter (first_shown t.header))

-- THE FORM IN ONE VERSION IS THE FORM IN ANOTHER BUT FOR ITS SECOND BYTE, the letter of the version,
pub second-byte : (r s : Rules) → eqb r.letter 32 ≡ false → eqb s.letter 32 ≡ false → (t : Table)
    → canonical r t ≡ 35 ∷ r.letter ∷ drop 2 (canonical s t)
second-byte r s ink also t = form-parts r ink t ∙ sym (ap (λ (bytes : List ℕ). 35 ∷ r.letter ∷ drop 2 bytes) (form-parts s also t))

-- and one table of the same lines.
pub table-letter : (r s : Rules) (lines : List (List ℕ)) → r.letter ≡ s.letter → table_in r lines ≡ table_in s lines
unfolding header_in slots_in comments_in rows_of_lines kind_of
table-letter r s lines e = ap (λ (letter : ℕ). table_in (lettered letter) lines) e
