-- Where a line of a kind is found, on plain values: its first bytes tell its kind, and the lines from its place on begin with it.
-- Assumes nothing.
use mathlib.Core.Path.{◌≡◌, refl, sym, ap, ◌∙◌}
use mathlib.Core.Bool.{Bool}
use mathlib.Core.List.{List, [], ◌∷◌, ◌++◌, append-nil}
use Prim.Native.Nat.{ℕ, zero, suc, ◌+◌, ◌-◌, ◌<◌, ◌≤◌}
use native.Mathlib.Nat.{zero-add}
use native.Mathlib.Decide.{dec_lt}
use native.Mathlib.Omega.{arith}
use lib.ListN.{length, get_or, take, drop, length-append, length-drop, get_or-replicate}
use lib.Seq.{get_or-take}
use Rattle.laws.specs.Texts.{blanks}
use Rattle.layout.specs.Line.{padded}
use Rattle.lines.specs.Lines.{line_length, lines_of, bytes_in, select, nth, begins_from}
use Rattle.lines.proofs.Ends.{no_line, first-line}
use Rattle.lines.proofs.Picking.{nth-none, nth_here, nth_past, spot_past, placed}
use Rattle.lines.proofs.Split.{bytes-in, parted, first}
use Rattle.record.specs.LineKinds.{kind_by, kind_of}
use Rattle.header.specs.declared.types.Rules.{Rules}

-- a column of a padded line: its byte, or a blank
filled-column : (line : List ℕ) (w i : ℕ) → i < w → get_or (line ++ blanks w) i 0 ≡ get_or line i 32
filled-column [] w i h = get_or-replicate w i 32 0 h
filled-column (b ∷ line) w zero h = refl
filled-column (b ∷ line) w (suc i) h = filled-column line w i (omega arith)

pub padded-column : (line : List ℕ) (i : ℕ) → i < 80 → get_or (padded line) i 0 ≡ get_or line i 32
unfolding padded
padded-column line i h = get_or-take 80 (line ++ blanks 80) i 0 h ∙ filled-column line 80 i h

-- the kind of a line by its first three bytes
pub kind-told : (rules : Rules) (line : List ℕ) (first second third : ℕ) → first ≡ get_or line 0 32 → second ≡ get_or line 1 32 → third ≡ get_or line 2 32
    → kind_by rules.letter first second third ≡ kind_of rules (padded line)
unfolding kind_of
kind-told rules line first second third p q r =
    rw (p, q, r, padded-column line 0 (omega arith), padded-column line 1 (omega arith), padded-column line 2 (omega arith))

-- the line at a place: nothing where no LF is left
module _ (bytes : List ℕ) (at end : ℕ) (found : end ≡ at + line_length (drop at bytes)) where
  pub no-line-at : length bytes ≤ end → [] ≡ nth 0 (lines_of (drop at bytes))
  no-line-at h = sym (ap (nth 0) (no_line bytes at end found h) ∙ nth-none 0)

  pub line-there : end < length bytes → take (end - at) (drop at bytes) ≡ nth 0 (lines_of (drop at bytes))
  line-there h =
      sym (ap (nth 0) (first-line bytes at end found h) ∙ nth_here 0 (take (end - at) (drop at bytes)) (lines_of (drop (end + 1) bytes)) refl)

-- after the last complete line there is none
none-behind : (bytes : List ℕ) → lines_of (drop (bytes_in (lines_of bytes)) bytes) ≡ []
none-behind bytes =
    ap (λ (n : ℕ). lines_of (drop n bytes)) (bytes-in (lines_of bytes))
    ∙ (parted (lines_of bytes) bytes [] (sym (append-nil (lines_of bytes)))).rest_lines

-- the k-th line that passes a test is the one at its place
pub line-at-place : (test : List ℕ → Bool) (k : ℕ) (bytes : List ℕ)
    → nth 0 (lines_of (drop (begins_from test k 0 (lines_of bytes)) bytes)) ≡ nth k (select test (lines_of bytes))
line-at-place test k bytes = go (dec_lt k (length (select test (lines_of bytes))))
  where
    go : Dec (k < length (select test (lines_of bytes))) → nth 0 (lines_of (drop (begins_from test k 0 (lines_of bytes)) bytes)) ≡ nth k (select test (lines_of bytes))
    go (yes h) =
        let p = placed test k bytes h in
        ap (nth 0) p.there ∙ nth_here 0 (nth k (select test (lines_of bytes))) p.more refl
    go (no h) =
        ap (λ (n : ℕ). nth 0 (lines_of (drop n bytes))) (spot_past test k 0 (lines_of bytes) (omega arith) ∙ zero-add (bytes_in (lines_of bytes)))
        ∙ ap (nth 0) (none-behind bytes)
        ∙ nth-none 0
        ∙ sym (nth_past k (select test (lines_of bytes)) (omega arith))

-- complete lines take up no more than the bytes
pub lines-within : (bytes : List ℕ) → bytes_in (lines_of bytes) ≤ length bytes
lines-within bytes = omega (arith, bytes-in (lines_of bytes), (parted (lines_of bytes) bytes [] (sym (append-nil (lines_of bytes)))).within)

-- the k-th line that passes a test ends within the bytes
pub line-within : (test : List ℕ → Bool) (k : ℕ) (bytes : List ℕ)
    → begins_from test k 0 (lines_of bytes) + length (nth k (select test (lines_of bytes))) ≤ length bytes
line-within test k bytes = go (dec_lt k (length (select test (lines_of bytes))))
  where
    go : Dec (k < length (select test (lines_of bytes))) → begins_from test k 0 (lines_of bytes) + length (nth k (select test (lines_of bytes))) ≤ length bytes
    go (yes h) =
        let p = placed test k bytes h in
        let place = begins_from test k 0 (lines_of bytes) in
        let line = nth k (select test (lines_of bytes)) in
        let f = first (drop place bytes) line p.more p.there in
        omega (arith, p.within, length-drop place bytes, ap length f.bytes-are ∙ length-append line (10 ∷ f.rest))
    go (no h) =
        omega (arith, spot_past test k 0 (lines_of bytes) (omega arith), ap length (nth_past k (select test (lines_of bytes)) (omega arith)), lines-within bytes)
