-- The first of the complete lines of some bytes, as far as its end: none where no LF is left, else the line and those behind its LF.
-- Assumes nothing.
use Rattle.std.proofs.Common.{◌≡◌, ℕ, ◌+◌, ◌-◌, ◌<◌, ◌≤◌, List, [], ◌∷◌, length, take, drop, sym, ap, ◌∙◌, arith, length-drop, drop-drop}
use Rattle.laws.proofs.Lists.{rest_part}
use Rattle.lines.specs.Lines.{line_length, lines_of, join_lines, bytes_in}
use Rattle.lines.proofs.Ends.{no_line, first-line}
use Rattle.lines.proofs.Split.{bytes-in, parted}

module _ (s : List ℕ) (end : ℕ) (found : end ≡ 0 + line_length (drop 0 s)) where
  pub none-complete : length s ≤ end → lines_of s ≡ []
  none-complete h = no_line s 0 end found h

  pub one-complete : end < length s → lines_of s ≡ take end s ∷ lines_of (take (length s - (end + 1)) (drop (end + 1) s))
  one-complete h =
      let whole : end - 0 ≡ end = omega arith in
      first-line s 0 end found h
      ∙ ap (λ (n : ℕ). take n s ∷ lines_of (drop (end + 1) s)) whole
      ∙ ap (λ (xs : List ℕ). take end s ∷ lines_of xs) (sym (rest_part s (end + 1)))

-- the lines behind the first begin after its LF, within the bytes
pub record Passed (bytes : List ℕ) (at : ℕ) (l : List ℕ) (ls : List (List ℕ)) : Type 0 where
  pub within : at + (length l + 1) ≤ length bytes
  pub rest : lines_of (drop (at + (length l + 1)) bytes) ≡ ls

one_line : (l : List ℕ) → bytes_in (l ∷ []) ≡ length l + 1
unfolding bytes_in
one_line l = omega arith

pub passed : (bytes : List ℕ) (at : ℕ) (l : List ℕ) (ls : List (List ℕ)) → lines_of (drop at bytes) ≡ l ∷ ls → Passed bytes at l ls
passed bytes at l ls e =
    let p = parted (l ∷ []) (drop at bytes) ls e in
    let long : length (join_lines (l ∷ [])) ≡ length l + 1 = sym (bytes-in (l ∷ [])) ∙ one_line l in
    let some : 1 ≤ length (drop at bytes) = omega (arith, p.within) in
    record {
      within = omega (arith, p.within, length-drop at bytes);
      rest =
          ap lines_of (sym (drop-drop (length l + 1) at bytes))
          ∙ ap (λ (n : ℕ). lines_of (drop n (drop at bytes))) (sym long)
          ∙ p.rest_lines;
    }
