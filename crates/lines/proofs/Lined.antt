-- The line of some bytes that begins at a place: it ends at an LF, and what follows the LF are the lines after it.
-- Assumes nothing.
use mathlib.Core.Path.{◌≡◌, sym, ap, ◌∙◌}
use mathlib.Core.List.{List, ◌∷◌}
use Prim.Native.Nat.{ℕ, suc, ◌+◌, ◌-◌, ◌≤◌, ◌<◌}
use native.Mathlib.Omega.{arith}
use lib.ListN.{length, take, drop, length-append, length-drop}
use lib.Seq.{take_at, drop-append-add, drop-drop}
use Rattle.lines.specs.Lines.{lines_of}
use Rattle.lines.proofs.Split.{first}

-- `end` is the place behind the LF
pub record Lined (bytes : List ℕ) (at end : ℕ) (l : List ℕ) (ls : List (List ℕ)) : Type 0 where
  pub starts : at < end
  pub within : end ≤ length bytes
  pub text : take (end - 1 - at) (drop at bytes) ≡ l
  pub rest : lines_of (drop end bytes) ≡ ls

pub lined : (bytes : List ℕ) (at : ℕ) (l : List ℕ) (ls : List (List ℕ)) → lines_of (drop at bytes) ≡ l ∷ ls → Lined bytes at (at + length l + 1) l ls
lined bytes at l ls e =
    let f = first (drop at bytes) l ls e in
    let size : length (drop at bytes) ≡ length l + suc (length f.rest) = ap length f.bytes-are ∙ length-append l (10 ∷ f.rest) in
    let left = length-drop at bytes in
    let here : length l ≡ at + length l + 1 - 1 - at = omega arith in
    let past : at + length l + 1 ≡ at + (length l + 1) = omega arith in
    record {
      starts = omega arith;
      within = omega arith;
      text = ap (take (at + length l + 1 - 1 - at)) f.bytes-are ∙ take_at l (10 ∷ f.rest) (at + length l + 1 - 1 - at) here;
      rest =
          ap lines_of
          (ap (λ (n : ℕ). drop n bytes) past
          ∙ sym (drop-drop (length l + 1) at bytes)
          ∙ ap (drop (length l + 1)) f.bytes-are
          ∙ drop-append-add l (10 ∷ f.rest) 1)
          ∙ f.rest_lines;
    }
