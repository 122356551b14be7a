-- Turns of the loop that fills comments.
-- Assumes nothing.
use mathlib.Core.Path.{◌≡◌, sym, ap, ◌∙◌}
use mathlib.Core.Bool.{Bool, true, false, ◌||◌}
use mathlib.Core.Logic.{◌⊎◌, inl, inr}
use mathlib.Core.List.{List, [], ◌∷◌, ◌++◌}
use Prim.Native.Nat.{ℕ, ◌+◌, ◌-◌, ◌<◌, ◌≤◌}
use native.Mathlib.Omega.{arith}
use borrow.Rule.Slice.PartMut.{put_mid}
use lib.Dec.{leb}
use lib.ListN.{length, take, drop, length-take, length-drop}
use Rattle.layout.specs.Line.{padded}
use Rattle.layout.proofs.Lines.{padded-length}
use Rattle.lines.specs.Lent.{laid}
use Rattle.lines.specs.Lines.{select}
use Rattle.record.specs.Plain.{comment_width}
use Rattle.lines.proofs.Laying.{laid_none}
use Rattle.file.specs.Table.{comment_text}
use Rattle.fill.proofs.Filling.{Filling, either-met, filling-full, filling-kept, filling-last, filling-more, filling-none, neither-met, parts_none, parts-one, parts-spent, parts_left}

-- Comments: 77 bytes to a line.
pub no-comments : (count : ℕ) (ls : List (List ℕ)) (old : List ℕ) → count ≡ 0 → old ≡ laid (parts_left comment_text count ls) old
no-comments count ls old e = sym (ap (λ (t : List ℕ). laid t old) (parts-spent comment_text count ls e) ∙ laid_none old)

pub comment-length : (line : List ℕ) → length (comment_text line) ≡ comment_width
comment-length line =
    omega (arith, length-take comment_width (drop 3 (padded line)), length-drop 3 (padded line), padded-length line)

module _ {test : List ℕ → Bool} {all old now : List ℕ} {ls : List (List ℕ)} {stored left : ℕ}
    (f : Filling test (parts_left comment_text) all old now ls stored left) where
  pub comments-end : ls ≡ [] → now ≡ laid all old
  comments-end e = filling-none f (parts_none comment_text left) e

  module _ (line : List ℕ) (more : List (List ℕ)) (e : ls ≡ line ∷ more) (is : test line ≡ true) (some : 0 < left) {part : List ℕ}
      (b : part ≡ laid (comment_text line) (take (length now - stored) (drop stored now))) where
    abbrev text : List ℕ
    text = comment_text line

    abbrev then : List ℕ
    then = put_mid stored (length now - stored) now part

    comments-here : parts_left comment_text left (line ∷ select test more) ≡ text ++ parts_left comment_text (left - 1) (select test more)
    comments-here = parts-one comment_text left line (select test more) some

    comments-kept : length then ≡ length now
    comments-kept = filling-kept f line more e is text (left - 1) comments-here b

    -- the last of them
    pub comments-done : (leb left 1 || leb (length then - stored) comment_width) ≡ true → then ≡ laid all old
    comments-done flag = go (either-met left 1 (length then - stored) comment_width flag)
      where
        go : (left ≤ 1) ⊎ (length then - stored ≤ comment_width) → then ≡ laid all old
        go (inl w) = filling-last f line more e is text (left - 1) comments-here b (parts-spent comment_text (left - 1) (select test more) (omega arith))
        go (inr w) = filling-full f line more e is text (left - 1) comments-here b (omega (arith, comment-length line, comments-kept))

    -- and more
    pub comments-more : (leb left 1 || leb (length then - stored) comment_width) ≡ false
        → (0 < left - 1) × Filling test (parts_left comment_text) all old then more (stored + comment_width) (left - 1)
    comments-more flag =
        let both = neither-met left 1 (length then - stored) comment_width flag in
        let size : length text ≡ comment_width = comment-length line in (
          omega (arith, both.0),
          rw size at (filling-more f line more e is text (left - 1) comments-here b (omega (arith, both.1, comments-kept))),
        )
