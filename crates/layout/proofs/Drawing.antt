-- A line drawn field by field: each writer's contract is one step, and the steps together say that the line is the layout's.
-- Assumes nothing.
use mathlib.Core.Path.{◌≡◌, refl, sym, ap, ◌∙◌}
use mathlib.Core.Bool.{Bool, true, false, cond}
use mathlib.Core.List.{List, [], ◌∷◌, ◌++◌}
use Prim.Native.Nat.{ℕ}
use Rattle.layout.specs.Kind.{is_unused}
use Rattle.laws.specs.Texts.{blanks}
use Rattle.layout.specs.Layout.{Item, Values, tiled, show_line, bytes_of, left_of}
use Rattle.layout.specs.Inking.{overlaid, drawn}
use Rattle.layout.proofs.Drawn.{drawn-shown}
pub use Rattle.layout.proofs.Ends.{left_after}

-- drawing the items of these values over a line gives that one
pub record Draws (items : List Item) (vs : Values) (line out : List ℕ) : Type 0 where
  pub same : out ≡ drawn items vs line

pub drawn-all : {vs : Values} {line : List ℕ} → Draws [] vs line line
drawn-all = record { same = refl }

-- unused columns are left
pub leave : {item : Item} {items : List Item} {vs : Values} {line out : List ℕ} → is_unused item.kind ≡ true
    → Draws items (left_of item vs) line out → Draws (item ∷ items) vs line out
leave {item} {items} {vs} {line} {out} u d = record {
  same = d.same ∙ ap (λ (t : Bool). drawn items (left_of item vs) (cond t line (overlaid item.first item.last (bytes_of item vs) line))) (sym u);
}

-- another field's bytes are laid over its columns
pub draw : {item : Item} {items : List Item} {vs : Values} {line next out : List ℕ} → next ≡ overlaid item.first item.last (bytes_of item vs) line → is_unused item.kind ≡ false
    → Draws items (left_of item vs) next out → Draws (item ∷ items) vs line out
draw {item} {items} {vs} {line} {next} {out} e u d = record {
  same = d.same ∙ ap (drawn items (left_of item vs)) e
      ∙ ap (λ (t : Bool). drawn items (left_of item vs) (cond t line (overlaid item.first item.last (bytes_of item vs) line))) (sym u);
}

-- over blanks, that is the line that the layout shows
pub shows : (items : List Item) (vs : Values) {out : List ℕ} → tiled items ≡ true → Draws items vs (blanks 80) out → out ≡ show_line items vs
shows items vs t d = d.same ∙ drawn-shown items vs t

drawn-parts : (items more : List Item) (vs : Values) (line : List ℕ) → drawn (items ++ more) vs line ≡ drawn more (left_after items vs) (drawn items vs line)
drawn-parts [] more vs line = refl
drawn-parts (item ∷ items) more vs line =
    drawn-parts items more (left_of item vs) (cond (is_unused item.kind) line (overlaid item.first item.last (bytes_of item vs) line))

-- items that a loop drew, as one step of a drawing
pub draw-several : (items : List Item) {more : List Item} {vs : Values} {line mid out : List ℕ} → mid ≡ drawn items vs line
    → Draws more (left_after items vs) mid out → Draws (items ++ more) vs line out
draw-several items {more} {vs} {line} {mid} {out} e d = record {
  same = d.same ∙ ap (drawn more (left_after items vs)) e ∙ sym (drawn-parts items more vs line);
}

-- all that the items drew
pub draws : (items : List Item) (vs : Values) (line : List ℕ) {out : List ℕ} → Draws items vs line out → out ≡ drawn items vs line
draws items vs line d = d.same
