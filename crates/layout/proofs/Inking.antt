-- A line put in place: the items' bytes put one after another over the bytes up to the line's end, whatever stood there, are the line shown without its
-- trailing blanks. One law over every layout.
-- Assumes nothing.
use mathlib.Core.Path.{◌≡◌, refl, sym, ap, ◌∙◌}
use mathlib.Core.Bool.{Bool, true, false, cond}
use mathlib.Core.List.{List, [], ◌∷◌, ◌++◌, append_assoc, append-nil}
use Prim.Native.Nat.{ℕ, suc, ◌+◌, ◌-◌, ◌≤◌, ◌<◌, min}
use native.Mathlib.Omega.{arith}
use native.Mathlib.Decide.{dec_le}
use borrow.Author.Tests.{leb-true, leb-false, le-leb, lt-leb}
use lib.Dec.{leb, eqb}
use lib.ListN.{length, take, drop, length-append, length-drop, drop_of_length-le}
use lib.Seq.{take_at, drop_at, take_all, take-append-le, take-append-add, take-append_seam, length-take-le}
use Rattle.layout.specs.Kind.{silent, may_end_blank}
use Rattle.layout.specs.Layout.{Item, Values, width_of, tiled_from, tiled, show_line, bytes_of, left_of, own_of}
use Rattle.layout.specs.Line.{trimmed}
use Rattle.layout.specs.Inking.{line_end, overlaid, inked_whole, inked_part, inked_by, inked}
use Rattle.layout.proofs.Lines.{trimmed-front, trimmed-shorter, overlaid-length}
use Rattle.layout.proofs.Layouts.{placed, filled, further, shown-wide}
use Rattle.layout.proofs.Ends.{append-ends, left_after}
use Rattle.layout.proofs.Inked.{Fills, is_shown, kind-fills}

-- an item that begins past the line changes nothing
pub past-whole : (first last : ℕ) (bytes line : List ℕ) → length line < last → inked_whole first last bytes line ≡ line
unfolding inked_whole
past-whole first last bytes line h = rw (lt-leb last (length line) h)

pub past-part : (first last : ℕ) (bytes line : List ℕ) → length line ≤ first - 1 → inked_part first last bytes line ≡ line
unfolding inked_part
past-part first last bytes line h =
    let rest = bytes ++ drop (last - (first - 1)) (drop (first - 1) line) in
    ap (λ (l : List ℕ). take (length line) (l ++ rest)) (take_all (first - 1) line h) ∙ take-append_seam line rest

-- a line that has all of its columns
pub reached : (first last : ℕ) (bytes line : List ℕ) → last ≤ length line → overlaid first last bytes line ≡ inked_whole first last bytes line
unfolding inked_whole
reached first last bytes line h = rw (le-leb last (length line) h)

-- the line stays as long as it was
pub whole_length : (first last : ℕ) (bytes line : List ℕ) → 1 ≤ first → first ≤ last → length bytes ≡ last - (first - 1)
    → length (inked_whole first last bytes line) ≡ length line
unfolding inked_whole
whole_length first last bytes line p q e = go (leb last (length line)) refl
  where
    go : (t : Bool) → leb last (length line) ≡ t → length (cond t (overlaid first last bytes line) line) ≡ length line
    go true h = overlaid-length bytes line first last p q (leb-true last (length line) h) e
    go false h = refl

-- as far as a line goes that has the first column: the first bytes, and what stands after them
module _ (first last : ℕ) (bytes line : List ℕ) (begins : first - 1 ≤ length line) (long : length bytes ≡ last - (first - 1)) where
  abbrev rest : List ℕ
  rest = drop (first - 1) line

  cut-rest : Dec (last - (first - 1) ≤ length rest)
      → take (length rest) (bytes ++ drop (last - (first - 1)) rest) ≡ take (length rest) bytes ++ drop (last - (first - 1)) rest
  cut-rest (yes p) =
      let more = drop (last - (first - 1)) rest in
      take_all (length rest) (bytes ++ more) (omega (arith, length-append bytes more, length-drop (last - (first - 1)) rest, long))
      ∙ ap (λ (l : List ℕ). l ++ more) (sym (take_all (length rest) bytes (omega (arith, long))))
  cut-rest (no p) =
      let none = drop_of_length-le rest {i = last - (first - 1)} (omega arith) in
      rw none (take-append-le (length rest) bytes [] (omega (arith, long)) ∙ sym (append-nil (take (length rest) bytes)))

  pub part-put : take (first - 1) line ++ (take (length rest) bytes ++ drop (last - (first - 1)) rest) ≡ inked_part first last bytes line
  unfolding inked_part
  part-put =
      let front = take (first - 1) line in
      let more = bytes ++ drop (last - (first - 1)) rest in
      let whole : length front + length rest ≡ length line = omega (arith, length-take-le (first - 1) line begins, length-drop (first - 1) line) in
      ap (λ (l : List ℕ). front ++ l) (sym (cut-rest (dec_le (last - (first - 1)) (length rest))))
      ∙ sym (take-append-add front more (length rest))
      ∙ ap (λ (n : ℕ). take n (front ++ more)) whole

  -- the same of the columns up to the line's end or the last
  pub columns-put : (to : ℕ) → to ≡ min last (length line) → first - 1 < to
      → take (first - 1) line ++ (take (to - (first - 1)) bytes ++ drop (to - (first - 1)) rest) ≡ inked_part first last bytes line
  columns-put to e h = ap (λ (l : List ℕ). take (first - 1) line ++ l) (go (dec_le (last - (first - 1)) (length rest))) ∙ part-put
    where
      left : length rest ≡ length line - (first - 1)
      left = length-drop (first - 1) line

      go : Dec (last - (first - 1) ≤ length rest) → take (to - (first - 1)) bytes ++ drop (to - (first - 1)) rest ≡ take (length rest) bytes ++ drop (last - (first - 1)) rest
      go (yes p) =
          let all : to - (first - 1) ≡ last - (first - 1) = omega (arith, left) in
          rw (all, take_all (last - (first - 1)) bytes (omega (arith, long)), take_all (length rest) bytes (omega (arith, long)))
      go (no p) =
          let some : to - (first - 1) ≡ length rest = omega (arith, left) in
          rw (some, drop_of_length-le rest {i = length rest} (omega arith), drop_of_length-le rest {i = last - (first - 1)} (omega arith))

past_one : (may : Bool) (first last : ℕ) (bytes line : List ℕ) → length line ≤ first - 1 → length line < last → inked_by may first last bytes line ≡ line
past_one true first last bytes line h k = past-part first last bytes line h
past_one false first last bytes line h k = past-whole first last bytes line k

past : (items : List Item) (vs : Values) (front line : List ℕ) → tiled_from (suc (length front)) items ≡ true → length line ≤ length front
    → inked items vs line ≡ line
past [] vs front line t h = refl
past (item ∷ items) vs front line t h =
    let here = placed item items vs front t in
    let bytes = bytes_of item vs in
    ap (inked items (left_of item vs))
    (past_one (may_end_blank item.kind) item.first item.last bytes line (omega (arith, here.starts)) (omega (arith, here.ends)))
    ∙ past items (left_of item vs) (front ++ bytes) line (further item items vs front t) (omega (arith, length-append front bytes))

-- an item that begins right after `front`
module _ (item : Item) (items : List Item) (vs : Values) (front rest : List ℕ) (tiles : tiled_from (suc (length front)) (item ∷ items) ≡ true) where
  over-rest : overlaid item.first item.last (bytes_of item vs) (front ++ rest) ≡ front ++ (bytes_of item vs ++ drop (width_of item) rest)
  over-rest =
      let before : length front ≡ item.first - 1 = omega (arith, (placed item items vs front tiles).starts) in
      rw (take_at front rest (item.first - 1) before, drop_at front rest (item.first - 1) before)

  -- it ends in the line: all of its bytes
  whole-inked : (may : Bool) → width_of item ≤ length rest
      → inked_by may item.first item.last (bytes_of item vs) (front ++ rest) ≡ (front ++ bytes_of item vs) ++ drop (width_of item) rest
  unfolding inked_whole inked_part
  whole-inked true h =
      let bytes = bytes_of item vs in
      let more = drop (width_of item) rest in
      let long : length (front ++ (bytes ++ more)) ≤ length (front ++ rest) =
      omega (arith, length-append front (bytes ++ more), length-append bytes more, length-append front rest, filled item items vs front tiles, length-drop (width_of item) rest) in
      ap (take (length (front ++ rest))) over-rest
      ∙ take_all (length (front ++ rest)) (front ++ (bytes ++ more)) long
      ∙ sym (append_assoc front bytes more)
  whole-inked false h =
      let ends : item.last ≤ length (front ++ rest) =
      omega (arith, length-append front rest, (placed item items vs front tiles).starts, (placed item items vs front tiles).ends) in
      rw (le-leb item.last (length (front ++ rest)) ends) (over-rest ∙ sym (append_assoc front (bytes_of item vs) (drop (width_of item) rest)))

  -- it ends past the line: so many of its bytes as the line has
  part-inked : length rest < width_of item
      → inked_part item.first item.last (bytes_of item vs) (front ++ rest) ≡ front ++ take (length rest) (bytes_of item vs)
  unfolding inked_part
  part-inked h =
      let bytes = bytes_of item vs in
      let more = drop (width_of item) rest in
      ap (take (length (front ++ rest))) over-rest
      ∙ ap (λ (n : ℕ). take n (front ++ (bytes ++ more))) (length-append front rest)
      ∙ take-append-add front (bytes ++ more) (length rest)
      ∙ ap (λ (l : List ℕ). front ++ l) (take-append-le (length rest) bytes more (omega (arith, filled item items vs front tiles)))

-- a text that fills its last column or is blank: a line that does not reach its last column does not reach its first
module _ (front bytes later : List ℕ) {shown : Bool} (f : Fills shown (length bytes) bytes) where
  abbrev all : ℕ
  all = length (trimmed (front ++ (bytes ++ later)))

  later-blank : length (trimmed (bytes ++ later)) < length bytes → length (trimmed (bytes ++ later)) ≡ 0
  later-blank h = go (eqb (length (trimmed later)) 0) shown (append-ends bytes later) f.ends
    where
      go : (t u : Bool) → length (trimmed (bytes ++ later)) ≡ cond t (length (trimmed bytes)) (length bytes + length (trimmed later))
          → length (trimmed bytes) ≡ cond u (length bytes) 0 → length (trimmed (bytes ++ later)) ≡ 0
      go true true e k = absurd (omega arith)
      go true false e k = e ∙ k
      go false u e k = absurd (omega arith)

  not-reached : all < length front + length bytes → all ≤ length front
  not-reached h = go (eqb (length (trimmed (bytes ++ later))) 0) refl (append-ends front (bytes ++ later))
    where
      go : (t : Bool) → eqb (length (trimmed (bytes ++ later))) 0 ≡ t
          → all ≡ cond t (length (trimmed front)) (length front + length (trimmed (bytes ++ later))) → all ≤ length front
      go true u e = omega (arith, trimmed-shorter front)
      go false u e = let none = later-blank (omega arith) in omega arith

-- a part of a line that ends where the line does
cut_at : (n : ℕ) (line : List ℕ) → n ≡ length (trimmed line) → take n line ≡ trimmed line
cut_at n line e = ap (λ (k : ℕ). take k line) e ∙ trimmed-front line

empty : (rest : List ℕ) → length rest ≡ 0 → rest ≡ []
empty [] e = refl
empty (b ∷ rest) e = absurd (omega arith)

inked-on : (items : List Item) (vs : Values) (front rest : List ℕ) → tiled_from (suc (length front)) items ≡ true
    → length (front ++ rest) ≡ length (trimmed (front ++ show_line items vs)) → inked items vs (front ++ rest) ≡ trimmed (front ++ show_line items vs)
inked-on [] vs front rest t e =
    let none : length rest ≡ 0 = omega (arith, length-append front rest, length-append front [], trimmed-shorter (front ++ [])) in
    ap (λ (l : List ℕ). front ++ l) (empty rest none)
    ∙ sym (take_all (length (front ++ rest)) (front ++ []) (omega (arith, length-append front rest, length-append front [])))
    ∙ cut_at (length (front ++ rest)) (front ++ []) e
inked-on (item ∷ items) vs front rest t e =
    go (leb (width_of item) (length rest)) refl (inked-on items (left_of item vs) (front ++ bytes) (drop (width_of item) rest) (further item items vs front t))
  where
    bytes : List ℕ
    bytes = bytes_of item vs

    later : List ℕ
    later = show_line items (left_of item vs)

    joined : (front ++ bytes) ++ later ≡ front ++ (bytes ++ later)
    joined = append_assoc front bytes later

    On : Type 0
    On =
        length ((front ++ bytes) ++ drop (width_of item) rest) ≡ length (trimmed ((front ++ bytes) ++ later))
        → inked items (left_of item vs) ((front ++ bytes) ++ drop (width_of item) rest) ≡ trimmed ((front ++ bytes) ++ later)

    -- the columns of the item that the line has
    first-ones : length rest < width_of item → front ++ take (length rest) bytes ≡ trimmed (front ++ (bytes ++ later))
    first-ones short =
        ap (λ (l : List ℕ). front ++ l) (sym (take-append-le (length rest) bytes later (omega (arith, filled item items vs front t))))
        ∙ sym (take-append-add front (bytes ++ later) (length rest))
        ∙ ap (λ (n : ℕ). take n (front ++ (bytes ++ later))) (sym (length-append front rest))
        ∙ cut_at (length (front ++ rest)) (front ++ (bytes ++ later)) e

    short-inked : (may : Bool) → may_end_blank item.kind ≡ may → length rest < width_of item
        → inked_by may item.first item.last bytes (front ++ rest) ≡ trimmed (front ++ (bytes ++ later))
    short-inked true m short = part-inked item items vs front rest t short ∙ first-ones short
    short-inked false m short =
        let here = placed item items vs front t in
        let long = filled item items vs front t in
        let fills : Fills (is_shown item.kind (width_of item) (own_of (silent item.kind) vs)) (length bytes) bytes =
        rw long (kind-fills item.kind (width_of item) (own_of (silent item.kind) vs) m here.fits) in
        let both = length-append front rest in
        let none : length rest ≡ 0 = omega (arith, e, both, not-reached front bytes later fills (omega (arith, e, both, long))) in
        past-whole item.first item.last bytes (front ++ rest) (omega (arith, both, here.starts, here.ends))
        ∙ ap (λ (l : List ℕ). front ++ l) (empty rest none ∙ sym (ap (λ (n : ℕ). take n bytes) none))
        ∙ first-ones short

    go : (b : Bool) → leb (width_of item) (length rest) ≡ b → On
        → inked (item ∷ items) vs (front ++ rest) ≡ trimmed (front ++ (bytes ++ later))
    go true fits on =
        let more = drop (width_of item) rest in
        let reach = leb-true (width_of item) (length rest) fits in
        let same : length ((front ++ bytes) ++ more) ≡ length (front ++ rest) =
        omega (arith, length-append (front ++ bytes) more, length-append front bytes, length-append front rest, filled item items vs front t, length-drop (width_of item) rest) in
        ap (inked items (left_of item vs)) (whole-inked item items vs front rest t (may_end_blank item.kind) reach)
        ∙ on (same ∙ e ∙ ap (λ (l : List ℕ). length (trimmed l)) (sym joined))
        ∙ ap trimmed joined
    go false fits on =
        let short = leb-false (width_of item) (length rest) fits in
        let done = short-inked (may_end_blank item.kind) refl short in
        ap (inked items (left_of item vs)) done
        ∙ past items (left_of item vs) (front ++ bytes) (trimmed (front ++ (bytes ++ later))) (further item items vs front t)
        (omega (arith, e, length-append front rest, length-append front bytes, filled item items vs front t))

-- THE LAW: items put in place over the bytes up to a line's end are the line, cut
pub inked-line : (items : List Item) (vs : Values) (line : List ℕ) → tiled items ≡ true → length line ≡ line_end items vs
    → inked items vs line ≡ trimmed (show_line items vs)
unfolding line_end
inked-line items vs line t e = inked-on items vs [] line t e

-- Each writer's contract is one step of putting the items.
pub record Inks (items : List Item) (vs : Values) (line out : List ℕ) : Type 0 where
  pub same : out ≡ inked items vs line

pub inked-all : {vs : Values} {line : List ℕ} → Inks [] vs line line
inked-all = record { same = refl }

pub ink : {item : Item} {items : List Item} {vs : Values} {line next out : List ℕ}
    → next ≡ inked_by (may_end_blank item.kind) item.first item.last (bytes_of item vs) line
    → Inks items (left_of item vs) next out → Inks (item ∷ items) vs line out
ink {item} {items} {vs} e d = record { same = d.same ∙ ap (inked items (left_of item vs)) e }

inked-parts : (items more : List Item) (vs : Values) (line : List ℕ) → inked (items ++ more) vs line ≡ inked more (left_after items vs) (inked items vs line)
inked-parts [] more vs line = refl
inked-parts (item ∷ items) more vs line =
    inked-parts items more (left_of item vs) (inked_by (may_end_blank item.kind) item.first item.last (bytes_of item vs) line)

-- several items that one function put
pub ink-several : (items : List Item) {more : List Item} {vs : Values} {line next out : List ℕ} → next ≡ inked items vs line
    → Inks more (left_after items vs) next out → Inks (items ++ more) vs line out
ink-several items {more} {vs} {line} e d = record {
  same = d.same ∙ ap (inked more (left_after items vs)) e ∙ sym (inked-parts items more vs line);
}

-- all that the items put
pub inks : (items : List Item) (vs : Values) (line : List ℕ) {out : List ℕ} → Inks items vs line out → out ≡ inked items vs line
inks items vs line d = d.same

-- no line ends past column 80
pub end-bound : (items : List Item) (vs : Values) → tiled items ≡ true → line_end items vs ≤ 80
unfolding line_end
end-bound items vs t = omega (arith, trimmed-shorter (show_line items vs), shown-wide items vs t)
