-- Where a shown line ends once its trailing blanks are cut: with the last of its fields that is not blank. One law over every layout.
-- Assumes nothing.
use mathlib.Core.Bool.{true, cond}
use mathlib.Core.List.{List, [], ◌∷◌, ◌++◌, append-nil, append_assoc}
use mathlib.Core.Path.{◌≡◌, refl, sym, ap, ◌∙◌}
use Prim.Native.Nat.{ℕ, suc, ◌+◌, ◌-◌}
use native.Mathlib.Omega.{arith}
use borrow.Author.Tests.{ne_eqb}
use lib.Dec.{eqb}
use lib.ListN.{length, length-append}
use Rattle.layout.specs.Layout.{Item, Values, bytes_of, left_of, show_line, tiled_from, tiled}
use Rattle.layout.specs.Line.{cons_trimmed, trimmed, ended}
use Rattle.layout.specs.Inking.{line_end, text_end, end_from}
use Rattle.layout.proofs.Lines.{ended-length}
use Rattle.layout.proofs.Layouts.{placed, further}

-- a text before one that is cut already
abbrev joined : List ℕ → List ℕ → List ℕ
joined a [] = trimmed a
joined a (c ∷ cs) = a ++ (c ∷ cs)

kept : (x : ℕ) (a : List ℕ) (c : ℕ) (cs : List ℕ) → cons_trimmed x (a ++ (c ∷ cs)) ≡ x ∷ (a ++ (c ∷ cs))
kept x [] c cs = refl
kept x (y ∷ a) c cs = refl

cut-append : (a b t : List ℕ) → trimmed b ≡ t → trimmed (a ++ b) ≡ joined a t
cut-append [] b [] e = e
cut-append [] b (c ∷ cs) e = e
cut-append (x ∷ a) b [] e = ap (cons_trimmed x) (cut-append a b [] e)
cut-append (x ∷ a) b (c ∷ cs) e = ap (cons_trimmed x) (cut-append a b (c ∷ cs) e) ∙ kept x a c cs

joined_length : (a t : List ℕ) → length (joined a t) ≡ cond (eqb (length t) 0) (length (trimmed a)) (length a + length t)
joined_length a [] = refl
joined_length a (c ∷ cs) = rw (ne_eqb (length (c ∷ cs)) 0 (λ e. omega arith)) (length-append a (c ∷ cs))

-- two texts end with the second, or where that is blank with the first
pub append-ends : (a b : List ℕ) → length (trimmed (a ++ b)) ≡ text_end (length a) b (length (trimmed a))
append-ends a b = ap length (cut-append a b (trimmed b) refl) ∙ joined_length a (trimmed b)

-- the values that several items leave
abbrev pub left_after : List Item → Values → Values
left_after [] vs = vs
left_after (item ∷ items) vs = left_after items (left_of item vs)

shown-ends : (items : List Item) (vs : Values) (front : List ℕ) → tiled_from (suc (length front)) items ≡ true
    → length (trimmed (front ++ show_line items vs)) ≡ end_from (length (trimmed front)) items vs
shown-ends [] vs front t = ap (λ (l : List ℕ). length (trimmed l)) (append-nil front)
shown-ends (item ∷ items) vs front t =
    let bytes = bytes_of item vs in
    let rest = show_line items (left_of item vs) in
    let before : length front ≡ item.first - 1 = omega (arith, (placed item items vs front t).starts) in
    ap (λ (l : List ℕ). length (trimmed l)) (sym (append_assoc front bytes rest))
    ∙ shown-ends items (left_of item vs) (front ++ bytes) (further item items vs front t)
    ∙ ap (λ (n : ℕ). end_from n items (left_of item vs))
    (append-ends front bytes ∙ ap (λ (n : ℕ). text_end n bytes (length (trimmed front))) before)

-- where a line ends, item by item
pub line-end : (items : List Item) (vs : Values) → tiled items ≡ true → line_end items vs ≡ end_from 0 items vs
unfolding line_end
line-end items vs t = shown-ends items vs [] t

-- the length of a line with its LF
pub line-length : (items : List Item) (vs : Values) → tiled items ≡ true → length (ended (show_line items vs)) ≡ end_from 0 items vs + 1
line-length items vs t = ended-length (show_line items vs) ∙ ap (λ (n : ℕ). n + 1) (shown-ends items vs [] t)

-- items, and others after them
pub end-parts : (earlier : ℕ) (items more : List Item) (vs : Values) → end_from earlier (items ++ more) vs ≡ end_from (end_from earlier items vs) more (left_after items vs)
end-parts earlier [] more vs = refl
end-parts earlier (item ∷ items) more vs = end-parts (text_end (item.first - 1) (bytes_of item vs) earlier) items more (left_of item vs)

-- where the items from a column on end, the end of those before being known: each writer's contract is one step
pub record Ends (items : List Item) (vs : Values) (earlier last : ℕ) : Type 0 where
  pub same : last ≡ end_from earlier items vs

pub ended-all : {vs : Values} {earlier : ℕ} → Ends [] vs earlier earlier
ended-all = record { same = refl }

pub end-item : {item : Item} {items : List Item} {vs : Values} {earlier next last : ℕ} → next ≡ text_end (item.first - 1) (bytes_of item vs) earlier
    → Ends items (left_of item vs) next last → Ends (item ∷ items) vs earlier last
end-item {item} {items} {vs} e d = record { same = d.same ∙ ap (λ (n : ℕ). end_from n items (left_of item vs)) e }

pub end-several : (items : List Item) {more : List Item} {vs : Values} {earlier next last : ℕ} → next ≡ end_from earlier items vs
    → Ends more (left_after items vs) next last → Ends (items ++ more) vs earlier last
end-several items {more} {vs} {earlier} e d = record {
  same = d.same ∙ ap (λ (n : ℕ). end_from n more (left_after items vs)) e ∙ sym (end-parts earlier items more vs);
}

-- all that the items end with, and a whole line
pub ends : (items : List Item) (vs : Values) (earlier : ℕ) {last : ℕ} → Ends items vs earlier last → last ≡ end_from earlier items vs
ends items vs earlier d = d.same

pub line-ends : (items : List Item) (vs : Values) {last : ℕ} → tiled items ≡ true → Ends items vs 0 last → last ≡ line_end items vs
line-ends items vs t d = d.same ∙ sym (line-end items vs t)
