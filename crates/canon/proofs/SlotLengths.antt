-- How long the lines of satellites are: their last slot, of a satellite or after the last, ends in column 60.
-- Assumes nothing.
use mathlib.Core.Bool.{Bool, true, false}
use mathlib.Core.List.{List, [], ◌∷◌, ◌++◌}
use mathlib.Core.Path.{◌≡◌, refl, ap, ◌∙◌}
use Prim.Native.Nat.{ℕ, zero, suc, ◌+◌, ◌-◌, ◌*◌, ◌≤◌}
use native.Mathlib.Omega.{arith}
use borrow.Author.Tests.{leb-true}
use lib.Dec.{leb, ltb}
use lib.ListN.{length, get_or, take, drop, replicate, length-append, length-replicate}
use lib.Seq.{length-take-le}
use Rattle.laws.specs.Texts.{every}
use Rattle.layout.specs.Kind.{Kind, Held, silent, shown_in, number_in}
use Rattle.layout.specs.Kind.Kind.{unused, whole, identifier}
use Rattle.layout.specs.Kind.Held.{nothing}
use Rattle.layout.specs.Layout.{Item, Values, columns, slot_for, slots_from, ones_of}
use Rattle.layout.specs.Line.{trimmed}
use Rattle.lines.specs.Lent.{flat}
use Rattle.record.specs.SlotLines.{slot_kind, satellite_items, satellites_values, satellites_line, more_items, more_line}
use Rattle.layout.specs.Inking.{text_end, end_from}
use Rattle.canon.specs.Canonical.{seventeen, satellites_shown, slots_shown, slot_lines_of}
use Rattle.header.specs.declared.types.Rules.{Rules}
use Rattle.laws.proofs.Lists.{every_append, every-replicate}
use Rattle.field.proofs.Fitting.{fits-true}
use Rattle.record.proofs.Tiled.{satellites-tiled, more-tiled}
use Rattle.canon.proofs.Parted.{every_take, every_drop, every-at}
use Rattle.layout.proofs.Ends.{line-length}
use Rattle.layout.proofs.Inked.{identifier-ends, whole-ends}
use Rattle.layout.proofs.Repeats.{slot-end}

module _ (kind : Kind) (told : silent kind ≡ false) where
  -- the last of some slots decides
  slots_end : (count left at earlier : ℕ) (vs : Values) (after : List Item) → 1 ≤ at → length vs ≡ suc count
      → ((used : Bool) → length (trimmed (shown_in (slot_for used kind) 3 (get_or vs count nothing))) ≡ 3)
      → end_from earlier (slots_from kind (suc count) left at ++ after) vs ≡ end_from (at + 3 * count + 2) after []
  unfolding slots_from
  slots_end count left at earlier [] after p long ends = absurd (omega arith)
  slots_end zero left at earlier (v ∷ w ∷ vs) after p long ends = absurd (omega arith)
  slots_end zero left at earlier (v ∷ []) after p long ends =
      let last : at - 1 + 3 ≡ at + 3 * 0 + 2 = omega arith in
      slot-end kind told (ltb 0 left) at earlier after v [] p ∙ rw (ends (ltb 0 left)) (ap (λ (n : ℕ). end_from n after []) last)
  slots_end (suc count) left at earlier (v ∷ vs) after p long ends =
      let here = text_end (at - 1) (shown_in (slot_for (ltb 0 left) kind) 3 v) earlier in
      let last : at + 3 + 3 * count + 2 ≡ at + 3 * suc count + 2 = omega arith in
      slot-end kind told (ltb 0 left) at earlier (slots_from kind (suc count) (left - 1) (at + 3) ++ after) v vs p
      ∙ slots_end count (left - 1) (at + 3) here vs after (omega arith) (omega arith) ends
      ∙ ap (λ (n : ℕ). end_from n after []) last

-- entries of numbers
ones-length : (ns : List ℕ) → length (ones_of ns) ≡ length ns
ones-length [] = refl
ones-length (n ∷ ns) = ap suc (ones-length ns)

ones-at : (ns : List ℕ) (i : ℕ) → number_in (get_or (ones_of ns) i nothing) ≡ get_or ns i 0
ones-at [] i = refl
ones-at (n ∷ ns) zero = refl
ones-at (n ∷ ns) (suc i) = ones-at ns i

seventeen-long : (ns : List ℕ) → length (ones_of (seventeen ns)) ≡ 17
unfolding seventeen
seventeen-long ns =
    ones-length (take 17 (ns ++ replicate 17 0))
    ∙ length-take-le 17 (ns ++ replicate 17 0) (omega (arith, length-append ns (replicate 17 0), length-replicate {A = ℕ} 17 0))

-- the first `+ ` line
identifier-slot : (used : Bool) (v : Held) → length (trimmed (shown_in (slot_for used identifier) 3 v)) ≡ 3
identifier-slot true v = identifier-ends (number_in v)
identifier-slot false v = refl

pub satellites-length : (rules : Rules) (n : ℕ) (identifiers : List ℕ) → length (satellites_line rules (satellites_shown n identifiers)) ≡ 61
unfolding satellites_line satellites_shown
satellites-length rules n identifiers =
    let values = satellites_values (satellites_shown n identifiers) in
    let entries = ones_of (seventeen identifiers) in
    line-length (satellite_items rules n) values (satellites-tiled rules n)
    ∙ ap (λ (k : ℕ). k + 1)
    (slots_end identifier refl 16 n 10 (end_from 0 (take 4 (satellite_items rules n)) values) entries (columns 61 80 unused ∷ []) (omega arith) (seventeen-long identifiers)
    (λ used. identifier-slot used (get_or entries 16 nothing)))

-- an exponent of the header is one of three digits
abbrev pub small : ℕ → Bool
small n = leb n 999

abbrev pub slots_fine : Bool → List ℕ → Bool
slots_fine true ns = every small ns
slots_fine false ns = true

fine-drop : (accuracies : Bool) (k : ℕ) (ns : List ℕ) → slots_fine accuracies ns ≡ true → slots_fine accuracies (drop k ns) ≡ true
fine-drop true k ns e = every_drop small k ns e
fine-drop false k ns e = refl

seventeen-small : (ns : List ℕ) → every small ns ≡ true → get_or (seventeen ns) 16 0 ≤ 999
unfolding seventeen
seventeen-small ns e =
    leb-true (get_or (seventeen ns) 16 0) 999
    (every-at small refl (seventeen ns) 16
    (every_take small 17 (ns ++ replicate 17 0) (every_append small ns (replicate 17 0) e (every-replicate small 17 0 refl))))

slot-ends : (accuracies used : Bool) (ns : List ℕ) → slots_fine accuracies ns ≡ true
    → length (trimmed (shown_in (slot_for used (slot_kind accuracies)) 3 (get_or (ones_of (seventeen ns)) 16 nothing))) ≡ 3
slot-ends false used ns e = identifier-slot used (get_or (ones_of (seventeen ns)) 16 nothing)
slot-ends true false ns e = refl
slot-ends true true ns e =
    let n = number_in (get_or (ones_of (seventeen ns)) 16 nothing) in
    let below : n ≤ 999 = omega (arith, ones-at (seventeen ns) 16, seventeen-small ns e) in
    whole-ends 2 n (fits-true 3 false n (omega arith) (omega arith) (omega arith))

more-length : (accuracies : Bool) (left : ℕ) (ns : List ℕ) → slots_fine accuracies ns ≡ true → length (more_line accuracies left (slots_shown ns)) ≡ 61
unfolding more_line
more-length true left ns e =
    let values = ones_of (seventeen ns) in
    line-length (more_items true left) values (more-tiled true left)
    ∙ ap (λ (k : ℕ). k + 1)
    (slots_end (whole 0 999) refl 16 left 10 2 values (columns 61 80 unused ∷ []) (omega arith) (seventeen-long ns) (λ used. slot-ends true used ns e))
more-length false left ns e =
    let values = ones_of (seventeen ns) in
    line-length (more_items false left) values (more-tiled false left)
    ∙ ap (λ (k : ℕ). k + 1)
    (slots_end identifier refl 16 left 10 1 values (columns 61 80 unused ∷ []) (omega arith) (seventeen-long ns) (λ used. slot-ends false used ns e))

-- so many lines of slots
pub slot-lines-length : (accuracies : Bool) (lines : ℕ) (ns : List ℕ) → slots_fine accuracies ns ≡ true
    → length (flat (slot_lines_of accuracies lines ns)) ≡ 61 * lines
unfolding flat slot_lines_of
slot-lines-length accuracies zero ns e = refl
slot-lines-length accuracies (suc lines) ns e =
    let line = more_line accuracies (length ns) (slots_shown ns) in
    let rest = flat (slot_lines_of accuracies lines (drop 17 ns)) in
    length-append line rest
    ∙ omega (arith, more-length accuracies (length ns) ns e, slot-lines-length accuracies lines (drop 17 ns) (fine-drop accuracies 17 ns e))
