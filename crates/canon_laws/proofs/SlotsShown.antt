-- The `+ ` and `++` lines of the canonical form are such lines, and hold the numbers that they show.
-- Assumes nothing.
use mathlib.Core.Path.{◌≡◌, refl, sym, ap, ap₂, ◌∙◌}
use mathlib.Core.Bool.{Bool, true, false}
use mathlib.Core.List.{List, [], ◌∷◌, ◌++◌, map, append-nil}
use Prim.Native.Nat.{ℕ, zero, suc, ◌+◌, ◌-◌, ◌*◌, ◌≤◌}
use native.Mathlib.Omega.{arith}
use native.Mathlib.Decide.{dec_le}
use borrow.Author.Tests.{leb-true, lt-ltb}
use lib.Dec.{leb, eqb}
use lib.ListN.{length, take, drop, replicate, length-drop, length-append, take-append-drop}
use lib.Seq.{length-take-le, take_at, take_all, take-take, take-append-le}
use Rattle.laws.specs.Texts.{every}
use Rattle.laws.proofs.Bools.{and_left, and_right, and_both}
use Rattle.laws.proofs.Lists.{one_less}
use Rattle.lines.specs.Lent.{flat}
use Rattle.lines.proofs.Each.{Each}
use Rattle.layout.specs.Kind.{holds_in, is_identifier}
use Rattle.layout.specs.Kind.Kind.{unused}
use Rattle.layout.specs.Kind.Held.{one}
use Rattle.layout.specs.Layout.{columns, can_show, slots_from, ones_of}
use Rattle.layout.specs.Line.{padded, line_of}
use Rattle.record.specs.SlotLines.{slot_kind, more_items, more_of, more_line}
use Rattle.canon.proofs.Parted.{every_drop}
use Rattle.canon.specs.Canonical.{seventeen, slots_shown, slot_lines_of}
use Rattle.header.specs.declared.types.Rules.{Rules}
use Rattle.record.specs.LineKinds.{kind_of}
use Rattle.record.specs.declared.types.Slots.{Slots}
use Rattle.record.specs.declared.types.LineKind.TheVariants as kind
use Rattle.record.proofs.RoundTrips.{slots-back}
use Rattle.record.proofs.Tiled.{more-tiled}
use Rattle.file.specs.Plain.{is_record, slots_of_kind, are_slots}
use Rattle.file.specs.Table.{slot_numbers}
use Rattle.scan_laws.proofs.Slots.{more-alike, slots-cons}
use Rattle.canon_laws.proofs.Bare.{EndsLine, bare-ended, bare-record}
use Rattle.canon_laws.proofs.Fits.{can-whole}

-- what a slot of a satellite may hold: an identifier, or an accuracy exponent
abbrev pub slot_holds : Bool → ℕ → Bool
slot_holds true n = leb n 999
slot_holds false n = is_identifier n

slot-can : (accuracies : Bool) (n : ℕ) → slot_holds accuracies n ≡ true → holds_in (slot_kind accuracies) 3 (one n) ≡ true
slot-can true n h = can-whole 3 0 999 n (omega arith) (omega arith) (omega arith) (leb-true n 999 h) (omega (arith, leb-true n 999 h))
slot-can false n h = h

-- so many slots show the next numbers, and zeros after the last
pub slots-can : (accuracies : Bool) (count at : ℕ) (numbers zeros : List ℕ) → 1 ≤ at → every (slot_holds accuracies) numbers ≡ true
    → (every (λ n. eqb n 0) zeros ≡ true) → count ≤ length zeros
    → can_show (slots_from (slot_kind accuracies) count (length numbers) at ++ (columns 61 80 unused ∷ [])) (ones_of (take count (numbers ++ zeros))) ≡ true
unfolding slots_from
slots-can accuracies zero at numbers zeros p v z few = refl
slots-can true (suc count) at (n ∷ numbers) (k ∷ zeros) p v z few =
    let three : at + 2 - (at - 1) ≡ 3 = omega arith in
    rw (lt-ltb 0 (suc (length numbers)) (omega arith), three, one_less (length numbers), slot-can true n (and_left (slot_holds true n) _ v))
    (slots-can true count (at + 3) numbers (k ∷ zeros) (omega arith) (and_right (slot_holds true n) _ v) z (omega arith))
slots-can false (suc count) at (n ∷ numbers) (k ∷ zeros) p v z few =
    rw (lt-ltb 0 (suc (length numbers)) (omega arith), one_less (length numbers), slot-can false n (and_left (slot_holds false n) _ v))
    (slots-can false count (at + 3) numbers (k ∷ zeros) (omega arith) (and_right (slot_holds false n) _ v) z (omega arith))
slots-can true (suc count) at [] (k ∷ zeros) p v z few =
    rw (and_left (eqb k 0) _ z) (slots-can true count (at + 3) [] zeros (omega arith) refl (and_right (eqb k 0) _ z) (omega arith))
slots-can false (suc count) at [] (k ∷ zeros) p v z few =
    rw (and_left (eqb k 0) _ z) (slots-can false count (at + 3) [] zeros (omega arith) refl (and_right (eqb k 0) _ z) (omega arith))
slots-can accuracies (suc count) at numbers [] p v z few = absurd (omega arith)

-- zeros
pub zeros : (n : ℕ) → every (λ k. eqb k 0) (replicate n 0) ≡ true
zeros zero = refl
zeros (suc n) = zeros n

-- One further line.
module _ (accuracies : Bool) (numbers : List ℕ) (v : every (slot_holds accuracies) numbers ≡ true) where
  abbrev line : List ℕ
  line = line_of (more_line accuracies (length numbers) (slots_shown numbers))

  more-can : can_show (more_items accuracies (length numbers)) (ones_of (seventeen numbers)) ≡ true
  unfolding seventeen
  more-can = go accuracies v
    where
      go : (a : Bool) → every (slot_holds a) numbers ≡ true → can_show (more_items a (length numbers)) (ones_of (take 17 (numbers ++ replicate 17 0))) ≡ true
      go true w = slots-can true 17 10 numbers (replicate 17 0) (omega arith) w (zeros 17) (omega arith)
      go false w = slots-can false 17 10 numbers (replicate 17 0) (omega arith) w (zeros 17) (omega arith)

  more-read : more_of accuracies (length numbers) (padded line) ≡ slots_shown numbers
  more-read =
      ap (λ (s : List ℕ). more_of accuracies (length numbers) (padded (line_of s))) (sym (append-nil (more_line accuracies (length numbers) (slots_shown numbers))))
      ∙ slots-back accuracies (length numbers) (slots_shown numbers) [] refl more-can

  more-is : (rules : Rules) → is_record rules (slots_of_kind accuracies) (more_of accuracies (length numbers) (padded line)).fault line ≡ true
  unfolding more_line kind_of
  more-is rules = go accuracies more-can (ap (λ (s : Slots). s.fault) more-read)
    where
      go : (a : Bool) → can_show (more_items a (length numbers)) (ones_of (seventeen numbers)) ≡ true
          → (more_of a (length numbers) (padded (line_of (more_line a (length numbers) (slots_shown numbers))))).fault ≡ 0
          → is_record rules (slots_of_kind a) (more_of a (length numbers) (padded (line_of (more_line a (length numbers) (slots_shown numbers))))).fault (line_of (more_line a (length numbers) (slots_shown numbers))) ≡ true
      go true c none = bare-record (more_items true (length numbers)) (ones_of (seventeen numbers)) (more-tiled true (length numbers)) c rules kind.Accuracies _ refl refl none
      go false c none = bare-record (more_items false (length numbers)) (ones_of (seventeen numbers)) (more-tiled false (length numbers)) c rules kind.Satellites _ refl refl none

-- the first of seventeen numbers are the first of the numbers
pub seventeen-front : (numbers : List ℕ) → take (length numbers) (seventeen numbers) ≡ take 17 numbers
unfolding seventeen
seventeen-front numbers = go (dec_le (length numbers) 17)
  where
    zeros' : List ℕ
    zeros' = replicate 17 0

    go : Dec (length numbers ≤ 17) → take (length numbers) (take 17 (numbers ++ replicate 17 0)) ≡ take 17 numbers
    go (yes p) =
        take-take (length numbers) 17 (numbers ++ zeros') p
        ∙ take_at numbers zeros' (length numbers) refl
        ∙ sym (take_all 17 numbers p)
    go (no p) =
        let short = length-take-le 17 (numbers ++ zeros') (omega (arith, length-append numbers zeros')) in
        take_all (length numbers) (take 17 (numbers ++ zeros')) (omega arith) ∙ take-append-le 17 numbers zeros' (omega arith)

-- so many lines, which have room for the numbers
module _ (accuracies : Bool) where
  abbrev bare : ℕ → List ℕ → List (List ℕ)
  bare lines numbers = map line_of (slot_lines_of accuracies lines numbers)

  later : (numbers : List ℕ) → every (slot_holds accuracies) numbers ≡ true → every (slot_holds accuracies) (drop 17 numbers) ≡ true
  later numbers v = every_drop (slot_holds accuracies) 17 numbers v

  pub slots-are : (rules : Rules) (lines : ℕ) (numbers : List ℕ) → every (slot_holds accuracies) numbers ≡ true
      → are_slots rules accuracies (length numbers) (bare lines numbers) ≡ true
  unfolding are_slots slot_lines_of
  slots-are rules zero numbers v = refl
  slots-are rules (suc lines) numbers v =
      and_both (is_record rules (slots_of_kind accuracies) (more_of accuracies (length numbers) (padded (line accuracies numbers v))).fault (line accuracies numbers v)) _
      (more-is accuracies numbers v rules)
      (rw (sym (length-drop 17 numbers)) (slots-are rules lines (drop 17 numbers) (later numbers v)))

  pub slots_end : (lines : ℕ) (numbers : List ℕ) → every (slot_holds accuracies) numbers ≡ true → Each EndsLine (slot_lines_of accuracies lines numbers)
  unfolding slot_lines_of more_line
  slots_end zero numbers v = tt
  slots_end (suc lines) numbers v = (
    bare-ended (more_items accuracies (length numbers)) (ones_of (seventeen numbers)) (more-tiled accuracies (length numbers)) (more-can accuracies numbers v),
    slots_end lines (drop 17 numbers) (later numbers v),
  )

  pub slots-hold : (lines : ℕ) (numbers : List ℕ) → every (slot_holds accuracies) numbers ≡ true → length numbers ≤ 17 * lines
      → take (length numbers) (flat (map (slot_numbers accuracies) (bare lines numbers))) ≡ numbers
  unfolding slot_lines_of
  slots-hold zero [] v h = refl
  slots-hold zero (n ∷ numbers) v h = absurd (omega arith)
  slots-hold (suc lines) numbers v h =
      let l = line accuracies numbers v in
      slots-cons accuracies (length numbers) l (bare lines (drop 17 numbers))
      ∙ ap₂ (λ (a b : List ℕ). a ++ b)
      (sym (more-alike accuracies (length numbers) l) ∙ ap (λ (s : Slots). take (length numbers) s.values) (more-read accuracies numbers v) ∙ seventeen-front numbers)
      (ap (λ (n : ℕ). take n (flat (map (slot_numbers accuracies) (bare lines (drop 17 numbers))))) (sym (length-drop 17 numbers))
      ∙ slots-hold lines (drop 17 numbers) (later numbers v) (omega (arith, length-drop 17 numbers)))
      ∙ take-append-drop 17 numbers

  pub slots-many : (lines : ℕ) (numbers : List ℕ) → length (bare lines numbers) ≡ lines
  unfolding slot_lines_of
  slots-many zero numbers = refl
  slots-many (suc lines) numbers = ap suc (slots-many lines (drop 17 numbers))
