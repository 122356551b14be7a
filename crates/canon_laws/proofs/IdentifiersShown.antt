-- The first `+ ` line of the canonical form is such a line, and with the further ones it holds the identifiers that they show.
-- Assumes nothing.
use mathlib.Core.Path.{◌≡◌, refl, sym, ap, ap₂, ◌∙◌}
use mathlib.Core.Bool.{true, false}
use mathlib.Core.List.{List, [], ◌∷◌, ◌++◌, map, append-nil}
use Prim.Native.Nat.{ℕ, ◌+◌, ◌-◌, ◌*◌, ◌≤◌}
use native.Mathlib.Omega.{arith}
use lib.ListN.{length, take, drop, replicate, length-drop, take-append-drop}
use Rattle.laws.specs.Texts.{every}
use Rattle.layout.specs.Kind.{is_identifier}
use Rattle.layout.specs.Layout.{can_show}
use Rattle.layout.specs.Line.{padded, line_of}
use Rattle.header.specs.Rules.{slot_lines}
use Rattle.header.specs.declared.types.Rules.{Rules}
use Rattle.record.specs.LineKinds.{kind_of}
use Rattle.record.specs.SlotLines.{satellite_items, satellites_values, satellites_of, satellites_line}
use Rattle.record.specs.declared.types.Satellites.{Satellites}
use Rattle.record.specs.declared.types.LineKind.TheVariants as kind
use Rattle.record.proofs.RoundTrips.{satellites-back}
use Rattle.record.proofs.Tiled.{satellites-tiled}
use Rattle.file.specs.Plain.{is_count_line, slot_identifiers}
use Rattle.scan_laws.proofs.Slots.{fresh_in, first-fresh, identifiers-cons}
use Rattle.canon.specs.Canonical.{seventeen, satellites_shown, slot_lines_of}
use Rattle.canon_laws.proofs.Bare.{EndsLine, bare-ended, bare-record}
use Rattle.canon_laws.proofs.Fits.{can-whole}
use Rattle.canon_laws.specs.Held.{Proper}
use Rattle.canon.proofs.Parted.{every_drop}
use Rattle.canon_laws.proofs.SlotsShown.{zeros, slots-can, seventeen-front, slots-hold}

-- so many lines have room for the identifiers after the first seventeen
room_after : (n : ℕ) → n - 17 ≤ 17 * (slot_lines n - 1)
unfolding slot_lines
room_after n = omega arith

module _ (rules : Rules) (proper : Proper rules) (n : ℕ) (identifiers : List ℕ) (few : (1 ≤ n) × (n ≤ rules.most_satellites)) (many : length identifiers ≡ n)
    (v : every is_identifier identifiers ≡ true) where
  abbrev line : List ℕ
  line = line_of (satellites_line rules (satellites_shown n identifiers))

  count-can : can_show (satellite_items rules n) (satellites_values (satellites_shown n identifiers)) ≡ true
  unfolding satellites_shown seventeen
  count-can =
      let bound = proper.sound.identifiers-fit in
      rw (can-whole 3 1 rules.most_satellites n (omega arith) (omega arith) few.0 few.1 (omega (arith, few.1, bound)), ← many)
      (slots-can false 17 10 identifiers (replicate 17 0) (omega arith) v (zeros 17) (omega arith))

  pub count-read : satellites_of rules (padded line) ≡ satellites_shown n identifiers
  unfolding satellites_shown
  count-read =
      ap (λ (s : List ℕ). satellites_of rules (padded (line_of s))) (sym (append-nil (satellites_line rules (satellites_shown n identifiers))))
      ∙ satellites-back rules (satellites_shown n identifiers) [] count-can refl

  pub count-ends : EndsLine (satellites_line rules (satellites_shown n identifiers))
  unfolding satellites_line satellites_shown
  count-ends = bare-ended (satellite_items rules n) (satellites_values (satellites_shown n identifiers)) (satellites-tiled rules n) count-can

  pub count-is : is_count_line rules line ≡ true
  unfolding satellites_line satellites_shown kind_of
  count-is =
      bare-record (satellite_items rules n) (satellites_values (satellites_shown n identifiers)) (satellites-tiled rules n) count-can rules kind.Satellites _ refl refl
      (ap (λ (s : Satellites). s.fault) count-read)

  fresh-are : fresh_in n line ≡ take 17 identifiers
  unfolding satellites_shown
  fresh-are =
      let said : (satellites_of rules (padded line)).count ≡ n = ap (λ (s : Satellites). s.count) count-read in
      ap (λ (k : ℕ). fresh_in k line) (sym said)
      ∙ sym (first-fresh rules line)
      ∙ ap (λ (s : Satellites). take s.count s.identifiers) count-read
      ∙ ap (λ (k : ℕ). take k (seventeen identifiers)) (sym many)
      ∙ seventeen-front identifiers

  pub identifiers-hold : slot_identifiers n (line ∷ map line_of (slot_lines_of false (slot_lines n - 1) (drop 17 identifiers))) ≡ identifiers
  identifiers-hold =
      let later = map line_of (slot_lines_of false (slot_lines n - 1) (drop 17 identifiers)) in
      let left : length (drop 17 identifiers) ≡ n - 17 = length-drop 17 identifiers ∙ ap (λ (k : ℕ). k - 17) many in
      identifiers-cons n line later
      ∙ ap₂ (λ (a b : List ℕ). a ++ b) fresh-are
      (ap (λ (k : ℕ). slot_identifiers k later) (sym left)
      ∙ slots-hold false (slot_lines n - 1) (drop 17 identifiers) (every_drop is_identifier 17 identifiers v) (omega (arith, left, room_after n)))
      ∙ take-append-drop 17 identifiers
