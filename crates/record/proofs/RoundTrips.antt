-- Each record is read back from the line that shows it, found before its LF, whatever follows: the one law of layouts, cited at each.
-- What can be shown is a test of the record's values by its layout (`can_show`); a line without fault passes it (`shown-again`).
-- Assumes nothing.
use mathlib.Core.Path.{◌≡◌, refl, sym, ap, ◌∙◌}
use mathlib.Core.Bool.{Bool, true, false, not, ◌&&◌}
use mathlib.Core.List.{List, [], ◌∷◌, ◌++◌}
use Prim.Native.Nat.{ℕ}
use Rattle.calendar.specs.Gregorian.{is_date}
use Rattle.layout.specs.Fault.{clean}
use Rattle.layout.specs.Kind.Held.{words}
use Rattle.layout.specs.Layout.{Item, tiled, can_show, fault_of, values_of, number_at, words_at, show_line, numbers_of, ones_of}
use Rattle.layout.specs.Line.{padded, line_of, ended}
use Rattle.record.specs.Opening.{first_items, first_from, first_values, first_of, first_line, second_items, second_from, second_values, second_of, second_line, epoch_items, epoch_from, epoch_values, epoch_of, epoch_line}
use Rattle.record.specs.SlotLines.{satellite_items, satellites_from, satellites_values, satellites_of, satellites_line, count_in, more_items, more_from, more_of, more_line}
use Rattle.record.specs.Descriptors.{descriptor_items, descriptor_from, descriptor_values, descriptor_of, descriptor_line, base_items, base_from, base_values, base_of, base_line, character_items, float_items, integer_items, fixed_line}
use Rattle.record.specs.Plain.{comment_items, comment_of, comment_line, end_items}
use Rattle.record.specs.Notes.{correlation_items, note_from, note_values, note_taken, note_of, note_fault, note_line}
use Rattle.record.specs.Rows.{row_items, row_from, row_values, row_fault, row_of, row_line}
use Rattle.header.specs.declared.types.Rules.{Rules}
use Rattle.header.specs.declared.types.Moment.{Moment}
use Rattle.record.specs.declared.types.First.{First}
use Rattle.record.specs.declared.types.Second.{Second}
use Rattle.record.specs.declared.types.Epoch.{Epoch}
use Rattle.record.specs.declared.types.Satellites.{Satellites}
use Rattle.record.specs.declared.types.Slots.{Slots}
use Rattle.record.specs.declared.types.Descriptor.{Descriptor}
use Rattle.record.specs.declared.types.BaseLine.{BaseLine}
use Rattle.record.specs.declared.types.Row.{Row}
use Rattle.record.specs.declared.types.Note.{Note}
use Rattle.laws.proofs.Bools.{and_left, and_right}
use Rattle.layout.proofs.ReadBack.{line-back}
use Rattle.record.proofs.Tiled.{first-tiled, second-tiled, epoch-tiled, satellites-tiled, more-tiled, descriptor-tiled, character-tiled, base-tiled, float-tiled, integer-tiled, comment-tiled, correlation-tiled, end-tiled, rows-tiled}
use Rattle.record.proofs.Taking.{row-taken}

-- a date and time that make a date
abbrev pub dated : Moment → Bool
dated m = is_date m.year m.month m.day

pub first_back : (rules : Rules) (f : First) (rest : List ℕ) → f.fault ≡ clean → dated f.start ≡ true → can_show (first_items rules) (first_values f) ≡ true
    → first_of rules (padded (line_of (first_line rules f ++ rest))) ≡ f
unfolding first_line
first_back rules f rest e d c = line-back (first_items rules) first_from (first_values f) rest (first-tiled rules) c ∙ rw (d, e)

pub second_back : (s : Second) (rest : List ℕ) → s.fault ≡ clean → can_show second_items (second_values s) ≡ true → second_of (padded (line_of (second_line s ++ rest))) ≡ s
unfolding second_line
second_back s rest e c = line-back second_items second_from (second_values s) rest second-tiled c ∙ ap (λ (fault : ℕ). second_from fault (second_values s)) (sym e)

pub epoch-back : (m : Epoch) (rest : List ℕ) → m.fault ≡ clean → dated m.moment ≡ true → can_show epoch_items (epoch_values m) ≡ true
    → epoch_of (padded (line_of (epoch_line m ++ rest))) ≡ m
unfolding epoch_line
epoch-back m rest e d c = line-back epoch_items epoch_from (epoch_values m) rest epoch-tiled c ∙ rw (d, e)

numbers-back : (ns : List ℕ) → numbers_of (ones_of ns) ≡ ns
numbers-back [] = refl
numbers-back (n ∷ ns) = ap {B = List ℕ} (λ t. n ∷ t) (numbers-back ns)

-- the first `+ `, whose layout goes by the number that the line itself shows
module _ (rules : Rules) (s : Satellites) (rest : List ℕ) (can : can_show (satellite_items rules s.count) (satellites_values s) ≡ true) where
  abbrev shown : List ℕ
  shown = padded (line_of (ended (show_line (satellite_items rules s.count) (satellites_values s)) ++ rest))

  count-back : count_in rules shown ≡ s.count
  count-back = line-back (satellite_items rules s.count) (λ fault vs. number_at vs 0) (satellites_values s) rest (satellites-tiled rules s.count) can

  pub satellites-back : s.fault ≡ clean → satellites_of rules (padded (line_of (satellites_line rules s ++ rest))) ≡ s
  unfolding satellites_line
  satellites-back e =
      ap (λ (n : ℕ). satellites_from (fault_of (satellite_items rules n) shown) (values_of (satellite_items rules n) shown)) count-back
      ∙ line-back (satellite_items rules s.count) satellites_from (satellites_values s) rest (satellites-tiled rules s.count) can
      ∙ rw (numbers-back s.identifiers, e)

-- a further `+ ` line, and a `++` line
pub slots-back : (accuracies : Bool) (left : ℕ) (s : Slots) (rest : List ℕ) → s.fault ≡ clean → can_show (more_items accuracies left) (ones_of s.values) ≡ true
    → more_of accuracies left (padded (line_of (more_line accuracies left s ++ rest))) ≡ s
unfolding more_line
slots-back accuracies left s rest e c =
    line-back (more_items accuracies left) more_from (ones_of s.values) rest (more-tiled accuracies left) c ∙ rw (numbers-back s.values, e)

pub descriptor-back : (d : Descriptor) (rest : List ℕ) → d.fault ≡ clean → can_show descriptor_items (descriptor_values d) ≡ true
    → descriptor_of (padded (line_of (descriptor_line d ++ rest))) ≡ d
unfolding descriptor_line
descriptor-back d rest e c = line-back descriptor_items descriptor_from (descriptor_values d) rest descriptor-tiled c ∙ ap (λ (fault : ℕ). descriptor_from fault (descriptor_values d)) (sym e)

pub base_back : (b : BaseLine) (rest : List ℕ) → b.fault ≡ clean → can_show base_items (base_values b) ≡ true → base_of (padded (line_of (base_line b ++ rest))) ≡ b
unfolding base_line
base_back b rest e c = line-back base_items base_from (base_values b) rest base-tiled c ∙ ap (λ (fault : ℕ). base_from fault (base_values b)) (sym e)

-- a line that holds nothing is without fault: the second `%c` and `%f`, `%i`, EOF
fixed_back : (items : List Item) (rest : List ℕ) → tiled items ≡ true → can_show items [] ≡ true → fault_of items (padded (line_of (fixed_line items ++ rest))) ≡ clean
unfolding fixed_line
fixed_back items rest t c = line-back items (λ fault vs. fault) [] rest t c

pub characters-back : (rest : List ℕ) → fault_of character_items (padded (line_of (fixed_line character_items ++ rest))) ≡ clean
characters-back rest = fixed_back character_items rest character-tiled refl

pub floats-back : (rest : List ℕ) → fault_of float_items (padded (line_of (fixed_line float_items ++ rest))) ≡ clean
floats-back rest = fixed_back float_items rest float-tiled refl

pub integers-back : (rest : List ℕ) → fault_of integer_items (padded (line_of (fixed_line integer_items ++ rest))) ≡ clean
integers-back rest = fixed_back integer_items rest integer-tiled refl

pub end_back : (rest : List ℕ) → fault_of end_items (padded (line_of (fixed_line end_items ++ rest))) ≡ clean
end_back rest = fixed_back end_items rest end-tiled refl

-- a comment's text of 77 bytes
pub comment-back : (bytes rest : List ℕ) → can_show comment_items (words bytes ∷ []) ≡ true
    → (fault_of comment_items (padded (line_of (comment_line bytes ++ rest))) ≡ clean) × (comment_of (padded (line_of (comment_line bytes ++ rest))) ≡ bytes)
unfolding comment_line
comment-back bytes rest c =
    (line-back comment_items (λ fault vs. fault) (words bytes ∷ []) rest comment-tiled c, line-back comment_items (λ fault vs. words_at vs 0) (words bytes ∷ []) rest comment-tiled c)

-- EP and EV: judged without fault, and the note taken is the note that was shown
same-columns : (velocity : Bool) (line : List ℕ) → note_from (values_of (correlation_items false) line) ≡ note_from (values_of (correlation_items velocity) line)
same-columns true line = refl
same-columns false line = refl

pub note-back : (velocity : Bool) (n : Note) (rest : List ℕ) → can_show (correlation_items velocity) (note_values n) ≡ true
    → (note_fault velocity (padded (line_of (note_line velocity n ++ rest))) ≡ clean) × (note_of (line_of (note_line velocity n ++ rest)) ≡ n)
unfolding note_line note_taken
note-back velocity n rest c = (
  line-back (correlation_items velocity) (λ fault vs. fault) (note_values n) rest (correlation-tiled velocity) c,
  same-columns velocity (padded (line_of (ended (show_line (correlation_items velocity) (note_values n)) ++ rest)))
      ∙ line-back (correlation_items velocity) (λ fault vs. note_from vs) (note_values n) rest (correlation-tiled velocity) c,
)

-- P and V: judged without fault, and the row taken is the row that was shown; a row of V has no flags
abbrev pub flagless : Row → Bool
flagless p = not p.event && (not p.predicted && (not p.maneuver && not p.orbit_predicted))

-- a row with these flags
abbrev flagged : Row → Bool → Bool → Bool → Bool → Row
flagged p event predicted maneuver orbit = record {
  satellite = p.satellite;
  x = p.x;
  y = p.y;
  z = p.z;
  clock = p.clock;
  x_exponent = p.x_exponent;
  y_exponent = p.y_exponent;
  z_exponent = p.z_exponent;
  clock_exponent = p.clock_exponent;
  event = event;
  predicted = predicted;
  maneuver = maneuver;
  orbit_predicted = orbit;
}

unset : (t : Bool) → not t ≡ true → false ≡ t
unset true h = h
unset false h = refl

kept : (velocity : Bool) (p : Row) → (velocity ≡ true → flagless p ≡ true) → row_from velocity (row_values velocity p) ≡ p
kept true p h =
    let one = and_right (not p.event) _ (h refl) in
    let two = and_right (not p.predicted) _ one in
    ap (λ (t : Bool). flagged p t false false false) (unset p.event (and_left (not p.event) _ (h refl)))
    ∙ ap (λ (t : Bool). flagged p p.event t false false) (unset p.predicted (and_left (not p.predicted) _ one))
    ∙ ap (λ (t : Bool). flagged p p.event p.predicted t false) (unset p.maneuver (and_left (not p.maneuver) _ two))
    ∙ ap (λ (t : Bool). flagged p p.event p.predicted p.maneuver t) (unset p.orbit_predicted (and_right (not p.maneuver) _ two))
kept false p h = refl

pub row_back : (velocity : Bool) (p : Row) (rest : List ℕ) → (velocity ≡ true → flagless p ≡ true) → can_show (row_items velocity) (row_values velocity p) ≡ true
    → (row_fault velocity (padded (line_of (row_line velocity p ++ rest))) ≡ clean) × (row_of velocity (line_of (row_line velocity p ++ rest)) ≡ p)
unfolding row_line
row_back velocity p rest h c =
    let line = padded (line_of (ended (show_line (row_items velocity) (row_values velocity p)) ++ rest)) in
    let sound = line-back (row_items velocity) (λ fault vs. fault) (row_values velocity p) rest (rows-tiled velocity) c in (
      sound,
      row-taken velocity line sound
          ∙ line-back (row_items velocity) (λ fault vs. row_from velocity vs) (row_values velocity p) rest (rows-tiled velocity) c
          ∙ kept velocity p h,
    )
