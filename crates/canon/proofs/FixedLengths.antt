-- How long each line is that has its columns for itself: lines 1 and 2, epoch lines, comments, `%c`, `%f`, `%i` and EOF.
-- Assumes nothing.
use mathlib.Core.Bool.{false}
use mathlib.Core.List.{List, [], ◌∷◌}
use mathlib.Core.Path.{◌≡◌, refl, ap, ◌∙◌}
use Prim.Native.Nat.{ℕ, ◌+◌, ◌*◌, ◌/◌, ◌%◌, ◌<◌, ◌≤◌}
use native.Mathlib.Omega.{arith}
use lib.ListN.{length, take}
use Rattle.calendar.specs.Clock.{minute_units, day_units, clock_of}
use Rattle.field.specs.Show.{show_integer, fits_integer, show_decimal, fits_decimal}
use Rattle.layout.specs.Kind.Kind.{unused, whole, decimal}
use Rattle.layout.specs.Kind.Held.{one, words}
use Rattle.layout.specs.Layout.{Item, Values, columns, column}
use Rattle.header.specs.Rules.{max_epochs}
use Rattle.record.specs.Opening.{text_items, text_values, first_items, first_values, first_line, second_items, second_values, second_line, epoch_items, epoch_values, epoch_line}
use Rattle.record.specs.Descriptors.{descriptor_items, descriptor_values, descriptor_line, character_items, base_items, base_values, base_line, float_items, integer_items, fixed_line}
use Rattle.record.specs.Plain.{comment_items, comment_line, end_items, comment_width}
use Rattle.layout.specs.Inking.{end_from}
use Rattle.canon.specs.Canonical.{moment_of, first_shown, second_shown, epoch_shown}
use Rattle.canon.specs.Measured.{first_length, comment_length}
use Rattle.header.specs.declared.types.Rules.{Rules}
use Rattle.header.specs.declared.types.Header.{Header}
use Rattle.header.specs.declared.types.Texts.{Texts}
use Rattle.record.specs.declared.types.Descriptor.{Descriptor}
use Rattle.record.specs.declared.types.BaseLine.{BaseLine}
use Rattle.field.proofs.Fitting.{fits-true}
use Rattle.layout.proofs.Shown.{text-whole}
use Rattle.record.proofs.Tiled.{first-tiled, second-tiled, epoch-tiled, descriptor-tiled, comment-tiled, base-tiled}
use Rattle.layout.proofs.Ends.{line-length}
use Rattle.layout.proofs.Inked.{whole-ends, decimal-ends, decimal-fits}

-- line 2 ends with the fraction of day
fraction-ends : (earlier m : ℕ) → m < 10_000_000_000_000
    → end_from earlier (columns 46 60 (decimal 13 0 9_999_999_999_999) ∷ columns 61 80 unused ∷ []) (one m ∷ []) ≡ 60
fraction-ends earlier m h = rw (decimal-ends 15 12 false m (decimal-fits 15 13 m (omega arith) (omega arith) (omega arith) (omega arith)))

pub second-length : (h : Header) → length (second_line (second_shown h)) ≡ 61
unfolding second_line second_shown
second-length h =
    let time = h.start8 % day_units in
    let below : (125 * time + 54) / 108 < 10_000_000_000_000 = omega arith in
    let values = second_values (second_shown h) in
    line-length second_items values second-tiled
    ∙ ap (λ (n : ℕ). n + 1) (fraction-ends (end_from 0 (take 10 second_items) values) ((125 * time + 54) / 108) below)

-- a date and time end with the seconds
seconds-end : (earlier m : ℕ) (after : List Item) (vs : Values) → m < minute_units
    → end_from earlier (columns 21 31 (decimal 8 0 5_999_999_999) ∷ after) (one m ∷ vs) ≡ end_from 31 after vs
seconds-end earlier m after vs h = rw (decimal-ends 11 7 false m (decimal-fits 11 8 m (omega arith) (omega arith) (omega arith) (omega arith)))

pub epoch-length : (at8 : ℕ) → length (epoch_line (epoch_shown at8)) ≡ 32
unfolding epoch_line epoch_shown moment_of clock_of
epoch-length at8 =
    let values = epoch_values (epoch_shown at8) in
    let below : at8 % minute_units < minute_units = omega arith in
    line-length epoch_items values epoch-tiled
    ∙ ap (λ (n : ℕ). n + 1) (seconds-end (end_from 0 (take 12 epoch_items) values) (at8 % minute_units) (columns 32 80 unused ∷ []) [] below)

-- line 1 ends with the number of epochs or a text after it
texts-end : (earlier epochs : ℕ) (t : Texts) → epochs ≤ max_epochs
    → length t.data_used ≡ 5 → length t.coordinates ≡ 5 → length t.orbit ≡ 3 → length t.agency ≡ 4
    → end_from earlier (columns 33 39 (whole 1 max_epochs) ∷ column 40 unused ∷ text_items) (one epochs ∷ text_values t) + 1 ≡ first_length t
unfolding first_length
texts-end earlier epochs t few used coordinates orbit agency =
    rw (
      whole-ends 6 epochs (fits-true 7 false epochs (omega arith) (omega arith) (omega arith)),
      text-whole 5 t.data_used used,
      text-whole 5 t.coordinates coordinates,
      text-whole 3 t.orbit orbit,
      text-whole 4 t.agency agency,
    )

pub first-length : (rules : Rules) (h : Header) → h.epochs ≤ max_epochs
    → length h.texts.data_used ≡ 5 → length h.texts.coordinates ≡ 5 → length h.texts.orbit ≡ 3 → length h.texts.agency ≡ 4
    → length (first_line rules (first_shown h)) ≡ first_length h.texts
unfolding first_line first_shown
first-length rules h few used coordinates orbit agency =
    let values = first_values (first_shown h) in
    line-length (first_items rules) values (first-tiled rules)
    ∙ texts-end (end_from 0 (take 14 (first_items rules)) values) h.epochs h.texts few used coordinates orbit agency

-- a comment ends with its text
pub comment-length : (bytes : List ℕ) → length bytes ≡ comment_width → length (comment_line bytes) ≡ comment_length bytes
unfolding comment_line comment_length
comment-length bytes long = line-length comment_items (words bytes ∷ []) comment-tiled ∙ rw (text-whole comment_width bytes long)

-- the `%` lines and EOF end with a placeholder or a symbol
pub descriptor-length : (d : Descriptor) → length (descriptor_line d) ≡ 61
unfolding descriptor_line
descriptor-length d = line-length descriptor_items (descriptor_values d) descriptor-tiled

pub character-length : length (fixed_line character_items) ≡ 61
unfolding fixed_line
character-length = refl

pub base-length : (b : BaseLine) → length (base_line b) ≡ 61
unfolding base_line show_integer fits_integer show_decimal fits_decimal
base-length b = line-length base_items (base_values b) base-tiled

pub float-length : length (fixed_line float_items) ≡ 61
unfolding fixed_line show_integer fits_integer show_decimal fits_decimal
float-length = refl

pub integer-length : length (fixed_line integer_items) ≡ 61
unfolding fixed_line show_integer fits_integer
integer-length = refl

pub end-length : length (fixed_line end_items) ≡ 4
unfolding fixed_line
end-length = refl
