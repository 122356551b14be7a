-- Every layout tiles columns 1 to 80: computed where the items are fixed, once over the number of satellites where they are not.
-- Assumes nothing.
use mathlib.Core.Path.{◌≡◌, refl}
use mathlib.Core.Bool.{Bool, true, false}
use mathlib.Core.List.{[], ◌∷◌}
use Prim.Native.Nat.{ℕ}
use native.Mathlib.Omega.{arith}
use Rattle.layout.specs.Kind.Kind.{unused}
use Rattle.layout.specs.Layout.{columns, tiled}
use Rattle.field.specs.Show.{fits_decimal, fits_integer}
use Rattle.record.specs.Descriptors.{descriptor_items, character_items, base_items, float_items, integer_items}
use Rattle.record.specs.Opening.{first_items, second_items, epoch_items}
use Rattle.record.specs.Plain.{comment_items, end_items}
use Rattle.record.specs.Notes.{correlation_items}
use Rattle.record.specs.Rows.{row_items}
use Rattle.record.specs.SlotLines.{slot_kind, satellite_items, more_items}
use Rattle.header.specs.declared.types.Rules.{Rules}
use Rattle.layout.proofs.Repeats.{slots-tile}
use Rattle.record.proofs.SlotKinds.{three-wide}

pub first-tiled : (rules : Rules) → tiled (first_items rules) ≡ true
first-tiled rules = refl

pub second-tiled : tiled second_items ≡ true
second-tiled = refl

pub epoch-tiled : tiled epoch_items ≡ true
epoch-tiled = refl

pub satellites-tiled : (rules : Rules) (n : ℕ) → tiled (satellite_items rules n) ≡ true
satellites-tiled rules n = slots-tile (slot_kind false) (three-wide false) 17 n 10 (columns 61 80 unused ∷ []) (omega arith) refl

pub more-tiled : (accuracies : Bool) (left : ℕ) → tiled (more_items accuracies left) ≡ true
more-tiled true left = slots-tile (slot_kind true) (three-wide true) 17 left 10 (columns 61 80 unused ∷ []) (omega arith) refl
more-tiled false left = slots-tile (slot_kind false) (three-wide false) 17 left 10 (columns 61 80 unused ∷ []) (omega arith) refl

pub descriptor-tiled : tiled descriptor_items ≡ true
descriptor-tiled = refl

pub character-tiled : tiled character_items ≡ true
character-tiled = refl

pub comment-tiled : tiled comment_items ≡ true
comment-tiled = refl

pub end-tiled : tiled end_items ≡ true
end-tiled = refl

pub rows-tiled : (velocity : Bool) → tiled (row_items velocity) ≡ true
rows-tiled true = refl
rows-tiled false = refl

-- placeholders of zero fit their columns
pub base-tiled : tiled base_items ≡ true
unfolding fits_decimal fits_integer
base-tiled = refl

pub float-tiled : tiled float_items ≡ true
unfolding fits_decimal fits_integer
float-tiled = refl

pub integer-tiled : tiled integer_items ≡ true
unfolding fits_integer
integer-tiled = refl

pub correlation-tiled : (velocity : Bool) → tiled (correlation_items velocity) ≡ true
correlation-tiled true = refl
correlation-tiled false = refl
