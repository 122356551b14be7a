-- The slots of a line of satellites: both kinds hold one number in three columns.
-- Assumes nothing.
use mathlib.Core.Path.{◌≡◌, refl}
use mathlib.Core.Bool.{Bool, true, false}
use Rattle.layout.specs.Kind.{silent, fits_in, may_end_blank}
use Rattle.record.specs.SlotLines.{slot_kind}

pub loud : (accuracies : Bool) → silent (slot_kind accuracies) ≡ false
loud true = refl
loud false = refl

pub filling-kind : (accuracies : Bool) → may_end_blank (slot_kind accuracies) ≡ false
filling-kind true = refl
filling-kind false = refl

pub three-wide : (accuracies : Bool) → fits_in (slot_kind accuracies) 3 ≡ true
three-wide true = refl
three-wide false = refl
