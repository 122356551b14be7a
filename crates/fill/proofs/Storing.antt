-- Twelve numbers are a row, and eleven a note.
-- Assumes nothing.
use Rattle.std.proofs.Common.{◌≡◌, true, [], ◌∷◌, ℤ}
use Rattle.record.specs.declared.types.Row.{Row}
use Rattle.record.specs.declared.types.Note.{Note}
use Rattle.file.specs.Table.{stored_signed, stored_count, stored_mark, row_numbers, note_numbers}

pub numbers-row : (p : Row) {a b c d e f g h i j k l : ℤ} → a ≡ stored_signed p.x → b ≡ stored_signed p.y → c ≡ stored_signed p.z
    → d ≡ stored_signed p.clock → e ≡ stored_count p.x_exponent → f ≡ stored_count p.y_exponent → g ≡ stored_count p.z_exponent
    → h ≡ stored_count p.clock_exponent → i ≡ stored_mark p.event → j ≡ stored_mark p.predicted → k ≡ stored_mark p.maneuver
    → l ≡ stored_mark p.orbit_predicted → a ∷ b ∷ c ∷ d ∷ e ∷ f ∷ g ∷ h ∷ i ∷ j ∷ k ∷ l ∷ [] ≡ row_numbers p
unfolding row_numbers
numbers-row p ea eb ec ed ee ef eg eh ei ej ek el = cc

pub numbers-note : (n : Note) {a b c d e f g h i j k : ℤ} → a ≡ stored_mark true → b ≡ stored_count n.x_deviation → c ≡ stored_count n.y_deviation
    → d ≡ stored_count n.z_deviation → e ≡ stored_count n.clock_deviation → f ≡ stored_signed n.xy → g ≡ stored_signed n.xz
    → h ≡ stored_signed n.xc → i ≡ stored_signed n.yz → j ≡ stored_signed n.yc → k ≡ stored_signed n.zc
    → a ∷ b ∷ c ∷ d ∷ e ∷ f ∷ g ∷ h ∷ i ∷ j ∷ k ∷ [] ≡ note_numbers n
unfolding note_numbers
numbers-note n ea eb ec ed ee ef eg eh ei ej ek = cc
