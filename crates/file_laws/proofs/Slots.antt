-- The slots of an accepted file: seventeen to a line, so the lines have room for n satellites, and n numbers are taken of them.
-- Assumes nothing.
use mathlib.Core.Path.{◌≡◌, refl, ap, ◌∙◌}
use mathlib.Core.Bool.{Bool, true, false}
use mathlib.Core.List.{List, ◌∷◌, map}
use Prim.Native.Nat.{ℕ, ◌*◌, ◌≤◌}
use native.Mathlib.Omega.{arith}
use lib.ListN.{length, take, length-map}
use lib.Seq.{length-take-le}
use Rattle.header.specs.Rules.{slot_lines}
use Rattle.layout.specs.Layout.{slots_from}
use Rattle.lines.specs.Lent.{flat}
use Rattle.header.specs.declared.types.Rules.{Rules}
use Rattle.file.specs.Plain.{Plain}
use Rattle.file.specs.Table.{slot_numbers, slots_in}
use Rattle.lines.proofs.Each.{Each, each_map}
use Rattle.lines.proofs.Picking.{length-flat}
use Rattle.file_laws.proofs.Selected.{satellites, identifiers, kind-satellites, kind-accuracies}

-- a line has seventeen
pub slots-wide : (accuracies : Bool) (l : List ℕ) → length (slot_numbers accuracies l) ≡ 17
unfolding slots_from
slots-wide true l = refl
slots-wide false l = refl

-- so many lines as n satellites need have n slots
room : (n m : ℕ) → m ≡ slot_lines n → n ≤ m * 17
unfolding slot_lines
room n m e = omega arith

module _ (accuracies : Bool) (n : ℕ) (ls : List (List ℕ)) (enough : length ls ≡ slot_lines n) where
  pub slots-many : length (take n (flat (map (slot_numbers accuracies) ls))) ≡ n
  slots-many =
      let each : Each (λ (part : List ℕ). length part ≡ 17) (map (slot_numbers accuracies) ls) =
      each_map (λ (part : List ℕ). length part ≡ 17) (slot_numbers accuracies) (slots-wide accuracies) ls in
      length-take-le n (flat (map (slot_numbers accuracies) ls))
      (omega (arith, length-flat 17 (map (slot_numbers accuracies) ls) each, length-map ls (slot_numbers accuracies), room n (length ls) enough))

module _ {rules : Rules} {lines : List (List ℕ)} (p : Plain rules lines) where
  -- there are as many names as satellites
  pub identifiers-many : length (identifiers p) ≡ satellites p
  identifiers-many = slots-many false (satellites p) (p.count ∷ p.slots) p.slots-many

  -- the table has these identifiers
  pub identifiers-in : slots_in rules false (satellites p) lines ≡ identifiers p
  unfolding slots_in
  identifiers-in = ap (λ (ls : List (List ℕ)). take (satellites p) (flat (map (slot_numbers false) ls))) (kind-satellites p)

  -- and as many accuracy exponents
  pub accuracies-many : length (slots_in rules true (satellites p) lines) ≡ satellites p
  unfolding slots_in
  accuracies-many =
      ap (λ (ls : List (List ℕ)). length (take (satellites p) (flat (map (slot_numbers true) ls)))) (kind-accuracies p)
      ∙ slots-many true (satellites p) p.accuracies p.accuracies-many
