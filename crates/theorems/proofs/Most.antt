-- The bound of 999 satellites. 02, Ask 6: "Take 999, as document 000 does, which makes 59 lines of each kind"; "1,000 can't be written in the field".
-- Assumes nothing.
use mathlib.Core.Path.{◌≡◌, refl, sym, ap, ◌∙◌}
use mathlib.Core.Bool.{Bool, true, false, ◌&&◌}
use mathlib.Core.List.{List}
use Prim.Native.Nat.{ℕ, zero, suc, ◌^◌, ◌≤◌, ◌<◌}
use native.Mathlib.Omega.{arith}
use lib.ListN.{length, drop, length-take}
use Rattle.header.specs.Rules.{d, max_satellites, slot_lines}
use Rattle.header.specs.Header.{letters_listed, is_moment, numbers_bounded, refused, header_of}
use Rattle.header.specs.declared.types.Moment.{Moment}
use Rattle.header.specs.declared.types.Texts.{Texts}
use Rattle.header.specs.declared.types.Bases.{Bases}
use Rattle.header.proofs.Theorems.{numbers-bounded, slots-most}
use Rattle.laws.specs.Tests.{within}
use Rattle.laws.proofs.Bools.{and_right}
use Rattle.laws.proofs.Bounds.{true-within}
use Rattle.field.specs.Read.{whole_of}
use Rattle.field.proofs.Bounds.{wider, whole-bound}
use Rattle.layout.specs.Fault.{keyed}
use Rattle.layout.specs.Kind.{whole_held, whole_fault}
use Rattle.layout.specs.Layout.{part_of, fault_at}
use Rattle.record.specs.SlotLines.{count_item, satellites_of}
use Rattle.lines.specs.Lines.{lines_of}
use Rattle.record.specs.LineKinds.{satellites_kind, accuracies_kind}
use Rattle.file.specs.Kinds.{of_kind}
use Rattle.file_laws.proofs.Selected.{kind-satellites, kind-accuracies}
use Rattle.scan.specs.Run.{IsFile}
use Rattle.canon.specs.Table.{Table}
use Rattle.canon.specs.Valid.{valid}
use Rattle.canon.specs.Measured.{refused_as, measured, measured_in}
use Rattle.canon.proofs.Parts.{parts}
use Rattle.scan_laws.proofs.Files.{file-plain}
use Rattle.theorems.specs.Files.{header}
use Rattle.theorems.proofs.Accepting.{says-satellites}
use Rattle.theorems.proofs.Writing.{in-d}
use Rattle.canon_laws.specs.Held.{Proper}
use Rattle.header.specs.declared.types.Rules.{Rules}
use Rattle.std.specs.Prelude.{Option, Some, None}

module _ {rules : Rules} (proper : Proper rules) where
  -- A FILE HAS SO MANY LINES OF EACH KIND as its number of satellites asks for, and 59 at the most.
  module _ (bytes : List ℕ) (accepted : IsFile rules bytes) where
    pub lines-of-each : (length (of_kind rules satellites_kind (lines_of bytes)) ≡ slot_lines (header rules bytes).satellites)
        × (length (of_kind rules accuracies_kind (lines_of bytes)) ≡ slot_lines (header rules bytes).satellites)
    lines-of-each =
        let p = file-plain rules proper.sound bytes accepted in
        let says = sym (ap slot_lines (says-satellites p)) in
        (ap length (kind-satellites p) ∙ p.slots-many ∙ says, ap length (kind-accuracies p) ∙ p.accuracies-many ∙ says)

    pub lines-most : (header rules bytes).satellites ≡ max_satellites
        → (length (of_kind rules satellites_kind (lines_of bytes)) ≡ 59) × (length (of_kind rules accuracies_kind (lines_of bytes)) ≡ 59)
    lines-most e =
        let each = ap slot_lines e ∙ slots-most in
        (lines-of-each.0 ∙ each, lines-of-each.1 ∙ each)

-- A TABLE OF MORE IS 13, whatever the room,
pub too-many-13 : (t : Table) → max_satellites < t.header.satellites → (room : ℕ) → measured_in d t room ≡ refused_as 13
unfolding measured
too-many-13 t more room = in-d t room ∙ rw (go (valid d t) refl)
  where
    go : (b : Bool) → valid d t ≡ b → valid d t ≡ false
    go true ok = absurd (omega (arith, more, (parts d t ok).header.satellites.1))
    go false invalid = invalid

-- and `Header::new` with more is 7 where its letters are listed.
pub new-too-many : (mode : ℕ) (start : Moment) (epochs interval8 : ℕ) (texts : Texts) (satellites comments file_type : ℕ) (time_system : List ℕ) (bases : Bases)
    → letters_listed mode texts file_type time_system ≡ true → max_satellites < satellites
    → header_of mode start epochs interval8 texts satellites comments file_type time_system bases ≡ refused 7
unfolding header_of
new-too-many mode start epochs interval8 texts satellites comments file_type time_system bases listed more =
    rw (listed, go (is_moment start && numbers_bounded epochs interval8 satellites comments bases) refl)
  where
    go : (b : Bool) → (is_moment start && numbers_bounded epochs interval8 satellites comments bases) ≡ b
        → (is_moment start && numbers_bounded epochs interval8 satellites comments bases) ≡ false
    go true ok =
        let n = numbers-bounded epochs interval8 satellites comments bases (and_right (is_moment start) (numbers_bounded epochs interval8 satellites comments bases) ok) in
        absurd (omega (arith, more, n.satellites-in.1))
    go false other = other

-- IN A FILE THE FIELD ITSELF HOLDS NO MORE: three columns, whatever their bytes,
module _ (line : List ℕ) where
  abbrev field : List ℕ
  field = part_of (count_item d) line

  short : (n : ℕ) → whole_of field ≡ Some n → n ≤ max_satellites
  short n is =
      let few : length field ≤ 3 = omega (arith, length-take 3 (drop 3 line)) in
      let small : n < 10 ^ 3 = wider few (whole-bound field n is) in
      omega (arith, small)

  pub never-too-many : (satellites_of d line).count ≤ max_satellites
  never-too-many = go (whole_of field) refl
    where
      go : (x : Option ℕ) → whole_of field ≡ x → whole_held x ≤ max_satellites
      go (Some n) is = short n is
      go None is = omega arith

  -- so that its 7 says that there is none.
  pub seven-is-none : fault_at (count_item d) line ≡ keyed 7 4 → (satellites_of d line).count ≡ 0
  seven-is-none e = go (whole_of field) refl
    where
      go : (x : Option ℕ) → whole_of field ≡ x → whole_held (whole_of field) ≡ 0
      go (Some zero) is = ap whole_held is
      go (Some (suc n)) is =
          let bounded : within 1 max_satellites (suc n) ≡ true = true-within 1 max_satellites (suc n) (omega arith) (short (suc n) is) in
          let none : whole_fault 4 1 max_satellites (Some (suc n)) ≡ 0 = rw bounded in
          let z : ◌≡◌ {A = ℕ} 0 (keyed 7 4) = sym (ap (whole_fault 4 1 max_satellites) is ∙ none) ∙ e in
          absurd (omega arith)
      go None is = ap whole_held is
