-- The `%c`, `%f` and `%i` lines of the canonical form, and EOF, are such lines, and are read as what they show.
-- Assumes nothing.
use mathlib.Core.Path.{◌≡◌, refl, ap, ◌∙◌}
use mathlib.Core.Bool.{true}
use mathlib.Core.List.{List, []}
use Prim.Native.Nat.{ℕ}
use native.Mathlib.Omega.{arith}
use Rattle.laws.proofs.Bools.{and_both}
use Rattle.layout.specs.Layout.{can_show}
use Rattle.layout.specs.Line.{padded, line_of}
use Rattle.lines.proofs.Each.{Each}
use Rattle.header.specs.Header.{max_place_base, max_clock_base}
use Rattle.header.specs.declared.types.Rules.{Rules}
use Rattle.header.specs.declared.types.Header.{Header}
use Rattle.record.specs.LineKinds.{kind_of}
use Rattle.record.specs.Descriptors.{descriptor_items, descriptor_from, descriptor_values, descriptor_of, descriptor_line, character_items, base_items, base_from, base_values, base_of, base_line, float_items, integer_items, fixed_line}
use Rattle.record.specs.Plain.{end_items}
use Rattle.record.specs.declared.types.Descriptor.{Descriptor}
use Rattle.record.specs.declared.types.BaseLine.{BaseLine}
use Rattle.record.specs.declared.types.LineKind.TheVariants as kind
use Rattle.record.proofs.Tiled.{descriptor-tiled, character-tiled, base-tiled, float-tiled, integer-tiled, end-tiled}
use Rattle.record.specs.Agrees.{type_agrees}
use Rattle.file.specs.Plain.{is_record, is_descriptor_line, is_characters_line, is_bases_line, is_floats_line, is_integers_line, is_last_line}
use Rattle.canon.specs.Canonical.{descriptor_shown, bases_shown, descriptor_lines}
use Rattle.canon_laws.proofs.Bare.{EndsLine, bare-ended, bare-record, bare-back}
use Rattle.canon_laws.proofs.Fits.{can-decimal}
use Rattle.canon.proofs.HeaderBounds.{Bounded}

module _ (rules : Rules) (h : Header) (b : Bounded rules h) where
  descriptor-can : can_show descriptor_items (descriptor_values (descriptor_shown h)) ≡ true
  unfolding descriptor_shown
  descriptor-can = rw (b.file_type, b.time-system)

  pub descriptor-read : descriptor_of (padded (line_of (descriptor_line (descriptor_shown h)))) ≡ descriptor_shown h
  unfolding descriptor_line descriptor_shown
  descriptor-read = bare-back descriptor_items (descriptor_values (descriptor_shown h)) descriptor-tiled descriptor-can descriptor_from

  pub descriptor-is : (identifiers : List ℕ) → type_agrees h.file_type identifiers ≡ true
      → is_descriptor_line rules identifiers (line_of (descriptor_line (descriptor_shown h))) ≡ true
  unfolding descriptor_line descriptor_shown kind_of
  descriptor-is identifiers agrees =
      let l = line_of (descriptor_line (descriptor_shown h)) in
      and_both (is_record rules kind.Characters (descriptor_of (padded l)).fault l) _
      (bare-record descriptor_items (descriptor_values (descriptor_shown h)) descriptor-tiled descriptor-can rules kind.Characters _ refl refl (ap (λ (x : Descriptor). x.fault) descriptor-read))
      (ap (λ (x : Descriptor). type_agrees x.file_type identifiers) descriptor-read ∙ agrees)

  bases-can : can_show base_items (base_values (bases_shown h)) ≡ true
  unfolding bases_shown
  bases-can =
      rw (
        can-decimal 10 7 2 0 max_place_base h.bases.place (omega arith) (omega arith) refl (omega arith) b.place_base (omega (arith, b.place_base)),
        can-decimal 12 9 2 0 max_clock_base h.bases.clock (omega arith) (omega arith) refl (omega arith) b.clock-base (omega (arith, b.clock-base)),
      )

  pub bases-read : base_of (padded (line_of (base_line (bases_shown h)))) ≡ bases_shown h
  unfolding base_line bases_shown
  bases-read = bare-back base_items (base_values (bases_shown h)) base-tiled bases-can base_from

  pub bases-is : is_bases_line rules (line_of (base_line (bases_shown h))) ≡ true
  unfolding base_line bases_shown kind_of
  bases-is =
      bare-record base_items (base_values (bases_shown h)) base-tiled bases-can rules kind.Floats _ refl refl (ap (λ (x : BaseLine). x.fault) bases-read)

  -- each of these lines ends in its LF
  pub descriptors-end : Each EndsLine (descriptor_lines h)
  unfolding descriptor_lines descriptor_line base_line fixed_line
  descriptors-end = (
    bare-ended descriptor_items (descriptor_values (descriptor_shown h)) descriptor-tiled descriptor-can,
    (
      bare-ended character_items [] character-tiled refl,
      (
        bare-ended base_items (base_values (bases_shown h)) base-tiled bases-can,
        (
          bare-ended float_items [] float-tiled refl,
          (bare-ended integer_items [] integer-tiled refl, (bare-ended integer_items [] integer-tiled refl, tt)),
        ),
      ),
    ),
  )

pub last-ends : EndsLine (fixed_line end_items)
unfolding fixed_line
last-ends = bare-ended end_items [] end-tiled refl

-- lines that hold nothing
module _ (rules : Rules) where
  pub characters-is : is_characters_line rules (line_of (fixed_line character_items)) ≡ true
  unfolding fixed_line kind_of
  characters-is =
      bare-record character_items [] character-tiled refl rules kind.Characters _ refl refl
      (bare-back character_items [] character-tiled refl (λ fault vs. fault))

  pub floats-is : is_floats_line rules (line_of (fixed_line float_items)) ≡ true
  unfolding fixed_line kind_of
  floats-is =
      bare-record float_items [] float-tiled refl rules kind.Floats _ refl refl (bare-back float_items [] float-tiled refl (λ fault vs. fault))

  pub integers-is : is_integers_line rules (line_of (fixed_line integer_items)) ≡ true
  unfolding fixed_line kind_of
  integers-is =
      bare-record integer_items [] integer-tiled refl rules kind.Integers _ refl refl (bare-back integer_items [] integer-tiled refl (λ fault vs. fault))

  pub last-is : is_last_line rules (line_of (fixed_line end_items)) ≡ true
  unfolding fixed_line kind_of
  last-is = bare-record end_items [] end-tiled refl rules kind.EndOfFile _ refl refl (bare-back end_items [] end-tiled refl (λ fault vs. fault))
