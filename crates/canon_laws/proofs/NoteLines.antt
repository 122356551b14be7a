-- The line of a valid note: its columns can show the note, it is an EP or EV line, and what is stored of it are the numbers of the note. Where none
-- stands, the numbers are those of none.
-- Assumes nothing.
use mathlib.Core.Path.{◌≡◌, refl, sym, ap, ap₂, ◌∙◌}
use mathlib.Core.Bool.{Bool, true, false, cond, not, ◌&&◌, ◌||◌, false≢true}
use mathlib.Core.List.{List, [], ◌∷◌, ◌++◌, append-nil}
use Prim.Native.Nat.{ℕ, ◌+◌, ◌≤◌}
use native.Mathlib.Omega.{arith}
use borrow.Author.Tests.{eq-eqb, eqb-true, eqb-false, ne_eqb, leb-true}
use lib.Dec.{leb, eqb, ltb}
use lib.IntN.{ℤ, pos, nat_abs}
use lib.ListN.{length, take, drop, replicate}
use Rattle.field.specs.Show.{fits_whole, fits_integer, fits_signed, shown_negative}
use Rattle.field.specs.Sign.{largest, is_negative}
use Rattle.layout.specs.Kind.{unnoted, can_signed}
use Rattle.layout.specs.Fault.{clean}
use Rattle.layout.specs.Layout.{can_show, show_line}
use Rattle.layout.specs.Line.{padded, line_of}
use Rattle.record.specs.LineKinds.{kind_of, longest}
use Rattle.record.specs.Rows.{note_width}
use Rattle.record.specs.Notes.{largest_deviation, largest_correlation, deviation_items, pair_items, correlation_items, note_values, note_fault, note_line, note_of}
use Rattle.header.specs.declared.types.Rules.{Rules}
use Rattle.record.specs.declared.types.Note.{Note}
use Rattle.file.specs.Plain.{note_kind, is_record, is_note_line}
use Rattle.file.specs.Table.{stored_int, stored_count, stored_mark, note_numbers, no_note}
use Rattle.canon.specs.Valid.{entry, flag_valid, four_valid, deviation_valid, correlation_valid, is_unnoted, ten_valid, is_noted, note_valid}
use Rattle.canon.specs.Canonical.{flag_shown, note_shown}
use Rattle.laws.proofs.Bools.{and_left, and_right, and_both}
use Rattle.field.proofs.Fitting.{fits-true}
use Rattle.record.proofs.Tiled.{correlation-tiled}
use Rattle.record.proofs.RoundTrips.{note-back}
use Rattle.canon_laws.proofs.Bare.{EndsLine, bare-ended, bare-record}
use Rattle.canon_laws.proofs.RowLines.{Four, four, listed, by_entries, known-fits, known-stored, flag-stored, within-stored, no-minus-zero}

-- a deviation, of x, y, z in four columns, of the clock in seven
abbrev deviation_width : Bool → ℕ
deviation_width true = 7
deviation_width false = 4

deviation-columns : (clock : Bool) (n : ℕ) → n ≤ largest_deviation clock → fits_whole (deviation_width clock) n ≡ true
deviation-columns true n h = fits-true 7 false n (omega arith) (omega arith) (omega arith)
deviation-columns false n h = fits-true 4 false n (omega arith) (omega arith) (omega arith)

deviation-most : (clock : Bool) → largest_deviation clock ≤ largest
deviation-most true = omega arith
deviation-most false = omega arith

module _ (clock : Bool) (v : ℤ) (valid : deviation_valid clock v ≡ true) where
  deviation-fits : (eqb (nat_abs v) unnoted || fits_whole (deviation_width clock) (nat_abs v)) ≡ true
  deviation-fits = known-fits (largest_deviation clock) unnoted (deviation_width clock) (deviation-columns clock) (deviation-most clock) (omega arith) v valid

  deviation-stored : stored_count (nat_abs v) ≡ v
  deviation-stored = known-stored (largest_deviation clock) unnoted (deviation_width clock) (deviation-columns clock) (deviation-most clock) (omega arith) v valid

-- a correlation in eight columns, the minus among them
correlation-columns : (negative : Bool) (m : ℕ) → m ≤ largest_correlation → fits_signed 8 negative m ≡ true
correlation-columns negative m h = go (shown_negative negative m)
  where
    go : (t : Bool) → fits_integer 8 t m ≡ true
    go true = fits-true 8 true m (omega arith) (omega arith) (omega arith)
    go false = fits-true 8 false m (omega arith) (omega arith) (omega arith)

module _ (v : ℤ) (valid : correlation_valid v ≡ true) where
  correlation-most : nat_abs v ≤ unnoted
  correlation-most = go (leb (nat_abs v) largest_correlation) refl valid
    where
      go : (t : Bool) → leb (nat_abs v) largest_correlation ≡ t → (t || is_unnoted v) ≡ true → nat_abs v ≤ unnoted
      go true e h = omega (arith, leb-true (nat_abs v) largest_correlation e)
      go false e h = omega (arith, eqb-true (nat_abs v) unnoted (and_right (not (is_negative v)) _ h))

  correlation-stored : stored_int (is_negative v) (nat_abs v) ≡ v
  correlation-stored = within-stored v (omega (arith, correlation-most))

  correlation-fits : can_signed 8 unnoted largest_correlation (is_negative v) (nat_abs v) ≡ true
  correlation-fits = go (leb (nat_abs v) largest_correlation) refl valid
    where
      go : (t : Bool) → leb (nat_abs v) largest_correlation ≡ t → (t || is_unnoted v) ≡ true
          → cond (eqb (nat_abs v) unnoted) (not (is_negative v)) (leb (nat_abs v) largest_correlation && (fits_signed 8 (is_negative v) (nat_abs v) && (not (is_negative v) || ltb 0 (nat_abs v)))) ≡ true
      go true e h =
          let m = leb-true (nat_abs v) largest_correlation e in
          rw (ne_eqb (nat_abs v) unnoted (λ q. omega arith), e, correlation-columns (is_negative v) (nat_abs v) m) (no-minus-zero v)
      go false e h =
          rw (and_right (not (is_negative v)) _ h) (and_left (not (is_negative v)) _ h)

-- a number that stands for unknown
unnoted-stored : (v : ℤ) → is_unnoted v ≡ true → stored_count unnoted ≡ v
unnoted-stored v valid =
    ap stored_count (sym (eqb-true (nat_abs v) unnoted (and_right (not (is_negative v)) _ valid)))
    ∙ deviation-stored false v (and_both (not (is_negative v)) _ (and_left (not (is_negative v)) _ valid) (any (leb (nat_abs v) (largest_deviation false)) (and_right (not (is_negative v)) _ valid)))
  where
    any : (t : Bool) {u : Bool} → u ≡ true → (t || u) ≡ true
    any true h = refl
    any false h = h

-- the ten numbers after the mark
record Ten (deviation clock correlation : ℤ → Bool) (note : List ℤ) : Type 0 where
  deviations : Four deviation clock 1 note
  correlations : Four correlation correlation 5 note
  ninth : correlation (entry note 9) ≡ true
  tenth : correlation (entry note 10) ≡ true

ten : (deviation clock correlation : ℤ → Bool) (note : List ℤ) → ten_valid deviation clock correlation note ≡ true → Ten deviation clock correlation note
ten deviation clock correlation note e =
    let rest = and_right (four_valid deviation clock 1 note) _ e in
    let last = and_right (four_valid correlation correlation 5 note) _ rest in
    record {
      deviations = four deviation clock 1 note (and_left (four_valid deviation clock 1 note) _ e);
      correlations = four correlation correlation 5 note (and_left (four_valid correlation correlation 5 note) _ rest);
      ninth = and_left (correlation (entry note 9)) _ last;
      tenth = and_right (correlation (entry note 9)) _ last;
    }

-- the line of a note, without its LF
abbrev pub note_text : Bool → List ℤ → List ℕ
note_text velocity note = line_of (note_line velocity (note_shown note))

-- lists of the same numbers
next : {a b : ℤ} {more others : List ℤ} → a ≡ b → more ≡ others → a ∷ more ≡ b ∷ others
next e f = ap₂ (λ (x : ℤ) (xs : List ℤ). x ∷ xs) e f

module _ (note : List ℤ) (valid : note_valid note ≡ true) where
  the-mark : flag_valid false (entry note 0) ≡ true
  unfolding note_valid
  the-mark = and_left (flag_valid false (entry note 0)) _ valid

  -- none stands there
  pub none_kept : is_noted note ≡ false → note_width ≤ length note → no_note ≡ take note_width note
  unfolding note_valid no_note listed
  none_kept none wide =
      let t = ten is_unnoted is_unnoted is_unnoted note (rw none at (and_right (flag_valid false (entry note 0)) _ valid)) in
      let d = t.deviations in
      let c = t.correlations in
      let mark : stored_mark false ≡ entry note 0 = ap stored_mark (sym none) ∙ flag-stored false (entry note 0) the-mark in
      next mark
      (next (unnoted-stored (entry note 1) d.first)
      (next (unnoted-stored (entry note 2) d.second)
      (next (unnoted-stored (entry note 3) d.third)
      (next (unnoted-stored (entry note 4) d.fourth)
      (next (unnoted-stored (entry note 5) c.first)
      (next (unnoted-stored (entry note 6) c.second)
      (next (unnoted-stored (entry note 7) c.third)
      (next (unnoted-stored (entry note 8) c.fourth)
      (next (unnoted-stored (entry note 9) t.ninth)
      (next (unnoted-stored (entry note 10) t.tenth)
      refl))))))))))
      ∙ by_entries note_width 0 note wide

  -- one stands there
  module _ (noted : is_noted note ≡ true) where
    numbers : Ten (deviation_valid false) (deviation_valid true) correlation_valid note
    unfolding note_valid
    numbers = ten (deviation_valid false) (deviation_valid true) correlation_valid note (rw noted at (and_right (flag_valid false (entry note 0)) _ valid))

    -- its columns can show it, whatever symbol stands before them
    shows : can_show (deviation_items ++ pair_items) (note_values (note_shown note)) ≡ true
    unfolding note_shown
    shows =
        let t = numbers in
        let d = t.deviations in
        let c = t.correlations in
        rw (
          deviation-fits false (entry note 1) d.first,
          deviation-fits false (entry note 2) d.second,
          deviation-fits false (entry note 3) d.third,
          deviation-fits true (entry note 4) d.fourth,
          correlation-fits (entry note 5) c.first,
          correlation-fits (entry note 6) c.second,
          correlation-fits (entry note 7) c.third,
          correlation-fits (entry note 8) c.fourth,
          correlation-fits (entry note 9) t.ninth,
          correlation-fits (entry note 10) t.tenth,
        )

    can-show : (velocity : Bool) → can_show (correlation_items velocity) (note_values (note_shown note)) ≡ true
    can-show true = shows
    can-show false = shows

    -- what is stored of it are its numbers
    note-stored : note_width ≤ length note → note_numbers (note_shown note) ≡ take note_width note
    unfolding note_shown note_numbers listed
    note-stored wide =
        let t = numbers in
        let d = t.deviations in
        let c = t.correlations in
        let mark : stored_mark true ≡ entry note 0 = ap stored_mark (sym noted) ∙ flag-stored false (entry note 0) the-mark in
        rw (
          mark,
          deviation-stored false (entry note 1) d.first,
          deviation-stored false (entry note 2) d.second,
          deviation-stored false (entry note 3) d.third,
          deviation-stored true (entry note 4) d.fourth,
          correlation-stored (entry note 5) c.first,
          correlation-stored (entry note 6) c.second,
          correlation-stored (entry note 7) c.third,
          correlation-stored (entry note 8) c.fourth,
          correlation-stored (entry note 9) t.ninth,
          correlation-stored (entry note 10) t.tenth,
        )
        (by_entries note_width 0 note wide)

    module _ (velocity : Bool) where
      read : (note_fault velocity (padded (note_text velocity note)) ≡ clean) × (note_of (note_text velocity note) ≡ note_shown note)
      read = rw append-nil at (note-back velocity (note_shown note) [] (can-show velocity))

      -- with its LF it ends so
      pub note-ends : EndsLine (note_line velocity (note_shown note))
      unfolding note_line
      note-ends = bare-ended (correlation_items velocity) (note_values (note_shown note)) (correlation-tiled velocity) (can-show velocity)

      -- it is an EP or EV line
      pub note-is : (rules : Rules) → is_note_line rules velocity (note_text velocity note) ≡ true
      unfolding note_line kind_of
      note-is rules =
          bare-record (correlation_items velocity) (note_values (note_shown note)) (correlation-tiled velocity) (can-show velocity) rules (note_kind velocity)
          (note_fault velocity (padded (note_text velocity note)))
          (wide velocity)
          (begins velocity)
          read.0
        where
          wide : (v : Bool) → longest rules (note_kind v) ≡ 80
          wide true = refl
          wide false = refl

          begins : (v : Bool) → kind_of rules (show_line (correlation_items v) (note_values (note_shown note))) ≡ note_kind v
          begins true = refl
          begins false = refl

      -- and what is stored of it are the numbers of the note
      pub note-numbers : note_width ≤ length note → note_numbers (note_of (note_text velocity note)) ≡ take note_width note
      note-numbers wide = ap note_numbers read.1 ∙ note-stored wide
