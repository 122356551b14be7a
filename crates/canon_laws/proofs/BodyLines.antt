-- The lines of so many epochs with valid rows: for each an epoch line at its instant and the lines of each satellite in header order. They store the
-- rows, and each ends in its LF.
-- Assumes nothing.
use mathlib.Core.Path.{◌≡◌, refl, sym, ap, ap₂, subst, ◌∙◌}
use mathlib.Core.Bool.{Bool, true, false, cond, ◌&&◌, ◌||◌}
use mathlib.Core.List.{List, [], ◌∷◌, ◌++◌, map, map-append, append-nil}
use Prim.Native.Nat.{ℕ, zero, suc, ◌+◌, ◌*◌, ◌≤◌}
use native.Mathlib.Nat.{zero-mul, suc-mul, zero-add, suc-add}
use native.Mathlib.Omega.{arith}
use lib.Dec.{eqb}
use lib.IntN.{ℤ}
use lib.ListN.{length, take, drop, length-drop, take-append-drop}
use lib.Seq.{take-add, take_all, drop-drop, length-take-le}
use Rattle.laws.specs.Texts.{every}
use Rattle.layout.specs.Kind.{is_identifier}
use Rattle.layout.specs.Line.{line_of}
use Rattle.lines.specs.Lent.{flat}
use Rattle.record.specs.LineKinds.{position_kind, velocity_kind, position_correlation_kind, velocity_correlation_kind, told_kind}
use Rattle.record.specs.Opening.{epoch_line}
use Rattle.record.specs.Rows.{bare_width, note_width, row_width}
use Rattle.record.specs.Notes.{note_of, note_line}
use Rattle.header.specs.declared.types.Rules.{Rules}
use Rattle.file.specs.Kinds.{is_row, is_note}
use Rattle.file.specs.Plain.{every_line, is_epoch_line, row_kind, note_kind, are_notes, Noted, Satellite, Rows, Epochs}
use Rattle.file.specs.Table.{row_in, row_numbers, note_numbers, no_note, note_after, rows_of_lines, rows_in}
use Rattle.canon.specs.Table.{cell_width}
use Rattle.canon.specs.Valid.{is_instant, row_valid, is_noted, note_valid, noted_valid, cell_valid, rows_valid}
use Rattle.canon.specs.Canonical.{note_shown, note_lines, noted_lines, cell_lines, cells_lines, epoch_shown, epochs_lines}
use Rattle.laws.proofs.Bools.{and_left, and_right}
use Rattle.lines.proofs.Each.{Each, each_append}
use Rattle.lines.proofs.Picking.{flat_append}
use Rattle.lines.proofs.Noted.{parts-append}
use Rattle.file_laws.proofs.Sorting.{row-kind, epoch-kind, note-kind}
use Rattle.canon_laws.proofs.Bare.{EndsLine}
use Rattle.canon_laws.proofs.RowLines.{row_text, row_ends, row_is, row-numbers}
use Rattle.canon_laws.proofs.NoteLines.{note_text, none_kept, note-ends, note-is, note-numbers}
use Rattle.canon_laws.proofs.EpochLines.{epoch_text, Instants, epoch-ends, epoch-is, first-instant, later-instants}

-- lines that begin with no note
abbrev Quiet : Rules → List (List ℕ) → Type 0
Quiet rules ls = note_after rules ls ≡ no_note

-- what is stored of lines is stored of each part, where the second begins with no note
rows_append : (rules : Rules) (a b : List (List ℕ)) → Quiet rules b → rows_in rules (a ++ b) ≡ rows_in rules a ++ rows_in rules b
unfolding rows_of_lines
rows_append rules a b quiet =
    ap flat (parts-append (is_row rules) (is_note rules) (λ (l : List ℕ). row_numbers (row_in rules l)) (λ (l : List ℕ). note_numbers (note_of l)) no_note a b quiet)
    ∙ flat_append (rows_of_lines rules a) (rows_of_lines rules b)

quiet-append : (rules : Rules) (a b : List (List ℕ)) → Quiet rules a → Quiet rules b → Quiet rules (a ++ b)
quiet-append rules [] b p q = q
quiet-append rules (l ∷ a) b p q = p

-- Lines, each with its LF, that are what is asked of them without it, begin with no note, and store these numbers.
pub record Carries (rules : Rules) (Are : List (List ℕ) → Type 0) (numbers : List ℤ) (lines : List (List ℕ)) : Type 0 where
  pub are : Are (map line_of lines)
  pub quiet : Quiet rules (map line_of lines)
  pub stored : rows_in rules (map line_of lines) ≡ numbers
  pub ends : Each EndsLine lines

-- Valid rows in two parts.
pub rows-valid-parts : (velocity : Bool) (a b : ℕ) (rows : List ℤ) → rows_valid velocity (a + b) rows ≡ true
    → (rows_valid velocity a rows ≡ true) × (rows_valid velocity b (drop (a * cell_width velocity) rows) ≡ true)
unfolding rows_valid
rows-valid-parts velocity zero b rows e =
    (refl, ap₂ (λ (k n : ℕ). rows_valid velocity k (drop n rows)) (sym (zero-add b)) (zero-mul (cell_width velocity)) ∙ e)
rows-valid-parts velocity (suc a) b rows e =
    let w = cell_width velocity in
    let own = cell_valid velocity (take w rows) in
    let both : (own && rows_valid velocity (a + b) (drop w rows)) ≡ true = ap (λ (k : ℕ). rows_valid velocity k rows) (sym (suc-add a b)) ∙ e in
    let more = rows-valid-parts velocity a b (drop w rows) (and_right own _ both) in
    let place : w + a * w ≡ suc a * w = omega (arith, suc-mul a w) in (
      rw (and_left own _ both) more.0,
      ap (λ (r : List ℤ). rows_valid velocity b r) (sym (drop-drop (a * w) w rows ∙ ap (λ (n : ℕ). drop n rows) place)) ∙ more.1,
    )

-- so many numbers in two parts
take-parts : (w n : ℕ) (rows : List ℤ) → take w rows ++ take (n * w) (drop w rows) ≡ take (suc n * w) rows
take-parts w n rows =
    let size : w + n * w ≡ suc n * w = omega (arith, suc-mul n w) in
    sym (take-add w (n * w) rows) ∙ ap (λ (k : ℕ). take k rows) size

module _ (rules : Rules) where
  -- said otherwise
  holds_as : {A B : List (List ℕ) → Type 0} {numbers : List ℤ} {lines : List (List ℕ)} → ((ls : List (List ℕ)) → A ls → B ls)
      → Carries rules A numbers lines → Carries rules B numbers lines
  holds_as {A} {B} {numbers} {lines} turn h = record { are = turn (map line_of lines) h.are; quiet = h.quiet; stored = h.stored; ends = h.ends }

  -- some lines and others after them
  holds-both : {A B C : List (List ℕ) → Type 0} {first second numbers : List ℤ} {a b : List (List ℕ)}
      → ((ls ms : List (List ℕ)) → A ls → B ms → C (ls ++ ms)) → first ++ second ≡ numbers
      → Carries rules A first a → Carries rules B second b → Carries rules C numbers (a ++ b)
  holds-both {A} {B} {C} {first} {second} {numbers} {a} {b} join sum p q = record {
    are = subst C (sym (map-append line_of a b)) (join (map line_of a) (map line_of b) p.are q.are);
    quiet = ap (note_after rules) (map-append line_of a b) ∙ quiet-append rules (map line_of a) (map line_of b) p.quiet q.quiet;
    stored =
        ap (rows_in rules) (map-append line_of a b)
        ∙ rows_append rules (map line_of a) (map line_of b) q.quiet
        ∙ ap₂ (λ (x y : List ℤ). x ++ y) p.stored q.stored
        ∙ sum;
    ends = each_append EndsLine a b p.ends q.ends;
  }

  -- what stands after a row: its note, or nothing
  module _ (velocity : Bool) (note : List ℤ) (valid : note_valid note ≡ true) (wide : length note ≡ note_width) where
    record Noticed (lines : List (List ℕ)) : Type 0 where
      are : are_notes rules velocity (map line_of lines) ≡ true
      no_rows : rows_of_lines rules (map line_of lines) ≡ []
      stored : note_after rules (map line_of lines) ≡ note
      ends : Each EndsLine lines

    note-holds : Noticed (note_lines velocity note)
    unfolding note_lines every_line rows_of_lines
    note-holds = go (is_noted note) refl
      where
        row-kinds : (v : Bool) → (eqb (told_kind (note_kind v)) position_kind || eqb (told_kind (note_kind v)) velocity_kind) ≡ false
        row-kinds true = refl
        row-kinds false = refl

        note-kinds : (v : Bool) → (eqb (told_kind (note_kind v)) position_correlation_kind || eqb (told_kind (note_kind v)) velocity_correlation_kind) ≡ true
        note-kinds true = refl
        note-kinds false = refl

        go : (t : Bool) → is_noted note ≡ t → Noticed (cond t (note_line velocity (note_shown note) ∷ []) [])
        go true e =
            let is = note-is note valid e velocity rules in
            let kind = note-kind rules velocity (note_text velocity note) is in
            record {
              are = rw is;
              no_rows = rw (ap (λ (k : ℕ). eqb k position_kind || eqb k velocity_kind) kind ∙ row-kinds velocity);
              stored =
                  rw (ap (λ (k : ℕ). eqb k position_correlation_kind || eqb k velocity_correlation_kind) kind ∙ note-kinds velocity)
                  (note-numbers note valid e velocity (omega arith) ∙ take_all note_width note (omega arith));
              ends = (note-ends note valid e velocity, tt);
            }
        go false e = record { are = refl; no_rows = refl; stored = none_kept note valid e (omega arith) ∙ take_all note_width note (omega arith); ends = tt }

  -- A row of a satellite, and its note after it.
  row-holds : (velocity : Bool) (identifier : ℕ) (row : List ℤ) → is_identifier identifier ≡ true → noted_valid velocity row ≡ true → length row ≡ row_width
      → Carries rules (λ (ls : List (List ℕ)). Noted rules velocity identifier ls) row (noted_lines velocity identifier row)
  unfolding noted_valid noted_lines rows_of_lines flat
  row-holds velocity identifier row named both wide =
      let valid = and_left (row_valid velocity row) _ both in
      let is = row_is velocity identifier row valid named rules in
      let kind = row-kind rules velocity identifier (row_text velocity identifier row) is in
      let kept : is_row rules (row_text velocity identifier row) ≡ true = ap (λ (k : ℕ). eqb k position_kind || eqb k velocity_kind) kind ∙ told velocity in
      let other : is_note rules (row_text velocity identifier row) ≡ false = ap (λ (k : ℕ). eqb k position_correlation_kind || eqb k velocity_correlation_kind) kind ∙ apart velocity in
      let n = note-holds velocity (drop bare_width row) (and_right (row_valid velocity row) _ both) (omega (arith, length-drop bare_width row)) in
      record {
        are = record { row = row_text velocity identifier row; notes = map line_of (note_lines velocity (drop bare_width row)); lines_are = refl; is-row = is; are-notes = n.are };
        quiet = rw other;
        stored =
            rw (kept, n.no_rows)
            (append-nil (row_numbers (row_in rules (row_text velocity identifier row)) ++ note_after rules (map line_of (note_lines velocity (drop bare_width row))))
            ∙ ap₂ (λ (a b : List ℤ). a ++ b) (row-numbers velocity identifier row valid named rules (omega arith)) n.stored
            ∙ take-append-drop bare_width row);
        ends = (row_ends velocity identifier row valid named, n.ends);
      }
    where
      told : (v : Bool) → (eqb (told_kind (row_kind v)) position_kind || eqb (told_kind (row_kind v)) velocity_kind) ≡ true
      told true = refl
      told false = refl

      apart : (v : Bool) → (eqb (told_kind (row_kind v)) position_correlation_kind || eqb (told_kind (row_kind v)) velocity_correlation_kind) ≡ false
      apart true = refl
      apart false = refl

  -- The lines of one satellite in an epoch.
  cell_holds : (velocity : Bool) (identifier : ℕ) (cell : List ℤ) → is_identifier identifier ≡ true → cell_valid velocity cell ≡ true → length cell ≡ cell_width velocity
      → Carries rules (λ (ls : List (List ℕ)). Satellite rules velocity identifier ls) cell (cell_lines velocity identifier cell)
  unfolding cell_valid cell_lines
  cell_holds true identifier cell named valid wide =
      holds-both
      (λ ls ms p q. record { position = ls; rest = ms; lines_are = refl; is-position = p; is-rest = q })
      (take-append-drop row_width cell)
      (row-holds false identifier (take row_width cell) named (and_left (noted_valid false (take row_width cell)) _ valid) (length-take-le row_width cell (omega arith)))
      (row-holds true identifier (drop row_width cell) named (and_right (noted_valid false (take row_width cell)) _ valid) (omega (arith, length-drop row_width cell)))
  cell_holds false identifier cell named valid wide =
      holds_as
      (λ ls p. record { position = ls; rest = []; lines_are = sym (append-nil ls); is-position = p; is-rest = refl })
      (row-holds false identifier cell named valid wide)

  -- The line of an epoch.
  epoch-holds : (at8 : ℕ) → is_instant at8 ≡ true
      → Carries rules (λ (ls : List (List ℕ)). (l : List ℕ) × (ls ≡ l ∷ []) × (is_epoch_line rules at8 l ≡ true)) [] (epoch_line (epoch_shown at8) ∷ [])
  unfolding rows_of_lines flat
  epoch-holds at8 bounded =
      let is = epoch-is at8 bounded rules in
      let kind = epoch-kind rules at8 (epoch_text at8) is in
      let no_row : is_row rules (epoch_text at8) ≡ false = ap (λ (k : ℕ). eqb k position_kind || eqb k velocity_kind) kind in
      let no-note : is_note rules (epoch_text at8) ≡ false = ap (λ (k : ℕ). eqb k position_correlation_kind || eqb k velocity_correlation_kind) kind in
      record { are = (epoch_text at8, refl, is); quiet = rw no-note; stored = rw no_row; ends = (epoch-ends at8 bounded, tt) }

  module _ (velocity : Bool) where
    -- Those of each satellite.
    cells-hold : (identifiers : List ℕ) (rows : List ℤ) → every is_identifier identifiers ≡ true → rows_valid velocity (length identifiers) rows ≡ true
        → length identifiers * cell_width velocity ≤ length rows
        → Carries rules (λ (ls : List (List ℕ)). Rows rules velocity identifiers ls) (take (length identifiers * cell_width velocity) rows) (cells_lines velocity identifiers rows)
    unfolding rows_valid cells_lines rows_of_lines flat
    cells-hold [] rows named valid long =
        record { are = refl; quiet = refl; stored = ap (λ (k : ℕ). take k rows) (sym (zero-mul (cell_width velocity))); ends = tt }
    cells-hold (identifier ∷ identifiers) rows named valid long =
        let w = cell_width velocity in
        let own = cell_valid velocity (take w rows) in
        let size : suc (length identifiers) * w ≡ w + length identifiers * w = omega (arith, suc-mul (length identifiers) w) in
        holds-both
        (λ ls ms p q. (ls, ms, refl, p, q))
        (take-parts w (length identifiers) rows)
        (cell_holds velocity identifier (take w rows) (and_left (is_identifier identifier) _ named) (and_left own _ valid) (length-take-le w rows (omega arith)))
        (cells-hold identifiers (drop w rows) (and_right (is_identifier identifier) _ named) (and_right own _ valid) (omega (arith, length-drop w rows)))

    -- Those of so many epochs.
    module _ (identifiers : List ℕ) (named : every is_identifier identifiers ≡ true) (interval8 : ℕ) where
      pub epochs-hold : (epochs at8 : ℕ) (rows : List ℤ) → Instants interval8 epochs at8 → rows_valid velocity (epochs * length identifiers) rows ≡ true
          → epochs * (length identifiers * cell_width velocity) ≤ length rows
          → Carries rules (λ (ls : List (List ℕ)). Epochs rules velocity identifiers interval8 epochs at8 ls) (take (epochs * (length identifiers * cell_width velocity)) rows)
          (epochs_lines velocity identifiers interval8 epochs at8 rows)
      unfolding epochs_lines rows_of_lines flat
      epochs-hold zero at8 rows instants valid long =
          record { are = refl; quiet = refl; stored = ap (λ (k : ℕ). take k rows) (sym (zero-mul (length identifiers * cell_width velocity))); ends = tt }
      epochs-hold (suc epochs) at8 rows instants valid long =
          let w = length identifiers * cell_width velocity in
          let parts = rows-valid-parts velocity (length identifiers) (epochs * length identifiers) rows (ap (λ (k : ℕ). rows_valid velocity k rows) (omega (arith, suc-mul epochs (length identifiers))) ∙ valid) in
          let size : suc epochs * w ≡ w + epochs * w = omega (arith, suc-mul epochs w) in
          holds-both
          (λ ls ms p q. (p.0, q.0, q.1, ap₂ (λ (a b : List (List ℕ)). a ++ b) p.1 q.2, p.2, q.3, q.4))
          refl
          (epoch-holds at8 (first-instant interval8 epochs at8 instants))
          (holds-both
          {C = λ (ls : List (List ℕ)).
          (own : List (List ℕ))
          × (more : List (List ℕ))
          × (ls ≡ own ++ more)
          × Rows rules velocity identifiers own
          × Epochs rules velocity identifiers interval8 epochs (at8 + interval8) more}
          (λ ls ms p q. (ls, ms, refl, p, q))
          (take-parts w epochs rows)
          (cells-hold identifiers rows named parts.0 (omega arith))
          (epochs-hold epochs (at8 + interval8) (drop w rows) (later-instants interval8 epochs at8 instants) parts.1 (omega (arith, length-drop w rows))))

      -- of exactly the rows that there are
      pub all-epochs-hold : (epochs at8 : ℕ) (rows : List ℤ) → Instants interval8 epochs at8 → rows_valid velocity (epochs * length identifiers) rows ≡ true
          → length rows ≡ epochs * (length identifiers * cell_width velocity)
          → Carries rules (λ (ls : List (List ℕ)). Epochs rules velocity identifiers interval8 epochs at8 ls) rows (epochs_lines velocity identifiers interval8 epochs at8 rows)
      all-epochs-hold epochs at8 rows instants valid long =
          let h = epochs-hold epochs at8 rows instants valid (omega arith) in
          record {
            are = h.are;
            quiet = h.quiet;
            stored = h.stored ∙ take_all (epochs * (length identifiers * cell_width velocity)) rows (omega arith);
            ends = h.ends;
          }
