-- What the lent rows hold of EP and EV lines after a reading that answers 0: the note of each row is that of the line directly after its row line.
-- Assumes nothing.
use mathlib.Core.Path.{◌≡◌, refl, sym, ap, ◌∙◌, subst}
use mathlib.Core.Bool.{Bool, true, false, cond, false≢true}
use mathlib.Core.List.{List, [], ◌∷◌, ◌++◌}
use mathlib.Core.Logic.{◌↔◌}
use Prim.Native.Nat.{ℕ, suc, ◌*◌, ◌<◌, ◌≤◌}
use native.Mathlib.Omega.{arith}
use borrow.Author.Tests.{eqb-false}
use lib.Dec.{eqb}
use lib.IntN.{ℤ, nat_abs}
use lib.ListN.{length, take, drop}
use lib.Seq.{drop_at}
use Rattle.laws.specs.Texts.{every}
use Rattle.field.specs.Sign.{largest}
use Rattle.header.specs.declared.types.Rules.{Rules}
use Rattle.layout.specs.Fault.{clean}
use Rattle.layout.specs.Kind.{unnoted, is_blank}
use Rattle.layout.specs.Layout.{values_of}
use Rattle.layout.specs.Line.{padded}
use Rattle.lines.specs.Lines.{lines_of}
use Rattle.record.specs.LineKinds.{told_kind}
use Rattle.record.specs.Rows.{bare_width, row_width}
use Rattle.record.specs.Notes.{largest_deviation, largest_correlation, correlation_items, note_from, note_taken, note_of, note_fault, deviation_at, correlation_at}
use Rattle.field.specs.declared.Signed.{Signed}
use Rattle.field.proofs.Signs.{magnitude-back}
use Rattle.file.specs.Exact.{exact_signed, exact_note}
use Rattle.file.specs.Kinds.{kind_in, is_note}
use Rattle.file.specs.Plain.{row_kind, note_kind, is_note_line}
use Rattle.file.specs.Table.{row_numbers, note_numbers, no_note, note_after}
use Rattle.scan.specs.Run.{IsFile}
use Rattle.stored_row.specs.Stored.{note_in, note_deviation_of, note_deviation_in, note_correlation_in}
use Rattle.stored_row.specs.declared.types.NoteMark.TheVariants as note_mark
use Rattle.stored_row.specs.declared.types.NoteDeviation.TheVariants as note_deviation
use Rattle.stored_row.specs.declared.types.NoteCorrelation.TheVariants as note_correlation
use Rattle.reader.specs.Reading.{file_of, read_answer}
use Rattle.scan_laws.proofs.Files.{file-plain}
use Rattle.file_laws.proofs.Sorting.{note-kind, row-kind}
use Rattle.file_laws.proofs.Clean.{record-clean}
use Rattle.file_laws.proofs.Exact.{note-exact}
use Rattle.file_laws.proofs.Following.{is_note_kind, note-told, after-row, file-follows}
use Rattle.stored_row.proofs.Noted.{note-stands, deviation-back, deviation-unknown-at, deviation-unknown-only, deviation-large-at, deviation-large-only, correlation-back, correlation-unknown-at, correlation-unknown-only, no_record, no-deviation-recorded, no-correlation-recorded}
use Rattle.theorems.specs.Files.{header, line_asked, table_row, There, lines_after, HasNote, held, deviation_field, correlation_field}
use Rattle.theorems.proofs.NoteFields.{known-blank, known-within, known-few, deviation-known, deviation-low, correlation-known}
use Rattle.theorems.proofs.Reading.{line-in-table, row-in-table}
use Rattle.theorems.proofs.Lent.{lent, named, bounded, as-stored, behind_row, behind-wide, before, behind, before-long, parts}
use Rattle.canon_laws.specs.Held.{Proper}

module _ {rules : Rules} (proper : Proper rules) where
  -- EP and EV lines are notes
  pub note-line : (v : Bool) (l : List ℕ) → is_note_line rules v l ≡ true → is_note rules l ≡ true
  note-line v l is = ap is_note_kind (note-kind rules v l is) ∙ note-told v

  -- which row a kind is
  same_row : (v w : Bool) → told_kind (row_kind v) ≡ told_kind (row_kind w) → w ≡ v
  same_row true true e = refl
  same_row true false e = absurd (omega arith)
  same_row false true e = absurd (omega arith)
  same_row false false e = refl

  -- what stands directly after a row: nothing, no note, or a note
  data After (ls : List (List ℕ)) : Type 0 where
    none : note_after rules ls ≡ no_note → ((l : List ℕ) (others : List (List ℕ)) → ls ≡ l ∷ others → is_note rules l ≡ true → ⊥) → After ls
    one : (l : List ℕ) (others : List (List ℕ)) → ls ≡ l ∷ others → is_note rules l ≡ true → note_after rules ls ≡ note_numbers (note_of l) → After ls

  first_of : {a b : List ℕ} {more others : List (List ℕ)} → a ∷ more ≡ b ∷ others → a ≡ b
  first_of e = cc

  after : (ls : List (List ℕ)) → After ls
  after [] = none refl (λ l others e is. let z : 0 ≡ suc (length others) = ap length e in omega arith)
  after (l ∷ others) = go (is_note rules l) refl
    where
      go : (t : Bool) → is_note rules l ≡ t → After (l ∷ others)
      go true is = one l others refl is (rw is)
      go false is = none (rw is) (λ m more e note. false≢true (sym is ∙ ap (is_note rules) (first_of e) ∙ note))

  module _ (bytes : List ℕ) (accepted : IsFile rules bytes) (identifiers exponents comments : List ℕ) (old : List ℤ)
      (success : (read_answer rules bytes (file_of rules bytes) identifiers exponents comments old).refusal ≡ 0)
      (k j : ℕ) (there : There rules bytes k j) (v : Bool) (mode : v ≡ true → (header rules bytes).velocity ≡ true) where
    abbrev r : ℕ
    r = table_row rules v bytes k j

    abbrev rows : List ℤ
    rows = lent proper bytes accepted identifiers exponents comments old success

    abbrev row-part : List ℤ
    row-part = behind_row proper bytes accepted identifiers exponents comments old success k j there v mode

    -- a note after a P row is EP, after a V row EV, without fault
    own-note : (l : List ℕ) (others : List (List ℕ)) → lines_after rules v bytes k j ≡ l ∷ others → is_note rules l ≡ true → is_note_line rules v l ≡ true
    own-note l others e is =
        let p = file-plain rules proper.sound bytes accepted in
        let f = after-row rules (lines_of bytes) 0 r (file-follows p) (row-in-table proper bytes accepted k j there v mode) l others e is in
        let kind : kind_in rules (line_asked rules v bytes k j) ≡ told_kind (row_kind v) = row-kind rules v _ (line_asked rules v bytes k j) (named proper bytes accepted identifiers exponents comments old success k j there v mode) in
        let same : f.0 ≡ v = same_row v f.0 (sym kind ∙ ap (kind_in rules) (sym (line-in-table proper bytes accepted k j there v mode)) ∙ f.1) in
        subst (λ (t : Bool). is_note_line rules t l ≡ true) same f.2

    -- the lent rows in four parts: what stands before the row, its own numbers, those of its note, and the rest
    front : List ℤ
    front = before rows r (held rules v bytes k j) (bounded proper bytes accepted identifiers exponents comments old success k j there v mode) row-part
        (behind-wide proper bytes accepted identifiers exponents comments old success k j there v mode) (as-stored proper bytes accepted identifiers exponents comments old success k j there v mode)

    rest : List ℤ
    rest = behind rows r (held rules v bytes k j) (bounded proper bytes accepted identifiers exponents comments old success k j there v mode) row-part
        (behind-wide proper bytes accepted identifiers exponents comments old success k j there v mode) (as-stored proper bytes accepted identifiers exponents comments old success k j there v mode)

    in_parts : front ++ (row_numbers (held rules v bytes k j) ++ (row-part ++ rest)) ≡ rows
    unfolding front rest
    in_parts = parts rows r (held rules v bytes k j) (bounded proper bytes accepted identifiers exponents comments old success k j there v mode) row-part
        (behind-wide proper bytes accepted identifiers exponents comments old success k j there v mode) (as-stored proper bytes accepted identifiers exponents comments old success k j there v mode)

    front_long : length front ≡ r * row_width
    unfolding front
    front_long = before-long rows r (held rules v bytes k j) (bounded proper bytes accepted identifiers exponents comments old success k j there v mode) row-part
        (behind-wide proper bytes accepted identifiers exponents comments old success k j there v mode) (as-stored proper bytes accepted identifiers exponents comments old success k j there v mode)

    with-note : (note : List ℤ) → row-part ≡ note → front ++ (row_numbers (held rules v bytes k j) ++ (note ++ rest)) ≡ rows
    with-note note e = ap (λ (s : List ℤ). front ++ (row_numbers (held rules v bytes k j) ++ (s ++ rest))) (sym e) ∙ in_parts

    -- NO RECORD: where none stands, nothing is taken for one.
    pub none-recorded : ((l : List ℕ) → HasNote rules v bytes k j l → ⊥)
        → (note_in rows r ≡ note_mark.NoRecord)
        × ((which : ℕ) → which ≤ 3 → note_deviation_in rows r which ≡ note_deviation.NoRecord)
        × ((which : ℕ) → which ≤ 5 → note_correlation_in rows r which ≡ note_correlation.NoRecord)
    none-recorded nothing = go (after (lines_after rules v bytes k j))
      where
        go : After (lines_after rules v bytes k j)
            → (note_in rows r ≡ note_mark.NoRecord)
            × ((which : ℕ) → which ≤ 3 → note_deviation_in rows r which ≡ note_deviation.NoRecord)
            × ((which : ℕ) → which ≤ 5 → note_correlation_in rows r which ≡ note_correlation.NoRecord)
        go (none e apart) =
            let whole = with-note no_note e in (
              ap (λ (s : List ℤ). note_in s r) (sym whole) ∙ no_record front rest (held rules v bytes k j) r front_long,
              λ which few. ap (λ (s : List ℤ). note_deviation_in s r which) (sym whole) ∙ no-deviation-recorded front rest (held rules v bytes k j) r front_long which few,
              λ which few. ap (λ (s : List ℤ). note_correlation_in s r which) (sym whole) ∙ no-correlation-recorded front rest (held rules v bytes k j) r front_long which few,
            )
        go (one l others e is numbers) = absurd (nothing l (record { others = others; stands = e; is-note = own-note l others e is }))

    -- a line that is the row's note
    module _ (l : List ℕ) (has : HasNote rules v bytes k j l) where
      sound : note_fault v (padded l) ≡ clean
      sound = record-clean rules (note_kind v) (note_fault v (padded l)) l has.is-note

      numbers-are : row-part ≡ note_numbers (note_of l)
      numbers-are = ap (note_after rules) has.stands ∙ rw (note-line v l has.is-note)

      stored-as : front ++ (row_numbers (held rules v bytes k j) ++ (note_numbers (note_of l) ++ rest)) ≡ rows
      stored-as = with-note (note_numbers (note_of l)) numbers-are

      -- THE NOTE STANDS THERE, and its eleven numbers are those of that line,
      pub recorded : note_in rows r ≡ note_mark.Stands
      recorded = ap (λ (s : List ℤ). note_in s r) (sym stored-as) ∙ note-stands front rest (held rules v bytes k j) r front_long (note_of l)

      pub lent-note : drop bare_width (take row_width (drop (row_width * r) rows)) ≡ exact_note (note_of l)
      unfolding row_numbers
      lent-note =
          ap (drop bare_width) (as-stored proper bytes accepted identifiers exponents comments old success k j there v mode)
          ∙ drop_at (row_numbers (held rules v bytes k j)) row-part bare_width refl
          ∙ numbers-are
          ∙ note-exact v l sound

      -- which its columns hold, each field by its rule.
      pub note-columns : note_of l ≡ note_from (values_of (correlation_items v) (padded l))
      unfolding note_taken
      note-columns = go v
        where
          go : (t : Bool) → note_from (values_of (correlation_items false) (padded l)) ≡ note_from (values_of (correlation_items t) (padded l))
          go true = refl
          go false = refl

      deviation-bound : (which : ℕ) → which ≤ 3 → deviation_at (note_of l) which ≤ unnoted
      deviation-bound which few = known-few (largest_deviation (eqb which 3)) (deviation_field which l) (deviation_at (note_of l) which) (deviation-low which) (deviation-known l which few)

      correlation-bound : (which : ℕ) → which ≤ 5 → (correlation_at (note_of l) which).magnitude ≤ unnoted
      correlation-bound which few =
          known-few largest_correlation (correlation_field which l) (correlation_at (note_of l) which).magnitude (omega arith) (correlation-known v l sound which few)

      deviation-blank : (which : ℕ) → which ≤ 3 → (deviation_at (note_of l) which ≡ unnoted) ↔ (every is_blank (deviation_field which l) ≡ true)
      deviation-blank which few = known-blank (largest_deviation (eqb which 3)) (deviation_field which l) (deviation_at (note_of l) which) (deviation-low which) (deviation-known l which few)

      correlation-blank : (which : ℕ) → which ≤ 5 → ((correlation_at (note_of l) which).magnitude ≡ unnoted) ↔ (every is_blank (correlation_field which l) ≡ true)
      correlation-blank which few =
          known-blank largest_correlation (correlation_field which l) (correlation_at (note_of l) which).magnitude (omega arith) (correlation-known v l sound which few)

      -- Asked by name, a deviation is the line's, unknown, or too large; a correlation is the line's, or unknown.
      pub lent-deviation : (which : ℕ) → which ≤ 3 → note_deviation_in rows r which ≡ note_deviation_of which (deviation_at (note_of l) which)
      lent-deviation which few =
          ap (λ (s : List ℤ). note_deviation_in s r which) (sym stored-as)
          ∙ deviation-back front rest (held rules v bytes k j) r front_long (note_of l) which few (omega (arith, deviation-bound which few))

      pub lent-correlation : (which : ℕ) → which ≤ 5 → note_correlation_in rows r which
          ≡ cond (eqb (correlation_at (note_of l) which).magnitude unnoted) note_correlation.Unknown (note_correlation.Value (exact_signed (correlation_at (note_of l) which)))
      lent-correlation which few =
          ap (λ (s : List ℤ). note_correlation_in s r which) (sym stored-as)
          ∙ correlation-back front rest (held rules v bytes k j) r front_long (note_of l) which few (omega (arith, correlation-bound which few))

      -- UNKNOWN EXACTLY WHERE THE COLUMNS ARE BLANK, and too large exactly at the largest.
      pub deviation-unknown : (which : ℕ) → which ≤ 3 → (note_deviation_in rows r which ≡ note_deviation.Unknown) ↔ (every is_blank (deviation_field which l) ≡ true)
      deviation-unknown which few =
          let bound : deviation_at (note_of l) which ≤ largest = omega (arith, deviation-bound which few) in (
            λ e. (deviation-blank which few).0
                (deviation-unknown-only front rest (held rules v bytes k j) r front_long (note_of l) which few bound (ap (λ (s : List ℤ). note_deviation_in s r which) stored-as ∙ e)),
            λ e. ap (λ (s : List ℤ). note_deviation_in s r which) (sym stored-as)
                ∙ deviation-unknown-at front rest (held rules v bytes k j) r front_long (note_of l) which few bound ((deviation-blank which few).1 e),
          )

      pub deviation-too-large : (which : ℕ) → which ≤ 3 → (note_deviation_in rows r which ≡ note_deviation.TooLarge) ↔ (deviation_at (note_of l) which ≡ largest_deviation (eqb which 3))
      deviation-too-large which few =
          let bound : deviation_at (note_of l) which ≤ largest = omega (arith, deviation-bound which few) in (
            λ e. deviation-large-only front rest (held rules v bytes k j) r front_long (note_of l) which few bound (ap (λ (s : List ℤ). note_deviation_in s r which) stored-as ∙ e),
            λ e. ap (λ (s : List ℤ). note_deviation_in s r which) (sym stored-as) ∙ deviation-large-at front rest (held rules v bytes k j) r front_long (note_of l) which few bound e,
          )

      pub correlation-unknown : (which : ℕ) → which ≤ 5 → (note_correlation_in rows r which ≡ note_correlation.Unknown) ↔ (every is_blank (correlation_field which l) ≡ true)
      correlation-unknown which few =
          let bound : (correlation_at (note_of l) which).magnitude ≤ largest = omega (arith, correlation-bound which few) in (
            λ e. (correlation-blank which few).0
                (correlation-unknown-only front rest (held rules v bytes k j) r front_long (note_of l) which few bound (ap (λ (s : List ℤ). note_correlation_in s r which) stored-as ∙ e)),
            λ e. ap (λ (s : List ℤ). note_correlation_in s r which) (sym stored-as)
                ∙ correlation-unknown-at front rest (held rules v bytes k j) r front_long (note_of l) which few bound ((correlation-blank which few).1 e),
          )

      -- A VALUE IS WITHIN ITS BOUND: a deviation is less than the largest, which means too large, and a correlation at most 9,999,999 with either sign.
      pub deviation-value : (which : ℕ) → which ≤ 3 → (n : ℕ) → note_deviation_in rows r which ≡ note_deviation.Value n → n < largest_deviation (eqb which 3)
      deviation-value which few n e =
          let m = deviation_at (note_of l) which in
          let most = largest_deviation (eqb which 3) in
          go m most (λ some. known-within most (deviation_field which l) m (deviation-known l which few) some) (eqb m unnoted) refl (eqb m most) refl
          (sym (lent-deviation which few) ∙ e)
        where
          go : (m most : ℕ) → ((m ≡ unnoted → ⊥) → m ≤ most) → (t : Bool) → eqb m unnoted ≡ t → (u : Bool) → eqb m most ≡ u
              → cond t note_deviation.Unknown (cond u note_deviation.TooLarge (note_deviation.Value m)) ≡ note_deviation.Value n → n < most
          go m most within true p u q x = let z : ◌≡◌ {A = ℕ} 0 1 = cc in absurd (omega arith)
          go m most within false p true q x = let z : ◌≡◌ {A = ℕ} 0 1 = cc in absurd (omega arith)
          go m most within false p false q x =
              let same : m ≡ n = cc in
              let other : m ≡ most → ⊥ = eqb-false m most q in
              omega (arith, within (eqb-false m unnoted p), other)

      pub correlation-value : (which : ℕ) → which ≤ 5 → (z : ℤ) → note_correlation_in rows r which ≡ note_correlation.Value z → nat_abs z ≤ largest_correlation
      correlation-value which few z e =
          let s = correlation_at (note_of l) which in
          go s (λ some. known-within largest_correlation (correlation_field which l) s.magnitude (correlation-known v l sound which few) some)
          (eqb s.magnitude unnoted) refl (sym (lent-correlation which few) ∙ e)
        where
          go : (s : Signed) → ((s.magnitude ≡ unnoted → ⊥) → s.magnitude ≤ largest_correlation) → (t : Bool) → eqb s.magnitude unnoted ≡ t
              → cond t note_correlation.Unknown (note_correlation.Value (exact_signed s)) ≡ note_correlation.Value z → nat_abs z ≤ largest_correlation
          go s within true p x = let w : ◌≡◌ {A = ℕ} 0 1 = cc in absurd (omega arith)
          go s within false p x =
              let same : exact_signed s ≡ z = cc in
              let size : s.magnitude ≡ nat_abs z = sym (magnitude-back s.negative s.magnitude) ∙ ap nat_abs same in
              omega (arith, within (eqb-false s.magnitude unnoted p), size)

    -- THE MARK: the row says that a record stood there exactly where the line directly after its own is EP (EV).
    pub the-note : (note_in rows r ≡ note_mark.Stands) ↔ ((l : List ℕ) × HasNote rules v bytes k j l)
    the-note = (λ e. go (after (lines_after rules v bytes k j)) e, λ n. recorded n.0 n.1)
      where
        go : After (lines_after rules v bytes k j) → note_in rows r ≡ note_mark.Stands → (l : List ℕ) × HasNote rules v bytes k j l
        go (none e apart) stands =
            let said : note_in rows r ≡ note_mark.NoRecord = (none-recorded (λ l n. apart l n.others n.stands (note-line v l n.is-note))).0 in
            let q : note_mark.Stands ≡ note_mark.NoRecord = sym stands ∙ said in
            let z : ◌≡◌ {A = ℕ} 0 1 = cc in absurd (omega arith)
        go (one l others e is numbers) stands = (l, record { others = others; stands = e; is-note = own-note l others e is })
