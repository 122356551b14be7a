-- The front page for the adjustment's row: which line it is, that nothing is lost in its floats, and what is absent.
-- Assumes nothing.
use mathlib.Core.Path.{◌≡◌, refl, sym, ap}
use mathlib.Core.Bool.{Bool, true, false}
use mathlib.Core.Logic.{◌↔◌}
use mathlib.Core.List.{List}
use Prim.Native.Nat.{ℕ}
use native.Mathlib.Omega.{arith}
use borrow.Author.Tests.{ne_eqb, lt-ltb, ltb-true}
use lib.Dec.{eqb, ltb}
use lib.IntN.{pos}
use Rattle.header.specs.declared.types.Rules.{Rules}
use Rattle.lines.specs.Lines.{nth}
use Rattle.record.specs.Rows.{row_of, six_nines_in}
use Rattle.file.specs.Kinds.{is_kind}
use Rattle.file.specs.Plain.{is_row_line}
use Rattle.file.specs.Table.{header_in}
use Rattle.file.proofs.Finding.{line-at-place}
use Rattle.scan.specs.Run.{IsFile}
use Rattle.reader.specs.Reading.{file_of}
use Rattle.questions.specs.Questions.{row_begins, row_answer, no_row}
use Rattle.float_row.specs.Floats.{float_row}
use Rattle.scan_laws.proofs.Files.{whole-taken}
use Rattle.float_row.specs.Floats.{Exactly}
use Rattle.float_row.proofs.Theorems.{place-float, clock-float, place-absent-exactly, clock-absent-exactly}
use Rattle.file_laws.proofs.Exact.{Bounded, row-bounded, row-in, clock-line}
use Rattle.file_laws.proofs.Rule.{absent_in}
use Rattle.record.specs.Absence.{place_absent}
use Rattle.file.specs.Exact.{exact_signed}
use Rattle.theorems.proofs.Room.{found-numbered}
use Rattle.theorems.proofs.Reading.{the_row}
use Rattle.theorems.specs.Files.{header, identifier, row_lines_of, row_at, There}
use Rattle.record.specs.declared.types.Row.{Row}
use Rattle.questions.specs.declared.types.RowAnswer.{RowAnswer}
use Rattle.scan.specs.Front as front
use Rattle.theorems.specs.Asked.{asked, row_found, row_refused}
use Rattle.theorems.specs.Files.{line_asked, held}
use Rattle.record.specs.LineKinds.{position_kind}
use Rattle.canon_laws.specs.Held.{Proper}

module _ {rules : Rules} (proper : Proper rules) where
  -- In an accepted file the row of epoch k and satellite j is that of P line k * n + j, in mode V too.
  pub row-asked : (bytes : List ℕ) → IsFile rules bytes → (k j : ℕ) → There rules bytes k j
      → asked rules bytes k j ≡ row_found (float_row (row_of false (nth (row_at rules bytes k j) (row_lines_of rules false bytes))))
  unfolding row_answer row_begins header_in
  row-asked bytes (t, e) k j there =
      let some : ltb k (header rules bytes).epochs ≡ true = lt-ltb k (header rules bytes).epochs there.epoch in
      let one : ltb j (header rules bytes).satellites ≡ true = lt-ltb j (header rules bytes).satellites there.satellite in
      rw (e, whole-taken rules bytes t e, some, one, line-at-place (is_kind rules position_kind) (row_at rules bytes k j) bytes)

  -- An epoch or a satellite that the file does not have: 13, line 0, and both absent.
  pub row-not-there : (bytes : List ℕ) → IsFile rules bytes → (k j : ℕ) → (There rules bytes k j → ⊥) → asked rules bytes k j ≡ row_refused 13 0 0
  unfolding row_answer row_begins header_in
  row-not-there bytes (t, e) k j missing = go (ltb k (header rules bytes).epochs) (ltb j (header rules bytes).satellites) refl refl
    where
      go : (a b : Bool) → ltb k (header rules bytes).epochs ≡ a → ltb j (header rules bytes).satellites ≡ b → asked rules bytes k j ≡ row_refused 13 0 0
      go true true some one =
          absurd (missing (record { epoch = ltb-true k (header rules bytes).epochs some; satellite = ltb-true j (header rules bytes).satellites one }))
      go true false some one = rw (e, whole-taken rules bytes t e, some, one)
      go false b some one = rw (e, whole-taken rules bytes t e, some)

  -- A file that is refused: its own number, line and column come first, where a row is asked for by its place,
  pub row-begins-refused : (bytes : List ℕ) (number line column : ℕ) → file_of rules bytes ≡ front.Refused number line column
      → (k j : ℕ) → row_begins rules bytes (file_of rules bytes) k j ≡ no_row number line column
  unfolding row_begins
  row-begins-refused bytes number line column e k j = rw e

  -- and where it is asked for as floats, both of which are then absent.
  pub row-refused : (bytes : List ℕ) (number line column : ℕ) → file_of rules bytes ≡ front.Refused number line column
      → (k j : ℕ) → asked rules bytes k j ≡ row_refused number line column
  unfolding row_answer row_begins
  row-refused bytes number line column e k j =
      let some = found-numbered proper true bytes number line column e in
      let apart : eqb number 0 ≡ false = ne_eqb number 0 (λ zero. omega arith) in
      rw (e, apart)

  -- So of every row of an accepted file.
  module _ (bytes : List ℕ) (accepted : IsFile rules bytes) (k j : ℕ) (there : There rules bytes k j) where
    named : is_row_line rules false (identifier rules bytes j) (nth (row_at rules bytes k j) (row_lines_of rules false bytes)) ≡ true
    named = (the_row proper bytes accepted k j there).names-it

    bounded : Bounded (held rules false bytes k j)
    bounded = row-bounded rules false (identifier rules bytes j) (line_asked rules false bytes k j) named

    -- It is answered, never refused,
    pub asked-answered : (asked rules bytes k j).refusal ≡ 0
    asked-answered = ap (λ (a : RowAnswer). a.refusal) (row-asked bytes accepted k j there)

    -- and marked absent where its P line has three zeros.
    pub absent-line : (asked rules bytes k j).row.place_absent ≡ absent_in rules (line_asked rules false bytes k j)
    unfolding float_row
    absent-line =
        rw (row-asked bytes accepted k j there)
        (ap (λ (r : Row). place_absent r.x.magnitude r.y.magnitude r.z.magnitude) (sym (row-in rules false (identifier rules bytes j) (line_asked rules false bytes k j) named)))

    -- Where its place is not marked absent, its three coordinates are exactly those of its P line.
    pub asked-place : (asked rules bytes k j).row.place_absent ≡ false
        → Exactly (asked rules bytes k j).row.x (exact_signed (held rules false bytes k j).x)
        × Exactly (asked rules bytes k j).row.y (exact_signed (held rules false bytes k j).y)
        × Exactly (asked rules bytes k j).row.z (exact_signed (held rules false bytes k j).z)
    asked-place = rw (row-asked bytes accepted k j there) (place-float (held rules false bytes k j) bounded.x bounded.y bounded.z)

    -- Where its clock is not marked absent, it is exactly that of its P line.
    pub asked-clock : (asked rules bytes k j).row.clock_absent ≡ false → Exactly (asked rules bytes k j).row.clock (exact_signed (held rules false bytes k j).clock)
    asked-clock = rw (row-asked bytes accepted k j there) (clock-float (held rules false bytes k j) bounded.clock)

    -- Its place is marked absent exactly when the three fields are zero, whatever the clock.
    pub asked-no-place : ((asked rules bytes k j).row.place_absent ≡ true)
        ↔ ((exact_signed (held rules false bytes k j).x ≡ pos 0) × (exact_signed (held rules false bytes k j).y ≡ pos 0) × (exact_signed (held rules false bytes k j).z ≡ pos 0))
    asked-no-place = rw (row-asked bytes accepted k j there) (place-absent-exactly (held rules false bytes k j))

    -- Its clock is marked absent exactly where the number held is +999,999,999,999, whatever the place,
    pub asked-no-clock : ((asked rules bytes k j).row.clock_absent ≡ true) ↔ (exact_signed (held rules false bytes k j).clock ≡ pos 999_999_999_999)
    asked-no-clock = rw (row-asked bytes accepted k j there) (clock-absent-exactly (held rules false bytes k j))

    -- and that is exactly where columns 47 to 53 of its line hold 999999 without a minus.
    pub asked-six-nines : (asked rules bytes k j).row.clock_absent ≡ six_nines_in (line_asked rules false bytes k j)
    unfolding float_row
    asked-six-nines = rw (row-asked bytes accepted k j there) (clock-line rules false (identifier rules bytes j) (line_asked rules false bytes k j) named)
