-- The front page for reading: what holds of every accepted file, in sentences over its lines and the header of its table. Satellites,
-- epochs and rows are counted from 0. P lines are kind 10, V lines 11, epoch lines 9, comments 8.
-- Assumes nothing.
use mathlib.Core.Path.{◌≡◌, refl, sym, ap, ◌∙◌}
use mathlib.Core.Bool.{Bool, true, false, cond, not}
use mathlib.Core.List.{List, ◌∷◌, ◌++◌, []}
use Prim.Native.Nat.{ℕ, ◌+◌, ◌*◌, ◌<◌, ◌≤◌}
use native.Mathlib.Nat.{le_trans}
use native.Mathlib.Omega.{arith}
use lib.ListN.{length, take, drop}
use Rattle.header.specs.declared.types.Rules.{Rules}
use Rattle.lines.specs.Lines.{lines_of, select, nth}
use Rattle.record.specs.Rows.{row_of, shortest_row, row_width}
use Rattle.file.specs.Plain.{Plain}
use Rattle.file.specs.Table.{row_lines, rows_in}
use Rattle.scan.specs.Run.{IsFile}
use Rattle.file.proofs.Finding.{lines-within}
use Rattle.scan_laws.proofs.Files.{file-plain}
use Rattle.file_laws.proofs.Bytes.{bytes-enough}
use Rattle.file_laws.proofs.Counts.{identifiers-are, rows-many, rows-many-both, places-known-and-absent}
use Rattle.file_laws.proofs.Different.{one-of-each}
use Rattle.file.specs.Exact.{exact_numbers}
use Rattle.file_laws.proofs.Rule.{InOrder, EpochAt, the-rule, absent_in, places-many, motions-many, no-motions, rows-are-places, row-begins, row-motion}
use Rattle.file_laws.proofs.Selected.{satellites, epochs}
use Rattle.file_laws.proofs.Stored.{note_at, below, place-stored, place-stored-both, motion-stored}
use Rattle.theorems.proofs.Accepting.{says-satellites, says-epochs, says-start, says-interval, says-velocity, says-comments}
use Rattle.theorems.specs.Files.{header, row_lines_of, row_at, There, RowOf, line_asked, table_row}
use Rattle.canon_laws.specs.Held.{Proper}

module _ {rules : Rules} (proper : Proper rules) where
  module _ (bytes : List ℕ) (accepted : IsFile rules bytes) where
    abbrev p : Plain rules (lines_of bytes)
    p = file-plain rules proper.sound bytes accepted

    -- THE RULE: the P rows number satellites times epochs.
    pub rows-number : length (row_lines_of rules false bytes) ≡ (header rules bytes).satellites * (header rules bytes).epochs
    rows-number = rw (says-satellites p, says-epochs p) (places-many p)

    -- In mode V so do the V rows.
    pub motions-number : (header rules bytes).velocity ≡ true → length (row_lines_of rules true bytes) ≡ (header rules bytes).satellites * (header rules bytes).epochs
    motions-number both = rw (says-satellites p, says-epochs p) (motions-many p (sym (says-velocity p) ∙ both))

    -- In mode P there is no V row.
    pub motions-none : (header rules bytes).velocity ≡ false → row_lines_of rules true bytes ≡ []
    motions-none alone = no-motions p (sym (says-velocity p) ∙ alone)

    -- In mode P the rows of the table are the P rows; in mode V they are P and V in turn, twice as many.
    pub table-rows : (header rules bytes).velocity ≡ false → length (row_lines rules (lines_of bytes)) ≡ (header rules bytes).satellites * (header rules bytes).epochs
    table-rows alone = rw (says-satellites p, says-epochs p) (rows-many p (sym (says-velocity p) ∙ alone))

    pub table-rows-both : (header rules bytes).velocity ≡ true → length (row_lines rules (lines_of bytes)) ≡ 2 * ((header rules bytes).satellites * (header rules bytes).epochs)
    table-rows-both both = rw (says-satellites p, says-epochs p) (rows-many-both p (sym (says-velocity p) ∙ both))

    -- The rows with a place and those without are all of them.
    pub with-and-without : length (select (absent_in rules) (row_lines_of rules false bytes)) + length (select (λ (l : List ℕ). not (absent_in rules l)) (row_lines_of rules false bytes))
        ≡ (header rules bytes).satellites * (header rules bytes).epochs
    with-and-without = rw (says-satellites p, says-epochs p) (places-known-and-absent p)

    -- A file has at least 55 bytes for each row, 32 for each epoch and 3 for each comment.
    pub file-bytes : shortest_row * length (row_lines rules (lines_of bytes)) + 32 * (header rules bytes).epochs + 3 * (header rules bytes).comments ≤ length bytes
    file-bytes = rw (says-epochs p, says-comments p) (le_trans (bytes-enough p) (lines-within bytes))

    module _ (k j : ℕ) (there : There rules bytes k j) where
      hk : k < epochs p
      hk = omega (arith, there.epoch, says-epochs p)

      hj : j < satellites p
      hj = omega (arith, there.satellite, says-satellites p)

      row-of : (v : Bool) (e : EpochAt p k) → InOrder p v k (e.epoch ∷ e.rows) → RowOf rules v bytes k j
      row-of v e order = record {
        earlier = e.earlier;
        epoch = e.epoch;
        rows = e.rows;
        later = e.later;
        lines_are = e.lines_are;
        earlier-epochs = e.earlier-epochs;
        no-other-epoch = e.no-other-epoch;
        at-instant = rw (says-start p, says-interval p) e.is-epoch;
        its-row = rw (says-satellites p) (order.numbered j hj);
        names-it = rw (says-satellites p, identifiers-are p, order.numbered j hj) (order.each j hj);
        no_other = λ i hi. rw (identifiers-are p) (one-of-each p v k (e.epoch ∷ e.rows) order i j (omega (arith, hi, says-satellites p)) hj);
      }

      -- THE RULE: row k * n + j of the P lines is the P line of epoch k that names identifier j.
      pub the_row : RowOf rules false bytes k j
      the_row = let e = the-rule p k hk in row-of false e e.places

      -- In mode V row k * n + j of the V lines is the V line of epoch k that names identifier j.
      pub the-motion : (header rules bytes).velocity ≡ true → RowOf rules true bytes k j
      the-motion both = let e = the-rule p k hk in row-of true e (e.motions (sym (says-velocity p) ∙ both))

      -- In mode P row k * n + j of the lent table holds exactly the numbers of that P line, and those of what stands directly after it.
      pub row-holds : (header rules bytes).velocity ≡ false
          → take row_width (drop (row_width * row_at rules bytes k j) (rows_in rules (lines_of bytes)))
          ≡ exact_numbers (row_of false (nth (row_at rules bytes k j) (row_lines_of rules false bytes))) ++ note_at rules (lines_of bytes) (row_at rules bytes k j)
      row-holds alone = rw (says-satellites p) (place-stored p k j hk hj (sym (says-velocity p) ∙ alone))

      -- In mode V row 2 * (k * n + j) holds exactly those of the P line,
      pub row-holds-both : (header rules bytes).velocity ≡ true
          → take row_width (drop (row_width * (2 * row_at rules bytes k j)) (rows_in rules (lines_of bytes)))
          ≡ exact_numbers (row_of false (nth (row_at rules bytes k j) (row_lines_of rules false bytes))) ++ note_at rules (lines_of bytes) (2 * row_at rules bytes k j)
      row-holds-both both = rw (says-satellites p) (place-stored-both p k j hk hj (sym (says-velocity p) ∙ both))

      -- and the row after it those of the V line.
      pub motion-holds : (header rules bytes).velocity ≡ true
          → take row_width (drop (row_width * (2 * row_at rules bytes k j + 1)) (rows_in rules (lines_of bytes)))
          ≡ exact_numbers (row_of true (nth (row_at rules bytes k j) (row_lines_of rules true bytes))) ++ note_at rules (lines_of bytes) (2 * row_at rules bytes k j + 1)
      motion-holds both = rw (says-satellites p) (motion-stored p k j hk hj (sym (says-velocity p) ∙ both))

      -- Among all rows of the table it is the one with its number.
      pub line-in-table : (v : Bool) → (v ≡ true → (header rules bytes).velocity ≡ true) → nth (table_row rules v bytes k j) (row_lines rules (lines_of bytes)) ≡ line_asked rules v bytes k j
      line-in-table true mode = rw (says-satellites p) (row-motion p (sym (says-velocity p) ∙ mode refl) k j hk hj)
      line-in-table false mode = go (header rules bytes).velocity refl
        where
          go : (both : Bool) → (header rules bytes).velocity ≡ both
              → nth (cond both (2 * row_at rules bytes k j) (row_at rules bytes k j)) (row_lines rules (lines_of bytes)) ≡ line_asked rules false bytes k j
          go true e = rw (says-satellites p) (row-begins p (sym (says-velocity p) ∙ e) k j hk hj)
          go false e = ap (nth (row_at rules bytes k j)) (rows-are-places p (sym (says-velocity p) ∙ e))

      -- and it is there
      pub row-in-table : (v : Bool) → (v ≡ true → (header rules bytes).velocity ≡ true) → table_row rules v bytes k j < length (row_lines rules (lines_of bytes))
      row-in-table v mode = go v mode (header rules bytes).velocity refl
        where
          within : row_at rules bytes k j < satellites p * epochs p
          within = rw (says-satellites p) (below k (epochs p) (satellites p) j hk hj)

          go : (t : Bool) → (t ≡ true → (header rules bytes).velocity ≡ true) → (both : Bool) → (header rules bytes).velocity ≡ both → table_row rules t bytes k j < length (row_lines rules (lines_of bytes))
          go true m both e = omega (arith, within, rows-many-both p (sym (says-velocity p) ∙ m refl))
          go false m true e = rw e (omega (arith, within, rows-many-both p (sym (says-velocity p) ∙ e)))
          go false m false e = rw e (omega (arith, within, rows-many p (sym (says-velocity p) ∙ e)))
