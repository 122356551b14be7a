-- The room of the program `rewrite`, which takes files of at most 65,536 bytes. 01, "One file whole": "It has room for 800 comments .., and for all
-- rows". A row has at least 55 bytes, so such a file has at most 1,191 of them: 27,393 numbers are room for all rows, and with as many identifiers and
-- exponents as a file may name, and 61,600 bytes for comments, a reading answers 12 exactly where there are more than 800 comments. What was read is
-- written with 12 exactly where its form is longer than the output.
-- Assumes nothing.
use mathlib.Core.Path.{◌≡◌, refl, sym, ap, subst}
use mathlib.Core.Bool.{Bool, true, false}
use mathlib.Core.List.{List}
use mathlib.Core.Logic.{inl, inr, ◌↔◌}
use Prim.Native.Nat.{ℕ, ◌*◌, ◌≤◌, ◌<◌}
use native.Mathlib.Omega.{arith}
use borrow.Author.Tests.{leb-true, leb-false}
use lib.Dec.{leb}
use lib.IntN.{ℤ}
use lib.ListN.{length}
use Rattle.header.specs.declared.types.Rules.{Rules}
use Rattle.lines.specs.Lines.{lines_of}
use Rattle.file.specs.Table.{row_lines}
use Rattle.scan.specs.Run.{IsFile}
use Rattle.reader.specs.Reading.{file_of, read_answer, refused_with, accepted_as}
use Rattle.canon.specs.Measured.{measured_in}
use Rattle.canon_laws.specs.Held.{rewritten, Proper}
use Rattle.theorems.specs.Again.{lent_table}
use Rattle.theorems.proofs.Rewritten.{lent-twelve}
use Rattle.scan_laws.proofs.Files.{file-plain, whole-taken}
use Rattle.file_laws.proofs.Counts.{satellites-bounds}
use Rattle.theorems.proofs.Accepting.{says-satellites}
use Rattle.theorems.proofs.Reading.{file-bytes, table-rows, table-rows-both}
use Rattle.theorems.specs.Files.{header}
use Rattle.theorems.proofs.Room.{room-accepted, short-refused}
use Rattle.theorems.specs.Room.{Room, Short, rows_needed, answer}
use Rattle.header.specs.declared.types.Header.{Header}
use Rattle.reader.specs.declared.types.Reading.{Reading}
use Rattle.header.specs.Rules.{max_satellites}
use Rattle.record.specs.Plain.{comment_width}
use Rattle.record.specs.Rows.{row_width}
use Rattle.theorems.specs.Room.{most_bytes, most_comments, most_rows}

-- the room that the program lends: comments and rows besides all satellites
abbrev pub RewriteRoom : Header → Type 0
RewriteRoom h = Room h max_satellites max_satellites (most_comments * comment_width) (most_rows * row_width)

-- the answer of a reading into it
abbrev pub rewrite_reading : Rules → List ℕ → Reading
rewrite_reading rules bytes = answer rules true bytes max_satellites max_satellites (most_comments * comment_width) (most_rows * row_width)

module _ {rules : Rules} (proper : Proper rules) where
  -- WRITING WHAT WAS READ into 65,536 bytes answers 12 exactly where the form of the file has more.
  pub output-twelve : (bytes : List ℕ) (accepted : IsFile rules bytes) (identifiers exponents comments : List ℕ) (rows : List ℤ)
      → (read_answer rules bytes (file_of rules bytes) identifiers exponents comments rows).refusal ≡ 0 → (out : List ℕ) → length out ≡ most_bytes
      → ((measured_in rules (lent_table rules true bytes identifiers exponents comments rows) (length out)).refusal ≡ 12) ↔ (most_bytes < length (rewritten rules bytes))
  output-twelve bytes accepted identifiers exponents comments rows read out room =
      subst (λ (n : ℕ). ((measured_in rules (lent_table rules true bytes identifiers exponents comments rows) (length out)).refusal ≡ 12) ↔ (n < length (rewritten rules bytes))) room
      (lent-twelve proper bytes accepted identifiers exponents comments rows read out)

  module _ (bytes : List ℕ) (accepted : IsFile rules bytes) where
    -- An accepted file names at most so many satellites as there is room for.
    pub few-satellites : (header rules bytes).satellites ≤ max_satellites
    few-satellites = let p = file-plain rules proper.sound bytes accepted in omega (arith, says-satellites p, (satellites-bounds p).1)

    module _ (short : length bytes ≤ most_bytes) where
      -- One of at most 65,536 bytes has at most 1,191 rows,
      pub few-rows : length (row_lines rules (lines_of bytes)) ≤ most_rows
      few-rows = omega (arith, file-bytes proper bytes accepted)

      -- so ROWS ARE NEVER SHORT: it needs at most 27,393 numbers for them.
      pub rows_fit : rows_needed (header rules bytes) ≤ most_rows * row_width
      rows_fit = go (header rules bytes).velocity refl
        where
          go : (v : Bool) → (header rules bytes).velocity ≡ v → rows_needed (header rules bytes) ≤ most_rows * row_width
          go true e = rw e (omega (arith, few-rows, table-rows-both proper bytes accepted e))
          go false e = rw e (omega (arith, few-rows, table-rows proper bytes accepted e))

      -- There is room exactly where it has at most 800 comments:
      pub room-exactly : RewriteRoom (header rules bytes) ↔ ((header rules bytes).comments ≤ most_comments)
      room-exactly = (
        λ room. omega (arith, room.comments),
        λ few. record { identifiers = few-satellites; exponents = few-satellites; comments = omega arith; rows = rows_fit },
      )

      -- then the reading answers 0, with its length and header,
      pub few-comments : (header rules bytes).comments ≤ most_comments → rewrite_reading rules bytes ≡ accepted_as rules bytes accepted.0
      few-comments few =
          room-accepted proper true bytes accepted.0 accepted.1 max_satellites max_satellites (most_comments * comment_width) (most_rows * row_width)
          (subst (λ (s : List ℕ). RewriteRoom (header rules s)) (sym (whole-taken rules bytes accepted.0 accepted.1)) (room-exactly.1 few))

      -- and with more comments it answers 12, line 0.
      pub many-comments : most_comments < (header rules bytes).comments → rewrite_reading rules bytes ≡ refused_with 12 0 0
      many-comments many =
          short-refused proper true bytes accepted.0 accepted.1 max_satellites max_satellites (most_comments * comment_width) (most_rows * row_width)
          (subst (λ (s : List ℕ). Short (header rules s) max_satellites max_satellites (most_comments * comment_width) (most_rows * row_width)) (sym (whole-taken rules bytes accepted.0 accepted.1))
          (inr (inr (inl (omega arith)))))

      -- A READING IS SHORT OF COMMENTS ALONE: 12 is answered exactly where there are more than 800.
      pub twelve-exactly : ((rewrite_reading rules bytes).refusal ≡ 12) ↔ (most_comments < (header rules bytes).comments)
      twelve-exactly = (
        λ twelve. go (leb (header rules bytes).comments 800) refl twelve,
        λ many. ap (λ (r : Reading). r.refusal) (many-comments many),
      )
        where
          go : (b : Bool) → leb (header rules bytes).comments 800 ≡ b → (rewrite_reading rules bytes).refusal ≡ 12 → most_comments < (header rules bytes).comments
          go true e twelve =
              let few = leb-true (header rules bytes).comments 800 e in
              let zero = ap (λ (r : Reading). r.refusal) (few-comments few) in
              absurd (omega arith)
          go false e twelve = leb-false (header rules bytes).comments 800 e
