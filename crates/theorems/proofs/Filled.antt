-- A whole file, read into lent lists with success: the answer has the file's length, header and version, and each list is filled from its first place on.
-- Assumes nothing.
use mathlib.Core.Path.{◌≡◌, ap, ap₂, ◌∙◌}
use mathlib.Core.Bool.{Bool, true}
use mathlib.Core.List.{List, []}
use Prim.Native.Nat.{ℕ}
use lib.IntN.{ℤ}
use lib.ListN.{length}
use Rattle.header.specs.declared.types.Rules.{Rules}
use Rattle.lines.specs.Lent.{over}
use Rattle.lines.specs.Lines.{lines_of}
use Rattle.file.specs.Table.{header_in, comments_in, rows_in}
use Rattle.scan.specs.Run.{IsFile}
use Rattle.reader.specs.Reading.{file_of, accepted_as, lines_in, filled, identifiers_of, exponents_of, read_answer, fills, identifiers_after, exponents_after, comments_after, rows_after}
use Rattle.scan_laws.proofs.Files.{whole-taken}
use Rattle.theorems.proofs.Judging.{file-then-anything}
use Rattle.theorems.proofs.Room.{answer-decides, fills-exactly, room-accepted}
use Rattle.reader.specs.declared.types.Reading.{Reading}
use Rattle.canon_laws.specs.Held.{Proper}

module _ {rules : Rules} (proper : Proper rules) where
  module _ (bytes : List ℕ) (accepted : IsFile rules bytes) (identifiers exponents comments : List ℕ) (rows : List ℤ)
      (success : (read_answer rules bytes (file_of rules bytes) identifiers exponents comments rows).refusal ≡ 0) where
    filling : fills rules bytes (file_of rules bytes) identifiers exponents comments rows ≡ true
    filling = (answer-decides proper true bytes (length identifiers) (length exponents) (length comments) (length rows)).0 success

    lines_are : lines_in bytes (file_of rules bytes) ≡ lines_of bytes
    lines_are = rw (accepted.1, whole-taken rules bytes accepted.0 accepted.1)

    list-filled : {A : Type 0} (list : List (List ℕ) → List A) (old : List A)
        → filled (fills rules bytes (file_of rules bytes) identifiers exponents comments rows) (list (lines_in bytes (file_of rules bytes))) old ≡ over (list (lines_of bytes)) old
    list-filled list old = ap₂ (λ (b : Bool) (ls : List (List ℕ)). filled b (list ls) old) filling lines_are

    pub identifiers-filled : identifiers_after rules bytes (file_of rules bytes) identifiers exponents comments rows ≡ over (identifiers_of rules (lines_of bytes)) identifiers
    identifiers-filled = list-filled (identifiers_of rules) identifiers

    pub exponents-filled : exponents_after rules bytes (file_of rules bytes) identifiers exponents comments rows ≡ over (exponents_of rules (lines_of bytes)) exponents
    exponents-filled = list-filled (exponents_of rules) exponents

    pub comments-filled : comments_after rules bytes (file_of rules bytes) identifiers exponents comments rows ≡ over (comments_in rules (lines_of bytes)) comments
    comments-filled = list-filled (comments_in rules) comments

    pub rows-filled : rows_after rules bytes (file_of rules bytes) identifiers exponents comments rows ≡ over (rows_in rules (lines_of bytes)) rows
    rows-filled = list-filled (rows_in rules) rows

    pub answer-is : read_answer rules bytes (file_of rules bytes) identifiers exponents comments rows ≡ accepted_as rules bytes accepted.0
    answer-is =
        let t = accepted.0 in
        room-accepted proper true bytes t accepted.1 (length identifiers) (length exponents) (length comments) (length rows)
        ((fills-exactly proper true bytes t accepted.1 (length identifiers) (length exponents) (length comments) (length rows)).0 filling)

    pub header-told : (read_answer rules bytes (file_of rules bytes) identifiers exponents comments rows).header ≡ header_in rules (lines_of bytes)
    header-told = ap (λ (r : Reading). r.header) answer-is ∙ ap (λ (s : List ℕ). header_in rules (lines_of s)) (whole-taken rules bytes accepted.0 accepted.1)

    pub length-told : (read_answer rules bytes (file_of rules bytes) identifiers exponents comments rows).length ≡ length bytes
    length-told = ap (λ (r : Reading). r.length) answer-is ∙ (file-then-anything proper bytes [] accepted.0 accepted.1).1

    pub version-told : (read_answer rules bytes (file_of rules bytes) identifiers exponents comments rows).version ≡ rules.letter
    version-told = ap (λ (r : Reading). r.version) answer-is
