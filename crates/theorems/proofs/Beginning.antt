-- The front page for the beginning of a walk: the file's own refusal first, then 12, and on success the identifiers that the walk asks for.
-- Assumes nothing.
use mathlib.Core.Path.{◌≡◌, ap, ◌∙◌}
use mathlib.Core.Bool.{true, false}
use mathlib.Core.List.{List}
use Prim.Native.Nat.{ℕ, ◌≤◌, ◌<◌}
use native.Mathlib.Omega.{arith}
use borrow.Author.Tests.{ne_eqb, le-leb, lt-leb}
use lib.Dec.{eqb}
use lib.ListN.{length, take, drop}
use lib.Seq.{take_at, drop_at}
use Rattle.header.specs.declared.types.Rules.{Rules}
use Rattle.lines.specs.Lines.{lines_of}
use Rattle.lines.specs.Lent.{over}
use Rattle.file.specs.Table.{header_in}
use Rattle.reader.specs.Reading.{refused_with, lines_to, accepted_as, file_of, judged, identifiers_of}
use Rattle.row_walk.specs.Begin.{begun_as, identifiers_begun}
use Rattle.scan_laws.proofs.Files.{whole-taken}
use Rattle.questions.proofs.Asking.{identifiers-counted}
use Rattle.theorems.specs.Files.{header}
use Rattle.theorems.proofs.Room.{found-numbered}
use Rattle.theorems.specs.Walked.{Identified}
use Rattle.scan.specs.declared.Tally.{Tally}
use Rattle.scan.specs.Front as front
use Rattle.theorems.specs.Walked.{begun, begun_list}
use Rattle.canon_laws.specs.Held.{Proper}

module _ {rules : Rules} (proper : Proper rules) where
  module _ (bytes : List ℕ) (t : Tally) (accepted : file_of rules bytes ≡ front.File t) where
    lines_are : lines_to t.end bytes ≡ lines_of bytes
    lines_are = ap lines_of (whole-taken rules bytes t accepted)

    -- the identifiers of the header, as many as it has satellites
    identifiers-many : length (identifiers_of rules (lines_of bytes)) ≡ (header rules bytes).satellites
    unfolding header_in
    identifiers-many = rw lines_are at (identifiers-counted proper.sound bytes t accepted)

    module _ (old : List ℕ) where
      -- With room for the identifiers an accepted file is accepted, with its length and its header,
      pub begin-accepts : (header rules bytes).satellites ≤ length old → begun rules bytes (length old) ≡ accepted_as rules bytes t
      unfolding begun_as judged
      begin-accepts room = rw (accepted, lines_are, le-leb (header rules bytes).satellites (length old) room)

      identifiers-laid : (header rules bytes).satellites ≤ length old → begun_list rules bytes old ≡ over (identifiers_of rules (lines_of bytes)) old
      unfolding identifiers_begun judged header_in
      identifiers-laid room = rw (accepted, lines_are, le-leb (header rules bytes).satellites (length old) room)

      -- the list begins with its identifiers,
      pub begin-identifies : (header rules bytes).satellites ≤ length old → Identified rules bytes (begun_list rules bytes old)
      begin-identifies room =
          ap (take (header rules bytes).satellites) (identifiers-laid room)
          ∙ take_at (identifiers_of rules (lines_of bytes)) (drop (length (identifiers_of rules (lines_of bytes))) old) (header rules bytes).satellites identifiers-many

      -- and the places past them are as they were.
      pub begin-keeps-rest : (header rules bytes).satellites ≤ length old → drop (header rules bytes).satellites (begun_list rules bytes old) ≡ drop (header rules bytes).satellites old
      begin-keeps-rest room =
          ap (drop (header rules bytes).satellites) (identifiers-laid room)
          ∙ drop_at (identifiers_of rules (lines_of bytes)) (drop (length (identifiers_of rules (lines_of bytes))) old) (header rules bytes).satellites identifiers-many
          ∙ ap (λ (n : ℕ). drop n old) identifiers-many

      -- With less room it is 12, line 0, and the list is as it was.
      pub begin-short : length old < (header rules bytes).satellites → (begun rules bytes (length old) ≡ refused_with 12 0 0) × (begun_list rules bytes old ≡ old)
      unfolding begun_as identifiers_begun judged
      begin-short short = let no_room = lt-leb (header rules bytes).satellites (length old) short in (rw (accepted, lines_are, no_room), rw (accepted, lines_are, no_room))

  -- A file that is refused: its own number and line, and the list is as it was.
  pub begin-refused : (bytes : List ℕ) (number line column : ℕ) → file_of rules bytes ≡ front.Refused number line column → (old : List ℕ)
      → (begun rules bytes (length old) ≡ refused_with number line column) × (begun_list rules bytes old ≡ old)
  unfolding begun_as identifiers_begun judged
  begin-refused bytes number line column e old =
      let some = found-numbered proper true bytes number line column e in
      let apart : eqb number 0 ≡ false = ne_eqb number 0 (λ zero. omega arith) in
      (rw (e, apart), rw (e, apart))
