-- Writing and reading, one after the other, by what the two functions promise: what `write` wrote, `read` returns; what `read` returned, `write` writes
-- as the canonical form of the file, and canonical bytes as they were.
-- Assumes nothing.
use mathlib.Core.Path.{◌≡◌, sym, ap, ap₂, ◌∙◌, subst}
use mathlib.Core.Bool.{true, false}
use mathlib.Core.List.{List, [], ◌++◌}
use mathlib.Core.Logic.{◌↔◌}
use Prim.Native.Nat.{ℕ, ◌*◌, ◌≤◌, ◌<◌}
use native.Mathlib.Omega.{arith}
use lib.IntN.{ℤ}
use lib.ListN.{length, take, drop, length-take}
use lib.Seq.{take-append-le}
use Rattle.header.specs.declared.types.Rules.{Rules}
use Rattle.lines.specs.Lent.{over}
use Rattle.lines.specs.Lines.{lines_of}
use Rattle.file.specs.Table.{header_in, comments_in, rows_in}
use Rattle.header.specs.Header.{no_header}
use Rattle.record.specs.Plain.{comment_width}
use Rattle.scan.specs.Run.{IsFile}
use Rattle.reader.specs.Reading.{front_of, file_of, lines_to, lines_in, filled, fills, identifiers_of, read_answer, identifiers_after, exponents_after, comments_after, rows_after}
use Rattle.reader.specs.Reading as reading
use Rattle.scan_laws.proofs.Local.{whole-ends}
use Rattle.theorems.proofs.Judging.{delivered-after, filled-after}
use Rattle.scan.specs.declared.Tally.{Tally}
use Rattle.scan.specs.Front.{Front}
use Rattle.scan.specs.Front as front
use Rattle.scan_laws.proofs.Files.{file-plain, whole-taken}
use Rattle.scan_laws.proofs.Files as files
use Rattle.canon.specs.Table.{Table, table_of, cell_width, cells_in, table_identifiers, exponents_of, comments_of, rows_of}
use Rattle.canon.specs.Valid.{valid}
use Rattle.canon.specs.Canonical.{canonical}
use Rattle.canon.specs.Measured.{measured_in}
use Rattle.writer.specs.Writing.{out_after}
use Rattle.canon.proofs.Parts.{parts}
use Rattle.canon_laws.specs.Held.{Holds, table_in, rewritten, Proper}
use Rattle.canon_laws.proofs.Trips.{form-accepted, form-holds}
use Rattle.canon_laws.proofs.ValidTables.{held-valid}
use Rattle.canon_laws.proofs.Rewriting as rewriting
use Rattle.theorems.proofs.Filled.{length-told, identifiers-filled, exponents-filled, comments-filled, rows-filled, header-told}
use Rattle.theorems.proofs.Room.{room-accepted}
use Rattle.theorems.specs.Room.{Room}
use Rattle.theorems.proofs.Writing.{written-0, twelve-exactly, valid-table, out-is, written-form, written-length}
use Rattle.header.specs.declared.types.Header.{Header}
use Rattle.reader.specs.declared.types.Reading.{Reading}
use Rattle.canon.specs.declared.types.Measured.{Measured}
use Rattle.theorems.specs.Again.{lent_table, written_bytes}

module _ {rules : Rules} (proper : Proper rules) where
  -- A TABLE IS VALID EXACTLY WHEN SOME ACCEPTED FILE HAS IT.
  pub valid-exactly : (t : Table) → (valid rules t ≡ true) ↔ ((bytes : List ℕ) × IsFile rules bytes × Holds rules (lines_of bytes) t)
  valid-exactly t =
      let e = rewriting.valid-exactly rules proper t in (
        (λ ok. let f = e.0 ok in (f.0, (files.accepts-exactly rules proper.sound f.0).1 f.1, f.2)),
        (λ f. e.1 (f.0, (files.accepts-exactly rules proper.sound f.0).0 f.1, f.2)),
      )

  -- so many first places of a filled list are what it was filled with
  front-of : {A : Type 0} (n : ℕ) (new old now : List A) → now ≡ over new old → new ≡ take n new → length (take n new) ≡ n → new ≡ take n now
  front-of n new old now filled whole many =
      whole ∙ sym (ap (take n) filled ∙ take-append-le n new (drop (length new) old) (omega (arith, many, length-take n new)))

  -- WHAT WAS WRITTEN IS READ BACK. `write` answered 0.
  module _ (t : Table) (out : List ℕ) (success : (measured_in rules t (length out)).refusal ≡ 0) where
    abbrev again : List ℕ
    again = written_bytes rules t out

    -- the bytes that it wrote are one whole file,
    pub written-accepted : IsFile rules again
    written-accepted =
        subst (λ (s : List ℕ). IsFile rules s) (sym (written-form proper t out success))
        ((files.accepts-exactly rules proper.sound (canonical rules t)).1 (form-accepted rules proper t (valid-table proper t out success)))

    -- that holds exactly the table;
    pub written-holds : Holds rules (lines_of again) t
    written-holds =
        subst (λ (s : List ℕ). Holds rules (lines_of s) t) (sym (written-form proper t out success)) (form-holds rules proper t (valid-table proper t out success))

    -- so `read`, given room, accepts them,
    pub room-reads : (identifiers exponents comments : List ℕ) (rows : List ℤ) → Room t.header (length identifiers) (length exponents) (length comments) (length rows)
        → (read_answer rules again (file_of rules again) identifiers exponents comments rows).refusal ≡ 0
    room-reads identifiers exponents comments rows room =
        let τ = written-accepted.0 in
        let same : header_in rules (lines_to τ.end again) ≡ t.header =
        ap (λ (s : List ℕ). header_in rules (lines_of s)) (whole-taken rules again τ written-accepted.1) ∙ written-holds.header_is in
        ap (λ (r : Reading). r.refusal)
        (room-accepted proper true again τ written-accepted.1 (length identifiers) (length exponents) (length comments) (length rows)
        (subst (λ (h : Header). Room h (length identifiers) (length exponents) (length comments) (length rows)) (sym same) room))

    -- gives length and header back, and fills the lists with what belongs to the table.
    module _ (identifiers exponents comments : List ℕ) (rows : List ℤ)
        (read : (read_answer rules again (file_of rules again) identifiers exponents comments rows).refusal ≡ 0) where
      pub header-back : (read_answer rules again (file_of rules again) identifiers exponents comments rows).header ≡ t.header
      header-back = header-told proper again written-accepted identifiers exponents comments rows read ∙ written-holds.header_is

      pub length_back : (read_answer rules again (file_of rules again) identifiers exponents comments rows).length ≡ (measured_in rules t (length out)).length
      length_back =
          length-told proper again written-accepted identifiers exponents comments rows read
          ∙ ap length (written-form proper t out success)
          ∙ sym (written-length proper t out success)

      pub identifiers-back : identifiers_after rules again (file_of rules again) identifiers exponents comments rows ≡ over (table_identifiers t) identifiers
      identifiers-back =
          identifiers-filled proper again written-accepted identifiers exponents comments rows read
          ∙ ap (λ (s : List ℕ). over s identifiers) written-holds.identifiers-are

      pub exponents-back : exponents_after rules again (file_of rules again) identifiers exponents comments rows ≡ over (exponents_of t) exponents
      exponents-back =
          exponents-filled proper again written-accepted identifiers exponents comments rows read
          ∙ ap (λ (s : List ℕ). over s exponents) written-holds.exponents-are

      pub comments-back : comments_after rules again (file_of rules again) identifiers exponents comments rows ≡ over (comments_of t) comments
      comments-back =
          comments-filled proper again written-accepted identifiers exponents comments rows read
          ∙ ap (λ (s : List ℕ). over s comments) written-holds.comments-are

      pub rows_back : rows_after rules again (file_of rules again) identifiers exponents comments rows ≡ over (rows_of t) rows
      rows_back =
          rows-filled proper again written-accepted identifiers exponents comments rows read
          ∙ ap (λ (s : List ℤ). over s rows) written-holds.rows_are

  -- WHAT WAS READ IS WRITTEN. `read` answered 0 for a file, and its header and the lent lists are handed on to `write`.
  module _ (bytes : List ℕ) (accepted : IsFile rules bytes) (identifiers exponents comments : List ℕ) (rows : List ℤ)
      (read : (read_answer rules bytes (file_of rules bytes) identifiers exponents comments rows).refusal ≡ 0) where
    abbrev lent : Table
    lent = lent_table rules true bytes identifiers exponents comments rows

    own : Holds rules (lines_of bytes) (table_in rules (lines_of bytes))
    own = rewriting.table-held rules (lines_of bytes) (file-plain rules proper.sound bytes accepted)

    -- the file holds them, whatever stands past their counts,
    pub lent-held : Holds rules (lines_of bytes) lent
    lent-held =
        let h = header_in rules (lines_of bytes) in
        let told = header-told proper bytes accepted identifiers exponents comments rows read in
        let long = parts rules (table_in rules (lines_of bytes)) (held-valid rules (lines_of bytes) (file-plain rules proper.sound bytes accepted) (table_in rules (lines_of bytes)) own) in
        record {
          header_is = sym told;
          identifiers-are =
              front-of h.satellites _ identifiers _ (identifiers-filled proper bytes accepted identifiers exponents comments rows read) own.identifiers-are long.identifiers-many
              ∙ ap (λ (x : Header). take x.satellites lent.identifiers) (sym told);
          exponents-are =
              front-of h.satellites _ exponents _ (exponents-filled proper bytes accepted identifiers exponents comments rows read) own.exponents-are long.exponents-many
              ∙ ap (λ (x : Header). take x.satellites lent.exponents) (sym told);
          comments-are =
              front-of (h.comments * comment_width) _ comments _ (comments-filled proper bytes accepted identifiers exponents comments rows read) own.comments-are long.comments-many
              ∙ ap (λ (x : Header). take (x.comments * comment_width) lent.comments) (sym told);
          rows_are =
              front-of (cells_in h * cell_width h.velocity) _ rows _ (rows-filled proper bytes accepted identifiers exponents comments rows read) own.rows_are long.rows-many
              ∙ ap (λ (x : Header). take (cells_in x * cell_width x.velocity) lent.rows) (sym told);
        }

    -- so they are a valid table,
    pub lent-valid : valid rules lent ≡ true
    lent-valid = held-valid rules (lines_of bytes) (file-plain rules proper.sound bytes accepted) lent lent-held

    -- and what `write` makes of them is the form of the file,
    pub lent-form : canonical rules lent ≡ rewritten rules bytes
    lent-form = rewriting.one_form rules (lines_of bytes) lent (table_in rules (lines_of bytes)) lent-held own

    -- answered by 0 and its length where there is room, and laid from the first byte of the output on,
    module _ (out : List ℕ) (room : length (rewritten rules bytes) ≤ length out) where
      enough : length (canonical rules lent) ≤ length out
      enough = rw lent-form room

      pub lent-answer : measured_in rules lent (length out) ≡ record { refusal = 0; length = length (rewritten rules bytes) }
      lent-answer = written-0 proper lent out lent-valid enough ∙ ap (λ (s : List ℕ). record { refusal = 0; length = length s }) lent-form

      pub lent_written : out_after rules lent out ≡ over (rewritten rules bytes) out
      lent_written =
          out-is proper lent out (ap (λ (m : Measured). m.refusal) lent-answer) ∙ ap (λ (s : List ℕ). over s out) lent-form

    -- and by 12 exactly where there is none;
    pub lent-twelve : (out : List ℕ) → ((measured_in rules lent (length out)).refusal ≡ 12) ↔ (length out < length (rewritten rules bytes))
    lent-twelve out = (
      λ twelve. subst (λ (s : List ℕ). length out < length s) lent-form ((twelve-exactly proper lent out).0 twelve).1,
      λ few. (twelve-exactly proper lent out).1 (lent-valid, subst (λ (s : List ℕ). length out < length s) (sym lent-form) few),
    )

    -- the form is accepted, has the same table, and written again stays as it is;
    pub form-file : IsFile rules (rewritten rules bytes)
    form-file = (files.accepts-exactly rules proper.sound (rewritten rules bytes)).1 (rewriting.rewritten-accepted rules proper bytes ((files.accepts-exactly rules proper.sound bytes).0 accepted))

    pub form-same : Holds rules (lines_of (rewritten rules bytes)) lent
    form-same =
        subst (λ (s : List ℕ). Holds rules (lines_of s) lent) lent-form (form-holds rules proper lent lent-valid)

    pub form-stays : rewritten rules (rewritten rules bytes) ≡ rewritten rules bytes
    form-stays = rewriting.rewritten-twice rules proper bytes ((files.accepts-exactly rules proper.sound bytes).0 accepted)

    -- and canonical bytes are written as they were.
    pub form-is-file : (t : Table) → valid rules t ≡ true → bytes ≡ canonical rules t → canonical rules lent ≡ bytes
    form-is-file t ok is =
        lent-form
        ∙ ap (rewritten rules) is
        ∙ rewriting.form-again rules proper t ok
        ∙ sym is

    -- so `write` answers 0 and their length, and lays them.
    pub canonical-again : (t : Table) → valid rules t ≡ true → bytes ≡ canonical rules t → (out : List ℕ) → length bytes ≤ length out
        → (measured_in rules lent (length out) ≡ record { refusal = 0; length = length bytes }) × (out_after rules lent out ≡ over bytes out)
    canonical-again t ok is out room =
        let same : rewritten rules bytes ≡ bytes = sym lent-form ∙ form-is-file t ok is in
        let enough : length (rewritten rules bytes) ≤ length out = subst (λ (s : List ℕ). length s ≤ length out) (sym same) room in (
          lent-answer out enough ∙ ap (λ (s : List ℕ). record { refusal = 0; length = length s }) same,
          lent_written out enough ∙ ap (λ (s : List ℕ). over s out) same,
        )

  -- A FILE AT THE FRONT is read as the file alone, whatever follows it: the same answer, and the same header and lists.
  module _ (a b : List ℕ) (accepted : IsFile rules a) (identifiers exponents comments : List ℕ) (rows : List ℤ) where
    abbrev t : Tally
    t = accepted.0

    alone : front_of rules a ≡ front.File t
    alone = (whole-ends rules a t accepted.1).0

    same-found : front_of rules a ≡ file_of rules a
    same-found = alone ∙ sym accepted.1

    pub front-as-alone : read_answer rules (a ++ b) (front_of rules (a ++ b)) identifiers exponents comments rows ≡ read_answer rules a (file_of rules a) identifiers exponents comments rows
    front-as-alone =
        delivered-after proper a b t alone (length identifiers) (length exponents) (length comments) (length rows)
        ∙ ap (λ (f : Front). read_answer rules a f identifiers exponents comments rows) same-found

    list-alone : {A : Type 0} (list : List (List ℕ) → List A) (old : List A)
        → filled (fills rules (a ++ b) (front_of rules (a ++ b)) identifiers exponents comments rows) (list (lines_in (a ++ b) (front_of rules (a ++ b)))) old
        ≡ filled (fills rules a (file_of rules a) identifiers exponents comments rows) (list (lines_in a (file_of rules a))) old
    list-alone list old =
        filled-after proper a b t alone list (length identifiers) (length exponents) (length comments) (length rows) old
        ∙ ap (λ (f : Front). filled (fills rules a f identifiers exponents comments rows) (list (lines_in a f)) old) same-found

    pub front-table : lent_table rules false (a ++ b) identifiers exponents comments rows ≡ lent_table rules true a identifiers exponents comments rows
    front-table =
        ap₂ (λ (x y : Table). table_of x.header x.identifiers y.exponents y.comments y.rows) first second
      where
        first : table_of (read_answer rules (a ++ b) (front_of rules (a ++ b)) identifiers exponents comments rows).header
            (identifiers_after rules (a ++ b) (front_of rules (a ++ b)) identifiers exponents comments rows) [] [] []
            ≡ table_of (read_answer rules a (file_of rules a) identifiers exponents comments rows).header
            (identifiers_after rules a (file_of rules a) identifiers exponents comments rows) [] [] []
        first = ap₂ (λ (r : Reading) (l : List ℕ). table_of r.header l [] [] []) front-as-alone (list-alone (identifiers_of rules) identifiers)

        notes : table_of no_header [] (exponents_after rules (a ++ b) (front_of rules (a ++ b)) identifiers exponents comments rows)
            (comments_after rules (a ++ b) (front_of rules (a ++ b)) identifiers exponents comments rows) []
            ≡ table_of no_header [] (exponents_after rules a (file_of rules a) identifiers exponents comments rows)
            (comments_after rules a (file_of rules a) identifiers exponents comments rows) []
        notes = ap₂ (λ (x c : List ℕ). table_of no_header [] x c []) (list-alone (reading.exponents_of rules) exponents) (list-alone (comments_in rules) comments)

        second : table_of no_header [] (exponents_after rules (a ++ b) (front_of rules (a ++ b)) identifiers exponents comments rows)
            (comments_after rules (a ++ b) (front_of rules (a ++ b)) identifiers exponents comments rows)
            (rows_after rules (a ++ b) (front_of rules (a ++ b)) identifiers exponents comments rows)
            ≡ table_of no_header [] (exponents_after rules a (file_of rules a) identifiers exponents comments rows)
            (comments_after rules a (file_of rules a) identifiers exponents comments rows)
            (rows_after rules a (file_of rules a) identifiers exponents comments rows)
        second = ap₂ (λ (x : Table) (r : List ℤ). table_of no_header [] x.exponents x.comments r) notes (list-alone (rows_in rules) rows)
