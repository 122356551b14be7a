-- Tables, files and canonical forms, over the rules of a version. 01, "The canonical form": "A table is valid exactly when some accepted file has it";
-- and the second demand: "Each valid table has one canonical form; writing makes it, reading it returns the table, writing what was read from
-- canonical bytes returns those bytes."
-- Assumes nothing.
use mathlib.Core.Path.{◌≡◌, refl, sym, ap, ap₂, ◌∙◌, subst}
use mathlib.Core.Bool.{true, false}
use mathlib.Core.List.{List, [], ◌∷◌, ◌++◌}
use mathlib.Core.Logic.{◌↔◌}
use Prim.Native.Nat.{ℕ, ◌*◌}
use lib.IntN.{ℤ}
use lib.ListN.{length}
use lib.Seq.{take_all}
use native.Mathlib.Omega.{arith}
use Rattle.lines.specs.Lent.{flat}
use Rattle.lines.specs.Lines.{lines_of}
use Rattle.record.specs.Descriptors.{fixed_line}
use Rattle.record.specs.Plain.{end_items, comment_width}
use Rattle.header.specs.declared.types.Rules.{Rules}
use Rattle.header.specs.declared.types.Header.{Header}
use Rattle.file.specs.Table.{count_of, header_in, slots_in, comments_in, rows_in}
use Rattle.file.specs.Plain.{Plain, Accepted}
use Rattle.file_laws.proofs.Selected.{satellites, velocities, epochs}
use Rattle.file_laws.proofs.Slots.{identifiers-many}
use Rattle.file_laws.proofs.Counts as plain
use Rattle.scan_laws.proofs.Files.{plain_lines}
use Rattle.canon.specs.Table.{Table, cell_width, cells_in, table_identifiers, exponents_of, comments_of, rows_of}
use Rattle.canon.specs.Valid.{valid}
use Rattle.canon.specs.Canonical.{lines_before, comment_lines, epochs_lines, canonical_lines, canonical}
use Rattle.canon_laws.specs.Held.{Holds, table_in, rewritten, Proper}
use Rattle.canon_laws.proofs.ValidTables.{held-valid, rows_long}
use Rattle.canon_laws.proofs.Trips.{form-accepted, form-holds}

module _ (rules : Rules) where
  -- the form of a header and of what belongs to its table
  abbrev form_of : Header → List ℕ → List ℕ → List ℕ → List ℤ → List ℕ
  form_of h identifiers exponents comments rows =
      flat
      (lines_before rules h identifiers exponents
      ++ (comment_lines h.comments comments
      ++ (epochs_lines h.velocity identifiers h.interval8 h.epochs h.start8 rows ++ (fixed_line end_items ∷ []))))

  form-is : (t : Table) → canonical rules t ≡ form_of t.header (table_identifiers t) (exponents_of t) (comments_of t) (rows_of t)
  unfolding canonical canonical_lines
  form-is t = refl

  -- the lines of an accepted file hold it: its lists have no place past its counts
  pub table-held : (lines : List (List ℕ)) → Plain rules lines → Holds rules lines (table_in rules lines)
  table-held lines p =
      let h = header_in rules lines in
      let n : count_of rules lines ≡ h.satellites = plain.count-is p ∙ sym (ap (λ (x : Header). x.satellites) (plain.header_is p)) in
      let k : h.comments ≡ length p.comments = ap (λ (x : Header). x.comments) (plain.header_is p) in
      let cells : cells_in h * cell_width h.velocity ≡ satellites p * epochs p * cell_width (velocities p) =
      ap (λ (x : Header). cells_in x * cell_width x.velocity) (plain.header_is p) in
      record {
        header_is = refl;
        identifiers-are =
            sym (take_all h.satellites (slots_in rules false (count_of rules lines) lines) (omega (arith, n, plain.count-is p, ap length (plain.identifiers-are p), identifiers-many p)));
        exponents-are =
            sym (take_all h.satellites (slots_in rules true (count_of rules lines) lines)
            (omega (arith, n, plain.count-is p, ap (λ (m : ℕ). length (slots_in rules true m lines)) (plain.count-is p), plain.exponents-room p)));
        comments-are = sym (take_all (h.comments * comment_width) (comments_in rules lines) (omega (arith, k, plain.comments-room p)));
        rows_are = sym (take_all (cells_in h * cell_width h.velocity) (rows_in rules lines) (omega (arith, cells, rows_long rules lines p)));
      }

  -- ONE FORM: tables that the same lines hold have the same form, whatever stands past their counts.
  pub one_form : (lines : List (List ℕ)) (t u : Table) → Holds rules lines t → Holds rules lines u → canonical rules t ≡ canonical rules u
  one_form lines t u p q =
      let header : t.header ≡ u.header = sym p.header_is ∙ q.header_is in
      let identifiers : table_identifiers t ≡ table_identifiers u = sym p.identifiers-are ∙ q.identifiers-are in
      let exponents : exponents_of t ≡ exponents_of u = sym p.exponents-are ∙ q.exponents-are in
      let comments : comments_of t ≡ comments_of u = sym p.comments-are ∙ q.comments-are in
      let rows : rows_of t ≡ rows_of u = sym p.rows_are ∙ q.rows_are in
      form-is t
      ∙ ap₂ (λ (h : Header) (ns : List ℕ). form_of h ns (exponents_of t) (comments_of t) (rows_of t)) header identifiers
      ∙ ap₂ (λ (xs cs : List ℕ). form_of u.header (table_identifiers u) xs cs (rows_of t)) exponents comments
      ∙ ap (λ (rs : List ℤ). form_of u.header (table_identifiers u) (exponents_of u) (comments_of u) rs) rows
      ∙ sym (form-is u)

  module _ (proper : Proper rules) where
    -- the lines of an accepted file
    file-lines : (bytes : List ℕ) → Accepted rules bytes → Plain rules (lines_of bytes)
    file-lines bytes (lines, bytes-are, p) =
        subst (λ (ls : List (List ℕ)). Plain rules ls) (sym (ap lines_of bytes-are ∙ plain_lines rules proper.sound lines p)) p

    -- A TABLE IS VALID EXACTLY WHEN SOME ACCEPTED FILE HAS IT.
    pub valid-exactly : (t : Table) → (valid rules t ≡ true) ↔ ((bytes : List ℕ) × Accepted rules bytes × Holds rules (lines_of bytes) t)
    valid-exactly t = (
      (λ ok. (canonical rules t, form-accepted rules proper t ok, form-holds rules proper t ok)),
      (λ f. held-valid rules (lines_of f.0) (file-lines f.0 f.1) t f.2),
    )

    -- READING WHAT WAS WRITTEN, WRITTEN AGAIN: canonical bytes are their own form.
    pub form-again : (t : Table) → valid rules t ≡ true → rewritten rules (canonical rules t) ≡ canonical rules t
    form-again t ok =
        let p = file-lines (canonical rules t) (form-accepted rules proper t ok) in
        one_form (lines_of (canonical rules t)) (table_in rules (lines_of (canonical rules t))) t (table-held (lines_of (canonical rules t)) p) (form-holds rules proper t ok)

    -- ANY ACCEPTED FILE: its form is accepted, holds the same table, and written again changes nothing more.
    module _ (bytes : List ℕ) (accepted : Accepted rules bytes) where
      table-valid : valid rules (table_in rules (lines_of bytes)) ≡ true
      table-valid = let p = file-lines bytes accepted in held-valid rules (lines_of bytes) p (table_in rules (lines_of bytes)) (table-held (lines_of bytes) p)

      pub rewritten-accepted : Accepted rules (rewritten rules bytes)
      rewritten-accepted = form-accepted rules proper (table_in rules (lines_of bytes)) table-valid

      pub rewritten-holds : Holds rules (lines_of (rewritten rules bytes)) (table_in rules (lines_of bytes))
      rewritten-holds = form-holds rules proper (table_in rules (lines_of bytes)) table-valid

      pub rewritten-twice : rewritten rules (rewritten rules bytes) ≡ rewritten rules bytes
      rewritten-twice = form-again (table_in rules (lines_of bytes)) table-valid
