-- What a reading and then a writing answer and leave.
-- Assumes nothing.
use mathlib.Core.Path.{◌≡◌, sym, ap, ap₂, ◌∙◌}
use mathlib.Core.Bool.{true, false}
use mathlib.Core.List.{List}
use Prim.Native.Nat.{ℕ}
use borrow.Author.Tests.{eq-eqb, ne_eqb}
use lib.Dec.{eqb}
use lib.IntN.{ℤ}
use lib.ListN.{length}
use Rattle.header.specs.Versions.{told_version, version_by, rules_of}
use Rattle.header.specs.declared.types.Rules.{Rules}
use Rattle.header.specs.declared.types.Version.{Version}
use Rattle.header.proofs.Determined.{told_version-one}
use Rattle.canon.specs.Table.{Table, table_of}
use Rattle.canon.specs.Measured.{measured_in}
use Rattle.writer.specs.Writing.{out_after}
use Rattle.reader.specs.declared.types.Reading.{Reading}
use Rattle.canon.specs.declared.types.Measured.{Measured}
use Rattle.rewrite.specs.Rewriting.{as_read, as_written, reading, table_read, rewrite_answer, out_rewritten}
use Rattle.rewrite.specs.declared.types.Rewritten.{Rewritten}

module _ (bytes identifiers exponents comments : List ℕ) (rows : List ℤ) where
  abbrev read : Reading
  read = reading bytes identifiers exponents comments rows

  abbrev table : Table
  table = table_read bytes identifiers exponents comments rows

  -- an answer and the output after it are those of the definition
  abbrev Same : Rewritten → List ℕ → List ℕ → Type 0
  Same done out now =
      (done ≡ rewrite_answer bytes identifiers exponents comments rows (length out))
      × (now ≡ out_rewritten bytes identifiers exponents comments rows out)

  -- a reading that is refused is the answer
  pub refused-read : (r : Reading) (out : List ℕ) → r ≡ read → (r.refusal ≡ 0 → ⊥) → Same (as_read r) out out
  unfolding rewrite_answer out_rewritten
  refused-read r out e some =
      let apart : eqb read.refusal 0 ≡ false = ap (λ (x : Reading). eqb x.refusal 0) (sym e) ∙ ne_eqb r.refusal 0 some in
      (rw apart (ap as_read e), rw apart)

  -- else the writing is, of what was read
  pub then-written : (r : Reading) (v : Version) (ids exps notes : List ℕ) (numbers : List ℤ) (m : Measured) (out now : List ℕ)
      → told_version v ≡ told_version (version_by r.version) → r ≡ read → ids ≡ table.identifiers → exps ≡ table.exponents → notes ≡ table.comments → numbers ≡ table.rows → r.refusal ≡ 0
      → m ≡ measured_in (rules_of v) (table_of r.header ids exps notes numbers) (length out) → now ≡ out_after (rules_of v) (table_of r.header ids exps notes numbers) out
      → Same (as_written m) out now
  unfolding rewrite_answer out_rewritten
  then-written r v ids exps notes numbers m out now told e a b c g none written left =
      let zero : eqb read.refusal 0 ≡ true = ap (λ (x : Reading). eqb x.refusal 0) (sym e) ∙ eq-eqb r.refusal 0 none in
      let by : rules_of v ≡ rules_of (version_by read.version) =
      ap rules_of (told_version-one v (version_by r.version) told) ∙ ap (λ (x : Reading). rules_of (version_by x.version)) e in
      let same : table_of r.header ids exps notes numbers ≡ table =
      ap₂ (λ (x : Reading) (i : List ℕ). table_of x.header i exps notes numbers) e a
      ∙ ap₂ (λ (x y : List ℕ). table_of read.header table.identifiers x y numbers) b c
      ∙ ap (table_of read.header table.identifiers table.exponents table.comments) g in (
        rw zero (ap as_written (written ∙ ap₂ (λ (rules : Rules) (t : Table). measured_in rules t (length out)) by same)),
        rw zero (left ∙ ap₂ (λ (rules : Rules) (t : Table). out_after rules t out) by same),
      )
