-- The lines of the epochs of a valid table, with its own identifiers, instants and rows.
-- Assumes nothing.
use mathlib.Core.Path.{◌≡◌, sym, ap, ◌∙◌}
use mathlib.Core.List.{List}
use Prim.Native.Nat.{ℕ, ◌*◌}
use native.Mathlib.Nat.{mul_comm, mul_assoc}
use lib.ListN.{length}
use Rattle.header.specs.declared.types.Rules.{Rules}
use Rattle.file.specs.Plain.{Epochs}
use Rattle.canon.specs.Table.{Table, cell_width, cells_in, table_identifiers, rows_of}
use Rattle.canon.specs.Valid.{rows_valid}
use Rattle.canon.specs.Canonical.{epochs_lines}
use Rattle.canon.proofs.Parts.{Parts}
use Rattle.canon_laws.proofs.EpochLines.{Instants, all-instants}
use Rattle.canon_laws.proofs.BodyLines.{Carries, all-epochs-hold}

module _ (rules : Rules) (t : Table) (v : Parts rules t) where
  -- the instants of its epochs are of the bounds
  instants : Instants t.header.interval8 t.header.epochs t.header.start8
  instants = all-instants t.header.interval8 t.header.epochs t.header.start8 v.header.clock.start v.header.clock.last

  -- THE LINES OF ITS EPOCHS: they are those of so many epochs, they store its rows, and each ends in its LF.
  pub table-epochs : Carries rules
      (λ (ls : List (List ℕ)). Epochs rules t.header.velocity (table_identifiers t) t.header.interval8 t.header.epochs t.header.start8 ls)
      (rows_of t)
      (epochs_lines t.header.velocity (table_identifiers t) t.header.interval8 t.header.epochs t.header.start8 (rows_of t))
  table-epochs =
      let n = length (table_identifiers t) in
      let w = cell_width t.header.velocity in
      let cells : t.header.epochs * n ≡ cells_in t.header = ap (λ (k : ℕ). t.header.epochs * k) v.identifiers-many ∙ mul_comm t.header.epochs t.header.satellites in
      let size : length (rows_of t) ≡ t.header.epochs * (n * w) = v.rows-many ∙ ap (λ (k : ℕ). k * w) (sym cells) ∙ mul_assoc t.header.epochs n w in
      all-epochs-hold rules t.header.velocity (table_identifiers t) v.identifiers t.header.interval8 t.header.epochs t.header.start8 (rows_of t) instants
      (ap (λ (k : ℕ). rows_valid t.header.velocity k (rows_of t)) cells ∙ v.rows)
      size
