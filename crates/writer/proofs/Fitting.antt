-- What a valid table says of its times and of the lengths of its lists.
-- Assumes nothing.
use mathlib.Core.Path.{◌≡◌, sym, ap, ◌∙◌}
use mathlib.Core.Bool.{true}
use Prim.Native.Nat.{ℕ, ◌*◌, ◌≤◌}
use native.Mathlib.Nat.{mul_comm, mul_assoc}
use lib.ListN.{length}
use lib.Seq.{length-take-le}
use Rattle.record.specs.Plain.{comment_width}
use Rattle.header.specs.declared.types.Rules.{Rules}
use Rattle.canon.specs.Table.{Table, cell_width, cells_in, table_identifiers, rows_of}
use Rattle.canon.specs.Valid.{times_valid, valid}
use Rattle.canon.proofs.Counting.{cells_fit}
use Rattle.canon.proofs.Parts.{parts}

pub record Fitting (t : Table) : Type 0 where
  pub times : times_valid t.header ≡ true
  pub listed : t.header.satellites ≤ length t.identifiers
  pub exponents : t.header.satellites ≤ length t.exponents
  pub comments : t.header.comments * comment_width ≤ length t.comments
  pub cells : cells_in t.header ≤ length t.rows
  pub rows : cells_in t.header * cell_width t.header.velocity ≤ length t.rows

pub valid-fits : (rules : Rules) (t : Table) → valid rules t ≡ true → Fitting t
valid-fits rules t e =
    let p = parts rules t e in
    record {
      times = p.header.times;
      listed = p.lists.named;
      exponents = p.lists.weighed;
      comments = p.lists.said;
      cells = cells_fit (cells_in t.header) (length t.rows) t.header.velocity p.lists.placed;
      rows = p.lists.placed;
    }

-- so many numbers are those of each epoch
by-epochs : (n epochs width : ℕ) → n * epochs * width ≡ epochs * (n * width)
by-epochs n epochs width = ap (λ (k : ℕ). k * width) (mul_comm n epochs) ∙ mul_assoc epochs n width

pub many-rows : (t : Table) → Fitting t
    → length (rows_of t) ≡ t.header.epochs * (length (table_identifiers t) * cell_width t.header.velocity)
many-rows t f =
    let w = cell_width t.header.velocity in
    length-take-le (cells_in t.header * w) t.rows f.rows
    ∙ by-epochs t.header.satellites t.header.epochs w
    ∙ ap (λ (n : ℕ). t.header.epochs * (n * w)) (sym (length-take-le t.header.satellites t.identifiers f.listed))
