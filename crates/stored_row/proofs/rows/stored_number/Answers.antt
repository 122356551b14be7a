-- `stored_row::rows::stored_number` meets its contract: the value that is answered, and 0 where there is none.
-- Assumes nothing.
use Rattle.std.proofs.Common.{◌≡◌, refl, ℕ, Bool, Option, Some, None, unwrap_or, ◌∙◌}
use lib.IntN.{ℤ, pos}
use Rattle.field.specs.Sign.{told_number, number_answer}
use Rattle.file.specs.Table.{stored_int}
use Rattle.stored_row.proofs.Storing.{stored_is, stored-none, stored-kept}
use Rattle.stored_row.proofs.rows.stored_number.Goals as goal

-- the value, or 0
read : (negative : Bool) (m : ℕ) (r : Option ℤ) → told_number r ≡ number_answer negative m → unwrap_or r (pos 0) ≡ stored_int negative m
read negative m (Some v) e = stored_is negative m (Some v) e v refl
read negative m None e = stored-none negative m None e refl

pub returns : goal.returns
returns c =
    let a = c.args in
    let is = c.unwrap_or.ensures ∙ read a.negative a.magnitude c.number.result c.number.ensures.result in
    record { result = stored-kept a.negative a.magnitude is }
