-- Powers of ten: a number has at most n digits where it is below 10 ^ n.
use Rattle.std.specs.Prelude.{cond, ℕ, ◌^◌, leb}
use Rattle.field.specs.Digits.{widest}

-- 10 to the n, for as many digits as a field has; above that 0
unfoldable pub ten_to : ℕ → ℕ
ten_to n = cond (leb n widest) (10 ^ n) 0
