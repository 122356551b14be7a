-- Nothing is lost in storage: a magnitude within the bound is stored as it is.
-- Assumes nothing.
use mathlib.Core.Path.{◌≡◌}
use mathlib.Core.Bool.{Bool}
use Prim.Native.Nat.{ℕ, ◌≤◌}
use borrow.Author.Tests.{le-leb}
use Rattle.field.specs.Sign.{largest, signed_int}
use Rattle.file.specs.Table.{stored_int}

pub stored_exact : (negative : Bool) (m : ℕ) → m ≤ largest → stored_int negative m ≡ signed_int negative m
unfolding stored_int
stored_exact negative m h = rw (le-leb m largest h)
