-- The bytes that `all` lends are as many as their type says, by a law, since to count them costs too much.
use Rattle.std.proofs.Common.{ℕ, sym}
use lib.ListN.{length-replicate}
use Rattle.cases_tables.proofs.input.all.Goals as goal

pub slice_bounds-taken-end : goal.slice_bounds-taken-end
slice_bounds-taken-end g c = sym (length-replicate {0} {A = ℕ} 1_000_000 0)
