-- The lengths of the files before the rest are stored.
use Rattle.std.proofs.Common.{◌≡◌, length}
use Rattle.divide.proofs.Cutting.{Storing}
use Rattle.divide.proofs.store_lengths.Given as goal

abbrev pub invariant-loop-stored : goal.invariant-loop-stored
invariant-loop-stored l = record {
  kept : length l.lengths ≡ length l.fn.lengths;
  storing : Storing l.stretch l.fn.lengths l.lengths l.stored l.rest;
}
