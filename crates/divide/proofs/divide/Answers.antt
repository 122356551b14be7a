-- What was counted is stored.
use Rattle.std.proofs.Common.{length, ◌∙◌}
use Rattle.divide.proofs.Cutting.{counted-fits, lengths-given}
use Rattle.divide.proofs.divide.Goals as goal

pub store_lengths-requires : goal.store_lengths-requires
store_lengths-requires c =
    let a = c.args in
    rw c.count_files-division.ensures (counted-fits a.stretch.now (length a.lengths.now))

pub returns : goal.returns
returns c =
    let a = c.args in
    record {
      result = c.count_files-division.ensures;
      lent = c.store_lengths.ensures ∙ rw c.count_files-division.ensures (lengths-given a.stretch.now a.lengths.now);
    }
