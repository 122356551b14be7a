-- Rules whose bounds lie within those of others. 02, Ask 6: "Take 999, as document 000 does"; what was valid and accepted by the narrower bounds stays so
-- by the wider.
use Rattle.std.specs.Prelude.{◌≤◌}
use Rattle.header.specs.declared.types.Rules.{Rules}

pub record Within (r s : Rules) : Type 0 where
  pub satellites : r.most_satellites ≤ s.most_satellites
  pub fewest : s.fewest_comments ≤ r.fewest_comments
  pub most : r.most_comments ≤ s.most_comments
  pub columns : r.comment_columns ≤ s.comment_columns
