-- `writer::shown::fraction_of` meets its contract: a time of day has a fraction.
-- Assumes nothing.
use Rattle.std.proofs.Common.{◌≡◌, sym, ◌∙◌, ℕ, Some}
use Rattle.std.proofs.lemmas.Option.{same_Some}
use Rattle.writer.proofs.Showing.{fractional}
use Rattle.writer.proofs.shown.fraction_of.Goals as goal

pub unwrap-requires : goal.unwrap-requires
unwrap-requires c = rw (fractional c.args.time c.fraction_of.result c.requires c.fraction_of.ensures.result)

pub returns : goal.returns
returns c = same_Some _ _ (sym c.unwrap.ensures ∙ fractional c.args.time c.fraction_of.result c.requires c.fraction_of.ensures.result)
