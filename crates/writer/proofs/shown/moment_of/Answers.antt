-- `writer::shown::moment_of` meets its contract: an instant of the bounds has a date.
-- Assumes nothing.
use Rattle.std.proofs.Common.{◌≡◌, sym, ◌∙◌, ℕ, Some}
use Rattle.canon.specs.Canonical.{moment_of}
use Rattle.std.proofs.lemmas.Option.{same_Some}
use Rattle.writer.proofs.Showing.{named}
use Rattle.writer.proofs.shown.moment_of.Goals as goal

pub unwrap-date-requires : goal.unwrap-date-requires
unwrap-date-requires c = rw (named c.args.at8 c.clock_of-clock.result c.civil.result c.requires c.clock_of-clock.ensures.result c.civil.ensures.result)

pub returns : goal.returns
unfolding moment_of
returns c =
    let date = same_Some _ _
    (sym c.unwrap-date.ensures ∙ named c.args.at8 c.clock_of-clock.result c.civil.result c.requires c.clock_of-clock.ensures.result c.civil.ensures.result) in
    rw (date, c.clock_of-clock.ensures.result)
