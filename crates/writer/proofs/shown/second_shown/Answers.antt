-- `writer::shown::second_shown` meets its contract: an instant of the bounds has a week.
-- Assumes nothing.
use Rattle.std.proofs.Common.{◌≡◌, sym, ap, ◌∙◌, ℕ, Some}
use Rattle.calendar.specs.declared.types.Week.{Week}
use Rattle.std.proofs.lemmas.Option.{same_Some}
use Rattle.writer.proofs.Showing.{weekly, second-read}
use Rattle.writer.proofs.shown.second_shown.Goals as goal

pub unwrap-start-requires : goal.unwrap-start-requires
unwrap-start-requires c = rw (weekly c.args.h.start8 c.week_of.result c.requires c.week_of.ensures.result)

pub returns : goal.returns
returns c =
    let start = same_Some _ _ (sym c.unwrap-start.ensures ∙ weekly c.args.h.start8 c.week_of.result c.requires c.week_of.ensures.result) in
    second-read c.args.h (ap (λ (w : Week). w.week) start) (ap (λ (w : Week). w.second8) start) c.fraction_of.ensures
