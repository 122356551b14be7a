use Rattle.std.proofs.Common.{◌≡◌, ◌∙◌, ap, sym, Some}
use Rattle.field.specs.Read.{whole_of}
use Rattle.field.specs.Clock.{six_nines}
use Rattle.field.proofs.Told.{told_whole-one}
use Rattle.field.proofs.Clocks.{few_places}
use Rattle.field.proofs.read.bare_clock.Goals as goal

pub all_nines-requires : goal.all_nines-requires
all_nines-requires c =
    let parts = c.in_ok-before in
    let read : whole_of parts.before.now ≡ Some six_nines = sym (told_whole-one _ _ c.whole.ensures.result) ∙ c.in_ok-whole.was ∙ ap Some c.if-branch-ne-SIX_NINES.false in
    few_places c.args.s.now c.args.places parts.before.now parts.after.now parts.ensures read
