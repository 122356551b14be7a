-- Those that are laid behind the known ones are the identifiers that the line brings.
use Rattle.std.proofs.Common.{◌∙◌}
use Rattle.machine.proofs.Stepping.{kept-so}
use Rattle.machine.proofs.step.keep_identifiers.Goals as goal

pub returns : goal.returns
returns c =
    let a = c.args in
    let new = c.front_of.ensures ∙ c.brought_by-brought.ensures in
    let so = kept-so a.rules a.state a.identifiers.now a.line.now _ c.seen_so_far-from.result c.seen_so_far-from.ensures new in
    record { result = c.lay_behind.ensures.result ∙ so.0; lent = c.lay_behind.ensures.lent ∙ so.1 }
