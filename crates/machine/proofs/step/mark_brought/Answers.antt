-- Those that are marked are the identifiers that the line brings.
use Rattle.std.proofs.Common.{ap, ◌∙◌}
use Rattle.marks.specs.Marks.{all_new, marked_all}
use Rattle.machine.proofs.step.mark_brought.Goals as goal

pub returns : goal.returns
returns c =
    let marks = c.args.marks.now in
    let new = c.front_of.ensures ∙ c.brought_by-brought.ensures in
    record { result = c.mark_identifiers.ensures.result ∙ ap (all_new marks) new; lent = c.mark_identifiers.ensures.lent ∙ ap (λ l. marked_all l marks) new }
