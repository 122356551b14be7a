-- The identifiers of the header are laid over the first places of the list.
use Rattle.std.proofs.Common.{false, replicate, sym, ap, ◌∙◌, arith}
use Rattle.header.specs.Rules.{max_satellites}
use Rattle.lines.specs.Lent.{laid}
use Rattle.lines.specs.Lines.{lines_of}
use Rattle.file.specs.Table.{slots_in}
use Rattle.reader.specs.Reading.{identifiers_of}
use Rattle.questions.specs.Questions.{satellite_in}
use Rattle.questions.proofs.Asking.{first-identifiers}
use Rattle.questions.proofs.satellites.satellite_among.Goals as goal

pub returns : goal.returns
returns c =
    let a = c.args in
    let lines = lines_of a.bytes.now in
    let none = replicate max_satellites 0 in
    let n = c.count_of-n.ensures.result in
    let filled = c.fill_slots.ensures.lent ∙ ap (λ n. laid (slots_in a.rules false n lines) none) n in
    let named = first-identifiers (identifiers_of a.rules lines) none _ filled (omega (arith, c.requires.0, c.requires.1)) _ (n ∙ sym c.requires.0) in
    c.satellite_in.ensures ∙ ap (satellite_in a.identifier) named
