-- `machine::step::brought_by` meets its contract: the first line with identifiers, or a further one.
-- Assumes nothing.
use Rattle.std.proofs.Common.{take, ap, ◌∙◌, rules}
use Rattle.record.specs.declared.types.Satellites.{Satellites}
use Rattle.record.specs.declared.types.Slots.{Slots}
use Rattle.machine.specs.State.{identifiers_in}
use Rattle.machine.proofs.Stepping.{first-identifiers, further-identifiers}
use Rattle.machine.proofs.step.brought_by.Statement.{statement}
use Rattle.machine.proofs.step.brought_by.Tie as tie

returns : tie.Need-returns-then-state-eq0
returns c =
    let reading = c in
    let first = c in
    let pad = c in
    let a = pad.args in
    first-identifiers a.rules a.state pad.pad-padded.result _ first.if-state-eq0.true (ap (λ (x : Satellites). take x.count x.identifiers) reading.read_satellites-first.ensures)
    ∙ ap (identifiers_in a.rules a.state) pad.pad-padded.ensures

returns-2 : tie.Need-returns
returns-2 c =
    let reading = c in
    let further = c in
    let pad = c in
    let a = pad.args in
    further-identifiers a.rules a.state pad.pad-padded.result _ further.if-state-eq0.false (ap (λ (x : Slots). take a.state.left x.values) reading.read_slots-more.ensures)
    ∙ ap (identifiers_in a.rules a.state) pad.pad-padded.ensures

pub brought_by_spec : {M : Type 1} → statement M
brought_by_spec = tie.close (tie.spec (λ c κs. search rules) (λ c κs. search rules) returns (λ c κs. search rules) returns-2)
