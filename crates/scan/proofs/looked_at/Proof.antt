-- `scan::looked_at` meets its contract.
-- Assumes nothing.
use mathlib.Core.Path.{refl, sym, ◌∙◌}
use borrow.Author.Rules.{rules}
use Rattle.machine.specs.State.{known_identifiers}
use Rattle.scan.proofs.Looked.{all-enough, none-enough, covers-brought}
use Rattle.scan.proofs.looked_at.Statement.{statement}
use Rattle.scan.proofs.looked_at.Tie as tie

returns : tie.Need-returns-then-state-le-FEW
returns c =
    let start = c in
    let a = start.args in
    (all-enough a.rules a.bytes.now a.at a.state a.identifiers.now _ refl, start.requires.1)

returns-2 : tie.Need-returns-then-state-ne-NO_KIND
returns-2 c =
    let start = c in
    let a = start.args in
    (all-enough a.rules a.bytes.now a.at a.state a.identifiers.now _ refl, start.requires.1)

returns-3 : tie.Need-returns-then-end-bytes
returns-3 c =
    let start = c in
    let a = start.args in
    (all-enough a.rules a.bytes.now a.at a.state a.identifiers.now _ refl, start.requires.1)

-- after the line's own identifiers are marked
returns-4 : tie.Need-returns-then-mark_brought
returns-4 c =
    let marking = c in
    let here = c in
    let ended = c in
    let alone = c in
    let start = c in
    let a = start.args in (
      none-enough a.rules a.bytes.now a.at a.state a.identifiers.now a.marks.now ended.line_end-end.result start.requires.0 alone.if-state-ne-NO_KIND.false start.requires.1
          ended.line_end-end.ensures here.if-end-bytes.false (sym c.if-mark_brought.true ∙ marking.mark_brought.ensures.0),
      covers-brought (known_identifiers a.state a.identifiers.now) _ a.marks.now _ start.requires.1 marking.mark_brought.ensures.1,
    )

returns-5 : tie.Need-returns
returns-5 c =
    let marking = c in
    let start = c in
    let a = start.args in (
      all-enough a.rules a.bytes.now a.at a.state a.identifiers.now _ refl,
      covers-brought (known_identifiers a.state a.identifiers.now) _ a.marks.now _ start.requires.1 marking.mark_brought.ensures.1,
    )

pub looked_at_spec : {M : Type 1} → statement M
looked_at_spec =
    tie.close
    (tie.spec
    returns
    returns-2
    (λ c κs. search rules)
    returns-3
    (λ c. search rules)
    (λ c. search rules)
    (λ c. search rules)
    (λ c κs. search rules)
    (λ c. search rules)
    returns-4
    (λ c. search rules)
    returns-5)
