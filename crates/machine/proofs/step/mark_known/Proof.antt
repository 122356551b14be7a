-- `machine::step::mark_known` meets its contract.
-- Assumes nothing.
use Rattle.std.proofs.Common.{ℕ, List, drop, sym, ap, ◌∙◌, rules}
use Rattle.laws.proofs.Lists.{rest_part, rest-none}
use Rattle.marks.specs.Marks.{marked_all}
use Rattle.machine.proofs.Stepping.{known-front}
use Rattle.machine.proofs.step.mark_known.Statement.{statement}
use Rattle.machine.proofs.step.mark_known.Tie as tie

returns : tie.Need-returns-then-marked-known
returns c =
    let marking = c in
    let known = c in
    let many = c in
    let a = many.args in
    let so = known-front a.state a.identifiers.now _ many.seen_so_far-many.result many.seen_so_far-many.ensures known.front_of-known.ensures in
    (many.seen_so_far-many.ensures, marking.mark_identifiers.ensures.1 ∙ ap (λ (l : List ℕ). marked_all l a.marks.now) (rest_part _ a.marked ∙ ap (drop a.marked) so))

returns-2 : tie.Need-returns-else-marked-known
unfolding marked_all
returns-2 c =
    let known = c in
    let many = c in
    let a = many.args in
    let so = known-front a.state a.identifiers.now _ many.seen_so_far-many.result many.seen_so_far-many.ensures known.front_of-known.ensures in
    (many.seen_so_far-many.ensures, sym (ap (λ (l : List ℕ). marked_all l a.marks.now) (sym (ap (drop a.marked) so) ∙ rest-none _ a.marked c.if-marked-known.false)))

pub mark_known_spec : {M : Type 1} → statement M
mark_known_spec =
    tie.close
    (tie.spec
    (λ c κs. search rules)
    (λ c κs. search rules)
    (λ c. search rules)
    (λ c. search rules)
    (λ c. search rules)
    (λ c. search rules)
    (λ c κs. search rules)
    (λ c. search rules)
    returns
    returns-2)
