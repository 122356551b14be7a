-- A turn passes a line that is no P line; where none is left, or it is refused or ends the file, the spot is the last.
use Rattle.std.proofs.Common.{◌≡◌, ℕ, List, eqb, get_or, false, sym, subst, ◌∙◌, arith}
use Rattle.header.specs.declared.types.Rules.{Rules}
use Rattle.line_walk.specs.declared.Spot.{Spot}
use Rattle.row_walk.specs.Rows.{spot_past}
use Rattle.row_walk.proofs.Going.{Turn, turn, row_here}
use Rattle.row_walk.proofs.rows.at_row.Goals as goal

turned : (rules : Rules) (file identifiers : List ℕ) (spot next : Spot) → next ≡ spot_past rules file identifiers spot → eqb (get_or file spot.at 0) 80 ≡ false
    → Turn rules file identifiers spot next
turned rules file identifiers spot next is none = subst (λ (p : Spot). Turn rules file identifiers spot p) (sym is) (turn rules file identifiers spot none)

pub returns-then-next-spot : goal.returns-then-next-spot
returns-then-next-spot c =
    let a = c.args in
    let t = turned a.rules a.file.now a.identifiers.now c.loop-rules.spot c.spot_past-next.result c.spot_past-next.ensures (sym c.is_row_at.ensures ∙ c.loop-rules-test.true) in
    t.stays c.if-next-spot.true ∙ c.loop-rules.invariant

pub loop-rules-smaller : goal.loop-rules-smaller
loop-rules-smaller c =
    let a = c.args in
    let t = turned a.rules a.file.now a.identifiers.now c.loop-rules.spot c.spot_past-next.result c.spot_past-next.ensures (sym c.is_row_at.ensures ∙ c.loop-rules-test.true) in
    let nearer = t.nearer c.if-next-spot.false in
    omega (arith, nearer)

pub loop-rules-preserved : goal.loop-rules-preserved
loop-rules-preserved c =
    let a = c.args in
    let t = turned a.rules a.file.now a.identifiers.now c.loop-rules.spot c.spot_past-next.result c.spot_past-next.ensures (sym c.is_row_at.ensures ∙ c.loop-rules-test.true) in
    t.goes c.if-next-spot.false ∙ c.loop-rules.invariant

pub returns : goal.returns
returns c =
    let a = c.args in
    row_here a.rules a.file.now a.identifiers.now c.loop-rules.spot (sym c.is_row_at.ensures ∙ c.loop-rules-test.false) ∙ c.loop-rules.invariant
