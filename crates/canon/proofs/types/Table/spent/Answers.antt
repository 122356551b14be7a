use Rattle.std.proofs.Common.{sym, ap, ◌∙◌, Bool, refl, arith}
use Rattle.canon.specs.Valid.{counts_hold}
use Rattle.canon.specs.Measured.{form_length}
use Rattle.canon.specs.Spent.{spent, lent_table}
use Rattle.canon.proofs.Counting.{long}
use Rattle.canon.proofs.Answers.{uncounted, no-slots, by-lines}
use Rattle.canon.proofs.types.Table.spent.Goals as goal

pub returns-then-not-counts_hold : goal.returns-then-not-counts_hold
returns-then-not-counts_hold c =
    let none = uncounted c.args.rules (lent_table c.args.self) (sym c.counts_hold.ensures ∙ c.if-not-counts_hold.true) in
    rw none refl

pub slots_valid-requires : goal.slots_valid-requires
unfolding counts_hold
slots_valid-requires c =
    let l = long c.args.rules c.args.self.header _ _ _ _ (sym c.counts_hold.ensures ∙ c.if-not-counts_hold.false) in
    (l.named, l.weighed)

pub returns-then-not-slots_valid : goal.returns-then-not-slots_valid
returns-then-not-slots_valid c =
    let none = no-slots c.args.rules (lent_table c.args.self) (sym c.slots_valid.ensures ∙ c.if-not-slots_valid.true) in
    rw none refl

pub lines_spent-requires : goal.lines_spent-requires
unfolding counts_hold
lines_spent-requires c =
    let l = long c.args.rules c.args.self.header _ _ _ _ (sym c.counts_hold.ensures ∙ c.if-not-counts_hold.false) in
    (l.said, l.placed, omega (arith, l.named), l.few)

pub returns : goal.returns
returns c =
    let t = lent_table c.args.self in
    c.lines_spent.ensures
    ∙ ap (λ (b : Bool). spent b c.args.room (form_length t))
    (by-lines c.args.rules t (sym c.counts_hold.ensures ∙ c.if-not-counts_hold.false) (sym c.slots_valid.ensures ∙ c.if-not-slots_valid.false))
