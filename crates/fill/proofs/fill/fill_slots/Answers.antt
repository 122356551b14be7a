-- A turn lays the slots of the first line left, where it is of the kind.
use Rattle.std.proofs.Common.{◌≡◌, sym, ap, ◌∙◌, eq-eqb, ne_eqb, rules}
use Rattle.lines.specs.Lines.{lines_of}
use Rattle.file.specs.Table.{slot_line_kind}
use Rattle.fill.proofs.Filling.{filling-other}
use Rattle.fill.proofs.FillingSlots.{slots-first, slots_end, slots-done, slots-more}
use Rattle.fill.proofs.fill.fill_slots.Goals as goal
use Rattle.fill.proofs.fill.fill_slots.Goals.{then-accuracies, else-accuracies}

pub loop-line-init : goal.loop-line-init
loop-line-init c =
    let a = c.args in
    let all : c.into_iter-line-iterator.result.rest ≡ a.bytes = search rules in
    rw all
    (slots-first a.rules a.accuracies c.if-accuracies.kind a.n (lines_of a.bytes.now) a.out.now
    (elim c.if-accuracies.branch [
      | then-accuracies w ↦ w.kind-is ∙ sym (ap slot_line_kind w.if-accuracies.true)
      | else-accuracies w ↦ w.kind-is ∙ sym (ap slot_line_kind w.if-accuracies.false)
    ]))

pub returns-then-left-out : goal.returns-then-left-out
returns-then-left-out c =
    let same = eq-eqb _ c.if-accuracies.kind (sym c.kind_in.ensures.result ∙ c.if-kind_in-kind.true) in
    record {
      lent = slots-done c.args.accuracies c.loop-line.invariant c.in-Some.line.now (lines_of c.next.new.self.rest.now) c.in-Some.ensures.steps same c.lay_slots.ensures c.if-left-out.true;
    }

pub loop-line-preserved-then-kind_in-kind : goal.loop-line-preserved-then-kind_in-kind
loop-line-preserved-then-kind_in-kind c =
    let same = eq-eqb _ c.if-accuracies.kind (sym c.kind_in.ensures.result ∙ c.if-kind_in-kind.true) in
    slots-more c.args.accuracies c.loop-line.invariant c.in-Some.line.now (lines_of c.next.new.self.rest.now) c.in-Some.ensures.steps same c.lay_slots.ensures c.if-left-out.false

pub loop-line-preserved : goal.loop-line-preserved
loop-line-preserved c =
    let other = ne_eqb _ c.if-accuracies.kind (λ e. c.if-kind_in-kind.false (c.kind_in.ensures.result ∙ e)) in
    filling-other c.loop-line.invariant c.in-Some.line.now (lines_of c.next.new.self.rest.now) c.in-Some.ensures.steps other

pub returns : goal.returns
returns c = record { lent = slots_end c.args.accuracies c.loop-line.invariant c.in-None.ensures.steps.0 }
