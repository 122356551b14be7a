-- A turn passes the first of the lines that are left, which is of the kind and the one asked for, of the kind, or of another.
use Rattle.std.proofs.Common.{◌≡◌, ◌+◌, ◌≤◌, length, sym, ◌∙◌, refl, eq-eqb, ne_eqb, rules, arith}
use Rattle.lines.specs.Lines.{lines_of, bytes_in, begins_from}
use Rattle.file.specs.Kinds.{is_kind}
use Rattle.file.proofs.Finding.{lines-within}
use Rattle.file.proofs.Seeking.{begins-here, begins-later, begins-other, bytes-one}
use Rattle.file.proofs.line_begins.Goals as goal
use Rattle.file.proofs.line_begins.Goals.{then-kind_in-kind+else-left-eq0, else-kind_in-kind}

pub loop-line-init : goal.loop-line-init
loop-line-init c =
    let all : c.into_iter-line-iterator.result.rest ≡ c.args.bytes = search rules in
    record { same = rw all refl; within = rw all (omega (arith, lines-within c.args.bytes.now)) }

pub returns-then-left-eq0 : goal.returns-then-left-eq0
returns-then-left-eq0 c =
    let a = c.args in
    let first = c.in-Some.ensures.steps in
    let same = c.loop-line.invariant.same in
    let here = begins-here (is_kind a.rules a.kind) c.loop-line.at c.in-Some.line.now (lines_of c.next.new.self.rest.now) c.loop-line.left
    (eq-eqb _ a.kind (sym c.kind_in.ensures.result ∙ c.if-kind_in-kind.true)) c.if-left-eq0.true in
    record { result = sym here ∙ (rw first at same) }

pub loop-line-preserved : goal.loop-line-preserved
loop-line-preserved c =
    let a = c.args in
    let l = c.loop-line in
    let more = lines_of c.next.new.self.rest.now in
    let first = c.in-Some.ensures.steps in
    let same = rw first at l.invariant.same in
    let left : bytes_in (lines_of l.line-iterator.rest.now) ≡ length c.in-Some.line.now + 1 + bytes_in more = rw first (bytes-one c.in-Some.line.now more) in
    let within : l.at + (length c.in-Some.line.now + 1) + bytes_in more ≤ length a.bytes.now = omega (arith, l.invariant.within, left) in
    elim c.if-kind_in-kind.branch [
      | then-kind_in-kind+else-left-eq0 w ↦
          record {
            same =
                rw w.left-is
                (sym (begins-later (is_kind a.rules a.kind) l.at c.in-Some.line.now more l.left
                (eq-eqb _ a.kind (sym c.kind_in.ensures.result ∙ w.if-kind_in-kind.true)) w.if-left-eq0.false) ∙ same);
            within = within;
          }
      | else-kind_in-kind w ↦
          record {
            same =
                rw w.left-is
                (sym (begins-other (is_kind a.rules a.kind) l.at c.in-Some.line.now more l.left
                (ne_eqb _ a.kind (λ e. w.if-kind_in-kind.false (c.kind_in.ensures.result ∙ e)))) ∙ same);
            within = within;
          }
    ]

pub returns : goal.returns
unfolding begins_from
returns c =
    let none = c.in-None.ensures.steps in
    record { result = rw none.0 at c.loop-line.invariant.same }
