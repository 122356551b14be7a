-- A turn lays the text of the first line left, where it is a comment.
use Rattle.std.proofs.Common.{◌≡◌, refl, sym, map, take, ◌∙◌, eq-eqb, ne_eqb, rules, arith}
use Rattle.lines.specs.Lent.{flat}
use Rattle.lines.specs.Lines.{lines_of}
use Rattle.record.specs.LineKinds.{comment_kind}
use Rattle.file.specs.Kinds.{is_kind, of_kind}
use Rattle.file.specs.Table.{comment_text}
use Rattle.fill.proofs.Filling.{filling-first, filling-other, parts_left}
use Rattle.fill.proofs.FillingComments.{no-comments, comments-end, comments-done, comments-more}
use Rattle.fill.proofs.fill.fill_comments.Goals as goal

pub returns-then-count-eq0 : goal.returns-then-count-eq0
returns-then-count-eq0 c =
    let a = c.args in
    record { lent = no-comments a.count (of_kind a.rules comment_kind (lines_of a.bytes.now)) a.out.now c.if-count-eq0.true }

pub loop-line-init : goal.loop-line-init
loop-line-init c =
    let a = c.args in
    let all : c.into_iter-line-iterator.result.rest ≡ a.bytes = search rules in
    let comments = flat (map comment_text (take a.count (of_kind a.rules comment_kind (lines_of a.bytes.now)))) in
    record { some = omega arith; filling = rw all (filling-first (is_kind a.rules comment_kind) (parts_left comment_text) comments a.out.now (lines_of a.bytes.now) a.count refl) }

pub returns-then-left-out : goal.returns-then-left-out
returns-then-left-out c =
    let inv = c.loop-line.invariant in
    let same = eq-eqb _ 8 (sym c.kind_in.ensures.result ∙ c.if-kind_in-eq-COMMENT_KIND.true) in
    record { lent = comments-done inv.filling c.in-Some.line.now (lines_of c.next.new.self.rest.now) c.in-Some.ensures.steps same inv.some c.lay_comment.ensures c.if-left-out.true }

pub loop-line-preserved-then-kind_in-eq-COMMENT_KIND : goal.loop-line-preserved-then-kind_in-eq-COMMENT_KIND
loop-line-preserved-then-kind_in-eq-COMMENT_KIND c =
    let inv = c.loop-line.invariant in
    let same = eq-eqb _ 8 (sym c.kind_in.ensures.result ∙ c.if-kind_in-eq-COMMENT_KIND.true) in
    let both = comments-more inv.filling c.in-Some.line.now (lines_of c.next.new.self.rest.now) c.in-Some.ensures.steps same inv.some c.lay_comment.ensures c.if-left-out.false in
    record { some = both.0; filling = both.1 }

pub loop-line-preserved : goal.loop-line-preserved
loop-line-preserved c =
    let inv = c.loop-line.invariant in
    let other = ne_eqb _ 8 (λ e. c.if-kind_in-eq-COMMENT_KIND.false (c.kind_in.ensures.result ∙ e)) in
    record { some = inv.some; filling = filling-other inv.filling c.in-Some.line.now (lines_of c.next.new.self.rest.now) c.in-Some.ensures.steps other }

pub returns : goal.returns
returns c = record { lent = comments-end c.loop-line.invariant.filling c.in-None.ensures.steps.0 }
