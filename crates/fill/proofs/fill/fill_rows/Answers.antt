-- A turn lays the row of the first line left, where it is one and has room, and what stands directly behind it.
use Rattle.std.proofs.Common.{◌≡◌, ℕ, Bool, ◌||◌, eqb, refl, sym, ap, ◌∙◌, rules, arith}
use Rattle.lines.specs.Lines.{lines_of}
use Rattle.record.specs.Rows.{row_of}
use Rattle.file.proofs.FirstLine.{passed}
use Rattle.fill.proofs.FillingRows.{rows-first, rows_end, rows-full, rows-passed, rows_more}
use Rattle.fill.proofs.fill.fill_rows.Goals as goal

-- a row's two kinds, as the loop tests them
abbrev is_row_kind : ℕ → Bool
is_row_kind kind = eqb kind 10 || eqb kind 11

pub loop-line-init : goal.loop-line-init
loop-line-init c =
    let a = c.args in
    let all : c.into_iter-line-iterator.result.rest ≡ a.bytes = search rules in
    record { behind = rw all refl; filling = rw all (rows-first a.rules a.bytes.now a.out.now) }

-- where the lines behind this one begin
pub overflow_add-behind-in-loop-line : goal.overflow_add-behind-in-loop-line
overflow_add-behind-in-loop-line c =
    let l = c.loop-line in
    let p = passed c.args.bytes.now l.behind c.in-Some.line.now (lines_of c.next.new.self.rest.now) (l.invariant.behind ∙ c.in-Some.ensures.steps) in
    omega (arith, p.within)

pub returns-then-out-stored : goal.returns-then-out-stored
returns-then-out-stored c =
    let a = c.args in
    let l = c.loop-line in
    record { lent = rows-full a.rules a.bytes.now a.out.now l.out (lines_of l.line-iterator.rest.now) l.stored l.invariant.filling c.if-out-stored.true }

pub loop-line-preserved-then-kind : goal.loop-line-preserved-then-kind
loop-line-preserved-then-kind c =
    let a = c.args in
    let l = c.loop-line in
    let line = c.in-Some.line.now in
    let more = lines_of c.next.new.self.rest.now in
    let p = passed a.bytes.now l.behind line more (l.invariant.behind ∙ c.in-Some.ensures.steps) in
    record {
      behind = p.rest;
      filling =
          rows_more a.rules a.bytes.now a.out.now l.out (lines_of l.line-iterator.rest.now) l.stored l.invariant.filling line more c.in-Some.ensures.steps
          (sym (ap is_row_kind c.kind_in-kind.ensures.result) ∙ c.if-kind.true) c.if-out-stored.false
          c.row_of-row.result (c.row_of-row.ensures.result ∙ ap (λ (kind : ℕ). row_of (eqb kind 11) line) c.kind_in-kind.ensures.result)
          (rw p.rest at (c.store_noted.ensures a.rules));
    }

pub loop-line-preserved : goal.loop-line-preserved
loop-line-preserved c =
    let a = c.args in
    let l = c.loop-line in
    let line = c.in-Some.line.now in
    let more = lines_of c.next.new.self.rest.now in
    let p = passed a.bytes.now l.behind line more (l.invariant.behind ∙ c.in-Some.ensures.steps) in
    record {
      behind = p.rest;
      filling =
          rows-passed a.rules a.bytes.now a.out.now l.out (lines_of l.line-iterator.rest.now) l.stored l.invariant.filling line more c.in-Some.ensures.steps
          (sym (ap is_row_kind c.kind_in-kind.ensures.result) ∙ c.if-kind.false);
    }

pub returns : goal.returns
returns c =
    let a = c.args in
    let l = c.loop-line in
    record { lent = rows_end a.rules a.bytes.now a.out.now l.out (lines_of l.line-iterator.rest.now) l.stored l.invariant.filling c.in-None.ensures.steps.0 }
