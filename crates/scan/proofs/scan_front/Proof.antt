-- `scan::scan_front` meets its contract. The loop's invariant and its turn are in `Turn`.
-- Assumes nothing.
use mathlib.Core.List.{List}
use mathlib.Core.Path.{◌≡◌, refl, ◌∙◌, sym, ap, subst}
use Prim.Native.Nat.{ℕ, ◌-◌}
use native.Mathlib.Nat.{sub-zero}
use borrow.Author.Rules.{rules}
use lib.ListN.{length, take, drop}
use Rattle.machine.specs.declared.types.LineRead.{LineRead}
use Rattle.machine.proofs.Told.{told_read-one}
use Rattle.scan.specs.Told.{told_front}
use Rattle.marks.specs.Marks.{marks_many, Covers}
use Rattle.marks.proofs.Marking.{none-covered, covers-front}
use Rattle.machine.specs.State.{seen, known_identifiers}
use Rattle.machine.specs.Step.{identifiers_brought, line_known}
use Rattle.scan.proofs.Looked.{Looked, looked-due, looked-else, covers-on}
use Rattle.scan.proofs.Turn.{Going, going-first, Turned, turned, brought-so, none-brought, no_overflow}
use Rattle.scan.proofs.scan_front.Statement.{statement}
use Rattle.scan.proofs.scan_front.Lts.{then-state-eq-SATELLITES_KIND, else-state-eq-SATELLITES_KIND, then-state-eq-SATELLITES_KIND-2, else-state-eq-SATELLITES_KIND-2}
use Rattle.scan.proofs.scan_front.Tie as tie

abbrev invariant-loop : tie.invariant-loop-state
invariant-loop rules bytes identifiers₀ marks₀ marked₀ state₀ tally₀ identifiers marks marked state tally =
    Going rules bytes identifiers state tally × Covers (take marked identifiers) marks × (length marks ≡ marks_many)

abbrev decreases-loop : tie.decreases-loop-state
decreases-loop rules bytes identifiers₀ marks₀ marked₀ state₀ tally₀ identifiers marks marked state tally = length bytes - tally.end

loop-holds : tie.Need-loop-state-init invariant-loop decreases-loop
loop-holds c =
    let a = c.args in
    (going-first a.rules a.bytes.now c.start-state.result c.nothing_seen-tally.result c.start-state.ensures c.nothing_seen-tally.ensures, none-covered _, refl)

-- where a `+ ` line is due, those known are marked
marked-known : (c : tie.After-mark_known-marked invariant-loop decreases-loop)
    → let here = c.before.before.before.before.before.before in
    Covers (known_identifiers here.loop-state.state here.loop-state.identifiers) c.mark_known-marked.new.marks
marked-known c =
    let here = c.before.before.before.before.before.before in
    subst (λ (m : List ℕ). Covers (known_identifiers here.loop-state.state here.loop-state.identifiers) m) (sym c.mark_known-marked.ensures.1)
    (covers-front here.loop-state.marked (seen here.loop-state.state) here.loop-state.identifiers here.loop-state.marks here.loop-state.invariant.1)

-- before the line is read: enough of the identifiers, and the marks
looked : (c : tie.Joined-state-eq-SATELLITES_KIND invariant-loop decreases-loop)
    → let here = c.before.before.before in
    let a = here.args in
    Looked a.rules a.bytes.now here.loop-state.tally.end here.loop-state.identifiers c.if-state-eq-SATELLITES_KIND.marks c.if-state-eq-SATELLITES_KIND.marked here.loop-state.state c.if-state-eq-SATELLITES_KIND.many
looked c =
    let here = c.before.before.before in
    let a = here.args in
    elim c.if-state-eq-SATELLITES_KIND.branch [
      | then-state-eq-SATELLITES_KIND w ↦
          looked-due a.rules a.bytes.now here.loop-state.tally.end here.loop-state.identifiers here.loop-state.state _ c.if-state-eq-SATELLITES_KIND.marks c.if-state-eq-SATELLITES_KIND.marked _ c.if-state-eq-SATELLITES_KIND.many
          w.looked_at-many.ensures.0 w.looked_at-many.ensures.1 w.marks-is (w.marked-is ∙ w.mark_known-marked.ensures.0) w.many-is
      | else-state-eq-SATELLITES_KIND w ↦
          looked-else a.rules a.bytes.now here.loop-state.tally.end here.loop-state.identifiers here.loop-state.state here.loop-state.marks c.if-state-eq-SATELLITES_KIND.marks here.loop-state.marked c.if-state-eq-SATELLITES_KIND.marked
          c.if-state-eq-SATELLITES_KIND.many w.if-state-eq-SATELLITES_KIND.false here.loop-state.invariant.1 w.marks-is w.marked-is (w.many-is ∙ sym here.loop-state.invariant.0.size)
    ]

-- as many marks as before
marks-many : (c : tie.Joined-state-eq-SATELLITES_KIND invariant-loop decreases-loop) → length c.if-state-eq-SATELLITES_KIND.marks ≡ marks_many
marks-many c =
    let many = c.loop-state.invariant.2 in
    elim c.if-state-eq-SATELLITES_KIND.branch [
      | then-state-eq-SATELLITES_KIND w ↦ ap length w.marks-is ∙ w.looked_at-many.auto.marks ∙ w.mark_known-marked.auto.marks ∙ many
      | else-state-eq-SATELLITES_KIND w ↦ ap length w.marks-is ∙ many
    ]

-- where the line has been read
after_read : (c : tie.After-line_known invariant-loop decreases-loop) (w : LineRead) → c.line_known.result ≡ w
    → let here = c.before.before.before.before.before.before.before in
    let a = here.args in
    Turned a.rules a.bytes.now here.loop-state.identifiers here.loop-state.state here.loop-state.tally w
after_read c w e =
    let joined = c in
    let here = joined.before.before.before in
    let a = here.args in
    turned a.rules a.bytes.now here.loop-state.identifiers here.loop-state.state here.loop-state.tally here.loop-state.invariant.0
    c.line_known.result w (told_read-one _ _ c.line_known.ensures
    ∙ ap (λ (n : ℕ). line_known a.rules a.bytes.now here.loop-state.tally.end here.loop-state.state (take n here.loop-state.identifiers)) (sub-zero joined.if-state-eq-SATELLITES_KIND.many)
    ∙ (looked c.before.before.before.before).enough.same) e

returns : tie.Need-returns-in-NoLine invariant-loop decreases-loop
returns c = ap told_front (c.refused.ensures ∙ after_read c.before.before _ c.in-NoLine.is)

returns-2 : tie.Need-returns-in-Fault invariant-loop decreases-loop
returns-2 c = let known = c in ap told_front (c.refused-in-Fault.ensures ∙ after_read c.before.before _ known.in-Fault.is)

returns-3 : tie.Need-returns-in-Finished invariant-loop decreases-loop
returns-3 c =
    let known = c in
    ap told_front ((after_read c.before.before.before _ known.in-Finished.is).finished c.count_line.result c.count_line.ensures)

-- no count can overflow, since there are no more lines than bytes
counts : tie.Need-count_line-tally-requires invariant-loop decreases-loop
counts c κs =
    let known = c in
    let here = c in
    let a = here.args in
    let p = after_read c.before.before.before.before _ known.in-Next.is in
    no_overflow a.rules a.bytes.now here.loop-state.identifiers here.loop-state.state here.loop-state.tally here.loop-state.invariant.0 known.in-Next.end p.starts p.within
    (search rules)

loop-less : tie.Need-loop-state-smaller invariant-loop decreases-loop
loop-less c =
    let known = c in
    (after_read c.before.before.before.before.before _ known.in-Next.is).falls c.count_line-tally.result c.count_line-tally.ensures

-- the identifiers that the line brings are kept, where a `+ ` line was due
loop-again : tie.Need-loop-state-preserved invariant-loop decreases-loop
loop-again c =
    let kept = c in
    let known = c in
    let joined = c in
    let here = c in
    let a = here.args in
    let text = take (known.in-Next.end - 1 - here.loop-state.tally.end) (drop here.loop-state.tally.end a.bytes.now) in
    let brought : kept.if-state-eq-SATELLITES_KIND-2.identifiers ≡ identifiers_brought a.rules here.loop-state.state here.loop-state.identifiers text =
    elim kept.if-state-eq-SATELLITES_KIND-2.branch [
      | then-state-eq-SATELLITES_KIND-2 w ↦ w.identifiers-is ∙ brought-so a.rules here.loop-state.state here.loop-state.identifiers text _ w.if-state-eq-SATELLITES_KIND-2.true w.keep_identifiers.ensures.1
      | else-state-eq-SATELLITES_KIND-2 w ↦ w.identifiers-is ∙ none-brought a.rules here.loop-state.state here.loop-state.identifiers text w.if-state-eq-SATELLITES_KIND-2.false
    ] in (
      (after_read c.before.before.before.before.before _ known.in-Next.is).goes_on kept.if-state-eq-SATELLITES_KIND-2.identifiers c.count_line-tally.result brought c.count_line-tally.ensures,
      covers-on a.rules a.bytes.now here.loop-state.tally.end here.loop-state.identifiers joined.if-state-eq-SATELLITES_KIND.marks joined.if-state-eq-SATELLITES_KIND.marked here.loop-state.state joined.if-state-eq-SATELLITES_KIND.many
          (looked c.before.before.before.before.before.before.before.before.before) text kept.if-state-eq-SATELLITES_KIND-2.identifiers brought,
      marks-many c.before.before.before.before.before.before.before.before.before,
    )

pub scan_front_spec : {M : Type 1} → statement M
scan_front_spec =
    tie.close
    (tie.spec
    invariant-loop
    decreases-loop
    (λ c κs. search rules)
    (λ c κs. search rules)
    loop-holds
    (λ c. let g = c.loop-state.invariant.0 in search rules)
    (λ c. search rules)
    (λ c. search rules)
    (λ c κs. search rules)
    (λ c. search rules)
    (λ c. search rules)
    (λ c κs. let known = c.before.before.before in (known.if-state-eq-SATELLITES_KIND.true, marked-known known))
    (λ c. search rules)
    (λ c. search rules)
    (λ c. search rules)
    (λ c. let p = (looked c.before.before).enough.few in search rules)
    (λ c κs. search rules)
    (λ c. search rules)
    (λ c κs. search rules)
    returns
    (λ c. search rules)
    (λ c κs. search rules)
    returns-2
    (λ c. search rules)
    (λ c. let p = after_read c.before _ c.in-Finished.is in search rules)
    (λ c. let p = after_read c.before _ c.in-Finished.is in search rules)
    (λ c. let p = after_read c.before _ c.in-Finished.is in search rules)
    (λ c. let p = after_read c.before _ c.in-Finished.is in search rules)
    (λ c κs. let p = after_read c.before.before _ c.in-Finished.is in search rules)
    returns-3
    (λ c. search rules)
    (λ c. let p = after_read c.before _ c.in-Next.is in search rules)
    (λ c. let p = after_read c.before _ c.in-Next.is in search rules)
    (λ c. let p = after_read c.before _ c.in-Next.is in search rules)
    (λ c. let p = after_read c.before _ c.in-Next.is in search rules)
    (λ c. search rules)
    (λ c κs. search rules)
    counts
    loop-less
    loop-again)
