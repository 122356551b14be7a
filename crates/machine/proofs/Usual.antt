-- The P line that is due, of the usual kind, leads to the state after it. Assumes nothing.
use Rattle.std.proofs.Common.{◌≡◌, ℕ, true, false, ◌&&◌, eqb, leb, List, length, get_or, sym, ◌∙◌, eqb-true, leb-true}
use Rattle.laws.specs.Texts.{every, is_printable}
use Rattle.laws.proofs.Bools.{and_left, and_right}
use Rattle.layout.specs.Line.{padded}
use Rattle.layout.specs.Kind.{identifier_code}
use Rattle.record.specs.LineKinds.{position_kind, kind_of}
use Rattle.record.specs.Rows.{row_fault, cut}
use Rattle.picture.specs.Picture.{usual}
use Rattle.picture.proofs.Rows.{usual-clean}
use Rattle.picture.proofs.Printed.{usual-printed}
use Rattle.header.specs.declared.types.Rules.{Rules}
use Rattle.record.specs.declared.types.LineKind.TheVariants as kind
use Rattle.machine.specs.State.{identifier_due}
use Rattle.machine.specs.Faults.{named_fault, standing_fault}
use Rattle.machine.specs.Next.{after_position}
use Rattle.machine.specs.Step.{on_key, judged_line, printed_line, step_of}
use Rattle.machine.specs.Usual.{due_row}
use Rattle.machine.specs.declared.types.State.{State}
use Rattle.machine.specs.declared.types.Verdict.TheVariants as verdict
use Rattle.machine.proofs.Stepping.{padded-plain}

module _ (rules : Rules) (s : State) (identifiers line : List ℕ) where
  its-kind : get_or (padded line) 0 0 ≡ 80 → kind_of rules (padded line) ≡ kind.Position
  unfolding kind_of
  its-kind e = rw e

  its-fault : s.due ≡ position_kind → row_fault false (padded line) ≡ 0 → eqb (identifier_code (cut 2 4 (padded line))) (identifier_due s identifiers) ≡ true
      → standing_fault kind.Position rules s identifiers (padded line) ≡ 0
  unfolding standing_fault named_fault
  its-fault due clean named = rw (due, clean, named)

  its-verdict : leb (length line) 80 ≡ true → standing_fault kind.Position rules s identifiers (padded line) ≡ 0
      → printed_line kind.Position rules s identifiers line ≡ verdict.Next (after_position s)
  unfolding printed_line judged_line on_key
  its-verdict short clean = rw (short, clean)

  its-step : every is_printable line ≡ true → kind_of rules (padded line) ≡ kind.Position
      → printed_line kind.Position rules s identifiers line ≡ verdict.Next (after_position s) → verdict.Next (after_position s) ≡ step_of rules s identifiers line
  unfolding step_of
  its-step plain here next = rw (plain, here) (sym next)

  at-padded : due_row s identifiers line (padded line) ≡ true → verdict.Next (after_position s) ≡ step_of rules s identifiers line
  at-padded h =
      let place = and_left (eqb s.due position_kind && leb (length line) 80) _ h in
      let text = and_right (eqb s.due position_kind && leb (length line) 80) _ h in
      let due = eqb-true s.due position_kind (and_left (eqb s.due position_kind) _ place) in
      let short = and_right (eqb s.due position_kind) (leb (length line) 80) place in
      let fits = and_left (usual (padded line)) _ text in
      let named = and_right (usual (padded line)) _ text in
      let printed = usual-printed (padded line) fits in
      let plain = sym (padded-plain line (leb-true (length line) 80 short)) ∙ printed.0 in
      its-step plain (its-kind printed.1) (its-verdict short (its-fault due (usual-clean (padded line) fits) named))

  pub due-row-next : (pad : List ℕ) → pad ≡ padded line → due_row s identifiers line pad ≡ true → verdict.Next (after_position s) ≡ step_of rules s identifiers line
  due-row-next pad e h = at-padded (rw (sym e) h)
