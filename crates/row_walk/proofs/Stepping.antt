-- One row of a walk, and its beginning, on plain values.
-- Assumes nothing.
use Rattle.std.proofs.Common.{◌≡◌, ℕ, ◌<◌, ◌≤◌, true, false, List, length, sym, refl, ap, ◌∙◌, arith, length-take, eq-eqb, ne_eqb, le-leb}
use borrow.Author.Tests.{lt-leb}
use Rattle.lines.specs.Lent.{laid}
use Rattle.lines.specs.Lines.{lines_of}
use Rattle.lines.proofs.Laying.{laid-fits}
use Rattle.record.specs.Rows.{row_of}
use Rattle.file.specs.Table.{slots_in}
use Rattle.machine.specs.Step.{line_known}
use Rattle.machine.specs.Told.{told_read}
use Rattle.machine.proofs.Told.{told_read-one}
use Rattle.reader.specs.Reading.{refused_with}
use Rattle.float_row.specs.Floats.{float_row, line_from}
use Rattle.row_walk.specs.Begin.{begun_as, identifiers_begun}
use Rattle.row_walk.specs.Rows.{epoch_of, satellite_of, shown, row_given, row_ahead, step_at, step_from, row_step}
use Rattle.row_walk.specs.Told.{told_step}
use Rattle.header.specs.declared.types.Rules.{Rules}
use Rattle.record.specs.declared.types.Row.{Row}
use Rattle.machine.specs.declared.types.LineRead.{LineRead}
use Rattle.reader.specs.declared.types.Reading.{Reading}
use Rattle.float_row.specs.declared.FloatRow.{FloatRow}
use Rattle.line_walk.specs.declared.Spot.{Spot}
use Rattle.row_walk.specs.declared.types.RowWalk.{RowWalk}
use Rattle.row_walk.specs.declared.types.RowStep.{RowStep}
use Rattle.row_walk.specs.declared.types.RowStep.TheVariants as step

-- a row, with its place or without
module _ (epoch satellite : ℕ) (row : FloatRow) (next : RowWalk) where
  absent-shown : row.place_absent ≡ true → step.Absent epoch satellite row next ≡ shown epoch satellite row next
  unfolding shown
  absent-shown e = rw e

  at-shown : row.place_absent ≡ false → step.At epoch satellite row next ≡ shown epoch satellite row next
  unfolding shown
  at-shown e = rw e

module _ (file : List ℕ) (at n passed : ℕ) (next : RowWalk) (line : List ℕ) (row : Row) (floats : FloatRow) (epoch satellite : ℕ)
    (line-is : line ≡ line_from at file) (row_is : row ≡ row_of false line) (floats-are : floats ≡ float_row row)
    (epoch-is : epoch ≡ epoch_of passed n) (satellite-is : satellite ≡ satellite_of passed n) where
  all_shown : shown epoch satellite floats next ≡ row_given file at n passed next
  all_shown = rw (epoch-is, satellite-is, floats-are, row_is, line-is)

  pub given-absent : floats.place_absent ≡ true → step.Absent epoch satellite floats next ≡ row_given file at n passed next
  given-absent e = absent-shown epoch satellite floats next e ∙ all_shown

  pub given-at : floats.place_absent ≡ false → step.At epoch satellite floats next ≡ row_given file at n passed next
  given-at e = at-shown epoch satellite floats next e ∙ all_shown

-- what the line at the spot of the next row is to the walk
module _ (rules : Rules) (file identifiers : List ℕ) (from : RowWalk) (p : Spot) (p-is : p ≡ row_ahead rules file identifiers from.spot) where
  from-there : step_from rules file identifiers from.passed p ≡ row_step rules file identifiers from
  from-there = ap (step_from rules file identifiers from.passed) p-is

  step-there : step_at file p from.passed (line_known rules file p.at p.state identifiers) ≡ step_from rules file identifiers from.passed p
  unfolding step_from
  step-there = refl

  pub steps-so : (r w : LineRead) (x : RowStep) → told_read r ≡ told_read (line_known rules file p.at p.state identifiers) → r ≡ w
      → x ≡ step_at file p from.passed w → told_step x ≡ told_step (row_step rules file identifiers from)
  steps-so r w x told is so =
      ap told_step
      (so
      ∙ ap (step_at file p from.passed) (sym is ∙ told_read-one r (line_known rules file p.at p.state identifiers) told)
      ∙ step-there
      ∙ from-there)

-- the judgement of a file, and room for its identifiers
module _ (rules : Rules) (r : Reading) (file old : List ℕ) where
  pub refused-begins : (r.refusal ≡ 0 → ⊥) → (r ≡ begun_as r (length old)) × (old ≡ identifiers_begun rules r file old)
  unfolding begun_as identifiers_begun
  refused-begins some = let no = ne_eqb r.refusal 0 some in (rw no, rw no)

  module _ (zero : r.refusal ≡ 0) where
    pub short-begins : length old < r.header.satellites → (refused_with 12 0 0 ≡ begun_as r (length old)) × (old ≡ identifiers_begun rules r file old)
    unfolding begun_as identifiers_begun
    short-begins h =
        let yes = eq-eqb r.refusal 0 zero in
        let short = lt-leb r.header.satellites (length old) h in
        (rw (yes, short), rw (yes, short))

    slots-fit : r.header.satellites ≤ length old → length (slots_in rules false r.header.satellites (lines_of file)) ≤ length old
    unfolding slots_in
    slots-fit h = simp length-take (omega arith)

    pub begins-so : (now : List ℕ) → r.header.satellites ≤ length old → now ≡ laid (slots_in rules false r.header.satellites (lines_of file)) old
        → (r ≡ begun_as r (length old)) × (now ≡ identifiers_begun rules r file old)
    unfolding begun_as identifiers_begun
    begins-so now h e =
        let yes = eq-eqb r.refusal 0 zero in
        let room = le-leb r.header.satellites (length old) h in (
          rw (yes, room),
          rw (yes, room) (e ∙ laid-fits (slots_in rules false r.header.satellites (lines_of file)) old (slots-fit h)),
        )
