-- `sp3::asking::sp3_moment` meets its contract.
-- Assumes nothing.
use mathlib.Core.Path.{ap, ◌∙◌}
use mathlib.Core.List.{List}
use Prim.Native.Nat.{ℕ}
use borrow.Author.Rules.{rules}
use Rattle.calendar.specs.Gregorian.{civil_answer}
use Rattle.calendar.specs.declared.types.Clock.{Clock}
use Rattle.sp3.specs.Doors.{moment_door}
use Rattle.sp3.proofs.asking.sp3_moment.Statement.{statement}
use Rattle.sp3.proofs.asking.sp3_moment.Tie as tie

returns : tie.Need-returns
returns c =
    let clock = c.clock_of-clock in
    c.moment_answer.ensures ∙ ap (λ (t : List ℕ). moment_door t clock.result) c.civil.ensures
    ∙ ap (λ (k : Clock). moment_door (civil_answer k.day) k) clock.ensures

pub sp3_moment_spec : {M : Type 1} → statement M
sp3_moment_spec =
    tie.close
    (tie.spec
    (λ c κs. search rules)
    (λ c κs. search rules)
    (λ c κs. search rules)
    returns)
