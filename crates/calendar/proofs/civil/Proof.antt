-- `calendar::civil` meets its contract: the closed form is a day of the calendar with this MJD, and there is one such day.
-- Assumes nothing.
use mathlib.Core.Bool.{true}
use mathlib.Core.Path.{◌≡◌, refl, sym, ◌∙◌}
use Prim.Native.Nat.{◌-◌, ◌≤◌}
use native.Mathlib.Omega.{arith}
use borrow.Author.Rules.{rules}
use Rattle.laws.specs.Tests.{within}
use Rattle.calendar.specs.Gregorian.{told_named}
use Rattle.laws.proofs.Bounds.{within-true}
use Rattle.calendar.proofs.Days.{year-day, date-closed, outside, inside}
use Rattle.calendar.proofs.civil.Statement.{statement}
use Rattle.calendar.proofs.civil.Tie as tie

returns : tie.Need-returns-then-not-within
unfolding told_named
returns c = sym (outside _ (sym c.within.ensures ∙ c.if-not-within.true))

-- past the test the MJD lies within the bounds
passed : (c : tie.Else-not-within) → within 44244 88068 c.args.mjd ≡ true
passed c = sym c.within.ensures ∙ c.if-not-within.false

bounds : (c : tie.Else-not-within) → (44244 ≤ c.args.mjd) × (c.args.mjd ≤ 88068)
bounds c = within-true _ _ _ (passed c)

sub-since : tie.Need-overflow_sub-since
sub-since c = omega (arith, bounds c)

mul-years : tie.Need-overflow_mul-years
mul-years c = omega (arith, bounds c)

mul-year-day : tie.Need-overflow_mul-year_day
mul-year-day c = omega (arith, bounds c)

add-year-day : tie.Need-overflow_add-year_day
add-year-day c = omega (arith, bounds c)

month-at-requires : tie.Need-month_at-month-requires
month-at-requires c κs = year-day (c.args.mjd - 44239) _ refl (omega (arith, bounds c))

returns-2 : tie.Need-returns
unfolding told_named
returns-2 c =
    let s = c in
    let mjd = s.args.mjd in
    sym (inside mjd _ (passed c.before.before)
    (date-closed (mjd - 44239) _ refl (omega (arith, bounds c.before.before)) mjd c.month_at-month.result c.days_before.result
    (omega (arith, bounds c.before.before))
    (bounds c.before.before).0
    c.month_at-month.ensures
    c.days_before.ensures))

pub civil_spec : {M : Type 1} → statement M
civil_spec =
    tie.close
    (tie.spec
    (λ c κs. search rules)
    returns
    sub-since
    mul-years
    mul-year-day
    add-year-day
    (λ c. search rules)
    month-at-requires
    (λ c. search rules)
    (λ c κs. search rules)
    (λ c. search rules)
    (λ c. search rules)
    returns-2)
