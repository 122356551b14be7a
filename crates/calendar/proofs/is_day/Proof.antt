-- `calendar::is_day` meets its contract: the three tests in the order of the definition.
-- Assumes nothing.
use mathlib.Core.Bool.{Bool, true}
use mathlib.Core.Path.{◌≡◌, sym, ap, ◌∙◌}
use borrow.Author.Rules.{rules}
use Rattle.laws.specs.Tests.{within}
use Rattle.calendar.specs.Gregorian.{month_length, is_day}
use Rattle.laws.proofs.Bounds.{within-true}
use Rattle.calendar.proofs.is_day.Statement.{statement}
use Rattle.calendar.proofs.is_day.Tie as tie

returns : tie.Need-returns-then-not-within
unfolding is_day
returns c = simp (sym c.within.ensures ∙ c.if-not-within.true)

-- the year and the month passed their tests
year-in : (c : tie.Else-not-within-2) → within 1980 2099 c.args.year ≡ true
year-in c = sym c.within.ensures ∙ c.if-not-within.false

month-in : (c : tie.Else-not-within-2) → within 1 12 c.args.month ≡ true
month-in c = sym c.within-2.ensures ∙ c.if-not-within-2.false

returns-2 : tie.Need-returns-then-not-within-2
unfolding is_day
returns-2 c =
    simp (
      sym c.within.ensures ∙ c.if-not-within.false,
      sym c.within-2.ensures ∙ c.if-not-within-2.true,
    )

is-leap-requires : tie.Need-is_leap-requires
is-leap-requires c κs = within-true _ _ _ (year-in c)

month-length-requires : tie.Need-month_length-requires
month-length-requires c κs = within-true _ _ _ (month-in c.before)

returns-3 : tie.Need-returns
unfolding is_day
returns-3 c =
    let e = c in
    let a = e.args in
    simp (year-in c.before.before.before, month-in c.before.before.before)
    (c.within-3.ensures
    ∙ ap (λ k. within 1 k a.day) c.month_length.ensures
    ∙ ap (λ (l : Bool). within 1 (month_length l a.month) a.day) c.is_leap.ensures)

pub is_day_spec : {M : Type 1} → statement M
is_day_spec =
    tie.close
    (tie.spec
    (λ c κs. search rules)
    returns
    (λ c κs. search rules)
    returns-2
    is-leap-requires
    month-length-requires
    (λ c κs. search rules)
    returns-3)
