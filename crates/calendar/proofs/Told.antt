-- Each answer is known by its number and values: two that are told alike are one.
-- Assumes nothing.
use mathlib.Core.Path.{◌≡◌, refl, ap}
use Rattle.calendar.specs.Gregorian.{told_date, told_named}
use Rattle.calendar.specs.Clock.{told_instant, told_week}
use Rattle.calendar.specs.Fraction.{told_fraction}
use Rattle.calendar.specs.declared.types.Civil.{Civil}
use Rattle.calendar.specs.declared.types.Dated.{Dated}
use Rattle.calendar.specs.declared.types.Week.{Week}
use Rattle.std.specs.Prelude.{Option, Some, None, ℕ}

-- a date is told by its MJD, week and seconds of week
one-dated : (d d' : Dated) → d.mjd ≡ d'.mjd → d.week ≡ d'.week → d.seconds ≡ d'.seconds → d ≡ d'
one-dated d d' p q r = λ i. record { mjd = p i; week = q i; seconds = r i }

pub told_date-one : (a b : Option Dated) → told_date a ≡ told_date b → a ≡ b
unfolding told_date
told_date-one (Some d) (Some d') e = ap Some (one-dated d d' (cc) (cc) (cc))
told_date-one (Some d) None e = cc
told_date-one None (Some d') e = cc
told_date-one None None e = refl

-- a date is told by its year, month and day
pub one-date : (c c' : Civil) → c.year ≡ c'.year → c.month ≡ c'.month → c.day ≡ c'.day → c ≡ c'
one-date c c' p q r = λ i. record { year = p i; month = q i; day = r i }

pub told_named-one : (a b : Option Civil) → told_named a ≡ told_named b → a ≡ b
unfolding told_named
told_named-one (Some c) (Some c') e = ap Some (one-date c c' (cc) (cc) (cc))
told_named-one (Some c) None e = cc
told_named-one None (Some c') e = cc
told_named-one None None e = refl

pub told_instant-one : (a b : Option ℕ) → told_instant a ≡ told_instant b → a ≡ b
unfolding told_instant
told_instant-one (Some t) (Some t') e = cc
told_instant-one (Some t) None e = cc
told_instant-one None (Some t') e = cc
told_instant-one None None e = refl

-- a week is told by its number and its seconds
one-week : (w w' : Week) → w.week ≡ w'.week → w.second8 ≡ w'.second8 → w ≡ w'
one-week w w' p q = λ i. record { week = p i; second8 = q i }

pub told_week-one : (a b : Option Week) → told_week a ≡ told_week b → a ≡ b
unfolding told_week
told_week-one (Some w) (Some w') e = ap Some (one-week w w' (cc) (cc))
told_week-one (Some w) None e = cc
told_week-one None (Some w') e = cc
told_week-one None None e = refl

pub told_fraction-one : (a b : Option ℕ) → told_fraction a ≡ told_fraction b → a ≡ b
unfolding told_fraction
told_fraction-one (Some f) (Some f') e = cc
told_fraction-one (Some f) None e = cc
told_fraction-one None (Some f') e = cc
told_fraction-one None None e = refl
