-- The records that the lines of a table show, from what the calendar tells.
-- Assumes nothing.
use mathlib.Core.Path.{◌≡◌, ap, ◌∙◌}
use mathlib.Core.Bool.{true}
use Prim.Native.Nat.{ℕ, ◌+◌, ◌-◌, ◌*◌, ◌/◌, ◌%◌, ◌<◌}
use Rattle.calendar.specs.Gregorian.{first_mjd, date_of, civil_answer, told_named}
use Rattle.calendar.specs.Clock.{day_units, clock_of, week_answer, told_week}
use Rattle.calendar.specs.Fraction.{fraction_answer, told_fraction}
use Rattle.calendar.specs.declared.types.Clock.{Clock}
use Rattle.calendar.specs.declared.types.Civil.{Civil}
use Rattle.calendar.specs.declared.types.Week.{Week}
use Rattle.std.specs.Prelude.{Option, Some}
use Rattle.calendar.proofs.Told.{told_named-one, told_week-one, told_fraction-one}
use Rattle.calendar.proofs.Fractions.{fraction-at}
use Rattle.calendar.proofs.Weeks.{week-at}
use Rattle.header.specs.declared.types.Header.{Header}
use Rattle.record.specs.declared.types.Second.{Second}
use Rattle.canon.specs.Valid.{is_instant}
use Rattle.canon.specs.Canonical.{second_shown}

-- an instant has a date
pub named : (at8 : ℕ) (clock : Clock) (n : Option Civil) → is_instant at8 ≡ true → clock ≡ clock_of at8 → told_named n ≡ civil_answer clock.day
    → n ≡ Some (date_of (clock_of at8).day)
unfolding is_instant civil_answer clock_of told_named
named at8 clock n is same told =
    told_named-one n (Some (date_of (at8 / day_units))) (told ∙ ap (λ (t : Clock). civil_answer t.day) same ∙ rw is)

-- and a week
abbrev pub week_told : ℕ → Week
week_told at8 =
    record { week = (at8 / day_units - first_mjd) / 7; second8 = (at8 / day_units - first_mjd) % 7 * day_units + at8 % day_units }

pub weekly : (at8 : ℕ) (w : Option Week) → is_instant at8 ≡ true → told_week w ≡ week_answer at8 → w ≡ Some (week_told at8)
unfolding is_instant told_week
weekly at8 w is told = told_week-one w (Some (week_told at8)) (told ∙ week-at at8 is)

-- line 2 of a table, from what was told
pub second-read : (h : Header) {week seconds fraction : ℕ} → week ≡ (h.start8 / day_units - first_mjd) / 7
    → seconds ≡ (h.start8 / day_units - first_mjd) % 7 * day_units + h.start8 % day_units → fraction ≡ (125 * (h.start8 % day_units) + 54) / 108
    → ◌≡◌ {A = Second}
    (record { fault = 0; week = week; seconds8 = seconds; interval8 = h.interval8; mjd = h.start8 / day_units; fraction13 = fraction })
    (second_shown h)
unfolding second_shown
second-read h p q r = rw (p, q, r)

-- a time of day has a fraction
pub fractional : (time : ℕ) (f : Option ℕ) → time < day_units → told_fraction f ≡ fraction_answer time → f ≡ Some ((125 * time + 54) / 108)
unfolding told_fraction
fractional time f h told = told_fraction-one f (Some ((125 * time + 54) / 108)) (told ∙ fraction-at time h)
