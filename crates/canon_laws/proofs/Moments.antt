-- The date and time of an instant of the bounds: they make that instant, and they fit the columns of a line.
-- Assumes nothing.
use mathlib.Core.Path.{◌≡◌, refl, sym}
use mathlib.Core.Bool.{Bool, true, false, ◌&&◌}
use mathlib.Core.List.{List, ◌++◌}
use Prim.Native.Nat.{ℕ, ◌-◌, ◌≤◌}
use native.Mathlib.Omega.{arith}
use borrow.Author.Tests.{lt-ltb}
use lib.Dec.{T, leb, leb→le}
use Rattle.laws.specs.Tests.{within, every_below}
use Rattle.calendar.specs.Gregorian.{is_date, leap, month_length, date_of}
use Rattle.calendar.specs.Clock.{minute_units, is_time, clock_of}
use Rattle.field.specs.Show.{fits_whole, fits_decimal}
use Rattle.layout.specs.Layout.{Item, Values, can_show}
use Rattle.header.specs.Header.{is_moment, instant_of}
use Rattle.record.specs.Times.{time_items, moment_values}
use Rattle.record.specs.Agrees.{instant_in}
use Rattle.header.specs.declared.types.Moment.{Moment}
use Rattle.canon.specs.Valid.{is_instant}
use Rattle.canon.specs.Canonical.{moment_of}
use Rattle.laws.proofs.Bools.{and_left, and_right}
use Rattle.laws.proofs.Bounds.{below}
use Rattle.calendar.proofs.Days.{day-is, inside}
use Rattle.calendar.proofs.Instants.{InstantTold, time-is, instant-told}
use Rattle.calendar.proofs.Theorems.{clock-forth}
use Rattle.record.proofs.RoundTrips.{dated}
use Rattle.canon_laws.proofs.Fits.{can-whole, can-decimal}

-- a moment of the bounds has numbers that fit their columns
pub record Fitting (m : Moment) : Type 0 where
  pub year : (within 0 9999 m.year && fits_whole 4 m.year) ≡ true
  pub month : (within 0 99 m.month && fits_whole 2 m.month) ≡ true
  pub day : (within 0 99 m.day && fits_whole 2 m.day) ≡ true
  pub hour : (within 0 23 m.hour && fits_whole 2 m.hour) ≡ true
  pub minute : (within 0 59 m.minute && fits_whole 2 m.minute) ≡ true
  pub second8 : (within 0 5_999_999_999 m.second8 && fits_decimal 11 8 false m.second8) ≡ true

-- a month has at most 31 days
month-short : (l : Bool) (m : ℕ) → m ≤ 12 → month_length l m ≤ 31
unfolding month_length
month-short l m h = leb→le (month_length l m) 31 (below 13 (λ n. leb (month_length l n) 31) (each l) m (omega arith))
  where
    each : (t : Bool) → T (every_below 13 (λ n. leb (month_length t n) 31))
    each true = tt
    each false = tt

-- the numbers of a moment of the bounds fit their columns
pub moment-fits : (m : Moment) → is_moment m ≡ true → Fitting m
unfolding is_moment is_date
moment-fits m e =
    let t = time-is m.hour m.minute m.second8 (and_left _ _ e) in
    let d = day-is m.year m.month m.day (and_left _ _ (and_right (is_time m.hour m.minute m.second8) _ e)) in
    let v = d.0 in
    let s = month-short (leap m.year) m.month v.december in
    record {
      year = can-whole 4 0 9999 m.year (omega arith) (omega arith) (omega arith) (omega arith) (omega arith);
      month = can-whole 2 0 99 m.month (omega arith) (omega arith) (omega arith) (omega arith) (omega arith);
      day = can-whole 2 0 99 m.day (omega arith) (omega arith) (omega arith) (omega arith) (omega arith);
      hour = can-whole 2 0 23 m.hour (omega arith) (omega arith) (omega arith) (omega arith) (omega arith);
      minute = can-whole 2 0 59 m.minute (omega arith) (omega arith) (omega arith) (omega arith) (omega arith);
      second8 = can-decimal 11 8 2 0 5_999_999_999 m.second8 (omega arith) (omega arith) refl (omega arith) (omega arith) (omega arith);
    }

-- so columns 4 to 31 can show them, and what stands after them decides
pub time-shows : (m : Moment) (items : List Item) (vs : Values) → is_moment m ≡ true
    → can_show (time_items ++ items) (moment_values m ++ vs) ≡ can_show items vs
time-shows m items vs e =
    let f = moment-fits m e in
    rw (f.year, f.month, f.day, f.hour, f.minute, f.second8)

-- An instant of the bounds.
module _ (at8 : ℕ) (is : is_instant at8 ≡ true) where
  told : InstantTold (moment_of at8).year (moment_of at8).month (moment_of at8).day (moment_of at8).hour (moment_of at8).minute (moment_of at8).second8 at8
  unfolding is_instant moment_of clock_of
  told = instant-told _ _ _ _ _ _ at8 (clock-forth at8 _ _ _ (inside (clock_of at8).day (date_of (clock_of at8).day) is refl))

  -- its date is a date, and with its time a moment of the bounds
  pub moment-dated : dated (moment_of at8) ≡ true
  moment-dated = told.date

  pub moment-is : is_moment (moment_of at8) ≡ true
  unfolding is_moment is_time
  moment-is =
      let t = told.time in
      rw (lt-ltb (moment_of at8).hour 24 t.hours, lt-ltb (moment_of at8).minute 60 t.minutes, lt-ltb (moment_of at8).second8 minute_units t.seconds) told.date

  -- they make it again
  pub moment-back : instant_in (moment_of at8) ≡ at8
  unfolding instant_in instant_of
  moment-back = rw moment-is (sym told.sum)
