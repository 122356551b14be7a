-- A date and a time of day in columns 4 to 31, as the first line and the epoch lines have them. 000, lines one and thirty two:
-- Columns 4-7 Year I4, 9-10 Month I2, 12-13 Day of Month I2, 15-16 Hour I2, 18-19 Minute I2, 21-31 Second F11.8; 8, 11, 14, 17, 20 Unused.
-- Year, month and day are judged as one, and name column 4: 6 where one of them is malformed, 7 where they are no date within the bounds.
use Rattle.std.specs.Prelude.{List, [], ◌∷◌, ℕ, ◌+◌}
use Rattle.calendar.specs.Gregorian.{is_date}
use Rattle.layout.specs.Kind.{unless}
use Rattle.layout.specs.Kind.Kind.{unused, whole, decimal}
use Rattle.layout.specs.Kind.Held.{one}
use Rattle.layout.specs.Layout.{Item, Values, columns, column, part_at, number_at, fault_from, values_of}
use Rattle.header.specs.declared.types.Moment.{Moment}
use Rattle.record.specs.declared.types.Epoch.{Epoch}

-- the seconds in 10^-8 s
abbrev pub time_items : List Item
time_items =
    columns 4 7 (whole 0 9999)
    ∷ column 8 unused
    ∷ part_at 4 9 10 (whole 0 99)
    ∷ column 11 unused
    ∷ part_at 4 12 13 (whole 0 99)
    ∷ column 14 unused
    ∷ columns 15 16 (whole 0 23)
    ∷ column 17 unused
    ∷ columns 18 19 (whole 0 59)
    ∷ column 20 unused
    ∷ columns 21 31 (decimal 8 0 5_999_999_999)
    ∷ []

-- the date and time of a line's values, from the entry at k on
abbrev pub moment_at : Values → ℕ → Moment
moment_at vs k = record {
  year = number_at vs k;
  month = number_at vs (k + 1);
  day = number_at vs (k + 2);
  hour = number_at vs (k + 3);
  minute = number_at vs (k + 4);
  second8 = number_at vs (k + 5);
}

-- and the entries of one
abbrev pub moment_values : Moment → Values
moment_values m = one m.year ∷ one m.month ∷ one m.day ∷ one m.hour ∷ one m.minute ∷ one m.second8 ∷ []

-- 7 where there is no such date
abbrev pub date_fault : Moment → ℕ
date_fault m = unless (is_date m.year m.month m.day) 7 4

-- columns 4 to 31 read after a fault found before
abbrev pub moment_after : ℕ → List ℕ → Epoch
moment_after lowest line = record { fault = fault_from lowest time_items line; moment = moment_at (values_of time_items line) 0 }
