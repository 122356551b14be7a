-- What the header lines of a file say, as one value, and its making out of numbers, letters and texts. 01, "What the build covers": "A table
-- holds the mode, start, number of epochs, interval, four texts, .. file type, time system, two bases". Refused: 6 where a letter, file type or
-- time system isn't listed or a text has a byte outside 32 to 126, 7 where a number or date is outside its bounds; the lowest decides.
use Rattle.std.specs.Prelude.{List, Bool, false, cond, ◌&&◌, ℕ, ◌+◌, ◌*◌, leb, eqb, replicate}
use Rattle.laws.specs.Tests.{within}
use Rattle.calendar.specs.Gregorian.{is_date, mjd_of}
use Rattle.calendar.specs.Clock.{is_time, time_of, day_units}
use Rattle.layout.specs.Kind.{is_one_of, is_listed, printable}
use Rattle.header.specs.Rules.{max_satellites, max_epochs, min_comments}
use Rattle.header.specs.Letters.{modes, file_types, time_systems}
use Rattle.header.specs.declared.types.Moment.{Moment}
use Rattle.header.specs.declared.types.Texts.{Texts}
use Rattle.header.specs.declared.types.Bases.{Bases}
use Rattle.header.specs.declared.types.Header.{Header}
use Rattle.header.specs.declared.types.HeaderAnswer.{HeaderAnswer}

-- the longest interval, F14.8 in 10^-8 s: below 100,000 s
abbrev pub max_interval : ℕ
max_interval = 9_999_999_999_999

-- the largest bases, F10.7 and F12.9 in units of their last places
abbrev pub max_place_base : ℕ
max_place_base = 999_999_999

abbrev pub max_clock_base : ℕ
max_clock_base = 99_999_999_999

-- the four texts in bytes 32 to 126
abbrev pub texts_printable : Texts → Bool
texts_printable t =
    printable t.data_used && (printable t.coordinates && (printable t.orbit && printable t.agency))

-- every letter, word and text is one that its field may hold
unfoldable pub letters_listed : ℕ → Texts → ℕ → List ℕ → Bool
letters_listed mode texts file_type time_system =
    is_one_of mode modes && (is_one_of file_type file_types && (is_listed time_system time_systems && texts_printable texts))

-- a start within the bounds of the calendar
unfoldable pub is_moment : Moment → Bool
is_moment m = is_time m.hour m.minute m.second8 && is_date m.year m.month m.day

-- its instant in 10^-8 s since MJD 0
unfoldable pub instant_of : Moment → ℕ
instant_of m = mjd_of m.year m.month m.day * day_units + time_of m.hour m.minute m.second8

-- every number is within its bounds: the interval in 10^-8 s, above 0
unfoldable pub numbers_bounded : ℕ → ℕ → ℕ → ℕ → Bases → Bool
numbers_bounded epochs interval8 satellites comments bases =
    within 1 max_epochs epochs
    && (within 1 max_interval interval8
    && (within 1 max_satellites satellites
    && (leb min_comments comments && (leb bases.place max_place_base && leb bases.clock max_clock_base))))

-- a header put together from its parts, untested: mode (86 is V), start and interval in 10^-8 s, texts, counts, letters and bases
abbrev pub header_made : ℕ → ℕ → ℕ → ℕ → Texts → ℕ → ℕ → ℕ → List ℕ → Bases → Header
header_made mode start8 epochs interval8 texts satellites comments file_type time_system bases = record {
  velocity = eqb mode 86;
  start8 = start8;
  epochs = epochs;
  interval8 = interval8;
  texts = texts;
  satellites = satellites;
  comments = comments;
  file_type = file_type;
  time_system = time_system;
  bases = bases;
}

-- the header that has nothing in it, which stands beside a refusal
abbrev pub no_header : Header
no_header = record {
  velocity = false;
  start8 = 0;
  epochs = 0;
  interval8 = 0;
  texts = record { data_used = replicate 5 32; coordinates = replicate 5 32; orbit = replicate 3 32; agency = replicate 4 32 };
  satellites = 0;
  comments = 0;
  file_type = 32;
  time_system = replicate 3 32;
  bases = record { place = 0; clock = 0 };
}

-- a refusal beside no header
abbrev pub refused : ℕ → HeaderAnswer
refused number = record { refusal = number; header = no_header }

-- a header of these letters, numbers and texts, or the lowest refusal
unfoldable pub header_of : ℕ → Moment → ℕ → ℕ → Texts → ℕ → ℕ → ℕ → List ℕ → Bases → HeaderAnswer
header_of mode start epochs interval8 texts satellites comments file_type time_system bases =
    cond (letters_listed mode texts file_type time_system)
    (cond (is_moment start && numbers_bounded epochs interval8 satellites comments bases)
    (record {
      refusal = 0;
      header = header_made mode (instant_of start) epochs interval8 texts satellites comments file_type time_system bases;
    })
    (refused 7))
    (refused 6)
