-- What a valid header is, bound by bound.
-- Assumes nothing.
use mathlib.Core.Path.{◌≡◌}
use mathlib.Core.Bool.{Bool, true, ◌&&◌}
use Prim.Native.Nat.{ℕ, ◌/◌, ◌≤◌}
use native.Mathlib.Omega.{arith}
use borrow.Author.Tests.{leb-true}
use lib.Dec.{leb}
use Rattle.laws.specs.Tests.{within}
use Rattle.laws.proofs.Bools.{and_left, and_right, both_true}
use Rattle.laws.proofs.Bounds.{within-true, true-within}
use Rattle.calendar.specs.Gregorian.{first_mjd, last_mjd}
use Rattle.calendar.specs.Clock.{day_units}
use Rattle.layout.specs.Kind.{is_one_of, is_listed}
use Rattle.header.specs.Rules.{max_epochs}
use Rattle.header.specs.Header.{max_interval, max_place_base, max_clock_base}
use Rattle.header.specs.Letters.{file_types, time_systems}
use Rattle.header.specs.declared.types.Rules.{Rules}
use Rattle.header.specs.declared.types.Header.{Header}
use Rattle.canon.specs.Valid.{is_instant, last_epoch, text_fits, texts_fit, times_valid, counts_valid, words_valid, header_valid}

-- times within their bounds
pub record Timed (h : Header) : Type 0 where
  pub start : is_instant h.start8 ≡ true
  pub epochs : (1 ≤ h.epochs) × (h.epochs ≤ max_epochs)
  pub interval : (1 ≤ h.interval8) × (h.interval8 ≤ max_interval)
  pub last : is_instant (last_epoch h) ≡ true

pub timed : (h : Header) → times_valid h ≡ true → Timed h
unfolding times_valid
timed h e =
    let halves = both_true (is_instant h.start8 && within 1 max_epochs h.epochs) (within 1 max_interval h.interval8 && is_instant (last_epoch h)) e in
    let first = both_true (is_instant h.start8) (within 1 max_epochs h.epochs) halves.0 in
    let second = both_true (within 1 max_interval h.interval8) (is_instant (last_epoch h)) halves.1 in
    record {
      start = first.0;
      epochs = within-true 1 max_epochs h.epochs first.1;
      interval = within-true 1 max_interval h.interval8 second.0;
      last = second.1;
    }

-- an instant between two of the bounds
pub between : (a b c : ℕ) → is_instant a ≡ true → is_instant c ≡ true → a ≤ b → b ≤ c → is_instant b ≡ true
unfolding is_instant
between a b c p q h k =
    let low = within-true first_mjd last_mjd (a / day_units) p in
    let high = within-true first_mjd last_mjd (c / day_units) q in
    true-within first_mjd last_mjd (b / day_units) (omega arith) (omega arith)

-- a valid header
pub record Bounded (rules : Rules) (h : Header) : Type 0 where
  pub times : times_valid h ≡ true
  pub clock : Timed h
  pub satellites : (1 ≤ h.satellites) × (h.satellites ≤ rules.most_satellites)
  pub comments : within rules.fewest_comments rules.most_comments h.comments ≡ true
  pub used : text_fits 5 h.texts.data_used ≡ true
  pub coordinates : text_fits 5 h.texts.coordinates ≡ true
  pub orbit : text_fits 3 h.texts.orbit ≡ true
  pub agency : text_fits 4 h.texts.agency ≡ true
  pub file_type : is_one_of h.file_type file_types ≡ true
  pub time-system : is_listed h.time_system time_systems ≡ true
  pub place_base : h.bases.place ≤ max_place_base
  pub clock-base : h.bases.clock ≤ max_clock_base

-- a conjunction of four, one by one
four : (a b c e : Bool) → (a && (b && (c && e))) ≡ true → (a ≡ true) × (b ≡ true) × (c ≡ true) × (e ≡ true)
four a b c e h =
    let more = and_right a (b && (c && e)) h in
    let last = and_right b (c && e) more in
    (and_left a (b && (c && e)) h, and_left b (c && e) more, and_left c e last, and_right c e last)

module _ (rules : Rules) (h : Header) (e : header_valid rules h ≡ true) where
  times : times_valid h ≡ true
  unfolding header_valid
  times = and_left (times_valid h) (counts_valid rules h && words_valid h) e

  counts : counts_valid rules h ≡ true
  unfolding header_valid
  counts = and_left (counts_valid rules h) (words_valid h) (and_right (times_valid h) (counts_valid rules h && words_valid h) e)

  words : words_valid h ≡ true
  unfolding header_valid
  words = and_right (counts_valid rules h) (words_valid h) (and_right (times_valid h) (counts_valid rules h && words_valid h) e)

  many : (within 1 rules.most_satellites h.satellites && within rules.fewest_comments rules.most_comments h.comments) ≡ true
  unfolding counts_valid
  many = counts

  said : (texts_fit h.texts ≡ true) × (is_one_of h.file_type file_types ≡ true) × (is_listed h.time_system time_systems ≡ true)
      × ((leb h.bases.place max_place_base && leb h.bases.clock max_clock_base) ≡ true)
  unfolding words_valid
  said = four (texts_fit h.texts) (is_one_of h.file_type file_types) (is_listed h.time_system time_systems) _ words

  texts : (text_fits 5 h.texts.data_used ≡ true) × (text_fits 5 h.texts.coordinates ≡ true) × (text_fits 3 h.texts.orbit ≡ true)
      × (text_fits 4 h.texts.agency ≡ true)
  unfolding texts_fit
  texts = four (text_fits 5 h.texts.data_used) (text_fits 5 h.texts.coordinates) (text_fits 3 h.texts.orbit) (text_fits 4 h.texts.agency) said.0

  pub bounded : Bounded rules h
  bounded = record {
    times = times;
    clock = timed h times;
    satellites =
        within-true 1 rules.most_satellites h.satellites
        (and_left (within 1 rules.most_satellites h.satellites) (within rules.fewest_comments rules.most_comments h.comments) many);
    comments =
        and_right (within 1 rules.most_satellites h.satellites) (within rules.fewest_comments rules.most_comments h.comments) many;
    used = texts.0;
    coordinates = texts.1;
    orbit = texts.2;
    agency = texts.3;
    file_type = said.1;
    time-system = said.2;
    place_base =
        leb-true h.bases.place max_place_base
        (and_left (leb h.bases.place max_place_base) (leb h.bases.clock max_clock_base) said.3);
    clock-base =
        leb-true h.bases.clock max_clock_base
        (and_right (leb h.bases.place max_place_base) (leb h.bases.clock max_clock_base) said.3);
  }
