-- The header of every accepted file is valid: start, epochs, interval and last epoch are within their bounds, so are the numbers of satellites
-- and comments, and the texts, letters and bases are such as their columns may hold.
-- Assumes nothing.
use mathlib.Core.Path.{◌≡◌, refl, sym, ap, ◌∙◌}
use mathlib.Core.Bool.{Bool, true, cond}
use mathlib.Core.List.{List}
use Prim.Native.Nat.{ℕ, ◌+◌, ◌-◌, ◌*◌, ◌/◌, ◌%◌, ◌<◌}
use native.Mathlib.Omega.{arith}
use borrow.Author.Tests.{eqb-true, lt-ltb}
use lib.Dec.{leb}
use lib.ListN.{length}
use Rattle.laws.specs.Tests.{within}
use Rattle.calendar.specs.Gregorian.{first_mjd, last_mjd, is_date, mjd_of}
use Rattle.calendar.specs.Clock.{day_units, is_time, time_of}
use Rattle.header.specs.Rules.{max_epochs}
use Rattle.header.specs.Header.{max_interval, max_place_base, max_clock_base, is_moment, instant_of}
use Rattle.header.specs.Letters.{file_types, time_systems}
use Rattle.layout.specs.Kind.{is_one_of, is_listed}
use Rattle.layout.specs.Layout.{fault_of}
use Rattle.layout.specs.Line.{padded}
use Rattle.lines.specs.Lines.{nth}
use Rattle.record.specs.Opening.{first_items, first_of, second_items, second_of, epoch_items, epoch_of}
use Rattle.record.specs.Descriptors.{descriptor_items, descriptor_of, base_items, base_of}
use Rattle.record.specs.Times.{date_fault}
use Rattle.record.specs.Agrees.{instant_in, week_agrees, second_agrees, type_agrees}
use Rattle.record.specs.LineKinds.{epoch_kind}
use Rattle.header.specs.declared.types.Rules.{Rules}
use Rattle.header.specs.declared.types.Header.{Header}
use Rattle.header.specs.declared.types.Moment.{Moment}
use Rattle.record.specs.declared.types.LineKind.TheVariants as kind
use Rattle.file.specs.Kinds.{of_kind}
use Rattle.file.specs.Plain.{is_record, is_epoch_line, Plain}
use Rattle.file.specs.Table.{header_in}
use Rattle.canon.specs.Valid.{is_instant, text_fits, texts_fit, times_valid, counts_valid, words_valid, header_valid}
use Rattle.laws.proofs.Bools.{and_left, and_right, and_both}
use Rattle.laws.proofs.Bounds.{within-true, true-within}
use Rattle.calendar.proofs.Days.{date-within}
use Rattle.layout.proofs.Again.{lower-clean, passed}
use Rattle.file_laws.proofs.Clean.{record-clean}
use Rattle.file_laws.proofs.Selected.{satellites, identifiers, start8, interval8, epochs}
use Rattle.file_laws.proofs.Rule.{instant-at}
use Rattle.file_laws.proofs.Counts.{header_is, satellites-bounds, epochs-bounds}
use Rattle.canon_laws.proofs.ValidFields.{in_line, holds_own, item_of, field-holds, record-plain, record-holds}

-- A date of the bounds and a time of day make an instant of the bounds.
module _ (m : Moment) (date : is_date m.year m.month m.day ≡ true)
    (hours : within 0 23 m.hour ≡ true) (minutes : within 0 59 m.minute ≡ true) (seconds : within 0 5_999_999_999 m.second8 ≡ true) where
  timed : (m.hour < 24) × (m.minute < 60) × (m.second8 < 6_000_000_000)
  timed =
      let h = within-true 0 23 m.hour hours in
      let n = within-true 0 59 m.minute minutes in
      let s = within-true 0 5_999_999_999 m.second8 seconds in
      (omega arith, omega arith, omega arith)

  is-moment : is_moment m ≡ true
  unfolding is_moment is_time
  is-moment = rw (lt-ltb m.hour 24 timed.0, lt-ltb m.minute 60 timed.1, lt-ltb m.second8 6_000_000_000 timed.2, date)

  moment-valid : is_instant (instant_in m) ≡ true
  unfolding is_instant instant_in instant_of time_of
  moment-valid =
      let day = mjd_of m.year m.month m.day in
      let bounds = date-within m.year m.month m.day date in
      let t = timed in
      let on : instant_of m / day_units ≡ day = omega arith in
      ap (λ (b : Bool). is_instant (cond b (instant_of m) 0)) is-moment
      ∙ ap (within first_mjd last_mjd) on
      ∙ true-within first_mjd last_mjd day bounds.0 bounds.1

-- so an epoch stands at an instant of the bounds
epoch-valid : (rules : Rules) (at8 : ℕ) (l : List ℕ) → is_epoch_line rules at8 l ≡ true → is_instant at8 ≡ true
epoch-valid rules at8 l is =
    let line = padded l in
    let m = (epoch_of line).moment in
    let fault = (epoch_of line).fault in
    let own = and_left (is_record rules kind.Epoch fault l) _ is in
    let plain = record-plain rules kind.Epoch fault l own in
    let sound = lower-clean (fault_of epoch_items line) (date_fault m) (record-clean rules kind.Epoch fault l own) in
    ap is_instant (sym (eqb-true (instant_in m) at8 (and_right (is_record rules kind.Epoch fault l) _ is)))
    ∙ moment-valid m (passed (is_date m.year m.month m.day) 7 4 (omega arith) sound.1)
    (and_left (within 0 23 m.hour) _ (field-holds epoch_items l plain sound.0 8 (omega arith) refl))
    (and_left (within 0 59 m.minute) _ (field-holds epoch_items l plain sound.0 10 (omega arith) refl))
    (and_left (within 0 5_999_999_999 m.second8) _ (field-holds epoch_items l plain sound.0 12 (omega arith) refl))

module _ {rules : Rules} {lines : List (List ℕ)} (p : Plain rules lines) where
  abbrev h : Header
  h = header_in rules lines

  -- the fields of the first line
  first_holds : (i : ℕ) → i < length (first_items rules) → in_line (item_of (first_items rules) i) ≡ true → holds_own (item_of (first_items rules) i) (padded p.first) ≡ true
  first_holds i there fits =
      let line = padded p.first in
      let fault = (first_of rules line).fault in
      let sound = lower-clean (fault_of (first_items rules) line) (date_fault (first_of rules line).start) (record-clean rules kind.First fault p.first p.is-first) in
      field-holds (first_items rules) p.first (record-plain rules kind.First fault p.first p.is-first) sound.0 i there fits

  -- the start stands on a day of the bounds, since line 2 agrees with it; every epoch does, and so the last
  start-valid : is_instant (start8 p) ≡ true
  unfolding is_instant second_agrees
  start-valid =
      let s = second_of (padded p.second) in
      let day = start8 p / day_units in
      and_left (within first_mjd last_mjd day) _
      (and_left (week_agrees day (start8 p % day_units) s) _ (and_right (is_record rules kind.Second s.fault p.second) (second_agrees (start8 p) s) p.is-second))

  last-valid : is_instant (start8 p + (epochs p - 1) * interval8 p) ≡ true
  last-valid =
      epoch-valid rules (start8 p + (epochs p - 1) * interval8 p) (nth (epochs p - 1) (of_kind rules epoch_kind lines))
      (instant-at p (epochs p - 1) (omega (arith, (epochs-bounds p).0)))

  interval-within : within 1 max_interval (interval8 p) ≡ true
  interval-within =
      let own = and_left (is_record rules kind.Second (second_of (padded p.second)).fault p.second) _ p.is-second in
      and_left (within 1 max_interval (interval8 p)) _ (record-holds rules kind.Second second_items p.second own 6 (omega arith) refl)

  times-valid : times_valid h ≡ true
  unfolding times_valid
  times-valid =
      ap times_valid (header_is p)
      ∙ rw (start-valid, true-within 1 max_epochs (epochs p) (epochs-bounds p).0 (epochs-bounds p).1, interval-within, last-valid)

  counts-valid : counts_valid rules h ≡ true
  unfolding counts_valid
  counts-valid =
      let n = satellites-bounds p in
      ap (counts_valid rules) (header_is p)
      ∙ rw (true-within 1 rules.most_satellites (satellites p) n.0 n.1, p.comments-many)

  texts-fit : texts_fit (first_of rules (padded p.first)).texts ≡ true
  unfolding texts_fit
  texts-fit =
      let t = (first_of rules (padded p.first)).texts in
      and_both (text_fits 5 t.data_used) _ (first_holds 16 (omega arith) refl)
      (and_both (text_fits 5 t.coordinates) _ (first_holds 18 (omega arith) refl)
      (and_both (text_fits 3 t.orbit) (text_fits 4 t.agency) (first_holds 20 (omega arith) refl) (first_holds 22 (omega arith) refl)))

  words-valid : words_valid h ≡ true
  unfolding words_valid
  words-valid =
      let d = descriptor_of (padded p.descriptor) in
      let b = (base_of (padded p.bases)).bases in
      let own = and_left (is_record rules kind.Characters d.fault p.descriptor) (type_agrees d.file_type (identifiers p)) p.is-descriptor in
      let character = record-holds rules kind.Characters descriptor_items p.descriptor own in
      let base = record-holds rules kind.Floats base_items p.bases p.is-bases in
      let type : is_one_of d.file_type file_types ≡ true = character 2 (omega arith) refl in
      let system : is_listed d.time_system time_systems ≡ true = character 6 (omega arith) refl in
      let place : leb b.place max_place_base ≡ true = and_right (leb 0 b.place) _ (and_left (within 0 max_place_base b.place) _ (base 2 (omega arith) refl)) in
      let clock : leb b.clock max_clock_base ≡ true = and_right (leb 0 b.clock) _ (and_left (within 0 max_clock_base b.clock) _ (base 4 (omega arith) refl)) in
      ap words_valid (header_is p)
      ∙ and_both (texts_fit (first_of rules (padded p.first)).texts) _ texts-fit
      (and_both (is_one_of d.file_type file_types) _ type
      (and_both (is_listed d.time_system time_systems) _ system (and_both (leb b.place max_place_base) (leb b.clock max_clock_base) place clock)))

  -- THE HEADER IS VALID.
  pub header-valid : header_valid rules h ≡ true
  unfolding header_valid
  header-valid = rw (times-valid, counts-valid, words-valid)
