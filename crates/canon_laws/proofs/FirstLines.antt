-- Lines 1 and 2 of the canonical form are such lines, and are read as what they show.
-- Assumes nothing.
use mathlib.Core.Path.{◌≡◌, refl, sym, ap, ◌∙◌}
use mathlib.Core.Bool.{Bool, true, false, cond}
use mathlib.Core.List.{List, [], append-nil}
use Prim.Native.Nat.{ℕ, ◌+◌, ◌-◌, ◌*◌, ◌/◌, ◌%◌, ◌≤◌, ◌<◌}
use native.Mathlib.Omega.{arith}
use borrow.Author.Tests.{eq-eqb, lt-ltb}
use Rattle.laws.proofs.Bools.{and_both}
use Rattle.laws.proofs.Bounds.{within-true, true-within}
use Rattle.calendar.specs.Gregorian.{first_mjd, last_mjd}
use Rattle.calendar.specs.Clock.{day_units}
use Rattle.calendar.specs.Fraction.{agrees}
use Rattle.layout.specs.Kind.{is_one_of}
use Rattle.layout.specs.Layout.{can_show}
use Rattle.layout.specs.Line.{padded, line_of}
use Rattle.header.specs.Rules.{max_epochs}
use Rattle.header.specs.Letters.{modes}
use Rattle.header.specs.declared.types.Rules.{Rules}
use Rattle.header.specs.declared.types.Header.{Header}
use Rattle.record.specs.LineKinds.{kind_of}
use Rattle.record.specs.Opening.{first_items, first_values, first_of, first_line, second_items, second_values, second_of, second_line}
use Rattle.record.specs.declared.types.First.{First}
use Rattle.record.specs.declared.types.Second.{Second}
use Rattle.record.specs.declared.types.LineKind.TheVariants as kind
use Rattle.record.proofs.RoundTrips.{first_back, second_back}
use Rattle.record.proofs.Tiled.{first-tiled, second-tiled}
use Rattle.record.specs.Agrees.{second_agrees}
use Rattle.file.specs.Plain.{is_record, is_first_line, is_second_line}
use Rattle.canon.specs.Valid.{is_instant}
use Rattle.canon.specs.Canonical.{moment_of, first_shown, second_shown}
use Rattle.canon_laws.proofs.Bare.{EndsLine, bare-ended, bare-record}
use Rattle.canon_laws.proofs.Fits.{can-whole, can-decimal}
use Rattle.canon.proofs.HeaderBounds.{Bounded}
use Rattle.canon_laws.specs.Held.{Proper}
use Rattle.canon_laws.proofs.Moments.{Fitting, moment-dated}

mode-listed : (velocity : Bool) → is_one_of (cond velocity 86 80) modes ≡ true
mode-listed true = refl
mode-listed false = refl

module _ (rules : Rules) (proper : Proper rules) (h : Header) (b : Bounded rules h) (fits : Fitting (moment_of h.start8)) where
  first-can : can_show (first_items rules) (first_values (first_shown h)) ≡ true
  unfolding first_shown
  first-can =
      rw (
        proper.letter-printable,
        mode-listed h.velocity,
        fits.year,
        fits.month,
        fits.day,
        fits.hour,
        fits.minute,
        fits.second8,
        can-whole 7 1 max_epochs h.epochs (omega arith) (omega arith) b.clock.epochs.0 b.clock.epochs.1 (omega (arith, b.clock.epochs.1)),
        b.used,
        b.coordinates,
        b.orbit,
        b.agency,
      )

  -- it is read as what it shows
  pub first_read : first_of rules (padded (line_of (first_line rules (first_shown h)))) ≡ first_shown h
  unfolding first_shown
  first_read =
      ap (λ (s : List ℕ). first_of rules (padded (line_of s))) (sym (append-nil (first_line rules (first_shown h))))
      ∙ first_back rules (first_shown h) [] refl (moment-dated h.start8 b.clock.start) first-can

  pub first_ends : EndsLine (first_line rules (first_shown h))
  unfolding first_line
  first_ends = bare-ended (first_items rules) (first_values (first_shown h)) (first-tiled rules) first-can

  pub first-is : is_first_line rules (line_of (first_line rules (first_shown h))) ≡ true
  unfolding first_line first_shown kind_of
  first-is =
      bare-record (first_items rules) (first_values (first_shown h)) (first-tiled rules) first-can rules kind.First _ refl
      (rw (proper.letter-own, eq-eqb rules.letter rules.letter refl))
      (ap (λ (f : First). f.fault) first_read)

-- line 2
module _ (rules : Rules) (h : Header) (b : Bounded rules h) where
  in_bounds : (first_mjd ≤ h.start8 / day_units) × (h.start8 / day_units ≤ last_mjd)
  unfolding is_instant
  in_bounds = within-true first_mjd last_mjd (h.start8 / day_units) b.clock.start

  second-can : can_show second_items (second_values (second_shown h)) ≡ true
  unfolding second_shown
  second-can =
      let time = h.start8 % day_units in
      let short : time < day_units = omega arith in
      let s = second_shown h in
      rw (
        can-whole 4 0 9999 s.week (omega arith) (omega arith) (omega arith) (omega (arith, in_bounds)) (omega (arith, in_bounds)),
        can-decimal 15 8 6 0 60_479_999_999_999 s.seconds8 (omega arith) (omega arith) refl (omega arith) (omega arith) (omega arith),
        can-decimal 14 8 5 1 9_999_999_999_999 h.interval8 (omega arith) (omega arith) refl b.clock.interval.0 b.clock.interval.1 (omega (arith, b.clock.interval)),
        can-whole 5 0 99_999 s.mjd (omega arith) (omega arith) (omega arith) (omega (arith, in_bounds)) (omega (arith, in_bounds)),
        can-decimal 15 13 1 0 9_999_999_999_999 s.fraction13 (omega arith) (omega arith) refl (omega arith) (omega arith) (omega arith),
      )

  pub second-read : second_of (padded (line_of (second_line (second_shown h)))) ≡ second_shown h
  unfolding second_shown
  second-read =
      ap (λ (s : List ℕ). second_of (padded (line_of s))) (sym (append-nil (second_line (second_shown h))))
      ∙ second_back (second_shown h) [] refl second-can

  -- it agrees with the start
  second-agrees : second_agrees h.start8 (second_shown h) ≡ true
  unfolding second_agrees second_shown agrees
  second-agrees =
      let time = h.start8 % day_units in
      let s = second_shown h in
      rw (
        true-within first_mjd last_mjd (h.start8 / day_units) in_bounds.0 in_bounds.1,
        eq-eqb s.week s.week refl,
        eq-eqb s.seconds8 s.seconds8 refl,
        eq-eqb s.mjd s.mjd refl,
        lt-ltb (108 * s.fraction13) (125 * time + 108) (omega arith),
        lt-ltb (125 * time) (108 * s.fraction13 + 108) (omega arith),
      )

  pub second-ends : EndsLine (second_line (second_shown h))
  unfolding second_line
  second-ends = bare-ended second_items (second_values (second_shown h)) second-tiled second-can

  pub second_is : is_second_line rules h.start8 (line_of (second_line (second_shown h))) ≡ true
  unfolding second_line second_shown kind_of
  second_is =
      and_both (is_record rules kind.Second (second_of (padded (line_of (second_line (second_shown h))))).fault (line_of (second_line (second_shown h)))) _
      (bare-record second_items (second_values (second_shown h)) second-tiled second-can rules kind.Second _ refl refl (ap (λ (s : Second). s.fault) second-read))
      (ap (second_agrees h.start8) second-read ∙ second-agrees)
