-- The instants of the epochs of a table: each lies between the start and the last epoch, so on a day of the bounds.
-- Assumes nothing.
use mathlib.Core.Path.{◌≡◌}
use mathlib.Core.Bool.{true}
use Prim.Native.Nat.{ℕ, ◌+◌, ◌-◌, ◌*◌, ◌/◌, ◌≤◌, ◌<◌, ◌^◌}
use native.Mathlib.Omega.{arith}
use Rattle.laws.proofs.Bounds.{within-true}
use Rattle.calendar.specs.Gregorian.{first_mjd, last_mjd}
use Rattle.calendar.specs.Clock.{day_units}
use Rattle.header.specs.declared.types.Header.{Header}
use Rattle.canon.specs.Valid.{is_instant, last_epoch}
use Rattle.writer.proofs.Blocks.{less_one}
use Rattle.canon.proofs.HeaderBounds.{Timed, between}

instant-below : (a : ℕ) → is_instant a ≡ true → a < 88069 * day_units
unfolding is_instant
instant-below a p =
    let high = within-true first_mjd last_mjd (a / day_units) p in
    omega arith

-- so many epochs are left, the first of them at this instant
pub record Clocked (h : Header) (at8 more : ℕ) : Type 0 where
  pub since : h.start8 ≤ at8
  pub until : at8 + more * h.interval8 ≡ h.start8 + h.epochs * h.interval8

module _ {h : Header} {at8 more : ℕ} (t : Timed h) (c : Clocked h at8 more) (some : 0 < more) where
  not-past : at8 ≤ last_epoch h
  not-past = omega (arith, less_one more h.interval8 some, less_one h.epochs h.interval8 t.epochs.0, c.until)

  pub clocked-instant : is_instant at8 ≡ true
  clocked-instant = between h.start8 at8 (last_epoch h) t.start t.last c.since not-past

  pub clocked-fits : at8 + h.interval8 < 2 ^ 64
  clocked-fits = omega (arith, instant-below at8 clocked-instant, t.interval.1)

  pub clocked-next : Clocked h (at8 + h.interval8) (more - 1)
  clocked-next = record { since = omega (arith, c.since); until = omega (arith, less_one more h.interval8 some, c.until) }
