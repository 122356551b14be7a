-- Counts: how many cells there are, and what the tests of a header say of its times and of the lists beside it.
-- Assumes nothing.
use mathlib.Core.Bool.{Bool, true, false, ◌&&◌}
use mathlib.Core.Path.{◌≡◌}
use Prim.Native.Nat.{ℕ, ◌-◌, ◌*◌, ◌/◌, ◌<◌, ◌≤◌}
use native.Mathlib.Nat.{le-div_iff_mul-le, mul-le-mul}
use native.Mathlib.Omega.{arith}
use borrow.Author.Tests.{leb-true}
use lib.Dec.{leb, lit≤}
use Rattle.laws.specs.Tests.{within}
use Rattle.calendar.specs.Clock.{day_units}
use Rattle.header.specs.Rules.{max_epochs}
use Rattle.header.specs.Header.{max_interval}
use Rattle.record.specs.Plain.{comment_width}
use Rattle.canon.specs.Table.{cell_width, cells_in}
use Rattle.canon.specs.Valid.{is_instant, last_epoch, times_valid, counts_valid, words_valid, header_valid, lists_long}
use Rattle.header.specs.declared.types.Header.{Header}
use Rattle.header.specs.declared.types.Rules.{Rules}
use Rattle.laws.proofs.Bools.{and_left, and_right}
use Rattle.laws.proofs.Bounds.{within-true}

pub some-width : (velocity : Bool) → 0 < cell_width velocity
some-width true = lit≤ tt
some-width false = lit≤ tt

-- a start, a count and an interval within their bounds
pub record Begun (h : Header) : Type 0 where
  pub started : h.start8 < 88069 * day_units
  pub some : 1 ≤ h.epochs
  pub few : h.epochs ≤ max_epochs
  pub short : h.interval8 ≤ max_interval

pub begun : (h : Header) → ((is_instant h.start8 && within 1 max_epochs h.epochs) && within 1 max_interval h.interval8) ≡ true → Begun h
unfolding is_instant
begun h e =
    let instant = is_instant h.start8 in
    let counted = within 1 max_epochs h.epochs in
    let stepped = within 1 max_interval h.interval8 in
    let front = and_left (instant && counted) stepped e in
    let at = within-true 44244 88068 (h.start8 / day_units) (and_left instant counted front) in
    let count = within-true 1 max_epochs h.epochs (and_right instant counted front) in
    let step = within-true 1 max_interval h.interval8 (and_right (instant && counted) stepped e) in
    record { started = omega (arith, at.1); some = count.0; few = count.1; short = step.1 }

-- the last epoch is within what a number holds
pub last_within : (h : Header) → Begun h → (h.epochs - 1) * h.interval8 ≤ max_epochs * max_interval
last_within h b = let fewer : h.epochs - 1 ≤ max_epochs = omega (arith, b.few) in mul-le-mul fewer b.short

-- so many cells of some numbers are no more than the numbers
pub cells_fit : (cells n : ℕ) (velocity : Bool) → cells * cell_width velocity ≤ n → cells ≤ n
cells_fit cells n true h = omega arith
cells_fit cells n false h = omega arith

-- what counts that hold say of the lists, and of the epochs
pub record Long (h : Header) (i x c r : ℕ) : Type 0 where
  pub named : h.satellites ≤ i
  pub weighed : h.satellites ≤ x
  pub said : h.comments * comment_width ≤ c
  pub placed : cells_in h * cell_width h.velocity ≤ r
  pub few : h.epochs ≤ max_epochs

pub long : (rules : Rules) (h : Header) (i x c r : ℕ) → (header_valid rules h && lists_long h i x c r) ≡ true → Long h i x c r
unfolding header_valid times_valid lists_long
long rules h i x c r e =
    let identifiers = leb h.satellites i && leb h.satellites x in
    let texts = leb h.comments (c / comment_width) in
    let cells = leb (cells_in h) (r / cell_width h.velocity) in
    let begun = is_instant h.start8 && within 1 max_epochs h.epochs in
    let lists = and_right (header_valid rules h) (lists_long h i x c r) e in
    let front = and_left identifiers (texts && cells) lists in
    let back = and_right identifiers (texts && cells) lists in
    let times = and_left (times_valid h) (counts_valid rules h && words_valid h) (and_left (header_valid rules h) (lists_long h i x c r) e) in
    let start = and_left begun (within 1 max_interval h.interval8 && is_instant (last_epoch h)) times in
    let each = le-div_iff_mul-le {k = cell_width h.velocity} {x = cells_in h} {y = r} (some-width h.velocity) in
    record {
      named = leb-true h.satellites i (and_left (leb h.satellites i) (leb h.satellites x) front);
      weighed = leb-true h.satellites x (and_right (leb h.satellites i) (leb h.satellites x) front);
      said = omega (arith, leb-true h.comments (c / comment_width) (and_left texts cells back));
      placed = each.0 (leb-true (cells_in h) (r / cell_width h.velocity) (and_right texts cells back));
      few = (within-true 1 max_epochs h.epochs (and_right (is_instant h.start8) (within 1 max_epochs h.epochs) start)).1;
    }
