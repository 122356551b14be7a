-- The line of an epoch at an instant of the bounds is an epoch line at that instant; and the instants of a table are of the bounds where its first
-- and its last are.
-- Assumes nothing.
use mathlib.Core.Path.{◌≡◌, refl, ap, ◌∙◌}
use mathlib.Core.Bool.{true}
use mathlib.Core.List.{List, [], ◌∷◌, append-nil}
use Prim.Native.Nat.{ℕ, suc, ◌+◌, ◌-◌, ◌*◌, ◌≤◌, ◌<◌}
use native.Mathlib.Nat.{zero-mul, suc-mul, mul-le-mul, le_refl}
use native.Mathlib.Omega.{arith}
use borrow.Author.Tests.{eq-eqb}
use Rattle.layout.specs.Kind.Kind.{unused}
use Rattle.layout.specs.Layout.{columns, can_show}
use Rattle.layout.specs.Line.{padded, line_of}
use Rattle.record.specs.LineKinds.{kind_of}
use Rattle.record.specs.Opening.{epoch_items, epoch_values, epoch_of, epoch_line}
use Rattle.record.specs.Agrees.{instant_in}
use Rattle.header.specs.declared.types.Rules.{Rules}
use Rattle.record.specs.declared.types.Epoch.{Epoch}
use Rattle.record.specs.declared.types.LineKind.TheVariants as kind
use Rattle.file.specs.Plain.{is_record, is_epoch_line}
use Rattle.canon.specs.Valid.{is_instant}
use Rattle.canon.specs.Canonical.{moment_of, epoch_shown}
use Rattle.laws.proofs.Bools.{and_both}
use Rattle.record.proofs.Tiled.{epoch-tiled}
use Rattle.record.proofs.RoundTrips.{epoch-back}
use Rattle.canon_laws.proofs.Moments.{time-shows, moment-dated, moment-is, moment-back}
use Rattle.canon.proofs.HeaderBounds.{between}
use Rattle.canon_laws.proofs.Bare.{EndsLine, bare-ended, bare-record}

-- the line of an epoch at an instant, without its LF
abbrev pub epoch_text : ℕ → List ℕ
epoch_text at8 = line_of (epoch_line (epoch_shown at8))

-- An instant of the bounds.
module _ (at8 : ℕ) (is : is_instant at8 ≡ true) where
  -- columns can show it
  pub epoch-can-show : can_show epoch_items (epoch_values (epoch_shown at8)) ≡ true
  unfolding epoch_shown
  epoch-can-show = time-shows (moment_of at8) (columns 32 80 unused ∷ []) [] (moment-is at8 is)

  -- its line is read as it
  pub epoch-of : epoch_of (padded (epoch_text at8)) ≡ epoch_shown at8
  unfolding epoch_shown
  epoch-of = rw append-nil at (epoch-back (epoch_shown at8) [] refl (moment-dated at8 is) epoch-can-show)

  -- with its LF it ends so
  pub epoch-ends : EndsLine (epoch_line (epoch_shown at8))
  unfolding epoch_line
  epoch-ends = bare-ended epoch_items (epoch_values (epoch_shown at8)) epoch-tiled epoch-can-show

  -- it is an epoch line at that instant
  pub epoch-is : (rules : Rules) → is_epoch_line rules at8 (epoch_text at8) ≡ true
  unfolding epoch_line epoch_shown kind_of
  epoch-is rules =
      and_both (is_record rules kind.Epoch (epoch_of (padded (epoch_text at8))).fault (epoch_text at8)) _
      (bare-record epoch_items (epoch_values (epoch_shown at8)) epoch-tiled epoch-can-show rules kind.Epoch
      (epoch_of (padded (epoch_text at8))).fault
      (omega arith)
      refl
      (ap (λ (e : Epoch). e.fault) epoch-of))
      (eq-eqb (instant_in (epoch_of (padded (epoch_text at8))).moment) at8 (ap (λ (e : Epoch). instant_in e.moment) epoch-of ∙ moment-back at8 is))

-- the instants of so many epochs, the first of them at this one
abbrev pub Instants : ℕ → ℕ → ℕ → Type 0
Instants interval8 epochs at8 = (k : ℕ) → k < epochs → is_instant (at8 + k * interval8) ≡ true

-- they are of the bounds where the first and the last are
pub all-instants : (interval8 epochs at8 : ℕ) → is_instant at8 ≡ true → is_instant (at8 + (epochs - 1) * interval8) ≡ true
    → Instants interval8 epochs at8
all-instants interval8 epochs at8 first last k h =
    let before : k ≤ epochs - 1 = omega arith in
    let less : k * interval8 ≤ (epochs - 1) * interval8 = mul-le-mul before (le_refl interval8) in
    between at8 (at8 + k * interval8) (at8 + (epochs - 1) * interval8) first last (omega arith) (omega arith)

-- and those after the first
pub later-instants : (interval8 epochs at8 : ℕ) → Instants interval8 (suc epochs) at8 → Instants interval8 epochs (at8 + interval8)
later-instants interval8 epochs at8 all k h =
    ap is_instant (omega (arith, suc-mul k interval8)) ∙ all (suc k) (omega arith)

pub first-instant : (interval8 epochs at8 : ℕ) → Instants interval8 (suc epochs) at8 → is_instant at8 ≡ true
first-instant interval8 epochs at8 all = ap is_instant (omega (arith, zero-mul interval8)) ∙ all 0 (omega arith)
