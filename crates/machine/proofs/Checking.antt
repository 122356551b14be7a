-- What a line must agree with: one step of each loop over bytes or identifiers, and the answers of the calendar.
-- Assumes nothing.
use Rattle.std.proofs.Common.{◌≡◌, ℕ, ◌+◌, ◌-◌, ◌*◌, ◌/◌, ◌%◌, ◌<◌, ◌≤◌, false, not, cond, ◌&&◌, eqb, ltb, List, [], ◌∷◌, length, refl, arith, lit≤, eq-eqb, ne_eqb, eqb-true}
use Rattle.std.specs.List.{position_or_len}
use Rattle.std.proofs.lemmas.Bool.Decides.{nat_tests}
use Rattle.laws.specs.Tests.{within}
use Rattle.laws.specs.Texts.{is_printable}
use Rattle.calendar.specs.Clock.{day_units, week_answer}
use Rattle.calendar.specs.Fraction.{agrees}
use Rattle.record.specs.declared.types.Second.{Second}
use Rattle.record.specs.Agrees.{second_agrees}
use Rattle.machine.specs.Faults.{first_unprintable}
use Rattle.laws.proofs.Bools.{same_truth}
use Rattle.laws.proofs.Answers as answers

-- the first byte that may not stand in a line, by the library's search
pub first_unprintable_at : (s : List ℕ)
    → first_unprintable s
    ≡ cond (ltb (position_or_len (λ b. not (is_printable b)) s) (length s)) (position_or_len (λ b. not (is_printable b)) s + 1) (length s)
unfolding first_unprintable
first_unprintable_at [] = refl
first_unprintable_at (b ∷ s) = grind (arith, nat_tests, first_unprintable_at s)

-- an instant as much later as a gap says
pub later : (gap from at : ℕ) → gap ≤ at → eqb (at - gap) from ≡ eqb at (from + gap)
later gap from at h =
    same_truth (eqb (at - gap) from) (eqb at (from + gap))
    (λ e. eq-eqb at (from + gap) (omega (arith, eqb-true (at - gap) from e)))
    (λ e. eq-eqb (at - gap) from (omega (arith, eqb-true at (from + gap) e)))

pub not-later : (gap from at : ℕ) → at < gap → eqb at (from + gap) ≡ false
not-later gap from at h = ne_eqb at (from + gap) apart
  where
    apart : at ≡ from + gap → ⊥
    apart e = omega arith

-- line 2 against the start, by what the calendar answers for its week
module _ (at : ℕ) (s : Second) where
  abbrev day : ℕ
  day = at / day_units

  abbrev values : List ℕ
  values = (day - 44244) / 7 ∷ ((day - 44244) % 7 * day_units + at % day_units) ∷ []

  pub no-agreement : week_answer at ≡ 7 ∷ [] → second_agrees at s ≡ false
  unfolding week_answer second_agrees
  no-agreement e = rw (answers.refused 7 (lit≤ tt) (within 44244 88068 day) values e)

  pub week-agreement : (week second8 : ℕ) → week_answer at ≡ 0 ∷ week ∷ second8 ∷ []
      → ((eqb week s.week && eqb second8 s.seconds8) && (eqb day s.mjd && agrees s.fraction13 (at % day_units))) ≡ second_agrees at s
  unfolding week_answer second_agrees
  week-agreement week second8 e =
      let a = answers.accepted 7 (lit≤ tt) (within 44244 88068 day) values (week ∷ second8 ∷ []) e in
      let same = a.1 in
      let w : (day - 44244) / 7 ≡ week = cc in
      let t : (day - 44244) % 7 * day_units + at % day_units ≡ second8 = cc in
      rw (a.0, w, t)
