-- The answers of `header_of`, by what its tests say.
-- Assumes nothing.
use mathlib.Core.Bool.{true, false, ◌&&◌}
use mathlib.Core.List.{List, [], ◌∷◌}
use mathlib.Core.Path.{◌≡◌}
use Prim.Native.Nat.{ℕ, ◌+◌, ◌*◌}
use lib.Dec.{lit≤}
use Rattle.calendar.specs.Gregorian.{is_date, mjd_of}
use Rattle.calendar.specs.Clock.{is_time, time_of, day_units, instant_answer}
use Rattle.header.specs.Header.{letters_listed, is_moment, instant_of, numbers_bounded, header_made, refused, header_of}
use Rattle.header.specs.declared.types.Moment.{Moment}
use Rattle.header.specs.declared.types.Texts.{Texts}
use Rattle.header.specs.declared.types.Bases.{Bases}
use Rattle.header.specs.declared.types.HeaderAnswer.{HeaderAnswer}
use Rattle.laws.proofs.Answers as answers

-- what the calendar answers for a start
abbrev pub start_answer : Moment → List ℕ
start_answer m = instant_answer m.year m.month m.day m.hour m.minute m.second8

-- a start that the calendar refuses, or gives
pub no-moment : (m : Moment) → start_answer m ≡ 7 ∷ [] → is_moment m ≡ false
unfolding instant_answer is_moment
no-moment m e =
    answers.refused 7 (lit≤ tt) (is_time m.hour m.minute m.second8 && is_date m.year m.month m.day)
    ((mjd_of m.year m.month m.day * day_units + time_of m.hour m.minute m.second8) ∷ []) e

pub moment-at : (m : Moment) (at : ℕ) → start_answer m ≡ 0 ∷ at ∷ [] → (is_moment m ≡ true) × (instant_of m ≡ at)
unfolding instant_answer is_moment instant_of
moment-at m at e =
    let p =
    answers.accepted 7 (lit≤ tt) (is_time m.hour m.minute m.second8 && is_date m.year m.month m.day)
    ((mjd_of m.year m.month m.day * day_units + time_of m.hour m.minute m.second8) ∷ []) (at ∷ []) e in
    let same = p.1 in
    (p.0, cc)

module _ (mode : ℕ) (start : Moment) (epochs interval8 : ℕ) (texts : Texts) (satellites comments file_type : ℕ) (time_system : List ℕ) (bases : Bases) where
  -- the header that begins at an instant
  abbrev pub begun : ℕ → HeaderAnswer
  begun at =
      record { refusal = 0; header = header_made mode at epochs interval8 texts satellites comments file_type time_system bases }

  abbrev answer : HeaderAnswer
  answer = header_of mode start epochs interval8 texts satellites comments file_type time_system bases

  pub no-letters : letters_listed mode texts file_type time_system ≡ false → answer ≡ refused 6
  unfolding header_of
  no-letters e = rw e

  module _ (listed : letters_listed mode texts file_type time_system ≡ true) where
    pub no_start : start_answer start ≡ 7 ∷ [] → answer ≡ refused 7
    unfolding header_of
    no_start e = rw (listed, no-moment start e)

    module _ (at : ℕ) (given : start_answer start ≡ 0 ∷ at ∷ []) where
      pub no-numbers : numbers_bounded epochs interval8 satellites comments bases ≡ false → answer ≡ refused 7
      unfolding header_of
      no-numbers e = rw (listed, (moment-at start at given).0, e)

      pub made : numbers_bounded epochs interval8 satellites comments bases ≡ true → answer ≡ begun at
      unfolding header_of
      made e = rw (listed, (moment-at start at given).0, e, (moment-at start at given).1)
