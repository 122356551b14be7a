-- What an accepted header says, what stands beside a refusal, and how many `+ ` lines there are.
-- Assumes nothing.
use mathlib.Core.Bool.{Bool, true, false, cond, ◌&&◌}
use mathlib.Core.List.{List}
use mathlib.Core.Logic.{◌⊎◌, inl, inr}
use mathlib.Core.Path.{◌≡◌, refl}
use Prim.Native.Nat.{ℕ, ◌-◌, ◌*◌, ◌≤◌, ◌<◌}
use native.Mathlib.Omega.{arith}
use borrow.Author.Tests.{leb-true}
use lib.Dec.{leb, eqb}
use Rattle.laws.specs.Tests.{within}
use Rattle.layout.specs.Kind.{is_one_of, is_listed}
use Rattle.header.specs.Rules.{max_satellites, max_epochs, min_comments, slot_lines}
use Rattle.header.specs.Letters.{modes, file_types, time_systems}
use Rattle.header.specs.Header.{max_interval, max_place_base, max_clock_base, texts_printable, letters_listed, is_moment, instant_of, numbers_bounded, no_header, refused, header_of}
use Rattle.header.specs.declared.types.Moment.{Moment}
use Rattle.header.specs.declared.types.Texts.{Texts}
use Rattle.header.specs.declared.types.Bases.{Bases}
use Rattle.header.specs.declared.types.Header.{Header}
use Rattle.header.specs.declared.types.HeaderAnswer.{HeaderAnswer}
use Rattle.laws.proofs.Bools.{and_left, and_right, both_true}
use Rattle.laws.proofs.Bounds.{within-true}
use Rattle.header.proofs.Answers.{begun}

-- the numbers of a header, within their bounds
pub record Bounded (epochs interval8 satellites comments : ℕ) (bases : Bases) : Type 0 where
  pub epochs-in : (1 ≤ epochs) × (epochs ≤ max_epochs)
  pub interval8-in : (1 ≤ interval8) × (interval8 ≤ max_interval)
  pub satellites-in : (1 ≤ satellites) × (satellites ≤ max_satellites)
  pub comments-in : min_comments ≤ comments
  pub place_in : bases.place ≤ max_place_base
  pub clock-in : bases.clock ≤ max_clock_base

-- the letters, words and texts of a header
pub record Listed (mode : ℕ) (texts : Texts) (file_type : ℕ) (time_system : List ℕ) : Type 0 where
  pub mode-in : is_one_of mode modes ≡ true
  pub file-type-in : is_one_of file_type file_types ≡ true
  pub time-system-in : is_listed time_system time_systems ≡ true
  pub texts-in : texts_printable texts ≡ true

pub numbers-bounded : (e i n c : ℕ) (b : Bases) → numbers_bounded e i n c b ≡ true → Bounded e i n c b
unfolding numbers_bounded
numbers-bounded e i n c b h =
    let bases = leb b.place max_place_base && leb b.clock max_clock_base in
    let p = both_true (within 1 max_epochs e) (within 1 max_interval i && (within 1 max_satellites n && (leb min_comments c && bases))) h in
    let q = both_true (within 1 max_interval i) (within 1 max_satellites n && (leb min_comments c && bases)) p.1 in
    let r = both_true (within 1 max_satellites n) (leb min_comments c && bases) q.1 in
    let s = both_true (leb min_comments c) bases r.1 in
    let t = both_true (leb b.place max_place_base) (leb b.clock max_clock_base) s.1 in
    record {
      epochs-in = within-true 1 max_epochs e p.0;
      interval8-in = within-true 1 max_interval i q.0;
      satellites-in = within-true 1 max_satellites n r.0;
      comments-in = leb-true min_comments c s.0;
      place_in = leb-true b.place max_place_base t.0;
      clock-in = leb-true b.clock max_clock_base t.1;
    }

pub letters-listed : (mode : ℕ) (texts : Texts) (file_type : ℕ) (time_system : List ℕ) →
    letters_listed mode texts file_type time_system ≡ true → Listed mode texts file_type time_system
unfolding letters_listed
letters-listed mode texts file_type time_system h =
    let timed = is_listed time_system time_systems && texts_printable texts in
    let p = both_true (is_one_of mode modes) (is_one_of file_type file_types && timed) h in
    let q = both_true (is_one_of file_type file_types) timed p.1 in
    let r = both_true (is_listed time_system time_systems) (texts_printable texts) q.1 in
    record { mode-in = p.0; file-type-in = q.0; time-system-in = r.0; texts-in = r.1 }

-- an accepted header: what was asked is in it, and stays within its bounds
pub record Accepted (mode : ℕ) (start : Moment) (h : Header) : Type 0 where
  pub velocity-is : h.velocity ≡ eqb mode 86
  pub start_is : is_moment start ≡ true
  pub start8-is : h.start8 ≡ instant_of start
  pub numbers : Bounded h.epochs h.interval8 h.satellites h.comments h.bases
  pub letters : Listed mode h.texts h.file_type h.time_system

-- an answer by its two tests
abbrev answered : Bool → Bool → Header → HeaderAnswer
answered t u h = cond t (cond u (record { refusal = 0; header = h }) (refused 7)) (refused 6)

both-passed : (t u : Bool) (h : Header) → (answered t u h).refusal ≡ 0 → (t ≡ true) × (u ≡ true)
both-passed true true h e = (refl, refl)
both-passed true false h e = absurd (omega arith)
both-passed false u h e = absurd (omega arith)

none_beside : (t u : Bool) (h : Header) → ((answered t u h).refusal ≡ 0 → ⊥) → (answered t u h).header ≡ no_header
none_beside true true h e = absurd (e refl)
none_beside true false h e = refl
none_beside false u h e = refl

three-answers : (t u : Bool) (h : Header) →
    ((answered t u h).refusal ≡ 0) ⊎ (((answered t u h).refusal ≡ 6) ⊎ ((answered t u h).refusal ≡ 7))
three-answers true true h = inl refl
three-answers true false h = inr (inr refl)
three-answers false u h = inr (inl refl)

module _ (mode : ℕ) (start : Moment) (epochs interval8 : ℕ) (texts : Texts) (satellites comments file_type : ℕ) (time_system : List ℕ) (bases : Bases) where
  abbrev answer : HeaderAnswer
  answer = header_of mode start epochs interval8 texts satellites comments file_type time_system bases

  abbrev whole : ℕ → HeaderAnswer
  whole = begun mode start epochs interval8 texts satellites comments file_type time_system bases

  abbrev listed : Bool
  listed = letters_listed mode texts file_type time_system

  abbrev bounded : Bool
  bounded = numbers_bounded epochs interval8 satellites comments bases

  tests-passed : answer.refusal ≡ 0 → (listed ≡ true) × ((is_moment start && bounded) ≡ true)
  unfolding header_of
  tests-passed e = both-passed listed (is_moment start && bounded) (whole (instant_of start)).header e

  -- an accepted header has the letters, words and texts that its fields may hold
  pub new-letters : answer.refusal ≡ 0 → Listed mode texts file_type time_system
  new-letters e = letters-listed mode texts file_type time_system (tests-passed e).0

  -- its numbers are within their bounds, and its start is a date and a time of day
  pub new-numbers : answer.refusal ≡ 0 → Bounded epochs interval8 satellites comments bases
  new-numbers e = numbers-bounded epochs interval8 satellites comments bases
      (and_right (is_moment start) bounded (tests-passed e).1)

  pub new-start : answer.refusal ≡ 0 → is_moment start ≡ true
  new-start e = and_left (is_moment start) bounded (tests-passed e).1

  -- it holds what was given
  pub new-made : answer.refusal ≡ 0 → answer ≡ whole (instant_of start)
  unfolding header_of
  new-made e = rw ((tests-passed e).0, (tests-passed e).1)

  pub new-accepted : answer.refusal ≡ 0 → Accepted mode start answer.header
  new-accepted e =
      rw (new-made e)
      (record {
        velocity-is = refl;
        start_is = new-start e;
        start8-is = refl;
        numbers = new-numbers e;
        letters = new-letters e;
      })

  -- and such letters, numbers and texts are accepted
  pub new-accepts : listed ≡ true → is_moment start ≡ true →
      bounded ≡ true → answer.refusal ≡ 0
  unfolding header_of
  new-accepts l m n = rw (l, m, n)

  -- no other refusal than 6 and 7, and no header beside one
  pub new-answers : (answer.refusal ≡ 0) ⊎ ((answer.refusal ≡ 6) ⊎ (answer.refusal ≡ 7))
  unfolding header_of
  new-answers = three-answers listed (is_moment start && bounded) (whole (instant_of start)).header

  pub new-refused : (answer.refusal ≡ 0 → ⊥) → answer.header ≡ no_header
  unfolding header_of
  new-refused e = none_beside listed (is_moment start && bounded) (whole (instant_of start)).header e

-- five lines up to 85 satellites, fifteen for 255, fifty-nine for the most
pub slots-85 : slot_lines 85 ≡ 5
unfolding slot_lines
slots-85 = refl

pub slots-86 : slot_lines 86 ≡ 6
unfolding slot_lines
slots-86 = refl

pub slots-255 : slot_lines 255 ≡ 15
unfolding slot_lines
slots-255 = refl

pub slots-most : slot_lines max_satellites ≡ 59
unfolding slot_lines
slots-most = refl

-- the lines have a slot for each satellite, and none of them is beyond the fifth and without one
pub slots-enough : (n : ℕ) → n ≤ slot_lines n * 17
unfolding slot_lines
slots-enough n = omega arith

pub slots-needed : (n : ℕ) → 5 < slot_lines n → (slot_lines n - 1) * 17 < n
unfolding slot_lines
slots-needed n h = omega arith
