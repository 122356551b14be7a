-- The front page for lent room: how much a reading needs, 12 where it is less, and that a refusal changes nothing. Reading a whole file
-- and reading the file at the front of some bytes are said at once.
-- Assumes nothing.
use mathlib.Core.Path.{◌≡◌, refl, sym, ap, ◌∙◌}
use mathlib.Core.Bool.{Bool, true, false, cond, ◌&&◌, false≢true}
use mathlib.Core.Logic.{◌⊎◌, inl, inr, ◌↔◌}
use mathlib.Core.List.{List}
use Prim.Native.Nat.{ℕ, ◌*◌, ◌/◌, ◌≤◌}
use native.Mathlib.Nat.{lt_of_not-le}
use native.Mathlib.Decide.{dec_le}
use native.Mathlib.Omega.{arith}
use borrow.Author.Tests.{leb-true, le-leb}
use lib.Dec.{leb}
use lib.ListN.{length, take, drop}
use lib.Seq.{take_at, drop_at}
use Rattle.laws.proofs.Bools.{and_left, and_right, and_both}
use Rattle.header.specs.declared.types.Rules.{Rules}
use Rattle.record.specs.Plain.{comment_width}
use Rattle.record.specs.Rows.{row_width}
use Rattle.file.specs.Plain.{Plain}
use Rattle.file.specs.Table.{count_of, header_in, comments_in, row_lines, rows_in}
use Rattle.reader.specs.Reading.{refused_with, lines_to, accepted_as, front_of, room_for, enough, delivered, filled, identifiers_of, exponents_of}
use Rattle.scan_laws.proofs.Files.{plain-front}
use Rattle.scan_laws.proofs.Local.{whole-ends}
use Rattle.scan_laws.proofs.Used.{accepted-front}
use Rattle.file_laws.proofs.Counts.{count-is, rows-many, rows-many-both, identifiers-room, exponents-room, comments-room, places-room, motions-room}
use Rattle.file_laws.proofs.Selected.{satellites, kind-comments}
use Rattle.theorems.proofs.Accepting.{says-satellites, says-epochs, says-velocity, says-comments}
use Rattle.theorems.proofs.Judging.{refused-numbers, Followed, whole-refused}
use Rattle.header.specs.declared.types.Header.{Header}
use Rattle.scan.specs.declared.Tally.{Tally}
use Rattle.std.specs.Prelude.{Ok, Err}
use Rattle.scan.specs.Front.{Front}
use Rattle.scan.specs.Front as front
use Rattle.theorems.specs.Room.{found_in, answer, fills, rows_needed, Room, Short}
use Rattle.canon_laws.specs.Held.{Proper}

-- the header of the table of a file that is found to end at a byte
abbrev pub header_to : Rules → List ℕ → Tally → Header
header_to rules bytes t = header_in rules (lines_to t.end bytes)

pub room-or-short : (h : Header) (i x c r : ℕ) → Room h i x c r ⊎ Short h i x c r
room-or-short h i x c r = go (dec_le h.satellites i) (dec_le h.satellites x) (dec_le (comment_width * h.comments) c) (dec_le (rows_needed h) r)
  where
    go : Dec (h.satellites ≤ i) → Dec (h.satellites ≤ x) → Dec (comment_width * h.comments ≤ c) → Dec (rows_needed h ≤ r) → Room h i x c r ⊎ Short h i x c r
    go (yes a) (yes b) (yes e) (yes f) = inl (record { identifiers = a; exponents = b; comments = e; rows = f })
    go (no a) b e f = inr (inl (omega arith))
    go (yes a) (no b) e f = inr (inr (inl (omega arith)))
    go (yes a) (yes b) (no e) f = inr (inr (inr (inl (omega arith))))
    go (yes a) (yes b) (yes e) (no f) = inr (inr (inr (inr (lt_of_not-le f))))

module _ {rules : Rules} (proper : Proper rules) where
  -- A file that was found is one at the front.
  found_front : (whole : Bool) (bytes : List ℕ) (t : Tally) → found_in rules whole bytes ≡ front.File t → front_of rules bytes ≡ front.File t
  found_front true bytes t e = (whole-ends rules bytes t e).0
  found_front false bytes t e = e

  -- a refusal that was found has a number
  pub found-numbered : (whole : Bool) (bytes : List ℕ) (number line column : ℕ) → found_in rules whole bytes ≡ front.Refused number line column → 1 ≤ number
  found-numbered false bytes number line column e = (refused-numbers proper bytes number line column e).0
  found-numbered true bytes number line column e = go (whole-refused proper bytes number line column e)
    where
      go : (front_of rules bytes ≡ front.Refused number line column)
          ⊎ Followed rules bytes number line column
          → 1 ≤ number
      go (inl refused) = (refused-numbers proper bytes number line column refused).0
      go (inr (t, f, h, eleven, l, c)) = omega arith

  module _ (bytes : List ℕ) (t : Tally) (front-is : front_of rules bytes ≡ front.File t) where
    abbrev lines : List (List ℕ)
    lines = lines_to t.end bytes

    abbrev p : Plain rules lines
    p = plain-front rules proper.sound bytes t front-is

    abbrev h : Header
    h = header_in rules lines

    -- the counts are those of the header
    comments-are : t.comments ≡ h.comments
    comments-are = (accepted-front rules bytes t front-is).comments ∙ ap length (kind-comments p) ∙ sym (says-comments p)

    rows_are : row_width * t.rows ≡ rows_needed h
    rows_are = ap (λ (n : ℕ). row_width * n) (accepted-front rules bytes t front-is).rows ∙ go h.velocity refl
      where
        go : (v : Bool) → h.velocity ≡ v → row_width * length (row_lines rules lines) ≡ rows_needed h
        go true e =
            let many = rows-many-both p (sym (says-velocity p) ∙ e) in
            rw (e, says-satellites p, says-epochs p) (omega arith)
        go false e =
            let many = rows-many p (sym (says-velocity p) ∙ e) in
            rw (e, says-satellites p, says-epochs p) (omega arith)

    satellites-are : count_of rules lines ≡ h.satellites
    satellites-are = count-is p ∙ sym (says-satellites p)

    -- the test is that of the room
    room-needed : (i x c r : ℕ) → room_for (count_of rules lines) t i x c r ≡ true → Room h i x c r
    unfolding room_for
    room-needed i x c r e =
        let left = and_left (leb (count_of rules lines) i && leb (count_of rules lines) x) (leb t.comments (c / comment_width) && leb t.rows (r / row_width)) e in
        let right = and_right (leb (count_of rules lines) i && leb (count_of rules lines) x) (leb t.comments (c / comment_width) && leb t.rows (r / row_width)) e in
        let ids = leb-true (count_of rules lines) i (and_left (leb (count_of rules lines) i) (leb (count_of rules lines) x) left) in
        let exps = leb-true (count_of rules lines) x (and_right (leb (count_of rules lines) i) (leb (count_of rules lines) x) left) in
        let notes = leb-true t.comments (c / comment_width) (and_left (leb t.comments (c / comment_width)) (leb t.rows (r / row_width)) right) in
        let many = leb-true t.rows (r / row_width) (and_right (leb t.comments (c / comment_width)) (leb t.rows (r / row_width)) right) in
        record {
          identifiers = omega (arith, satellites-are);
          exponents = omega (arith, satellites-are);
          comments = omega (arith, comments-are);
          rows = omega (arith, rows_are);
        }

    room-suffices : (i x c r : ℕ) → Room h i x c r → room_for (count_of rules lines) t i x c r ≡ true
    unfolding room_for
    room-suffices i x c r room =
        and_both (leb (count_of rules lines) i && leb (count_of rules lines) x) (leb t.comments (c / comment_width) && leb t.rows (r / row_width))
        (and_both (leb (count_of rules lines) i) (leb (count_of rules lines) x)
        (le-leb (count_of rules lines) i (omega (arith, room.identifiers, satellites-are)))
        (le-leb (count_of rules lines) x (omega (arith, room.exponents, satellites-are))))
        (and_both (leb t.comments (c / comment_width)) (leb t.rows (r / row_width))
        (le-leb t.comments (c / comment_width) (omega (arith, room.comments, comments-are)))
        (le-leb t.rows (r / row_width) (omega (arith, room.rows, rows_are))))

    -- what is to be filled has just so many places
    identifiers-long : length (identifiers_of rules lines) ≡ h.satellites
    identifiers-long = rw (count-is p) (identifiers-room p) ∙ sym (says-satellites p)

    exponents-long : length (exponents_of rules lines) ≡ h.satellites
    exponents-long = rw (count-is p) (exponents-room p) ∙ sym (says-satellites p)

    comments-long : length (comments_in rules lines) ≡ comment_width * h.comments
    comments-long = comments-room p ∙ ap (λ (n : ℕ). comment_width * n) (sym (says-comments p))

    rows_long : length (rows_in rules lines) ≡ rows_needed h
    rows_long = go h.velocity refl
      where
        go : (v : Bool) → h.velocity ≡ v → length (rows_in rules lines) ≡ rows_needed h
        go true e =
            let many = motions-room p (sym (says-velocity p) ∙ e) in
            rw (e, says-satellites p, says-epochs p) (omega arith)
        go false e = rw (e, says-satellites p, says-epochs p) (places-room p (sym (says-velocity p) ∙ e))

  -- short somewhere is not room
  short-no-room : (h : Header) (i x c r : ℕ) → Short h i x c r → Room h i x c r → ⊥
  short-no-room h i x c r (inl s) room = omega (arith, room.identifiers)
  short-no-room h i x c r (inr (inl s)) room = omega (arith, room.exponents)
  short-no-room h i x c r (inr (inr (inl s))) room = omega (arith, room.comments)
  short-no-room h i x c r (inr (inr (inr s))) room = omega (arith, room.rows)

  module _ (whole : Bool) (bytes : List ℕ) where
    module _ (t : Tally) (found : found_in rules whole bytes ≡ front.File t) where
      -- ROOM: a reading fills exactly where there is room for n identifiers and exponents, for 77 bytes of each comment and for all the
      -- numbers of each row.
      pub fills-exactly : (i x c r : ℕ) → (fills rules whole bytes i x c r ≡ true) ↔ Room (header_to rules bytes t) i x c r
      unfolding enough
      fills-exactly i x c r = (
        λ e. room-needed bytes t (found_front whole bytes t found) i x c r (rw found at e),
        λ room. rw found (room-suffices bytes t (found_front whole bytes t found) i x c r room),
      )

      -- What is filled has just so many places.
      pub lists-long : (length (identifiers_of rules (lines_to t.end bytes)) ≡ (header_to rules bytes t).satellites)
          × (length (exponents_of rules (lines_to t.end bytes)) ≡ (header_to rules bytes t).satellites)
          × (length (comments_in rules (lines_to t.end bytes)) ≡ comment_width * (header_to rules bytes t).comments)
          × (length (rows_in rules (lines_to t.end bytes)) ≡ rows_needed (header_to rules bytes t))
      lists-long = let e = found_front whole bytes t found in (identifiers-long bytes t e, exponents-long bytes t e, comments-long bytes t e, rows_long bytes t e)

      -- With that room the answer is 0,
      pub room-accepted : (i x c r : ℕ) → Room (header_to rules bytes t) i x c r → answer rules whole bytes i x c r ≡ accepted_as rules bytes t
      unfolding delivered
      room-accepted i x c r room = rw (found, room-suffices bytes t (found_front whole bytes t found) i x c r room)

      -- so it is with no place more than that,
      pub exact-room : answer rules whole bytes (header_to rules bytes t).satellites (header_to rules bytes t).satellites (comment_width * (header_to rules bytes t).comments) (rows_needed (header_to rules bytes t)) ≡ accepted_as rules bytes t
      exact-room =
          room-accepted (header_to rules bytes t).satellites (header_to rules bytes t).satellites (comment_width * (header_to rules bytes t).comments) (rows_needed (header_to rules bytes t))
          (record { identifiers = omega arith; exponents = omega arith; comments = omega arith; rows = omega arith })

      -- and with one less anywhere it is 12, line 0.
      pub short-refused : (i x c r : ℕ) → Short (header_to rules bytes t) i x c r → answer rules whole bytes i x c r ≡ refused_with 12 0 0
      unfolding delivered
      short-refused i x c r short = go (room_for (count_of rules (lines_to t.end bytes)) t i x c r) refl
        where
          go : (b : Bool) → room_for (count_of rules (lines_to t.end bytes)) t i x c r ≡ b → answer rules whole bytes i x c r ≡ refused_with 12 0 0
          go true e =
              absurd (short-no-room (header_to rules bytes t) i x c r short (room-needed bytes t (found_front whole bytes t found) i x c r e))
          go false e = rw (found, e)

    -- The answer decides: a reading fills exactly where it answers 0.
    pub answer-decides : (i x c r : ℕ) → ((answer rules whole bytes i x c r).refusal ≡ 0) ↔ (fills rules whole bytes i x c r ≡ true)
    unfolding delivered enough
    answer-decides i x c r = go (found_in rules whole bytes) refl
      where
        go : (f : Front) → found_in rules whole bytes ≡ f → ((delivered rules bytes f i x c r).refusal ≡ 0) ↔ (enough rules bytes f i x c r ≡ true)
        go (Err refusal) e =
            let some = found-numbered whole bytes refusal.number refusal.line refusal.column e in
            (λ zero. absurd (omega arith), λ fills. absurd (false≢true fills))
        go (Ok t) e = by (room_for (count_of rules (lines_to t.end bytes)) t i x c r)
          where
            by : (b : Bool) → ((cond b (accepted_as rules bytes t) (refused_with 12 0 0)).refusal ≡ 0) ↔ (b ≡ true)
            by true = (λ e. refl, λ e. refl)
            by false = (λ e. absurd (omega arith), λ e. absurd (false≢true e))

    -- REFUSALS CHANGE NOTHING: where the answer is not 0, every lent list is as it was.
    pub refusal-keeps : {A : Type 0} (i x c r : ℕ) (new old : List A) → ((answer rules whole bytes i x c r).refusal ≡ 0 → ⊥) → filled (fills rules whole bytes i x c r) new old ≡ old
    refusal-keeps {A} i x c r new old refused = go (fills rules whole bytes i x c r) refl
      where
        go : (b : Bool) → fills rules whole bytes i x c r ≡ b → filled b new old ≡ old
        go true e = absurd (refused ((answer-decides i x c r).1 e))
        go false e = refl

    -- Where it is 0, the new elements stand from the first place on, and the places past them are as they were.
    pub success-fills : {A : Type 0} (i x c r : ℕ) (new old : List A) → (answer rules whole bytes i x c r).refusal ≡ 0
        → (take (length new) (filled (fills rules whole bytes i x c r) new old) ≡ new) × (drop (length new) (filled (fills rules whole bytes i x c r) new old) ≡ drop (length new) old)
    success-fills i x c r new old zero =
        let e = (answer-decides i x c r).0 zero in (
          ap (λ (b : Bool). take (length new) (filled b new old)) e ∙ take_at new (drop (length new) old) (length new) refl,
          ap (λ (b : Bool). drop (length new) (filled b new old)) e ∙ drop_at new (drop (length new) old) (length new) refl,
        )
