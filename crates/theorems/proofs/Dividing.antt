-- The front page for dividing a stretch: into which accepted files, of both versions mixed, in which one way, what is answered and written, and what is left.
-- Assumes nothing.
use mathlib.Core.Path.{◌≡◌, refl, sym, ap, ap₂, ◌∙◌, subst}
use mathlib.Core.Bool.{Bool, true, false}
use mathlib.Core.Logic.{◌⊎◌, inl, inr, ◌↔◌}
use mathlib.Core.List.{List, [], ◌∷◌, ◌++◌, append-nil}
use Prim.Native.Nat.{ℕ, ◌+◌, ◌≤◌, ◌<◌, zero-le}
use native.Mathlib.Nat.{zero-add}
use native.Mathlib.Omega.{arith}
use borrow.Author.Tests.{le-leb, lt-leb, leb-true, leb-false}
use lib.Dec.{leb}
use lib.ListN.{length, get_or, take, drop, length-append, get_or-append}
use lib.Seq.{take-append_seam, take-append-le}
use Rattle.header.specs.Versions.{rules_in}
use Rattle.header.specs.declared.types.Rules.{Rules}
use Rattle.lines.specs.Lent.{over}
use Rattle.scan.specs.Run.{IsFile, AnyFile}
use Rattle.reader.specs.Reading.{front_of, file_of}
use Rattle.scan.specs.declared.Tally.{Tally}
use Rattle.scan.specs.Front as front
use Rattle.divide.specs.Dividing.{Divides, none, one, Cuts, cuts_of, sum, division, division_from, no_room, divide_of, lengths_after}
use Rattle.divide.specs.declared.Division.{Division}
use Rattle.theorems.proofs.EndToEnd.{files-first, divided, lengths-sum, lengths_some, file-numbered, parts}
use Rattle.scan_laws.proofs.Local as local
use Rattle.scan_laws.proofs.Refused.{refusal-numbered}
use Rattle.scan_laws.proofs.Which.{told-after}
use Rattle.theorems.specs.Divided.{Left, AtFront, TooMany}

-- An accepted file followed by anything is read from the front, by the rules that its own first bytes tell, as it is read whole, and its length is told.
pub file-then-anything : (a b : List ℕ) (t : Tally) → file_of (rules_in a) a ≡ front.File t → (front_of (rules_in (a ++ b)) (a ++ b) ≡ front.File t) × (t.end ≡ length a)
file-then-anything a b t e =
    let w = local.whole-ends (rules_in a) a t e in
    (ap (λ (r : Rules). front_of r (a ++ b)) (told-after a b (t, e)) ∙ local.scan-local (rules_in a) a b t w.0, w.1)

-- No accepted file is the beginning of a longer accepted file, of its version or of the other.
pub not-longer : (a b : List ℕ) → AnyFile a → AnyFile (a ++ b) → b ≡ []
not-longer a b f g = local.not-longer (rules_in a) a b f (subst (λ (r : Rules). IsFile r (a ++ b)) (told-after a b f) g)

-- the lengths of the accepted files at the front
abbrev found : List ℕ → List ℕ
found bytes = (cuts_of bytes).lengths

-- A stretch divides into accepted files in at most one way.
pub one_way : {bytes ls ks : List ℕ} → Divides AnyFile bytes ls → Divides AnyFile bytes ks → ls ≡ ks
one_way {bytes} {ls} {ks} x y =
    sym (append-nil ls) ∙ ap (λ (c : Cuts). c.lengths) (sym (divided x) ∙ divided y) ∙ append-nil ks

-- with room, and without
with-room : (bytes : List ℕ) (room : ℕ) → length (found bytes) ≤ room → divide_of bytes room ≡ division_from 0 0 (cuts_of bytes)
unfolding divide_of
with-room bytes room h = rw (le-leb (length (found bytes)) room h)

without-room : (bytes : List ℕ) (room : ℕ) → room < length (found bytes) → divide_of bytes room ≡ no_room
unfolding divide_of
without-room bytes room h = rw (lt-leb (length (found bytes)) room h)

written-room : (bytes old : List ℕ) → length (found bytes) ≤ length old → lengths_after bytes old ≡ over (found bytes) old
unfolding lengths_after
written-room bytes old h = rw (le-leb (length (found bytes)) (length old) h)

written_none : (bytes old : List ℕ) → length old < length (found bytes) → lengths_after bytes old ≡ old
unfolding lengths_after
written_none bytes old h = rw (lt-leb (length (found bytes)) (length old) h)

room-or-not : (n room : ℕ) → (n ≤ room) ⊎ (room < n)
room-or-not n room = go (leb n room) refl
  where
    go : (b : Bool) → leb n room ≡ b → (n ≤ room) ⊎ (room < n)
    go true e = inl (leb-true n room e)
    go false e = inr (leb-false n room e)

module _ {bytes ls : List ℕ} (x : Divides AnyFile bytes ls) where
  cuts_are : found bytes ≡ ls
  cuts_are = ap (λ (c : Cuts). c.lengths) (divided x) ∙ append-nil ls

  -- Where a stretch divides into accepted files and there is room for their lengths, the answer is their number, the length of the stretch, and
  -- no refusal,
  pub divide_gives : (room : ℕ) → length ls ≤ room → divide_of bytes room ≡ division (length ls) (length bytes) 0 0 0
  divide_gives room h =
      with-room bytes room (omega (arith, ap length cuts_are))
      ∙ ap (division_from 0 0) (divided x)
      ∙ ap (λ (ks : List ℕ). division (0 + length ks) (0 + sum ks) 0 0 0) (append-nil ls)
      ∙ ap₂ (λ (a b : ℕ). division a b 0 0 0) (zero-add (length ls)) (zero-add (sum ls) ∙ lengths-sum x)

  -- and their lengths are written from the first place on, the places past them as they were.
  pub divide-writes : (old : List ℕ) → length ls ≤ length old → lengths_after bytes old ≡ over ls old
  divide-writes old h = written-room bytes old (omega (arith, ap length cuts_are)) ∙ ap (λ (ks : List ℕ). over ks old) cuts_are

-- So two accepted files, one after the other, are two files.
pub two-files : (a b : List ℕ) → AnyFile a → AnyFile b → (room : ℕ) → 2 ≤ room → divide_of (a ++ b) room ≡ division 2 (length (a ++ b)) 0 0 0
two-files a b f g room h =
    divide_gives (subst (λ (s : List ℕ). Divides AnyFile (a ++ s) (length a ∷ length b ∷ [])) (append-nil b) (one a f (one b g none))) room h

beginning : (bytes a b ks : List ℕ) → bytes ≡ a ++ b → Divides AnyFile a ks → found bytes ≡ ks ++ found b
beginning bytes a b ks e x = ap found e ∙ ap (λ (c : Cuts). c.lengths) (files-first b x)

front-with-room : (bytes old : List ℕ) → length (found bytes) ≤ length old → AtFront bytes old (divide_of bytes (length old))
front-with-room bytes old h =
    let p = parts bytes in
    rw (with-room bytes (length old) h)
    (record {
      files = p.files;
      rest = p.rest;
      lengths = found bytes;
      bytes-are = p.bytes-are;
      are-files = p.are-files;
      room = h;
      written = written-room bytes old h;
      count-is = zero-add (length (found bytes));
      rest-begins = zero-add (sum (found bytes)) ∙ lengths-sum p.are-files;
      left = p.left;
      all_there = λ a b ks e x. ap (take (length ks)) (beginning bytes a b ks e x) ∙ take-append_seam ks (found b);
    })

-- So it is wherever the answer is not 12.
pub front-found : (bytes old : List ℕ) → ((divide_of bytes (length old)).refusal ≡ 12 → ⊥) → AtFront bytes old (divide_of bytes (length old))
front-found bytes old room = go (room-or-not (length (found bytes)) (length old))
  where
    go : (length (found bytes) ≤ length old) ⊎ (length old < length (found bytes)) → AtFront bytes old (divide_of bytes (length old))
    go (inl h) = front-with-room bytes old h
    go (inr h) = absurd (room (ap (λ (a : Division). a.refusal) (without-room bytes (length old) h)))

-- no refusal, or one of a rest: 1 to 10
abbrev pub OfRest : ℕ → Type 0
OfRest number = (number ≡ 0) ⊎ ((1 ≤ number) × (number ≤ 10))

left-numbered : (rest : List ℕ) (refusal line column : ℕ) → Left rest refusal line column → OfRest refusal
left-numbered rest refusal line column (inl (empty, zero, l, c)) = inl zero
left-numbered rest refusal line column (inr (some, e)) = inr (refusal-numbered (rules_in rest) rest refusal line column e)

found-numbered : (bytes : List ℕ) → OfRest (cuts_of bytes).refusal
found-numbered bytes = let p = parts bytes in left-numbered p.rest (cuts_of bytes).refusal (cuts_of bytes).line (cuts_of bytes).column p.left

-- The refusal is 0, one of 1 to 10, or 12;
pub refusal-numbers : (bytes : List ℕ) (room : ℕ) → OfRest (divide_of bytes room).refusal ⊎ ((divide_of bytes room).refusal ≡ 12)
refusal-numbers bytes room = go (room-or-not (length (found bytes)) room)
  where
    go : (length (found bytes) ≤ room) ⊎ (room < length (found bytes)) → OfRest (divide_of bytes room).refusal ⊎ ((divide_of bytes room).refusal ≡ 12)
    go (inl h) = inl (rw (with-room bytes room h) (found-numbered bytes))
    go (inr h) = inr (ap (λ (a : Division). a.refusal) (without-room bytes room h))

not-of-rest : (number : ℕ) → 10 < number → OfRest number → ⊥
not-of-rest number h (inl zero) = omega arith
not-of-rest number h (inr some) = omega (arith, some.1)

-- it is never 11.
pub never-11 : (bytes : List ℕ) (room : ℕ) → (divide_of bytes room).refusal ≡ 11 → ⊥
never-11 bytes room e = go (refusal-numbers bytes room)
  where
    go : OfRest (divide_of bytes room).refusal ⊎ ((divide_of bytes room).refusal ≡ 12) → ⊥
    go (inl of-rest) = not-of-rest (divide_of bytes room).refusal (omega arith) of-rest
    go (inr twelve) = omega arith

-- nor 13.
pub never-13 : (bytes : List ℕ) (room : ℕ) → (divide_of bytes room).refusal ≡ 13 → ⊥
never-13 bytes room e = go (refusal-numbers bytes room)
  where
    go : OfRest (divide_of bytes room).refusal ⊎ ((divide_of bytes room).refusal ≡ 12) → ⊥
    go (inl of-rest) = not-of-rest (divide_of bytes room).refusal (omega arith) of-rest
    go (inr twelve) = omega arith

twelve-short : (bytes : List ℕ) (room : ℕ) → (divide_of bytes room).refusal ≡ 12 → room < length (found bytes)
twelve-short bytes room e = go (room-or-not (length (found bytes)) room)
  where
    go : (length (found bytes) ≤ room) ⊎ (room < length (found bytes)) → room < length (found bytes)
    go (inr h) = h
    go (inl h) = let twelve : (cuts_of bytes).refusal ≡ 12 = rw (with-room bytes room h) at e in absurd (not-of-rest (cuts_of bytes).refusal (omega arith) (found-numbered bytes))

-- It is 12 exactly where more accepted files stand at the front than there is room for;
pub twelve-exactly : (bytes : List ℕ) (room : ℕ) → ((divide_of bytes room).refusal ≡ 12) ↔ TooMany bytes room
twelve-exactly bytes room = (there, back)
  where
    there : (divide_of bytes room).refusal ≡ 12 → TooMany bytes room
    there e = let p = parts bytes in (p.files, p.rest, found bytes, p.bytes-are, p.are-files, twelve-short bytes room e)

    back : TooMany bytes room → (divide_of bytes room).refusal ≡ 12
    back (a, b, ls, e, x, h) =
        ap (λ (r : Division). r.refusal)
        (without-room bytes room (omega (arith, ap length (beginning bytes a b ls e x), length-append ls (found b))))

-- then every other part of the answer is 0,
pub twelve-alone : (bytes : List ℕ) (room : ℕ) → (divide_of bytes room).refusal ≡ 12 → divide_of bytes room ≡ division 0 0 12 0 0
twelve-alone bytes room e = without-room bytes room (twelve-short bytes room e)

-- and nothing is written.
pub refusal-keeps : (bytes old : List ℕ) → (divide_of bytes (length old)).refusal ≡ 12 → lengths_after bytes old ≡ old
refusal-keeps bytes old e = written_none bytes old (twelve-short bytes (length old) e)

-- An empty stretch: 0 in every part, whatever the room, and nothing is written.
pub empty-stretch : (room : ℕ) → divide_of [] room ≡ division 0 0 0 0 0
empty-stretch room = divide_gives none room zero-le

pub empty-keeps : (old : List ℕ) → lengths_after [] old ≡ old
empty-keeps old = divide-writes none old zero-le

-- Where the refusal is not 0, the rest is not empty and is refused with the refusal, line and column of the answer, counted from its first byte.
pub rest-refused : {bytes old : List ℕ} {answer : Division} (f : AtFront bytes old answer) → (answer.refusal ≡ 0 → ⊥)
    → (0 < length f.rest) × (front_of (rules_in f.rest) f.rest ≡ front.Refused answer.refusal answer.line answer.column)
rest-refused {answer = answer} f some = go f.left
  where
    go : Left f.rest answer.refusal answer.line answer.column
        → (0 < length f.rest) × (front_of (rules_in f.rest) f.rest ≡ front.Refused answer.refusal answer.line answer.column)
    go (inl (n, zero, l, c)) = absurd (some zero)
    go (inr refused) = refused

-- Where it is 0, the stretch divides into accepted files with exactly the lengths that are written.
pub divide-only : (bytes old : List ℕ) → (divide_of bytes (length old)).refusal ≡ 0
    → (ls : List ℕ) × Divides AnyFile bytes ls × ((divide_of bytes (length old)).count ≡ length ls) × (lengths_after bytes old ≡ over ls old)
divide-only bytes old e = go (front-found bytes old (λ twelve. omega arith))
  where
    go : AtFront bytes old (divide_of bytes (length old))
        → (ls : List ℕ) × Divides AnyFile bytes ls × ((divide_of bytes (length old)).count ≡ length ls) × (lengths_after bytes old ≡ over ls old)
    go f = (f.lengths, subst (λ (s : List ℕ). Divides AnyFile s f.lengths) (sym (whole f.left)) f.are-files, f.count-is, f.written)
      where
        whole : Left f.rest (divide_of bytes (length old)).refusal (divide_of bytes (length old)).line (divide_of bytes (length old)).column → bytes ≡ f.files
        whole (inl (empty, zero, l, c)) = f.bytes-are ∙ ap (λ (s : List ℕ). f.files ++ s) empty ∙ append-nil f.files
        whole (inr (some, refused)) =
            absurd (omega (arith, (refusal-numbered (rules_in f.rest) f.rest (divide_of bytes (length old)).refusal (divide_of bytes (length old)).line (divide_of bytes (length old)).column refused).0))

-- Both at once: with room, a division is answered and written exactly when it is one.
pub divides-exactly : (bytes old ls : List ℕ) → length ls ≤ length old
    → Divides AnyFile bytes ls ↔ ((divide_of bytes (length old) ≡ division (length ls) (length bytes) 0 0 0) × (lengths_after bytes old ≡ over ls old))
divides-exactly bytes old ls h = (λ x. (divide_gives x (length old) h, divide-writes x old h), λ told. back told.0 told.1)
  where
    back : divide_of bytes (length old) ≡ division (length ls) (length bytes) 0 0 0 → lengths_after bytes old ≡ over ls old → Divides AnyFile bytes ls
    back e w = go (divide-only bytes old (ap (λ (a : Division). a.refusal) e))
      where
        go : (ks : List ℕ) × Divides AnyFile bytes ks × ((divide_of bytes (length old)).count ≡ length ks) × (lengths_after bytes old ≡ over ks old) → Divides AnyFile bytes ls
        go (ks, x, count, v) =
            let many : length ks ≡ length ls = sym count ∙ ap (λ (a : Division). a.count) e in
            let same : ks ≡ ls =
            sym (take-append_seam ks (drop (length ks) old))
            ∙ ap₂ (λ (n : ℕ) (s : List ℕ). take n s) many (sym v ∙ w)
            ∙ take-append_seam ls (drop (length ls) old) in
            subst (Divides AnyFile bytes) same x

-- The lengths that are written, by what was lent and is now.
module _ (bytes old : List ℕ) where
  abbrev answer : Division
  answer = divide_of bytes (length old)

  abbrev now : List ℕ
  now = lengths_after bytes old

  none-counted : length old < length (found bytes) → answer.count ≡ 0
  none-counted h = ap (λ (a : Division). a.count) (without-room bytes (length old) h)

  lengths-front : (f : AtFront bytes old answer) → take answer.count now ≡ f.lengths
  lengths-front f = ap₂ (λ (n : ℕ) (s : List ℕ). take n s) f.count-is f.written ∙ take-append_seam f.lengths (drop (length f.lengths) old)

  -- The rest begins at the sum of the lengths.
  pub rest-at-sum : sum (take answer.count now) ≡ answer.rest
  unfolding sum
  rest-at-sum = go (room-or-not (length (found bytes)) (length old))
    where
      go : (length (found bytes) ≤ length old) ⊎ (length old < length (found bytes)) → sum (take answer.count now) ≡ answer.rest
      go (inl h) = let f = front-with-room bytes old h in ap sum (lengths-front f) ∙ lengths-sum f.are-files ∙ sym f.rest-begins
      go (inr h) = ap (λ (a : Division). sum (take a.count now)) (without-room bytes (length old) h) ∙ sym (ap (λ (a : Division). a.rest) (without-room bytes (length old) h))

  module _ (i : ℕ) (h : i < answer.count) where
    has-front : (length (found bytes) ≤ length old) ⊎ (length old < length (found bytes)) → AtFront bytes old answer
    has-front (inl room) = front-with-room bytes old room
    has-front (inr short) = absurd (omega (arith, none-counted short))

    abbrev f : AtFront bytes old answer
    f = has-front (room-or-not (length (found bytes)) (length old))

    below : i < length f.lengths
    below = omega (arith, f.count-is)

    length_at : get_or now i 0 ≡ get_or f.lengths i 0
    length_at = ap (λ (s : List ℕ). get_or s i 0) f.written ∙ get_or-append f.lengths (drop (length f.lengths) old) 0 i below

    before-it : take i now ≡ take i f.lengths
    before-it = ap (take i) f.written ∙ take-append-le i f.lengths (drop (length f.lengths) old) (omega (arith, below))

    -- Each length is at least 1.
    pub length_some : 1 ≤ get_or now i 0
    length_some = omega (arith, length_at, lengths_some f.are-files i below)

    -- The file of number i begins at the sum of the first i lengths, and is an accepted file of the length of number i.
    pub file-at-sum : AnyFile (take (get_or now i 0) (drop (sum (take i now)) bytes))
    file-at-sum =
        rw (length_at, before-it)
        (subst (λ (s : List ℕ). AnyFile (take (get_or f.lengths i 0) (drop (sum (take i f.lengths)) s))) (sym f.bytes-are)
        (file-numbered f.rest f.are-files i below))
