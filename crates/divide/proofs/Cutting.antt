-- Laws of the cuts of a stretch: at its end, at a refusal, and at a file; and the turns of the two loops that go by them.
-- Assumes nothing.
use mathlib.Core.Path.{◌≡◌, refl, sym, ap, ap₂, ◌∙◌, subst}
use mathlib.Core.Bool.{Bool, true, false, cond}
use mathlib.Core.List.{List, [], ◌∷◌}
use Prim.Native.Nat.{ℕ, zero, suc, ◌+◌, ◌-◌, ◌≤◌, ◌<◌, zero-le}
use native.Mathlib.Nat.{add-zero, add_assoc, le_refl}
use native.Mathlib.Omega.{arith}
use borrow.Author.Tests.{le-leb, lt-leb, leb-true}
use lib.Dec.{leb}
use lib.ListN.{length, take, drop, set, length-drop}
use lib.Seq.{drop-drop, length-take-le, take_all}
use Rattle.laws.proofs.Lists.{rest_part}
use Rattle.lines.specs.Lent.{over}
use Rattle.lines.proofs.Laying.{Laying, laying-none, laying-one, laid-fits}
use Rattle.header.specs.Versions.{rules_in}
use Rattle.scan.specs.Run.{scan_of}
use Rattle.scan.specs.Told.{told_front}
use Rattle.scan.specs.declared.Tally.{Tally}
use Rattle.std.specs.Prelude.{Ok, Err}
use Rattle.scan.specs.Front.{Front}
use Rattle.scan.specs.Front as front
use Rattle.scan.proofs.Told.{told_front-one}
use Rattle.scan_laws.proofs.Refused.{accepted-steps}
use Rattle.scan_laws.proofs.Used.{accepted-front}
use Rattle.divide.specs.declared.Division.{Division}
use Rattle.divide.specs.Dividing.{Cuts, no_cuts, refused_cuts, after, cuts, cuts_of, sum, division, division_from, no_room, divide_of, lengths_after, FileHere, end_of}

-- what stands at the front of some bytes, by the rules that they tell
abbrev front_here : List ℕ → Front
front_here bytes = scan_of (rules_in bytes) bytes

-- a file takes a byte at least
pub takes-byte : (bytes : List ℕ) (t : Tally) → front_here bytes ≡ front.File t → 1 ≤ t.end
takes-byte bytes t e = omega (arith, (accepted-steps (rules_in bytes) bytes t e).lines, (accepted-front (rules_in bytes) bytes t e).lines-within)

none_left : (n : ℕ) → cuts n [] ≡ no_cuts
unfolding cuts
none_left zero = refl
none_left (suc n) = refl

no_bytes : (n : ℕ) (xs : List ℕ) → length xs ≤ 0 → cuts n xs ≡ no_cuts
no_bytes n [] h = none_left n
no_bytes n (b ∷ bs) h = absurd (omega arith)

abbrev SameCuts : ℕ → ℕ → Type 0
SameCuts m n = (xs : List ℕ) → length xs ≤ m → length xs ≤ n → cuts m xs ≡ cuts n xs

one_more : (m n : ℕ) → SameCuts m n → SameCuts (suc m) (suc n)
unfolding cuts
one_more m n same [] h k = refl
one_more m n same (b ∷ bs) h k = go (front_here (b ∷ bs)) refl
  where
    go : (f : Front) → front_here (b ∷ bs) ≡ f → cuts (suc m) (b ∷ bs) ≡ cuts (suc n) (b ∷ bs)
    go (Err refusal) e = rw e
    go (Ok t) e =
        let less : length (drop t.end (b ∷ bs)) ≡ length (b ∷ bs) - t.end = length-drop t.end (b ∷ bs) in
        let byte : 1 ≤ t.end = takes-byte (b ∷ bs) t e in
        rw e (ap (after t.end) (same (drop t.end (b ∷ bs)) (omega arith) (omega arith)))

-- how many files are allowed does not matter, where there are as many as bytes
cuts-most : (m n : ℕ) → SameCuts m n
cuts-most zero n xs h k = no_bytes zero xs h ∙ sym (no_bytes n xs h)
cuts-most (suc m) zero xs h k = no_bytes (suc m) xs k ∙ sym (no_bytes zero xs k)
cuts-most (suc m) (suc n) xs h k = one_more m n (cuts-most m n) xs h k

-- The cuts at the end of a stretch, at a refusal, and at a file.
pub cut-end : (xs : List ℕ) → length xs ≤ 0 → cuts_of xs ≡ no_cuts
cut-end xs h = no_bytes (length xs) xs h

pub cut-refused : (xs : List ℕ) (number line column : ℕ) → 0 < length xs → front_here xs ≡ front.Refused number line column
    → cuts_of xs ≡ refused_cuts number line column
unfolding cuts
cut-refused [] number line column h e = absurd (omega arith)
cut-refused (b ∷ bs) number line column h e = rw e

pub cut-file : (xs : List ℕ) (t : Tally) → front_here xs ≡ front.File t → cuts_of xs ≡ after t.end (cuts_of (drop t.end xs))
unfolding cuts
cut-file [] t e = absurd (omega (arith, takes-byte [] t e, (accepted-front (rules_in []) [] t e).within))
cut-file (b ∷ bs) t e =
    let rest = drop t.end (b ∷ bs) in
    let less : length rest ≡ length (b ∷ bs) - t.end = length-drop t.end (b ∷ bs) in
    let byte : 1 ≤ t.end = takes-byte (b ∷ bs) t e in
    rw e (ap (after t.end) (cuts-most (length bs) (length rest) rest (omega arith) (le_refl (length rest))))

-- Where there is a cut, a file stands.
pub cut-here : (xs : List ℕ) → 0 < length (cuts_of xs).lengths → FileHere xs
cut-here [] h = absurd (omega (arith, ap (λ (c : Cuts). length c.lengths) (cut-end [] (le_refl 0))))
cut-here (b ∷ bs) h = go (front_here (b ∷ bs)) refl
  where
    go : (f : Front) → front_here (b ∷ bs) ≡ f → FileHere (b ∷ bs)
    go (Ok t) e = (t, e)
    go (Err refusal) e =
        absurd (omega (arith, ap (λ (c : Cuts). length c.lengths) (cut-refused (b ∷ bs) refusal.number refusal.line refusal.column (omega arith) e)))

-- a file of so many bytes stands at `rest`
pub record Cut (bytes : List ℕ) (rest end : ℕ) : Type 0 where
  pub within : rest + end ≤ length bytes
  pub byte : 1 ≤ end
  pub same : cuts_of (drop rest bytes) ≡ after end (cuts_of (drop (rest + end) bytes))

pub file-at : (bytes : List ℕ) (rest : ℕ) (t : Tally) → rest ≤ length bytes → front_here (drop rest bytes) ≡ front.File t
    → Cut bytes rest t.end
file-at bytes rest t h e = record {
  within = omega (arith, (accepted-front (rules_in (drop rest bytes)) (drop rest bytes) t e).within, length-drop rest bytes);
  byte = takes-byte (drop rest bytes) t e;
  same = cut-file (drop rest bytes) t e ∙ ap (λ (xs : List ℕ). after t.end (cuts_of xs)) (drop-drop t.end rest bytes);
}

-- The loop that counts: the files counted and those of the rest are the files of all, and there was room for those counted.
pub record Counting (bytes : List ℕ) (room count rest : ℕ) : Type 0 where
  pub within : rest ≤ length bytes
  pub few : count ≤ rest
  pub fits : count ≤ room
  pub same : division_from count rest (cuts_of (drop rest bytes)) ≡ division_from 0 0 (cuts_of bytes)

pub counting-first : (bytes : List ℕ) (room : ℕ) → Counting bytes room 0 0
counting-first bytes room = record { within = zero-le; few = zero-le; fits = zero-le; same = refl }

module _ (bytes : List ℕ) (room count rest : ℕ) (g : Counting bytes room count rest) where
  -- how many there are
  many : count + length (cuts_of (drop rest bytes)).lengths ≡ length (cuts_of bytes).lengths
  many = ap (λ (x : Division). x.count) g.same ∙ omega arith

  -- no file more
  counted-all : (number line column : ℕ) → cuts_of (drop rest bytes) ≡ refused_cuts number line column → division count rest number line column ≡ divide_of bytes room
  unfolding sum divide_of
  counted-all number line column e =
      let none : length (cuts_of (drop rest bytes)).lengths ≡ 0 = ap (λ (c : Cuts). length c.lengths) e in
      ap₂ (λ (a b : ℕ). division a b number line column) (sym (add-zero count)) (sym (add-zero rest))
      ∙ ap (division_from count rest) (sym e)
      ∙ g.same
      ∙ rw (le-leb (length (cuts_of bytes).lengths) room (omega (arith, many, g.fits)))

  pub counted-end : length bytes ≤ rest → division count rest 0 0 0 ≡ divide_of bytes room
  counted-end h = counted-all 0 0 0 (cut-end (drop rest bytes) (omega (arith, length-drop rest bytes)))

  module _ (f : Front) (is : told_front f ≡ told_front (front_here (take (length bytes - rest) (drop rest bytes)))) where
    here : front_here (drop rest bytes) ≡ f
    here = sym (told_front-one f _ is ∙ ap front_here (rest_part bytes rest))

    pub counted-refused : (number line column : ℕ) → rest < length bytes → f ≡ front.Refused number line column
        → division count rest number line column ≡ divide_of bytes room
    counted-refused number line column h e =
        counted-all number line column (cut-refused (drop rest bytes) number line column (omega (arith, length-drop rest bytes)) (here ∙ e))

    module _ (t : Tally) (e : f ≡ front.File t) where
      pub file-here : Cut bytes rest t.end
      file-here = file-at bytes rest t g.within (here ∙ e)

      -- one file more than room
      pub counted-over : room < count + 1 → no_room ≡ divide_of bytes room
      unfolding divide_of
      counted-over h =
          let some : length (cuts_of (drop rest bytes)).lengths ≡ suc (length (cuts_of (drop (rest + t.end) bytes)).lengths) =
          ap (λ (c : Cuts). length c.lengths) file-here.same in
          rw (lt-leb (length (cuts_of bytes).lengths) room (omega (arith, many)))

      -- one file more
      pub counts-file : count + 1 ≤ room → Counting bytes room (count + 1) (rest + t.end)
      unfolding sum
      counts-file h =
          let c = cuts_of (drop (rest + t.end) bytes) in
          let files : count + 1 + length c.lengths ≡ count + suc (length c.lengths) = omega arith in
          record {
            within = file-here.within;
            few = omega (arith, g.few, file-here.byte);
            fits = h;
            same =
                ap₂ (λ (a b : ℕ). division a b c.refusal c.line c.column) files (add_assoc rest t.end (sum c.lengths))
                ∙ ap (division_from count rest) (sym file-here.same)
                ∙ g.same;
          }

-- The loop that stores: the lengths stored and those of the rest are the lengths of all.
pub record Storing (bytes old now : List ℕ) (stored rest : ℕ) : Type 0 where
  pub within : rest ≤ length bytes
  pub has : Laying (cuts_of bytes).lengths old now stored (cuts_of (drop rest bytes)).lengths

pub storing-first : (bytes old : List ℕ) → Storing bytes old old 0 0
storing-first bytes old = record { within = zero-le; has = laying-none (cuts_of bytes).lengths old }

module _ (bytes old now : List ℕ) (stored rest : ℕ) (g : Storing bytes old now stored rest) where
  -- so many are stored
  pub stored-all : (count : ℕ) → stored ≡ count → count ≤ length old → now ≡ over (take count (cuts_of bytes).lengths) old
  stored-all count same h =
      let all = (cuts_of bytes).lengths in
      g.has.so_far
      ∙ laid-fits (take stored all) old (omega (arith, length-take-le stored all g.has.count))
      ∙ ap (λ (n : ℕ). over (take n all) old) same

  module _ (more : stored < length (cuts_of bytes).lengths) where
    file-there : FileHere (drop rest bytes)
    file-there = cut-here (drop rest bytes) (omega (arith, ap length g.has.rest, length-drop stored (cuts_of bytes).lengths))

    -- a file stands at the part that is lent
    pub file-lent : FileHere (take (length bytes - rest) (drop rest bytes))
    file-lent = (file-there.0, ap front_here (rest_part bytes rest) ∙ file-there.1)

    module _ (size : ℕ) (is : size ≡ end_of (front_here (take (length bytes - rest) (drop rest bytes)))) where
      size_is : file-there.0.end ≡ size
      unfolding file-there file-lent
      size_is = sym (is ∙ ap end_of file-lent.1)

      pub cut-there : Cut bytes rest size
      cut-there = subst (Cut bytes rest) size_is (file-at bytes rest file-there.0 g.within file-there.1)

      -- one length more
      pub stores-length : stored < length now → Storing bytes old (set now stored size) (stored + 1) (rest + size)
      stores-length h = record {
        within = cut-there.within;
        has = laying-one h (ap (λ (c : Cuts). c.lengths) cut-there.same) g.has;
      }

-- What is counted has been found and has room; and where it is stored, the lengths are as they are to be.
module _ (bytes : List ℕ) where
  pub counted-fits : (room : ℕ) → ((divide_of bytes room).count ≤ length (cuts_of bytes).lengths) × ((divide_of bytes room).count ≤ room)
  unfolding divide_of
  counted-fits room = go (leb (length (cuts_of bytes).lengths) room) refl
    where
      go : (b : Bool) → leb (length (cuts_of bytes).lengths) room ≡ b
          → ((cond b (division_from 0 0 (cuts_of bytes)) no_room).count ≤ length (cuts_of bytes).lengths)
          × ((cond b (division_from 0 0 (cuts_of bytes)) no_room).count ≤ room)
      go true e = (omega arith, omega (arith, leb-true (length (cuts_of bytes).lengths) room e))
      go false e = (zero-le, zero-le)

  pub lengths-given : (old : List ℕ) → over (take (divide_of bytes (length old)).count (cuts_of bytes).lengths) old ≡ lengths_after bytes old
  unfolding divide_of lengths_after
  lengths-given old = go (leb (length (cuts_of bytes).lengths) (length old))
    where
      go : (b : Bool)
          → over (take (cond b (division_from 0 0 (cuts_of bytes)) no_room).count (cuts_of bytes).lengths) old
          ≡ cond b (over (cuts_of bytes).lengths old) old
      go true = ap (λ (ls : List ℕ). over ls old) (take_all (0 + length (cuts_of bytes).lengths) (cuts_of bytes).lengths (omega arith))
      go false = refl
