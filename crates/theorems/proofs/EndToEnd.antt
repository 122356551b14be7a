-- Accepted files of both versions laid end to end: their cuts, their lengths, and the file of each number; and every stretch is such files and a rest.
-- Assumes nothing.
use mathlib.Core.Path.{◌≡◌, refl, sym, ap, ap₂, ◌∙◌, subst}
use mathlib.Core.Logic.{inl, inr}
use mathlib.Core.List.{List, [], ◌∷◌, ◌++◌, append_assoc, append-nil}
use Prim.Native.Nat.{ℕ, zero, suc, ◌+◌, ◌-◌, ◌≤◌, ◌<◌}
use native.Mathlib.Nat.{le_refl, le_of_suc-le-suc, not-suc-le-zero}
use native.Mathlib.Omega.{arith}
use lib.ListN.{length, get_or, take, drop, length-append, length-drop, take-append-drop}
use lib.Seq.{take-append_seam, drop-append_seam, drop-append-add, length-take-le}
use Rattle.header.specs.Versions.{rules_in}
use Rattle.header.specs.declared.types.Rules.{Rules}
use Rattle.scan.specs.Run.{scan_of, IsFile, AnyFile}
use Rattle.scan.specs.declared.Tally.{Tally}
use Rattle.std.specs.Prelude.{Ok, Err}
use Rattle.scan.specs.Front.{Front}
use Rattle.scan.specs.Front as front
use Rattle.scan_laws.proofs.Local.{scan-local, whole-ends, front-whole}
use Rattle.scan_laws.proofs.Used.{accepted-front}
use Rattle.scan_laws.proofs.Which.{told-again, told-after}
use Rattle.divide.specs.Dividing.{Divides, none, one, Cuts, no_cuts, after, cuts, cuts_of, sum}
use Rattle.divide.proofs.Cutting.{takes-byte, cut-end, cut-file}
use Rattle.theorems.specs.Divided.{Left}

-- files of these lengths before some cuts
abbrev pub before : List ℕ → Cuts → Cuts
before ls c = record { lengths = ls ++ c.lengths; refusal = c.refusal; line = c.line; column = c.column }

-- an accepted file before a stretch is its first cut
file-first : (a b : List ℕ) → AnyFile a → cuts_of (a ++ b) ≡ after (length a) (cuts_of b)
file-first a b (t, e) =
    let f = whole-ends (rules_in a) a t e in
    cut-file (a ++ b) t (ap (λ (r : Rules). scan_of r (a ++ b)) (told-after a b (t, e)) ∙ scan-local (rules_in a) a b t f.0)
    ∙ ap₂ (λ (n : ℕ) (c : Cuts). after n c) f.1 (ap cuts_of (ap (λ (n : ℕ). drop n (a ++ b)) f.1 ∙ drop-append_seam a b))

-- and so are several, laid end to end
pub files-first : {a ks : List ℕ} (b : List ℕ) → Divides AnyFile a ks → cuts_of (a ++ b) ≡ before ks (cuts_of b)
files-first b none = refl
files-first b (one a {b = a'} f more) =
    ap cuts_of (append_assoc a a' b) ∙ file-first a (a' ++ b) f ∙ ap (after (length a)) (files-first b more)

pub divided : {bytes ls : List ℕ} → Divides AnyFile bytes ls → cuts_of bytes ≡ before ls no_cuts
divided {bytes} {ls} x =
    ap cuts_of (sym (append-nil bytes)) ∙ files-first [] x ∙ ap (before ls) (cut-end [] (le_refl 0))

-- the lengths of the files: their sum is that of all, and each file takes a byte at least
pub lengths-sum : {bytes ls : List ℕ} → Divides AnyFile bytes ls → sum ls ≡ length bytes
unfolding sum
lengths-sum none = refl
lengths-sum (one a {b = b} f more) = ap (λ (n : ℕ). length a + n) (lengths-sum more) ∙ sym (length-append a b)

pub lengths_some : {bytes ls : List ℕ} → Divides AnyFile bytes ls → (i : ℕ) → i < length ls → 1 ≤ get_or ls i 0
lengths_some none i h = absurd (not-suc-le-zero h)
lengths_some (one a (t, e) more) zero h =
    let f = whole-ends (rules_in a) a t e in
    omega (arith, f.1, takes-byte a t f.0)
lengths_some (one a f more) (suc i) h = lengths_some more i (le_of_suc-le-suc h)

-- the file of number i begins where those before it end, whatever follows them all
pub file-numbered : {bytes ls : List ℕ} (rest : List ℕ) → Divides AnyFile bytes ls → (i : ℕ) → i < length ls
    → AnyFile (take (get_or ls i 0) (drop (sum (take i ls)) (bytes ++ rest)))
unfolding sum
file-numbered rest none i h = absurd (not-suc-le-zero h)
file-numbered rest (one a {b = b} f more) zero h =
    subst AnyFile (sym (ap (take (length a)) (append_assoc a b rest) ∙ take-append_seam a (b ++ rest))) f
file-numbered rest (one a {b = b} {ls = ls} f more) (suc i) h =
    subst (λ (s : List ℕ). AnyFile (take (get_or ls i 0) s))
    (sym (ap (drop (length a + sum (take i ls))) (append_assoc a b rest) ∙ drop-append-add a (b ++ rest) (sum (take i ls))))
    (file-numbered rest more i (le_of_suc-le-suc h))

-- files at the front and a rest
pub record Parts (bytes : List ℕ) (c : Cuts) : Type 0 where
  pub files : List ℕ
  pub rest : List ℕ
  pub bytes-are : bytes ≡ files ++ rest
  pub are-files : Divides AnyFile files c.lengths
  pub left : Left rest c.refusal c.line c.column

-- a file that is accepted by the rules that some bytes tell is accepted by those that it tells
told-file : (bytes a : List ℕ) → IsFile (rules_in bytes) a → AnyFile a
told-file bytes a f = subst (λ (r : Rules). IsFile r a) (sym (told-again bytes a f)) f

-- one file more
more_parts : (bytes : List ℕ) (t : Tally) (c : Cuts) → scan_of (rules_in bytes) bytes ≡ front.File t → Parts (drop t.end bytes) c → Parts bytes (after t.end c)
more_parts bytes t c e p =
    let first = take t.end bytes in
    record {
      files = first ++ p.files;
      rest = p.rest;
      bytes-are =
          sym (take-append-drop t.end bytes)
          ∙ ap (λ (s : List ℕ). first ++ s) p.bytes-are
          ∙ sym (append_assoc first p.files p.rest);
      are-files =
          subst (λ (n : ℕ). Divides AnyFile (first ++ p.files) (n ∷ c.lengths))
          (length-take-le t.end bytes (accepted-front (rules_in bytes) bytes t e).within)
          (one first (told-file bytes first (front-whole (rules_in bytes) bytes t e)) p.are-files);
      left = p.left;
    }

abbrev Found : ℕ → Type 0
Found most = (bytes : List ℕ) → length bytes ≤ most → Parts bytes (cuts most bytes)

nothing_left : Parts [] no_cuts
nothing_left = record { files = []; rest = []; bytes-are = refl; are-files = none; left = inl (refl, refl, refl, refl) }

found_none : Found zero
unfolding cuts
found_none [] h = nothing_left
found_none (b ∷ bs) h = absurd (omega arith)

found-more : (most : ℕ) → Found most → Found (suc most)
unfolding cuts
found-more most found [] h = nothing_left
found-more most found (b ∷ bs) h = go (scan_of (rules_in (b ∷ bs)) (b ∷ bs)) refl
  where
    go : (f : Front) → scan_of (rules_in (b ∷ bs)) (b ∷ bs) ≡ f → Parts (b ∷ bs) (cuts (suc most) (b ∷ bs))
    go (Err refusal) is =
        rw is (record { files = []; rest = b ∷ bs; bytes-are = refl; are-files = none; left = inr (omega arith, is) })
    go (Ok t) is =
        let less : length (drop t.end (b ∷ bs)) ≡ length (b ∷ bs) - t.end = length-drop t.end (b ∷ bs) in
        rw is
        (more_parts (b ∷ bs) t (cuts most (drop t.end (b ∷ bs))) is
        (found (drop t.end (b ∷ bs)) (omega (arith, takes-byte (b ∷ bs) t is))))

found : (most : ℕ) → Found most
found zero bytes h = found_none bytes h
found (suc most) bytes h = found-more most (found most) bytes h

-- every stretch is files laid end to end and a rest, by its cuts
pub parts : (bytes : List ℕ) → Parts bytes (cuts_of bytes)
parts bytes = found (length bytes) bytes (le_refl (length bytes))
