-- Laws of whole lines: a copy to the front, trailing blanks cut, lines padded again, lines laid one after the other.
-- Assumes nothing.
use mathlib.Core.Path.{◌≡◌, refl, sym, ap, ◌∙◌}
use mathlib.Core.Bool.{Bool, true, false, cond, ◌&&◌}
use mathlib.Core.List.{List, [], ◌∷◌, ◌++◌, append-nil, append_assoc}
use Prim.Native.Nat.{ℕ, zero, suc, ◌+◌, ◌-◌, ◌<◌, ◌≤◌}
use native.Mathlib.Nat.{le_of_suc-le-suc, not-suc-le-zero}
use native.Mathlib.Numerals.{add-one}
use native.Mathlib.Omega.{arith}
use native.Mathlib.Decide.{dec_le}
use borrow.Author.Tests.{eqb-true, ne_eqb, le-leb, lt-leb, leb-true}
use lib.Dec.{leb, eqb}
use lib.ListN.{length, get_or, take, drop, set, length-append, length-replicate, replicate-append-replicate, drop_of_length-le, length-drop}
use lib.Seq.{take_at, drop_at, take-append-le, take_all, length-take-le, drop-drop}
use Rattle.laws.specs.Texts.{every, is_printable, blanks}
use Rattle.layout.specs.Kind.{printable}
use Rattle.layout.specs.Inking.{overlaid}
use Rattle.layout.specs.Line.{padded, cons_trimmed, trimmed, ended, line_of, laid_in, Lays}
use Rattle.laws.proofs.Bools.{and_left, and_right, and-true}
use Rattle.laws.proofs.Lists.{rest-step, rest-none}

pub blanks-length : (w : ℕ) → length (blanks w) ≡ w
blanks-length w = length-replicate w 32

-- a copy of as many as there is room for
module _ (bytes out : List ℕ) where
  -- what has room is copied whole
  pub copied-whole : length bytes ≤ length out → take (length out) bytes ++ drop (length bytes) out ≡ bytes ++ drop (length bytes) out
  copied-whole p = rw (take_all (length out) bytes p)

  -- and covers what is no longer than it
  pub covering : length bytes ≡ length out → take (length out) bytes ++ drop (length bytes) out ≡ bytes
  covering e = copied-whole (omega arith) ∙ rw (drop_of_length-le out {i = length bytes} (omega arith), append-nil bytes)

-- the byte behind a copy to the front
pub copy_ended : (s d : List ℕ) (v : ℕ) → length s < length d → set (s ++ drop (length s) d) (length s) v ≡ (s ++ (v ∷ [])) ++ drop (suc (length s)) d
copy_ended s [] v q = absurd (not-suc-le-zero q)
copy_ended [] (x ∷ d) v q = refl
copy_ended (b ∷ s) (x ∷ d) v q = ap {B = List ℕ} (λ t. b ∷ t) (copy_ended s d v (le_of_suc-le-suc q))

-- a byte before a cut line, of which it is the last where nothing else is left
cut-all : (b : ℕ) (t : List ℕ) → b ≡ 32 → 0 ≡ length t → 0 ≡ length (cons_trimmed b t)
cut-all b [] h e = rw h refl
cut-all b (c ∷ cs) h e = absurd (omega arith)

cut-more : (b : ℕ) (t : List ℕ) (m : ℕ) → m ≡ length t → (m ≡ 0 → b ≡ 32 → ⊥) → suc m ≡ length (cons_trimmed b t)
cut-more b [] m e h = rw (ne_eqb b 32 (h e)) (omega arith)
cut-more b (c ∷ cs) m e h = omega arith

-- a line of which the first n columns are kept: blanks stand from there on, and none just before
pub trimmed_by : (line : List ℕ) (n : ℕ) → n ≤ length line → ((k : ℕ) → n ≤ k → k < length line → get_or line k 0 ≡ 32)
    → ((k : ℕ) → n ≡ k + 1 → get_or line k 0 ≡ 32 → ⊥) → n ≡ length (trimmed line)
trimmed_by [] n h blank last = omega arith
trimmed_by (b ∷ bs) zero h blank last =
    cut-all b (trimmed bs) (blank 0 (omega arith) (omega arith))
    (trimmed_by bs 0 (omega arith) (λ k p q. blank (suc k) (omega arith) (omega arith)) (λ k e. absurd (omega arith)))
trimmed_by (b ∷ bs) (suc m) h blank last =
    cut-more b (trimmed bs) m
    (trimmed_by bs m (omega arith) (λ k p q. blank (suc k) (omega arith) (omega arith)) (λ k e. last (suc k) (omega arith)))
    (λ e. last 0 (omega arith))

-- what was cut were blanks
refilled : (l : List ℕ) → (k : ℕ) × (trimmed l ++ blanks k ≡ l)
refilled [] = (0, refl)
refilled (b ∷ l) = go (trimmed l) (refilled l).0 (refilled l).1
  where
    pick : (t : Bool) → eqb b 32 ≡ t → (k : ℕ) → blanks k ≡ l → (m : ℕ) × (cond t [] (b ∷ []) ++ blanks m ≡ b ∷ l)
    pick true e k h = (suc k, rw (h, eqb-true b 32 e))
    pick false e k h = (k, rw h)

    go : (t : List ℕ) (k : ℕ) → t ++ blanks k ≡ l → (m : ℕ) × (cons_trimmed b t ++ blanks m ≡ b ∷ l)
    go [] k h = pick (eqb b 32) refl k h
    go (c ∷ cs) k h = (k, ap {B = List ℕ} (λ r. b ∷ r) h)

front_of : (t r l : List ℕ) → t ++ r ≡ l → take (length t) l ≡ t
front_of t r l e = ap (take (length t)) (sym e) ∙ take_at t r (length t) refl

pub trimmed-front : (l : List ℕ) → take (length (trimmed l)) l ≡ trimmed l
trimmed-front l = front_of (trimmed l) (blanks (refilled l).0) l (refilled l).1

cut-and-left : (l : List ℕ) → length (trimmed l) + (refilled l).0 ≡ length l
cut-and-left l =
    ap (λ (k : ℕ). length (trimmed l) + k) (sym (blanks-length (refilled l).0))
    ∙ sym (length-append (trimmed l) (blanks (refilled l).0))
    ∙ ap length (refilled l).1

pub trimmed-shorter : (l : List ℕ) → length (trimmed l) ≤ length l
trimmed-shorter l = omega (arith, cut-and-left l)

-- blanks in two parts
pub blanks-split : (k m w : ℕ) → k + m ≡ w → blanks w ≡ blanks k ++ blanks m
blanks-split k m w e = ap blanks (sym e) ∙ sym (replicate-append-replicate k m 32)

pub drop-blanks : (k m w : ℕ) → k + m ≡ w → drop k (blanks w) ≡ blanks m
drop-blanks k m w e = ap (drop k) (blanks-split k m w e) ∙ drop_at (blanks k) (blanks m) k (blanks-length k)

-- k blanks fill t up to w columns
pad-to : (t : List ℕ) (k m w : ℕ) → k + m ≡ w → length t + k ≡ w → take w (t ++ blanks w) ≡ t ++ blanks k
pad-to t k m w e h =
    ap (λ (r : List ℕ). take w (t ++ r)) (blanks-split k m w e)
    ∙ ap (take w) (sym (append_assoc t (blanks k) (blanks m)))
    ∙ take_at (t ++ blanks k) (blanks m) w (length-append t (blanks k) ∙ ap (λ (n : ℕ). length t + n) (blanks-length k) ∙ h)

-- a copy over blanks fills a text up to w columns
pub filled_copy : (t : List ℕ) (w : ℕ) → take w t ++ drop (length t) (blanks w) ≡ take w (t ++ blanks w)
filled_copy t w = go (dec_le (length t) w)
  where
    go : Dec (length t ≤ w) → take w t ++ drop (length t) (blanks w) ≡ take w (t ++ blanks w)
    go (yes p) =
        let left : length t + (w - length t) ≡ w = omega arith in
        rw (take_all w t p, drop-blanks (length t) (w - length t) w left) (sym (pad-to t (w - length t) (length t) w (omega arith) left))
    go (no p) =
        rw (drop_of_length-le (blanks w) {i = length t} (omega (arith, blanks-length w)), append-nil, take-append-le w t (blanks w) (omega arith))

-- a line of 80 columns is the one that its cut form is padded to, and stays as it is padded
pub padded-trimmed : (l : List ℕ) → length l ≡ 80 → padded (trimmed l) ≡ l
unfolding padded
padded-trimmed l h =
    let k = (refilled l).0 in
    pad-to (trimmed l) k (length (trimmed l)) 80 (omega (arith, cut-and-left l)) (omega (arith, cut-and-left l)) ∙ (refilled l).1

pub padded-whole : (l : List ℕ) → length l ≡ 80 → padded l ≡ l
unfolding padded
padded-whole l h = take_at l (blanks 80) 80 h

pub padded-length : (l : List ℕ) → length (padded l) ≡ 80
unfolding padded
padded-length l = length-take-le 80 (l ++ blanks 80) (omega (arith, length-append l (blanks 80), blanks-length 80))

-- a line copied over 80 blanks
pub padded_copy : (t out : List ℕ) → out ≡ blanks 80 → take 80 t ++ drop (length t) out ≡ padded t
unfolding padded
padded_copy t out e = rw e (filled_copy t 80)

-- a line, cut and ended, laid at the front of the output, where there is room
pub ended-length : (line : List ℕ) → length (ended line) ≡ length (trimmed line) + 1
ended-length line = length-append (trimmed line) (10 ∷ [])

pub laid : (line out part : List ℕ) (n : ℕ) → n ≡ length (trimmed line) → n < length out → part ≡ take n line
    → set (part ++ drop n out) n 10 ≡ laid_in (ended line) out
laid line out part n e h same =
    let front : part ≡ trimmed line = same ∙ ap (λ (k : ℕ). take k line) e ∙ trimmed-front line in
    rw (front, e, copy_ended (trimmed line) out 10 (omega arith), ended-length line, ← add-one (length (trimmed line)), le-leb (length (trimmed line) + 1) (length out) (omega arith))

pub not-laid : (line out : List ℕ) (n : ℕ) → n ≡ length (trimmed line) → length out ≤ n → out ≡ laid_in (ended line) out
not-laid line out n e h = rw (ended-length line, lt-leb (length (trimmed line) + 1) (length out) (omega arith))

pub told : (line : List ℕ) (n : ℕ) → n ≡ length (trimmed line) → n + 1 ≡ length (ended line)
told line n e = rw (ended-length line, e)

-- a line laid from the next free byte on: both are laid, one directly after the other
pub lays-after : (a b out mid part : List ℕ) (n m : ℕ) → length (a ++ b) ≤ length out → Lays a out n mid
    → Lays b (take (length mid - n) (drop n mid)) m part
    → Lays (a ++ b) out (n + m) (take n mid ++ (part ++ drop (length mid - n) (drop n mid)))
lays-after a b out mid part n m room first second =
    let both_long = length-append a b in
    let rest = drop (length a) out in
    let left = length-drop (length a) out in
    let mid-is : mid ≡ a ++ rest = first.laid ∙ rw (le-leb (length a) (length out) (omega arith)) in
    let front : take n mid ≡ a = rw (mid-is, first.length-told) (take_at a rest (length a) refl) in
    let back : drop n mid ≡ rest = rw (mid-is, first.length-told) (drop_at a rest (length a) refl) in
    let behind = length-drop n mid in
    let whole : take (length mid - n) (drop n mid) ≡ rest = take_all (length mid - n) (drop n mid) (omega arith) ∙ back in
    let none : drop (length mid - n) (drop n mid) ≡ [] = drop_of_length-le (drop n mid) {i = length mid - n} (omega arith) in
    let part-is : part ≡ b ++ drop (length b) rest = second.laid ∙ rw (whole, le-leb (length b) (length rest) (omega arith)) in
    record {
      length-told = omega (arith, first.length-told, second.length-told);
      laid = rw (front, none, part-is, append-nil, le-leb (length (a ++ b)) (length out) room, both_long, drop-drop (length b) (length a) out, append_assoc);
    }

-- a cut line stays printable
cut-printable : (b : ℕ) (t : List ℕ) → is_printable b ≡ true → printable t ≡ true → printable (cons_trimmed b t) ≡ true
cut-printable b [] p q = go (eqb b 32)
  where
    go : (t : Bool) → printable (cond t [] (b ∷ [])) ≡ true
    go true = refl
    go false = rw p
cut-printable b (c ∷ cs) p q = rw p q

pub trimmed-printable : (l : List ℕ) → printable l ≡ true → printable (trimmed l) ≡ true
trimmed-printable [] p = refl
trimmed-printable (b ∷ l) p =
    cut-printable b (trimmed l) (and_left (is_printable b) (printable l) p) (trimmed-printable l (and_right (is_printable b) (printable l) p))

-- the next line ends at the LF, where its bytes are printable
no-feed : (b : ℕ) → is_printable b ≡ true → eqb b 10 ≡ false
no-feed b p = ne_eqb b 10 (λ e. omega (arith, leb-true 32 b (and_left (leb 32 b) (leb b 126) p)))

found : (l rest : List ℕ) → printable l ≡ true → line_of (l ++ (10 ∷ rest)) ≡ l
found [] rest p = refl
found (b ∷ l) rest p = rw (no-feed b (and_left (is_printable b) (printable l) p), found l rest (and_right (is_printable b) (printable l) p))

pub line-found : (line rest : List ℕ) → printable line ≡ true → line_of (ended line ++ rest) ≡ trimmed line
line-found line rest p =
    ap line_of (append_assoc (trimmed line) (10 ∷ []) rest) ∙ found (trimmed line) rest (trimmed-printable line p)

-- a test of every byte by a flag: one more, and the end
pub flag-more : (test : ℕ → Bool) (s : List ℕ) (i : ℕ) (ok : Bool) → i < length s
    → ((ok && test (get_or s i 0)) && every test (drop (i + 1) s)) ≡ (ok && every test (drop i s))
flag-more test s i ok h = rw (rest-step s i h) (go ok)
  where
    go : (t : Bool) → ((t && test (get_or s i 0)) && every test (drop (i + 1) s)) ≡ (t && (test (get_or s i 0) && every test (drop (i + 1) s)))
    go true = refl
    go false = refl

pub flag-end : (test : ℕ → Bool) (s : List ℕ) (i : ℕ) (ok : Bool) → length s ≤ i → ok ≡ (ok && every test (drop i s))
flag-end test s i ok h = sym (ap (λ (r : List ℕ). ok && every test r) (rest-none s i h) ∙ and-true ok)

-- bytes laid over as many columns keep a line's length
pub overlaid-length : (bytes line : List ℕ) (first last : ℕ) → 1 ≤ first → first ≤ last → last ≤ length line → length bytes ≡ last - (first - 1)
    → length (overlaid first last bytes line) ≡ length line
overlaid-length bytes line first last p q r e =
    let rest = drop (last - (first - 1)) (drop (first - 1) line) in
    omega (
      arith,
      length-append (take (first - 1) line) (bytes ++ rest),
      length-append bytes rest,
      length-take-le (first - 1) line (omega arith),
      length-drop (last - (first - 1)) (drop (first - 1) line),
      length-drop (first - 1) line,
    )

-- what a line writer's check needs
pub ruleset laying = (trimmed-shorter, told, not-laid, laid)
