-- Lines and their bytes, there and back: a line ends at the first LF, and lines at the front of some bytes are those bytes' front.
-- Assumes nothing.
use mathlib.Core.Path.{◌≡◌, refl, sym, ap, ap₂, ◌∙◌, subst}
use mathlib.Core.Bool.{Bool, true, false}
use mathlib.Core.List.{List, [], ◌∷◌, ◌++◌, append_assoc}
use Prim.Native.Nat.{ℕ, suc, ◌+◌, ◌≤◌, zero-le}
use native.Mathlib.Omega.{arith}
use lib.ListN.{length, take, drop, length-append}
use lib.Seq.{take-append-add, drop-append-add}
use borrow.Author.Tests.{eqb-true}
use Rattle.lines.specs.Lines.{is_lf, has_lf, on_first, lines_of, join_lines, bytes_in}
use Rattle.lines.proofs.Each.{Each}
use Rattle.lines.proofs.Ends.{neither}

-- no byte of a line is LF
abbrev pub OneLine : List ℕ → Type 0
OneLine l = has_lf l ≡ false

pub one-nil : OneLine []
unfolding has_lf
one-nil = refl

pub one-cons : (b : ℕ) (l : List ℕ) → is_lf b ≡ false → OneLine l → OneLine (b ∷ l)
unfolding has_lf
one-cons b l e h = rw e h

pub one-append : (l m : List ℕ) → OneLine l → OneLine m → OneLine (l ++ m)
unfolding has_lf
one-append [] m h k = k
one-append (b ∷ l) m h k = let parts = neither (is_lf b) (has_lf l) h in one-cons b (l ++ m) parts.0 (one-append l m parts.1 k)

-- a line and what follows it
pub lines_cons : (l xs : List ℕ) → OneLine l → lines_of (l ++ (10 ∷ xs)) ≡ l ∷ lines_of xs
unfolding lines_of on_first has_lf
lines_cons [] xs h = refl
lines_cons (b ∷ l) xs h = let parts = neither (is_lf b) (has_lf l) h in rw (parts.0, lines_cons l xs parts.1)

-- whole lines, and lines in front of some bytes
pub join-lines : (ls : List (List ℕ)) → Each OneLine ls → lines_of (join_lines ls) ≡ ls
unfolding join_lines lines_of
join-lines [] h = refl
join-lines (l ∷ ls) h = lines_cons l (join_lines ls) h.0 ∙ ap (λ (k : List (List ℕ)). l ∷ k) (join-lines ls h.1)

pub lines-append : (ls : List (List ℕ)) (rest : List ℕ) → Each OneLine ls → lines_of (join_lines ls ++ rest) ≡ ls ++ lines_of rest
unfolding join_lines
lines-append [] rest h = refl
lines-append (l ∷ ls) rest h =
    ap lines_of (append_assoc l (10 ∷ join_lines ls) rest)
    ∙ lines_cons l (join_lines ls ++ rest) h.0
    ∙ ap (λ (k : List (List ℕ)). l ∷ k) (lines-append ls rest h.1)

pub join-append : (a b : List (List ℕ)) → join_lines (a ++ b) ≡ join_lines a ++ join_lines b
unfolding join_lines
join-append [] b = refl
join-append (l ∷ a) b =
    ap (λ (k : List ℕ). l ++ (10 ∷ k)) (join-append a b) ∙ sym (append_assoc l (10 ∷ join_lines a) (join_lines b))

pub bytes-in : (ls : List (List ℕ)) → bytes_in ls ≡ length (join_lines ls)
unfolding join_lines bytes_in
bytes-in [] = refl
bytes-in (l ∷ ls) = omega (arith, bytes-in ls, length-append l (10 ∷ join_lines ls))

-- each line of some bytes is one
on-first-one : (b : ℕ) (ls : List (List ℕ)) → is_lf b ≡ false → Each OneLine ls → Each OneLine (on_first b ls)
unfolding on_first
on-first-one b [] e h = tt
on-first-one b (l ∷ ls) e h = (one-cons b l e h.0, h.1)

pub lines-one-line : (bytes : List ℕ) → Each OneLine (lines_of bytes)
unfolding lines_of
lines-one-line [] = tt
lines-one-line (b ∷ bs) = go (is_lf b) refl (lines-one-line bs)
  where
    go : (t : Bool) → is_lf b ≡ t → Each OneLine (lines_of bs) → Each OneLine (lines_of (b ∷ bs))
    go true e more = rw e (one-nil, more)
    go false e more = rw e (on-first-one b (lines_of bs) e more)

-- the first of the lines of some bytes: the bytes before their first LF
pub record First (bytes l : List ℕ) (ls : List (List ℕ)) : Type 0 where
  pub rest : List ℕ
  pub text : OneLine l
  pub bytes-are : bytes ≡ l ++ (10 ∷ rest)
  pub rest_lines : lines_of rest ≡ ls

first-empty : (b : ℕ) (bs l : List ℕ) (ls : List (List ℕ)) → is_lf b ≡ true → [] ∷ lines_of bs ≡ l ∷ ls → First (b ∷ bs) l ls
first-empty b bs l ls is e =
    let empty : [] ≡ l = cc in
    record {
      rest = bs;
      text = subst OneLine empty one-nil;
      bytes-are = ap₂ (λ (x : ℕ) (k : List ℕ). k ++ (x ∷ bs)) (eqb-true b 10 is) empty;
      rest_lines = cc;
    }

first-longer : (b : ℕ) (bs l m : List ℕ) (ls ms : List (List ℕ)) → is_lf b ≡ false → (b ∷ m) ∷ ms ≡ l ∷ ls → First bs m ms → First (b ∷ bs) l ls
first-longer b bs l m ls ms is e f =
    let longer : b ∷ m ≡ l = cc in
    record {
      rest = f.rest;
      text = subst OneLine longer (one-cons b m is f.text);
      bytes-are = ap (λ (k : List ℕ). b ∷ k) f.bytes-are ∙ ap (λ (k : List ℕ). k ++ (10 ∷ f.rest)) longer;
      rest_lines = f.rest_lines ∙ (cc);
    }

pub first : (bytes l : List ℕ) (ls : List (List ℕ)) → lines_of bytes ≡ l ∷ ls → First bytes l ls
unfolding lines_of on_first
first [] l ls e = let z : ◌≡◌ {A = ℕ} 0 1 = cc in absurd (omega arith)
first (b ∷ bs) l ls e = go (is_lf b) refl (first bs)
  where
    go : (t : Bool) → is_lf b ≡ t → ((m : List ℕ) (ms : List (List ℕ)) → lines_of bs ≡ m ∷ ms → First bs m ms) → First (b ∷ bs) l ls
    go true is more = first-empty b bs l ls is (rw is at e)
    go false is more = after (lines_of bs) refl
      where
        after : (ks : List (List ℕ)) → lines_of bs ≡ ks → First (b ∷ bs) l ls
        after [] ends = let none : [] ≡ l ∷ ls = rw (is, ends) at e in let z : ◌≡◌ {A = ℕ} 0 1 = cc in absurd (omega arith)
        after (m ∷ ms) goes = first-longer b bs l m ls ms is (rw (is, goes) at e) (more m ms goes)

-- the lines at the front are the bytes' front, and the lines after them those of the rest
pub record Parted (bytes : List ℕ) (used rest : List (List ℕ)) : Type 0 where
  pub within : length (join_lines used) ≤ length bytes
  pub front : take (length (join_lines used)) bytes ≡ join_lines used
  pub front-lines : lines_of (join_lines used) ≡ used
  pub rest_lines : lines_of (drop (length (join_lines used)) bytes) ≡ rest

parted-more : (bytes l : List ℕ) (used rest : List (List ℕ)) (f : First bytes l (used ++ rest)) → Parted f.rest used rest → Parted bytes (l ∷ used) rest
unfolding join_lines
parted-more bytes l used rest f p =
    let joined = join_lines used in
    let size : length (l ++ (10 ∷ joined)) ≡ length l + suc (length joined) = length-append l (10 ∷ joined) in
    record {
      within = omega (arith, p.within, size, ap length f.bytes-are ∙ length-append l (10 ∷ f.rest));
      front =
          ap₂ (λ (n : ℕ) (b : List ℕ). take n b) size f.bytes-are
          ∙ take-append-add l (10 ∷ f.rest) (suc (length joined))
          ∙ ap (λ (k : List ℕ). l ++ (10 ∷ k)) p.front;
      front-lines = lines_cons l joined f.text ∙ ap (λ (k : List (List ℕ)). l ∷ k) p.front-lines;
      rest_lines =
          ap lines_of (ap₂ (λ (n : ℕ) (b : List ℕ). drop n b) size f.bytes-are ∙ drop-append-add l (10 ∷ f.rest) (suc (length joined)))
          ∙ p.rest_lines;
    }

pub parted : (used : List (List ℕ)) (bytes : List ℕ) (rest : List (List ℕ)) → lines_of bytes ≡ used ++ rest → Parted bytes used rest
unfolding join_lines lines_of
parted [] bytes rest e = record { within = zero-le; front = refl; front-lines = refl; rest_lines = e }
parted (l ∷ used) bytes rest e =
    let f = first bytes l (used ++ rest) e in
    parted-more bytes l used rest f (parted used f.rest rest f.rest_lines)
