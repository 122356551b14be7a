-- The lines that pass a test, the k-th of them, and the byte at which it begins; lists one after another.
-- Assumes nothing.
use mathlib.Core.Path.{◌≡◌, refl, sym, ap, ap₂, ◌∙◌}
use mathlib.Core.Bool.{Bool, true, false, cond}
use mathlib.Core.List.{List, [], ◌∷◌, ◌++◌, append_assoc}
use Prim.Native.Nat.{ℕ, zero, suc, ◌+◌, ◌-◌, ◌*◌, ◌≤◌, ◌<◌, zero-le}
use native.Mathlib.Nat.{le_of_suc-le-suc, not-suc-le-zero, add-zero, suc-mul, zero-mul}
use native.Mathlib.Omega.{arith}
use lib.ListN.{length, take, drop, length-append, length-drop}
use lib.Seq.{drop-append-add, length-take-le}
use Rattle.lines.specs.Lent.{flat}
use Rattle.lines.specs.Lines.{line_length, lines_of, bytes_in, select, nth, met_at, begins_from}
use Rattle.lines.proofs.Each.{Each}
use Rattle.lines.proofs.Ends.{no_line, first-line}
use Rattle.lines.proofs.Split.{First, first}

-- one line of those that are left
module _ (test : List ℕ → Bool) where
  pub select-none : {ls : List (List ℕ)} → ls ≡ [] → select test ls ≡ []
  unfolding select
  select-none e = ap (select test) e

  pub select-first : {ls : List (List ℕ)} (l : List ℕ) (more : List (List ℕ)) → ls ≡ l ∷ more → test l ≡ true → select test ls ≡ l ∷ select test more
  unfolding select
  select-first l more e is = rw (e, is)

  pub select-other : {ls : List (List ℕ)} (l : List ℕ) (more : List (List ℕ)) → ls ≡ l ∷ more → test l ≡ false → select test ls ≡ select test more
  unfolding select
  select-other l more e is = rw (e, is)

  pub select-append : (a b : List (List ℕ)) → select test (a ++ b) ≡ select test a ++ select test b
  unfolding select
  select-append [] b = refl
  select-append (l ∷ a) b = go (test l) (select-append a b)
    where
      go : (t : Bool) → select test (a ++ b) ≡ select test a ++ select test b
          → cond t (l ∷ select test (a ++ b)) (select test (a ++ b)) ≡ cond t (l ∷ select test a) (select test a) ++ select test b
      go true more = ap (λ (k : List (List ℕ)). l ∷ k) more
      go false more = more

  pub select-fewer : (ls : List (List ℕ)) → length (select test ls) ≤ length ls
  unfolding select
  select-fewer [] = omega arith
  select-fewer (l ∷ ls) = go (test l) (select-fewer ls)
    where
      go : (t : Bool) → length (select test ls) ≤ length ls → length (cond t (l ∷ select test ls) (select test ls)) ≤ suc (length ls)
      go true more = omega arith
      go false more = omega arith

pub nth-none : (k : ℕ) → nth k [] ≡ []
unfolding nth
nth-none k = refl

pub nth_here : (k : ℕ) (l : List ℕ) (ls : List (List ℕ)) → k ≡ 0 → nth k (l ∷ ls) ≡ l
unfolding nth
nth_here k l ls e = rw e

pub nth-later : (k : ℕ) (l : List ℕ) (ls : List (List ℕ)) → (k ≡ 0 → ⊥) → nth (k - 1) ls ≡ nth k (l ∷ ls)
unfolding nth
nth-later zero l ls h = absurd (h refl)
nth-later (suc k) l ls h = ap (λ (n : ℕ). nth n ls) (omega arith)

-- past the last
pub nth_past : (k : ℕ) (ls : List (List ℕ)) → length ls ≤ k → nth k ls ≡ []
unfolding nth
nth_past k [] h = refl
nth_past zero (l ∷ ls) h = absurd (not-suc-le-zero h)
nth_past (suc k) (l ∷ ls) h = nth_past k ls (le_of_suc-le-suc h)

module _ (test : List ℕ → Bool) where
  -- one line of those that are left
  pub place_none : {ls : List (List ℕ)} (k at : ℕ) → ls ≡ [] → begins_from test k at ls ≡ at
  unfolding begins_from
  place_none k at e = ap (begins_from test k at) e

  module _ {ls : List (List ℕ)} (l : List ℕ) (more : List (List ℕ)) (e : ls ≡ l ∷ more) where
    pub place_here : (k at : ℕ) → test l ≡ true → k ≡ 0 → begins_from test k at ls ≡ at
    unfolding begins_from
    place_here k at is z = rw (e, is, z)

    pub place-later : (k at : ℕ) → test l ≡ true → (k ≡ 0 → ⊥) → begins_from test k at ls ≡ begins_from test (k - 1) (at + length l + 1) more
    unfolding begins_from
    place-later zero at is z = absurd (z refl)
    place-later (suc k) at is z = rw (e, is) (ap (λ (n : ℕ). begins_from test n (at + length l + 1) more) (omega arith))

    pub place_other : (k at : ℕ) → test l ≡ false → begins_from test k at ls ≡ begins_from test k (at + length l + 1) more
    unfolding begins_from
    place_other k at is = rw (e, is)

  -- the place is counted from where the lines begin
  pub place-shift : (k at : ℕ) (ls : List (List ℕ)) → begins_from test k at ls ≡ at + begins_from test k 0 ls
  unfolding begins_from
  place-shift k at [] = sym (add-zero at)
  place-shift k at (l ∷ ls) = go (test l) (λ (m b : ℕ). place-shift m b ls)
    where
      Shifts : Type 0
      Shifts = (m b : ℕ) → begins_from test m b ls ≡ b + begins_from test m 0 ls

      met : (m : ℕ) → Shifts → met_at m at (λ k'. begins_from test k' (at + length l + 1) ls) ≡ at + met_at m 0 (λ k'. begins_from test k' (0 + length l + 1) ls)
      met zero more = sym (add-zero at)
      met (suc m) more = omega (arith, more m (at + length l + 1), more m (0 + length l + 1))

      go : (t : Bool) → Shifts
          → cond t (met_at k at (λ k'. begins_from test k' (at + length l + 1) ls)) (begins_from test k (at + length l + 1) ls)
          ≡ at + cond t (met_at k 0 (λ k'. begins_from test k' (0 + length l + 1) ls)) (begins_from test k (0 + length l + 1) ls)
      go true more = met k more
      go false more = omega (arith, more k (at + length l + 1), more k (0 + length l + 1))

  -- where there are too few, the place is behind them
  pub spot_past : (k at : ℕ) (ls : List (List ℕ)) → length (select test ls) ≤ k → begins_from test k at ls ≡ at + bytes_in ls
  unfolding bytes_in
  spot_past k at [] h = place_none k at refl ∙ sym (add-zero at)
  spot_past k at (l ∷ ls) h = go (test l) refl (λ (m b : ℕ). spot_past m b ls)
    where
      go : (t : Bool) → test l ≡ t → ((m b : ℕ) → length (select test ls) ≤ m → begins_from test m b ls ≡ b + bytes_in ls)
          → begins_from test k at (l ∷ ls) ≡ at + (suc (length l) + bytes_in ls)
      go true is more =
          let chosen : length (select test (l ∷ ls)) ≡ suc (length (select test ls)) = ap length (select-first test l ls refl is) in
          place-later l ls refl k at is (λ z. omega arith)
          ∙ more (k - 1) (at + length l + 1) (omega arith)
          ∙ omega arith
      go false is more =
          let chosen : length (select test (l ∷ ls)) ≡ length (select test ls) = ap length (select-other test l ls refl is) in
          place_other l ls refl k at is
          ∙ more k (at + length l + 1) (omega arith)
          ∙ omega arith

-- The k-th line that passes the test stands at its place: the lines of the bytes from there on begin with it.
pub record Placed (test : List ℕ → Bool) (k : ℕ) (bytes : List ℕ) (ls : List (List ℕ)) : Type 0 where
  pub within : begins_from test k 0 ls ≤ length bytes
  pub more : List (List ℕ)
  pub there : lines_of (drop (begins_from test k 0 ls) bytes) ≡ nth k (select test ls) ∷ more
  pub passes : test (nth k (select test ls)) ≡ true

module _ (test : List ℕ → Bool) where
  placed-here : (bytes l : List ℕ) (ls : List (List ℕ)) (k : ℕ) → lines_of bytes ≡ l ∷ ls → test l ≡ true → k ≡ 0 → Placed test k bytes (l ∷ ls)
  placed-here bytes l ls k e is z =
      let place : begins_from test k 0 (l ∷ ls) ≡ 0 = place_here test l ls refl k 0 is z in
      let line : nth k (select test (l ∷ ls)) ≡ l = ap (nth k) (select-first test l ls refl is) ∙ nth_here k l (select test ls) z in
      record {
        within = omega arith;
        more = ls;
        there = ap (λ (n : ℕ). lines_of (drop n bytes)) place ∙ e ∙ ap (λ (x : List ℕ). x ∷ ls) (sym line);
        passes = ap test line ∙ is;
      }

  placed-more : (bytes l : List ℕ) (ls : List (List ℕ)) (k m : ℕ) (f : First bytes l ls)
      → begins_from test k 0 (l ∷ ls) ≡ begins_from test m (0 + length l + 1) ls → nth k (select test (l ∷ ls)) ≡ nth m (select test ls)
      → Placed test m f.rest ls → Placed test k bytes (l ∷ ls)
  placed-more bytes l ls k m f place line p =
      let q = begins_from test m 0 ls in
      let size : length bytes ≡ length l + suc (length f.rest) = ap length f.bytes-are ∙ length-append l (10 ∷ f.rest) in
      let whole : begins_from test k 0 (l ∷ ls) ≡ length l + suc q = place ∙ place-shift test m (0 + length l + 1) ls ∙ omega arith in
      record {
        within = omega (arith, p.within);
        more = p.more;
        there =
            ap lines_of (ap₂ (λ (n : ℕ) (b : List ℕ). drop n b) whole f.bytes-are ∙ drop-append-add l (10 ∷ f.rest) (suc q))
            ∙ p.there
            ∙ ap (λ (x : List ℕ). x ∷ p.more) (sym line);
        passes = ap test line ∙ p.passes;
      }

  placed-in : (ls : List (List ℕ)) (bytes : List ℕ) (k : ℕ) → lines_of bytes ≡ ls → k < length (select test ls) → Placed test k bytes ls
  placed-in [] bytes k e h = absurd (omega (arith, ap length (select-none test {ls = []} refl)))
  placed-in (l ∷ ls) bytes k e h = go (test l) refl (first bytes l ls e) (placed-in ls)
    where
      met : (n : ℕ) → k ≡ n → test l ≡ true → (f : First bytes l ls) → ((b : List ℕ) (m : ℕ) → lines_of b ≡ ls → m < length (select test ls) → Placed test m b ls)
          → Placed test k bytes (l ∷ ls)
      met zero z is f more = placed-here bytes l ls k e is z
      met (suc n) z is f more =
          let chosen = select-first test l ls refl is in
          let later : k ≡ 0 → ⊥ = λ y. omega arith in
          placed-more bytes l ls k (k - 1) f
          (place-later test l ls refl k 0 is later)
          (ap (nth k) chosen ∙ sym (nth-later k l (select test ls) later))
          (more f.rest (k - 1) f.rest_lines (omega (arith, ap length chosen)))

      go : (t : Bool) → test l ≡ t → (f : First bytes l ls) → ((b : List ℕ) (m : ℕ) → lines_of b ≡ ls → m < length (select test ls) → Placed test m b ls)
          → Placed test k bytes (l ∷ ls)
      go true is f more = met k refl is f more
      go false is f more =
          let chosen = select-other test l ls refl is in
          placed-more bytes l ls k k f
          (place_other test l ls refl k 0 is)
          (ap (nth k) chosen)
          (more f.rest k f.rest_lines (omega (arith, ap length chosen)))

  pub placed : (k : ℕ) (bytes : List ℕ) → k < length (select test (lines_of bytes)) → Placed test k bytes (lines_of bytes)
  placed k bytes h = placed-in (lines_of bytes) bytes k refl h

-- A loop that looks for the k-th line that passes the test: it is the one numbered `left` of the lines from `at` on.
pub record Seeking (test : List ℕ → Bool) (bytes : List ℕ) (k at left : ℕ) : Type 0 where
  pub within : at ≤ length bytes
  pub place : begins_from test left at (lines_of (drop at bytes)) ≡ begins_from test k 0 (lines_of bytes)
  pub line : nth left (select test (lines_of (drop at bytes))) ≡ nth k (select test (lines_of bytes))

pub seeking-first : (test : List ℕ → Bool) (bytes : List ℕ) (k : ℕ) → Seeking test bytes k 0 k
seeking-first test bytes k = record { within = zero-le; place = refl; line = refl }

module _ {test : List ℕ → Bool} {bytes : List ℕ} {k at left : ℕ} (s : Seeking test bytes k at left) (end : ℕ) (found : end ≡ at + line_length (drop at bytes)) where
  -- no line is left
  module _ (h : length bytes ≤ end) where
    pub seeking-none : at ≡ begins_from test k 0 (lines_of bytes)
    seeking-none = sym (place_none test left at (no_line bytes at end found h)) ∙ s.place

    pub seeking-no-line : [] ≡ nth k (select test (lines_of bytes))
    seeking-no-line = sym (ap (nth left) (select-none test (no_line bytes at end found h)) ∙ nth-none left) ∙ s.line

  -- a line is left
  module _ (h : end < length bytes) where
    abbrev one : List ℕ
    one = take (end - at) (drop at bytes)

    abbrev after : List (List ℕ)
    after = lines_of (drop (end + 1) bytes)

    next : at + length one + 1 ≡ end + 1
    next = omega (arith, length-take-le (end - at) (drop at bytes) (omega (arith, length-drop at bytes)))

    -- it does not pass
    pub seeking-other : test one ≡ false → Seeking test bytes k (end + 1) left
    seeking-other is =
        let lines = first-line bytes at end found h in
        record {
          within = omega arith;
          place = ap (λ (n : ℕ). begins_from test left n after) (sym next) ∙ sym (place_other test one after lines left at is) ∙ s.place;
          line = ap (nth left) (sym (select-other test one after lines is)) ∙ s.line;
        }

    module _ (is : test one ≡ true) where
      -- it is the one sought
      pub seeking-place : left ≡ 0 → at ≡ begins_from test k 0 (lines_of bytes)
      seeking-place z = sym (place_here test one after (first-line bytes at end found h) left at is z) ∙ s.place

      pub seeking-line : left ≡ 0 → one ≡ nth k (select test (lines_of bytes))
      seeking-line z =
          sym (ap (nth left) (select-first test one after (first-line bytes at end found h) is) ∙ nth_here left one (select test after) z) ∙ s.line

      -- it is not
      pub seeking-later : (left ≡ 0 → ⊥) → Seeking test bytes k (end + 1) (left - 1)
      seeking-later z =
          let lines = first-line bytes at end found h in
          record {
            within = omega arith;
            place = ap (λ (n : ℕ). begins_from test (left - 1) n after) (sym next) ∙ sym (place-later test one after lines left at is z) ∙ s.place;
            line = nth-later left one (select test after) z ∙ ap (nth left) (sym (select-first test one after lines is)) ∙ s.line;
          }

-- Lists one after another.
module _ {A : Type 0} where
  pub flat_append : (a b : List (List A)) → flat (a ++ b) ≡ flat a ++ flat b
  unfolding flat
  flat_append [] b = refl
  flat_append (part ∷ a) b = ap (λ (t : List A). part ++ t) (flat_append a b) ∙ sym (append_assoc part (flat a) (flat b))

  -- parts of one length
  pub length-flat : (w : ℕ) (parts : List (List A)) → Each (λ (part : List A). length part ≡ w) parts → length (flat parts) ≡ length parts * w
  unfolding flat
  length-flat w [] p = sym (zero-mul w)
  length-flat w (part ∷ parts) p =
      length-append part (flat parts) ∙ omega (arith, p.0, length-flat w parts p.1, suc-mul (length parts) w)
