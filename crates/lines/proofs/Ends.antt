-- Where a line ends: at the end of the bytes, at an LF, past a byte that is none, and past a block that has none.
-- Assumes nothing.
use mathlib.Core.Path.{◌≡◌, refl, sym, ap, ◌∙◌}
use mathlib.Core.Bool.{Bool, true, false, cond, not, ◌||◌, true≢false}
use mathlib.Core.List.{List, [], ◌∷◌}
use Prim.Native.Nat.{ℕ, zero, suc, ◌+◌, ◌-◌, ◌≤◌, ◌<◌, zero-le}
use native.Mathlib.Nat.{add-zero, zero-add, add-suc, suc-add, not-suc-le-zero, le_of_suc-le-suc}
use native.Mathlib.Numerals.{add-one}
use native.Mathlib.Omega.{arith}
use borrow.Author.Tests.{ltb-true, lt-ltb, ne_eqb}
use lib.Dec.{ltb}
use lib.ListN.{length, get_or, take, drop, length-drop}
use lib.Seq.{drop-drop, take-add}
use Rattle.laws.proofs.Bools.{and_left, and_right}
use Rattle.laws.proofs.Lists.{rest-step, rest-none}
use Rattle.std.specs.List.{list_any}
use Rattle.std.proofs.lemmas.List.Folds.{list_any-append}
use Rattle.lines.specs.Lines.{is_lf, line_length, has_lf, is_full_line, on_first, lines_of}

-- both halves of a test of either that fails
pub neither : (p q : Bool) → (p || q) ≡ false → (p ≡ false) × (q ≡ false)
neither true q e = absurd (true≢false e)
neither false q e = (refl, e)

-- one byte at a time, to an LF or to the end
module _ (l : List ℕ) (i : ℕ) where
  pub line_at_end : length l ≤ i → i + line_length (drop i l) ≡ i
  unfolding line_length
  line_at_end h = rw (rest-none l i h, add-zero)

  pub line_at_lf : i < length l → get_or l i 0 ≡ 10 → i + line_length (drop i l) ≡ i
  unfolding line_length
  line_at_lf h e = rw (rest-step l i h, e, add-zero)

  pub line_more : i < length l → (get_or l i 0 ≡ 10 → ⊥) → i + line_length (drop i l) ≡ i + 1 + line_length (drop (i + 1) l)
  unfolding line_length
  line_more h e =
      rw (rest-step l i h, ne_eqb (get_or l i 0) 10 e)
      (add-suc i _ ∙ sym (suc-add i _) ∙ ap (λ (k : ℕ). k + line_length (drop (i + 1) l)) (sym (add-one i)))

pub ruleset bytewise = (line_at_end, line_at_lf, line_more)

-- a line is no longer than the bytes
pub line_within : (bytes : List ℕ) → line_length bytes ≤ length bytes
unfolding line_length
line_within [] = zero-le
line_within (b ∷ bs) = go (is_lf b) (line_within bs)
  where
    go : (t : Bool) → line_length bs ≤ length bs → cond t 0 (suc (line_length bs)) ≤ suc (length bs)
    go true h = zero-le
    go false h = omega arith

-- a stretch with no LF is passed over
pub passed_over : (k : ℕ) (l : List ℕ) → k ≤ length l → has_lf (take k l) ≡ false → line_length l ≡ k + line_length (drop k l)
unfolding has_lf line_length
passed_over zero l h e = sym (zero-add (line_length l))
passed_over (suc k) [] h e = absurd (not-suc-le-zero h)
passed_over (suc k) (b ∷ l) h e =
    let parts = neither (is_lf b) (has_lf (take k l)) e in
    rw parts.0 (ap suc (passed_over k l (le_of_suc-le-suc h) parts.1) ∙ sym (suc-add k (line_length (drop k l))))

-- one turn of a search by sixteens: what is left when a stretch with no LF is passed
pub turned : (bytes rest after : List ℕ) → length rest ≤ length bytes → length bytes - length rest + line_length rest ≡ line_length bytes
    → after ≡ drop 16 rest → length after + 16 ≡ length rest → has_lf (take 16 rest) ≡ false
    → length bytes - length after + line_length after ≡ line_length bytes
turned bytes rest after within whole left size none =
    let over = passed_over 16 rest (omega arith) none in
    let same = ap line_length left in
    omega arith

-- a full line, its 80 columns looked at in two stretches, and where it ends
pub full_by : (bytes : List ℕ) → 80 < length bytes → get_or bytes 80 0 ≡ 10
    → is_full_line bytes ≡ not (has_lf (take 16 bytes) || has_lf (take 64 (drop 16 bytes)))
unfolding has_lf is_full_line
full_by bytes long lf =
    let both = ap (list_any is_lf) (take-add 16 64 bytes) ∙ list_any-append is_lf (take 16 bytes) (take 64 (drop 16 bytes)) in
    rw (lt-ltb 80 (length bytes) long, lf, both)

pub full_length : (bytes : List ℕ) → is_full_line bytes ≡ true → 80 ≡ line_length bytes
unfolding is_full_line line_length
full_length bytes e =
    let long = ltb-true 80 (length bytes) (and_left (ltb 80 (length bytes)) _ e) in
    let more = and_right (ltb 80 (length bytes)) _ e in
    let none = not-true-false (has_lf (take 80 bytes)) (and_right (is_lf (get_or bytes 80 0)) _ more) in
    sym (passed_over 80 bytes (omega arith) none ∙ rw (rest-step bytes 80 long, and_left (is_lf (get_or bytes 80 0)) _ more) refl)
  where
    not-true-false : (t : Bool) → not t ≡ true → t ≡ false
    not-true-false true e = sym e
    not-true-false false e = refl

-- the same from `at` on, and that its LF stands within the bytes
pub full-ends : (l : List ℕ) (at : ℕ) → is_full_line (drop at l) ≡ true → (at + 80 < length l) × (at + 80 ≡ at + line_length (drop at l))
unfolding is_full_line
full-ends l at e =
    let long = ltb-true 80 (length (drop at l)) (and_left (ltb 80 (length (drop at l))) _ e) in
    let within : at + 80 < length l = omega (arith, length-drop at l) in
    (within, ap (λ (n : ℕ). at + n) (full_length (drop at l) e))

-- the first line of some bytes, and those after it
pub lines_none : (xs : List ℕ) → length xs ≤ line_length xs → lines_of xs ≡ []
unfolding line_length lines_of on_first
lines_none [] h = refl
lines_none (b ∷ xs) h = go (lines_none xs) (is_lf b) refl
  where
    go : (length xs ≤ line_length xs → lines_of xs ≡ []) → (t : Bool) → is_lf b ≡ t → lines_of (b ∷ xs) ≡ []
    go more true e = absurd (not-suc-le-zero (rw e at h))
    go more false e = rw (e, more (le_of_suc-le-suc (rw e at h)))

pub lines-one : (xs : List ℕ) → line_length xs < length xs → lines_of xs ≡ take (line_length xs) xs ∷ lines_of (drop (suc (line_length xs)) xs)
unfolding line_length lines_of on_first
lines-one [] h = absurd (not-suc-le-zero h)
lines-one (b ∷ xs) h = go (lines-one xs) (is_lf b) refl
  where
    go : (line_length xs < length xs → lines_of xs ≡ take (line_length xs) xs ∷ lines_of (drop (suc (line_length xs)) xs)) → (t : Bool) → is_lf b ≡ t
        → lines_of (b ∷ xs) ≡ take (line_length (b ∷ xs)) (b ∷ xs) ∷ lines_of (drop (suc (line_length (b ∷ xs))) (b ∷ xs))
    go more true e = rw e
    go more false e = rw (e, more (le_of_suc-le-suc (rw e at h)))

-- the same for the bytes from `at` on, where `line_end` finds the line's end
module _ (bytes : List ℕ) (at end : ℕ) (found : end ≡ at + line_length (drop at bytes)) where
  pub line-starts : at ≤ end
  line-starts = omega arith

  pub no_line : length bytes ≤ end → lines_of (drop at bytes) ≡ []
  no_line h = lines_none (drop at bytes) (omega (arith, length-drop at bytes))

  pub first-line : end < length bytes → lines_of (drop at bytes) ≡ take (end - at) (drop at bytes) ∷ lines_of (drop (end + 1) bytes)
  first-line h =
      let size : line_length (drop at bytes) ≡ end - at = omega arith in
      let next : at + suc (line_length (drop at bytes)) ≡ end + 1 = omega arith in
      lines-one (drop at bytes) (omega (arith, length-drop at bytes))
      ∙ ap (λ (n : ℕ). take n (drop at bytes) ∷ lines_of (drop (suc (line_length (drop at bytes))) (drop at bytes))) size
      ∙ ap (λ (l : List ℕ). take (end - at) (drop at bytes) ∷ lines_of l)
      (drop-drop (suc (line_length (drop at bytes))) at bytes ∙ ap (λ (n : ℕ). drop n bytes) next)

-- what a search for a line's end takes
pub ruleset endings = (line_within, passed_over, turned, full_length, rest-none)
