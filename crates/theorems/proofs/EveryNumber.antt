-- Every number of satellites from 1 to 999 has a valid table, and so an accepted file. 02, Ask 6: "Up to 999 satellites".
-- Assumes nothing.
use mathlib.Core.Path.{◌≡◌, refl, ap, ◌∙◌}
use mathlib.Core.Bool.{Bool, true, false, beq}
use mathlib.Core.List.{List, [], ◌∷◌, ◌++◌}
use Prim.Native.Nat.{ℕ, zero, suc, ◌+◌, ◌*◌, ◌/◌, ◌≤◌, ◌<◌}
use native.Mathlib.Omega.{arith}
use borrow.Author.Tests.{le-leb, lt-ltb, ltb-true, ne_eqb}
use lib.Dec.{T, leb, ltb, eqb}
use lib.ListN.{length, take, length-replicate, length-append}
use lib.Seq.{take_all}
use Rattle.laws.specs.Tests.{every_below}
use Rattle.laws.specs.Texts.{every}
use Rattle.laws.proofs.Bools.{and_left, and_right, and_both, same_bool}
use Rattle.laws.proofs.Bounds.{true-within, below}
use Rattle.header.specs.Rules.{d, max_satellites}
use Rattle.layout.specs.Kind.{is_one_of, is_identifier}
use Rattle.lines.specs.Lines.{lines_of}
use Rattle.record.specs.Agrees.{repeats, type_agrees}
use Rattle.record.specs.Rows.{row_width}
use Rattle.scan.specs.Run.{IsFile}
use Rattle.canon.specs.Valid.{is_instant, texts_fit, times_valid, counts_valid, words_valid, header_valid, lists_long, identifiers_valid, exponents_valid, comment_valid, comments_valid, row_valid, note_valid, noted_valid, cell_valid, rows_valid, counts_hold, valid}
use Rattle.canon_laws.specs.Held.{Holds}
use Rattle.header.specs.declared.types.Header.{Header}
use Rattle.theorems.specs.Files as file
use Rattle.theorems.specs.Made.{paper_header, nth_identifier, identifiers_from, absent_row, absent_rows, header_of_many, zeros, four_blank, table_of_many}
use Rattle.theorems.proofs.Rewritten.{valid-exactly}
use Rattle.canon_laws.proofs.Versions.{d-proper}

-- there are so many of each
many-identifiers : (k n : ℕ) → length (identifiers_from k n) ≡ n
unfolding identifiers_from
many-identifiers k zero = refl
many-identifiers k (suc n) = ap suc (many-identifiers (suc k) n)

many-rows : (n : ℕ) → length (absent_rows n) ≡ n * row_width
unfolding absent_rows
many-rows zero = refl
many-rows (suc n) = omega (arith, length-append absent_row (absent_rows n), many-rows n)

-- each is an identifier, as computed for each number,
abbrev is_one : ℕ → Bool
is_one k = beq (is_identifier (nth_identifier k)) true

all_ones : T (every_below max_satellites is_one)
unfolding nth_identifier
all_ones = tt

are-identifiers : (k n : ℕ) → k + n ≤ max_satellites → every is_identifier (identifiers_from k n) ≡ true
unfolding identifiers_from
are-identifiers k zero h = refl
are-identifiers k (suc n) h =
    and_both (is_identifier (nth_identifier k)) (every is_identifier (identifiers_from (suc k) n))
    (same_bool (is_identifier (nth_identifier k)) true (below max_satellites is_one all_ones k (omega arith)))
    (are-identifiers (suc k) n (omega arith))

-- each is above those before it,
ascending : (k : ℕ) → nth_identifier k < nth_identifier (suc k)
unfolding nth_identifier
ascending k = omega arith

-- so none repeats
abbrev all_below : ℕ → List ℕ → Bool
all_below b known = every (λ (a : ℕ). ltb a b) known

not_known : (b : ℕ) (known : List ℕ) → all_below b known ≡ true → is_one_of b known ≡ false
not_known b [] h = refl
not_known b (a ∷ known) h =
    let less = ltb-true a b (and_left (ltb a b) (all_below b known) h) in
    let apart : eqb b a ≡ false = ne_eqb b a (λ z. omega (arith, less, z)) in
    rw (apart, not_known b known (and_right (ltb a b) (all_below b known) h))

still-below : (b c : ℕ) (known : List ℕ) → b < c → all_below b known ≡ true → all_below c (known ++ (b ∷ [])) ≡ true
still-below b c [] h k = and_both (ltb b c) true (lt-ltb b c h) refl
still-below b c (a ∷ known) h k =
    let less = ltb-true a b (and_left (ltb a b) (all_below b known) k) in
    and_both (ltb a c) (all_below c (known ++ (b ∷ []))) (lt-ltb a c (omega (arith, less, h))) (still-below b c known h (and_right (ltb a b) (all_below b known) k))

none-repeats : (k n : ℕ) (known : List ℕ) → all_below (nth_identifier k) known ≡ true → repeats known (identifiers_from k n) ≡ false
unfolding identifiers_from repeats
none-repeats k zero known h = refl
none-repeats k (suc n) known h =
    rw (
      not_known (nth_identifier k) known h,
      none-repeats (suc k) n (known ++ (nth_identifier k ∷ [])) (still-below (nth_identifier k) (nth_identifier (suc k)) known (ascending k) h),
    )

-- exponents of 0 and absent rows are valid
zeros-valid : (n : ℕ) → every (λ (x : ℕ). leb x 999) (zeros n) ≡ true
zeros-valid zero = refl
zeros-valid (suc n) = zeros-valid n

absent-valid : (n : ℕ) → rows_valid false n (absent_rows n) ≡ true
unfolding rows_valid absent_rows cell_valid noted_valid row_valid note_valid
absent-valid zero = refl
absent-valid (suc n) = absent-valid n

module _ (n : ℕ) (some : 1 ≤ n) (few : n ≤ max_satellites) where
  header-valid : header_valid d (header_of_many n) ≡ true
  unfolding header_valid times_valid counts_valid words_valid is_instant texts_fit paper_header
  header-valid = rw (true-within 1 max_satellites n some few)

  lists-long : lists_long (header_of_many n) (length (identifiers_from 0 n)) (length (zeros n)) (length four_blank) (length (absent_rows n)) ≡ true
  unfolding lists_long
  lists-long =
      let i : leb n (length (identifiers_from 0 n)) ≡ true = le-leb n (length (identifiers_from 0 n)) (omega (arith, many-identifiers 0 n)) in
      let x : leb n (length (zeros n)) ≡ true = le-leb n (length (zeros n)) (omega (arith, length-replicate {A = ℕ} n 0)) in
      let r : leb (n * 1) (length (absent_rows n) / row_width) ≡ true = le-leb (n * 1) (length (absent_rows n) / row_width) (omega (arith, many-rows n)) in
      rw (i, x, r)

  identifiers-valid : identifiers_valid 77 (identifiers_from 0 n) ≡ true
  unfolding identifiers_valid type_agrees
  identifiers-valid = rw (are-identifiers 0 n (omega (arith, few)), none-repeats 0 n [] refl)

  rows-valid : rows_valid false (n * 1) (absent_rows n) ≡ true
  rows-valid = let once : n * 1 ≡ n = omega arith in ap (λ (m : ℕ). rows_valid false m (absent_rows n)) once ∙ absent-valid n

  comments-valid : comments_valid d 4 four_blank ≡ true
  unfolding comments_valid comment_valid
  comments-valid = refl

  -- EVERY NUMBER FROM 1 TO 999 HAS A VALID TABLE,
  pub many-valid : valid d (table_of_many n) ≡ true
  unfolding valid counts_hold exponents_valid
  many-valid =
      let i : take n (identifiers_from 0 n) ≡ identifiers_from 0 n = take_all n (identifiers_from 0 n) (omega (arith, many-identifiers 0 n)) in
      let x : take n (zeros n) ≡ zeros n = take_all n (zeros n) (omega (arith, length-replicate {A = ℕ} n 0)) in
      let r : take (n * 1 * row_width) (absent_rows n) ≡ absent_rows n = take_all (n * 1 * row_width) (absent_rows n) (omega (arith, many-rows n)) in
      rw (header-valid, lists-long, i, identifiers-valid, x, zeros-valid n, comments-valid, r, rows-valid)

  -- and so an accepted file.
  pub every-number : (bytes : List ℕ) × IsFile d bytes × Holds d (lines_of bytes) (table_of_many n) × ((file.header d bytes).satellites ≡ n)
  every-number =
      let f = (valid-exactly d-proper (table_of_many n)).0 many-valid in
      (f.0, f.1, f.2, ap (λ (h : Header). h.satellites) f.2.header_is)
