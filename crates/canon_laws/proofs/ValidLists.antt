-- The identifiers, exponents and comments of every accepted file are valid: each slot of a satellite holds an identifier or an exponent, and a
-- comment is no longer than its line.
-- Assumes nothing.
use mathlib.Core.Path.{◌≡◌, refl, sym, ap, ◌∙◌}
use mathlib.Core.Bool.{Bool, true, false, cond, ◌&&◌, false≢true}
use mathlib.Core.List.{List, [], ◌∷◌, ◌++◌, map}
use Prim.Native.Nat.{ℕ, zero, suc, ◌+◌, ◌-◌, ◌*◌, ◌≤◌}
use native.Mathlib.Nat.{sub-zero}
use native.Mathlib.Omega.{arith}
use borrow.Author.Tests.{le-leb, leb-true, lt-ltb}
use lib.Dec.{leb, ltb, eqb}
use lib.ListN.{length, take, drop}
use lib.Seq.{take-nil, take_at, drop_at, drop-drop, drop-append-add}
use Rattle.laws.specs.Tests.{within}
use Rattle.laws.specs.Texts.{every, is_printable, blanks}
use Rattle.field.specs.Show.{fits_whole}
use Rattle.layout.specs.Fault.{clean, lower}
use Rattle.layout.specs.Kind.{Kind, Held, silent, is_blank, is_identifier, printable, number_in, number_with, fits_in, holds_in}
use Rattle.layout.specs.Kind.Kind.{unused}
use Rattle.layout.specs.Kind.Held.{nothing, one, amount, mark, words}
use Rattle.layout.specs.Layout.{Item, columns, width_of, fault_at, held_at, fault_from, values_of, slot_at, slots_from, numbers_of}
use Rattle.layout.specs.Line.{padded, cons_trimmed, trimmed}
use Rattle.lines.specs.Lent.{flat}
use Rattle.record.specs.SlotLines.{slot_kind, satellites_of, more_of}
use Rattle.record.specs.Plain.{comment_items, comment_width}
use Rattle.record.specs.Descriptors.{descriptor_of}
use Rattle.record.specs.Agrees.{type_agrees}
use Rattle.record.specs.LineKinds.{longest}
use Rattle.header.specs.declared.types.Rules.{Rules}
use Rattle.record.specs.declared.types.LineKind.TheVariants as kind
use Rattle.file.specs.Plain.{is_line, is_record, every_line, slots_of_kind, are_slots, is_comment_line, Plain}
use Rattle.file.specs.Table.{slot_numbers, slots_in, comment_text, comments_in}
use Rattle.canon.specs.Valid.{identifiers_valid, exponents_valid, comment_columns, comment_valid, comments_valid}
use Rattle.laws.proofs.Bools.{and_left, and_right, and_both}
use Rattle.laws.proofs.Lists.{one_less, every-replicate}
use Rattle.layout.proofs.Again.{item-clean}
use Rattle.file_laws.proofs.Clean.{record-clean}
use Rattle.file_laws.proofs.Selected.{satellites, identifiers, kind-accuracies, kind-comments}
use Rattle.file_laws.proofs.Slots.{slots-wide}
use Rattle.file_laws.proofs.Counts.{comment-wide}
use Rattle.canon.proofs.Parted.{every_take, every_drop}
use Rattle.canon_laws.proofs.ValidFields.{in_line, item-holds, record-plain, record-holds}

-- the first places of two lists, one after the other
every_first : (test : ℕ → Bool) (n : ℕ) (s t : List ℕ) → every test (take n s) ≡ true → every test (take (n - length s) t) ≡ true → every test (take n (s ++ t)) ≡ true
every_first test n [] t h more = ap (λ (k : ℕ). every test (take k t)) (sym (sub-zero n)) ∙ more
every_first test zero (b ∷ s) t h more = refl
every_first test (suc n) (b ∷ s) t h more =
    let less : n - length s ≡ suc n - suc (length s) = omega arith in
    and_both (test b) _ (and_left (test b) _ h)
    (every_first test n s t (and_right (test b) _ h) (ap (λ (k : ℕ). every test (take k t)) less ∙ more))

-- Slots of a kind that holds a number, and a test that every number passes which the kind can hold.
module _ (kind : Kind) (loud : silent kind ≡ false) (fits : fits_in kind 3 ≡ true) (test : ℕ → Bool)
    (passes : (w : ℕ) (v : Held) → holds_in kind w v ≡ true → test (number_in v) ≡ true) (l : List ℕ) (plain : printable l ≡ true) where
  abbrev rest : List Item
  rest = columns 61 80 unused ∷ []

  -- the numbers of so many slots, all of which are read as slots of satellites
  abbrev numbers_in : ℕ → ℕ → List ℕ
  numbers_in count at = numbers_of (values_of (slots_from kind count count at ++ rest) (padded l))

  some_left : (k : ℕ) → ltb 0 (suc k) ≡ true
  some_left k = lt-ltb 0 (suc k) (omega arith)

  slot-holds : (at : ℕ) → 1 ≤ at → at ≤ 78 → fault_at (slot_at true kind at) (padded l) ≡ clean → test (number_in (held_at (slot_at true kind at) (padded l))) ≡ true
  slot-holds at p q sound =
      let item = slot_at true kind at in
      let three : width_of item ≡ 3 = omega arith in
      let within : in_line item ≡ true = rw (le-leb 1 at p, le-leb (at + 2) 80 (omega arith), three) fits in
      passes (width_of item) (held_at item (padded l)) (item-holds item l plain sound within)

  -- the slots of the satellites that are left pass it
  slots-hold : (count left at lowest : ℕ) → 1 ≤ at → at + 3 * count ≤ 81 → fault_from lowest (slots_from kind count left at ++ rest) (padded l) ≡ clean
      → every test (take left (numbers_in count at)) ≡ true
  unfolding slots_from
  slots-hold zero left at lowest p q sound = ap (every test) (take-nil {A = ℕ} left)
  slots-hold (suc count) zero at lowest p q sound = refl
  slots-hold (suc count) (suc left) at lowest p q sound =
      let item = slot_at true kind at in
      let here : fault_from lowest (item ∷ (slots_from kind count left (at + 3) ++ rest)) (padded l) ≡ clean = rw (some_left left, one_less left) at sound in
      let own = slot-holds at p (omega arith) (item-clean item (slots_from kind count left (at + 3) ++ rest) (padded l) lowest here) in
      let more = slots-hold count left (at + 3) (lower lowest (fault_at item (padded l))) (omega arith) (omega arith) here in
      rw (some_left count, one_less count, loud) (and_both (test (number_in (held_at item (padded l)))) _ own more)

-- an exponent of the header is at most 999, an identifier is one
abbrev slot_valid : Bool → ℕ → Bool
slot_valid true n = leb n 999
slot_valid false n = is_identifier n

-- what passes a test of numbers is a number that passes it
number-with : (test : ℕ → Bool) (v : Held) → number_with test v ≡ true → test (number_in v) ≡ true
number-with test (one n) h = h
number-with test nothing h = absurd (false≢true h)
number-with test (amount negative m) h = absurd (false≢true h)
number-with test (mark set) h = absurd (false≢true h)
number-with test (words bytes) h = absurd (false≢true h)

-- the slots of a line of so many satellites that has no fault before or in its slots
line-slots : (accuracies : Bool) (l : List ℕ) → printable l ≡ true → (left lowest : ℕ)
    → fault_from lowest (slots_from (slot_kind accuracies) 17 left 10 ++ (columns 61 80 unused ∷ [])) (padded l) ≡ clean
    → every (slot_valid accuracies) (take left (slot_numbers accuracies l)) ≡ true
line-slots true l plain left lowest sound =
    slots-hold (slot_kind true) refl refl (slot_valid true)
    (λ w v h. and_right (leb 0 (number_in v)) _ (and_left (within 0 999 (number_in v)) _ (number-with (λ n. within 0 999 n && fits_whole w n) v h)))
    l plain 17 left 10 lowest (omega arith) (omega arith) sound
line-slots false l plain left lowest sound =
    slots-hold (slot_kind false) refl refl (slot_valid false) (λ w v h. number-with is_identifier v h) l plain 17 left 10 lowest (omega arith) (omega arith) sound

module _ (rules : Rules) (accuracies : Bool) where
  -- one line and those after it
  next-slots : (left : ℕ) (l : List ℕ) (ls : List (List ℕ)) → every (slot_valid accuracies) (take left (slot_numbers accuracies l)) ≡ true
      → every (slot_valid accuracies) (take (left - 17) (flat (map (slot_numbers accuracies) ls))) ≡ true
      → every (slot_valid accuracies) (take left (flat (map (slot_numbers accuracies) (l ∷ ls)))) ≡ true
  unfolding flat
  next-slots left l ls here more =
      every_first (slot_valid accuracies) left (slot_numbers accuracies l) (flat (map (slot_numbers accuracies) ls)) here
      (ap (λ (k : ℕ). every (slot_valid accuracies) (take (left - k) (flat (map (slot_numbers accuracies) ls)))) (slots-wide accuracies l) ∙ more)

  slots-valid : (left : ℕ) (ls : List (List ℕ)) → are_slots rules accuracies left ls ≡ true
      → every (slot_valid accuracies) (take left (flat (map (slot_numbers accuracies) ls))) ≡ true
  unfolding are_slots flat
  slots-valid left [] are = ap (every (slot_valid accuracies)) (take-nil {A = ℕ} left)
  slots-valid left (l ∷ ls) are =
      let kind = slots_of_kind accuracies in
      let fault = (more_of accuracies left (padded l)).fault in
      let own = and_left (is_record rules kind fault l) _ are in
      next-slots left l ls
      (line-slots accuracies l (record-plain rules kind fault l own) left _ (record-clean rules kind fault l own))
      (slots-valid (left - 17) ls (and_right (is_record rules kind fault l) _ are))

-- A text that is blank from some column on has no more columns than those before it once its trailing blanks are cut.
cons-longer : (b : ℕ) (t : List ℕ) → length (cons_trimmed b t) ≤ suc (length t)
cons-longer b (c ∷ t) = omega arith
cons-longer b [] = go (eqb b 32)
  where
    go : (blank : Bool) → length (cond blank [] (b ∷ [])) ≤ 1
    go true = omega arith
    go false = omega arith

cut-from : (n : ℕ) (s : List ℕ) → every is_blank (drop n s) ≡ true → length (trimmed s) ≤ n
cut-from n [] h = omega arith
cut-from zero (b ∷ s) h = go (trimmed s) (cut-from zero s (and_right (is_blank b) _ h))
  where
    go : (t : List ℕ) → length t ≤ 0 → length (cons_trimmed b t) ≤ 0
    go [] none = rw (and_left (is_blank b) _ h) (omega arith)
    go (c ∷ t) none = absurd (omega arith)
cut-from (suc n) (b ∷ s) h = omega (arith, cons-longer b (trimmed s), cut-from n s h)

-- what is taken of a text is blank from where the text is
taken-blank : (n k : ℕ) (s : List ℕ) → every is_blank (drop k s) ≡ true → every is_blank (drop k (take n s)) ≡ true
taken-blank n zero s h = every_take is_blank n s h
taken-blank zero (suc k) s h = refl
taken-blank (suc n) (suc k) [] h = refl
taken-blank (suc n) (suc k) (b ∷ s) h = taken-blank n k s h

-- so a comment is no longer than its line
module _ (rules : Rules) (l : List ℕ) (is : is_comment_line rules l ≡ true) where
  short : length l ≤ longest rules kind.Comment
  short =
      leb-true (length l) (longest rules kind.Comment)
      (and_left (leb (length l) (longest rules kind.Comment)) _ (and_right (every is_printable l) _ (and_left (is_line rules kind.Comment l) _ is)))

  comment-short : length (trimmed (comment_text l)) ≤ comment_columns rules
  unfolding padded
  comment-short =
      let n = comment_columns rules in
      let past = 3 + n - length l in
      let place : 3 + n ≡ length l + past = omega (arith, short) in
      let behind : every is_blank (drop (3 + n) (l ++ blanks 80)) ≡ true =
      ap (λ (k : ℕ). every is_blank (drop k (l ++ blanks 80))) place
      ∙ ap (every is_blank) (drop-append-add l (blanks 80) past)
      ∙ every_drop is_blank past (blanks 80) (every-replicate is_blank 80 32 refl) in
      cut-from n (comment_text l)
      (taken-blank comment_width n (drop 3 (padded l)) (ap (every is_blank) (drop-drop n 3 (padded l)) ∙ taken-blank 80 (3 + n) (l ++ blanks 80) behind))

  comment-valid : comment_valid rules (comment_text l) ≡ true
  unfolding comment_valid
  comment-valid =
      and_both (printable (comment_text l)) _
      (and_right (eqb (length (comment_text l)) comment_width) _ (record-holds rules kind.Comment comment_items l is 2 (omega arith) refl))
      (le-leb (length (trimmed (comment_text l))) (comment_columns rules) comment-short)

lines-valid : (rules : Rules) (ls : List (List ℕ)) → every_line (is_comment_line rules) ls ≡ true → comments_valid rules (length ls) (flat (map comment_text ls)) ≡ true
unfolding every_line flat comments_valid
lines-valid rules [] are = refl
lines-valid rules (l ∷ ls) are =
    let more = flat (map comment_text ls) in
    rw (take_at (comment_text l) more comment_width (comment-wide l), drop_at (comment_text l) more comment_width (comment-wide l), comment-valid rules l (and_left (is_comment_line rules l) _ are))
    (lines-valid rules ls (and_right (is_comment_line rules l) _ are))

module _ {rules : Rules} {lines : List (List ℕ)} (p : Plain rules lines) where
  -- EVERY IDENTIFIER IS A NAME, AND EVERY EXPONENT AT MOST 999.
  every-identifier : every is_identifier (identifiers p) ≡ true
  every-identifier =
      let fault = (satellites_of rules (padded p.count)).fault in
      next-slots rules false (satellites p) p.count p.slots
      (line-slots false p.count (record-plain rules kind.Satellites fault p.count p.is-count) (satellites p) _
      (record-clean rules kind.Satellites fault p.count p.is-count))
      (slots-valid rules false (satellites p - 17) p.slots p.are-slots)

  pub identifiers-valid : identifiers_valid (descriptor_of (padded p.descriptor)).file_type (identifiers p) ≡ true
  unfolding identifiers_valid
  identifiers-valid =
      let d = descriptor_of (padded p.descriptor) in
      rw (every-identifier, p.all-different) (and_right (is_record rules kind.Characters d.fault p.descriptor) (type_agrees d.file_type (identifiers p)) p.is-descriptor)

  pub exponents-valid : exponents_valid (slots_in rules true (satellites p) lines) ≡ true
  unfolding exponents_valid slots_in
  exponents-valid =
      ap (λ (ls : List (List ℕ)). every (slot_valid true) (take (satellites p) (flat (map (slot_numbers true) ls)))) (kind-accuracies p)
      ∙ slots-valid rules true (satellites p) p.accuracies p.are-accuracies

  -- EVERY COMMENT IS VALID.
  pub comments-valid : comments_valid rules (length p.comments) (comments_in rules lines) ≡ true
  unfolding comments_in
  comments-valid =
      ap (λ (ls : List (List ℕ)). comments_valid rules (length p.comments) (flat (map comment_text ls))) (kind-comments p)
      ∙ lines-valid rules p.comments p.are-comments
