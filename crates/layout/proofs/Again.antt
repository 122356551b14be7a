-- A line without fault can be shown again: each of its fields can hold what it holds. One law over every kind, then over every layout.
-- Assumes nothing.
use mathlib.Core.Path.{◌≡◌, refl, sym, ap, ◌∙◌}
use mathlib.Core.Bool.{Bool, true, false, cond, ◌&&◌, ◌||◌}
use mathlib.Core.List.{List, [], ◌∷◌}
use Prim.Native.Nat.{ℕ, zero, suc, ◌-◌, min, ◌<◌, ◌≤◌}
use native.Mathlib.Omega.{arith}
use borrow.Author.Tests.{eqb-true, eqb-false, eq-eqb, ltb-true, ne_eqb, leb-true}
use lib.Dec.{leb, ltb, eqb}
use lib.ListN.{length, get_or, take, drop, length-drop}
use lib.Seq.{length-take-le}
use Rattle.laws.specs.Tests.{within}
use Rattle.laws.specs.Texts.{every, is_printable}
use Rattle.field.specs.Read.{whole_of, exponent_of, decimal_of, minus_first, signed_whole_of}
use Rattle.field.specs.Show.{fits_whole, fits_decimal, fits_signed}
use Rattle.field.specs.Clock.{clock_of}
use Rattle.field.specs.Sign.{largest}
use Rattle.layout.specs.Fault.{clean, keyed, lower, lower_of, lower_unless}
use Rattle.layout.specs.Kind.{Kind, silent, same_bytes, is_one_of, is_listed, is_blank, is_lettered, is_identifier, named, identifier_code, identifier_number, can_amount, can_clock, unless, bound_fault, whole_fault, amount_fault, exponent_fault, fault_in, held_in, whole_held, amount_held, sign_held, fits_in, holds_in, printable, can_signed, amount_with, held_amount, maybe_held}
use Rattle.layout.specs.Kind.Kind.{unused, fixed, whole, decimal, signed, clock, flag, letter, listed, identifier, filler, zero_whole, zero_decimal, text, maybe, maybe_signed}
use Rattle.layout.specs.Kind.Held.{nothing, amount}
use Rattle.layout.specs.Layout.{has_own, own_of, others_of, Item, Values, width_of, part_of, fault_at, tiled_from, tiled, fault_from, fault_of, values_of, can_show, entered}
use Rattle.field.specs.declared.Exponent.{Exponent}
use Rattle.field.specs.declared.Exponent.TheVariants as exponents
use Rattle.laws.proofs.Bools.{and_left, and_right, and_both}
use Rattle.field.proofs.Accepted.{settled-sign, decimal-taken, integer-minus, signed-whole-taken}
use Rattle.field.proofs.ClockBack.{clock-again}
use Rattle.field.proofs.Again.{whole_again, exponent-again, decimal-again, signed-again}
use Rattle.layout.proofs.Identifiers.{identifier-again}
use Rattle.layout.proofs.Fields.{not-false-true, same-one}
use Rattle.layout.proofs.Layouts.{stands, start-bound}
use Rattle.std.specs.Prelude.{Option, Some, None}
use Rattle.field.specs.declared.Signed.{Signed}
use Rattle.field.specs.Read.{some_amount}

-- a key has a number, so it is no fault's absence
no_key : (number column : ℕ) → 0 < number → keyed number column ≡ clean → ⊥
no_key number column p e = omega arith

-- a test that earned no fault was passed
pub passed : (test : Bool) (number column : ℕ) → 0 < number → unless test number column ≡ clean → test ≡ true
passed true number column p e = refl
passed false number column p e = absurd (no_key number column p e)

bound-passed : (column low high n : ℕ) → bound_fault column low high n ≡ clean → within low high n ≡ true
bound-passed column low high n e = passed (within low high n) 7 column (omega arith) e

holds-whole : (low high column : ℕ) (bs : List ℕ) (a : Option ℕ) → whole_of bs ≡ a → whole_fault column low high a ≡ clean
    → (within low high (whole_held a) && fits_whole (length bs) (whole_held a)) ≡ true
holds-whole low high column bs (Some n) e f = and_both (within low high n) (fits_whole (length bs) n) (bound-passed column low high n f) (whole_again bs n e)
holds-whole low high column bs None e f = absurd (no_key 6 column (omega arith) f)

-- no minus is read where none is allowed
plain-sign : (bs : List ℕ) (places : ℕ) (n : Bool) (m : ℕ) → decimal_of bs places false ≡ some_amount n m → n ≡ false
unfolding minus_first
plain-sign bs places n m e =
    let c = (decimal-taken bs places false n m e).parts in
    sym c.sign ∙ rw (sym (integer-minus false _ c.minus c.high c.integer))

holds-decimal : (places low high column : ℕ) (bs : List ℕ) (a : Option Signed) → decimal_of bs places false ≡ a → amount_fault column low high a ≡ clean
    → (within low high (amount_held a) && fits_decimal (length bs) places false (amount_held a)) ≡ true
holds-decimal places low high column bs (Some held) e f =
    and_both (within low high held.magnitude) (fits_decimal (length bs) places false held.magnitude) (bound-passed column low high held.magnitude f)
    (ap (λ (t : Bool). fits_decimal (length bs) places t held.magnitude) (sym (plain-sign bs places held.negative held.magnitude e)) ∙ decimal-again bs places false held.negative held.magnitude e)
holds-decimal places low high column bs None e f = absurd (no_key 6 column (omega arith) f)

holds-signed : (places column : ℕ) (bs : List ℕ) (a : Option Signed) → decimal_of bs places true ≡ a → amount_fault column 0 largest a ≡ clean
    → can_amount (length bs) places (sign_held a) (amount_held a) ≡ true
holds-signed places column bs (Some held) e f =
    let c = (decimal-taken bs places true held.negative held.magnitude e).parts in
    and_both (leb held.magnitude largest) _ (and_right (leb 0 held.magnitude) (leb held.magnitude largest) (bound-passed column 0 largest held.magnitude f))
    (and_both (fits_decimal (length bs) places held.negative held.magnitude) _ (decimal-again bs places true held.negative held.magnitude e) (settled-sign c.minus held.negative held.magnitude c.sign))
holds-signed places column bs None e f = absurd (no_key 6 column (omega arith) f)

-- a clock that was read, an absent one too
holds-clock : (places column : ℕ) (bs : List ℕ) (a : Option Signed) → clock_of bs places ≡ a → amount_fault column 0 largest a ≡ clean
    → can_clock (length bs) places (sign_held a) (amount_held a) ≡ true
holds-clock places column bs (Some held) e f =
    let c = clock-again bs places held.negative held.magnitude e in
    and_both (can_amount (length bs) places held.negative held.magnitude) _
    (and_both (leb held.magnitude largest) _ (and_right (leb 0 held.magnitude) (leb held.magnitude largest) (bound-passed column 0 largest held.magnitude f))
    (and_both (fits_decimal (length bs) places held.negative held.magnitude) _ c.fits c.sign))
    c.kept
holds-clock places column bs None e f = absurd (no_key 6 column (omega arith) f)

-- a number that may be unknown, with a minus or none
holds-noted : (none high column : ℕ) (bs : List ℕ) → high < none → (t : Bool) → every is_blank bs ≡ t → (a : Option Signed) → signed_whole_of bs ≡ a
    → cond t clean (amount_fault column 0 high a) ≡ clean → amount_with (can_signed (length bs) none high) (cond t (amount false none) (held_amount a)) ≡ true
holds-noted none high column bs apart true q a e f = rw (eq-eqb none none refl)
holds-noted none high column bs apart false q (Some held) e f =
    let c = (signed-whole-taken bs held.negative held.magnitude e).1 in
    let bound = and_right (leb 0 held.magnitude) (leb held.magnitude high) (bound-passed column 0 high held.magnitude f) in
    let other = ne_eqb held.magnitude none (λ same. omega (arith, leb-true held.magnitude high bound)) in
    rw other
    (and_both (leb held.magnitude high) _ bound
    (and_both (fits_signed (length bs) held.negative held.magnitude) _ (signed-again bs held.negative held.magnitude e) (settled-sign c.minus held.negative held.magnitude c.sign)))
holds-noted none high column bs apart false q None e f = absurd (no_key 6 column (omega arith) f)

holds-maybe : (none column : ℕ) (bs : List ℕ) (a : Exponent) → exponent_of bs ≡ a → exponent_fault column a ≡ clean
    → (eqb (maybe_held none a) none || fits_whole (length bs) (maybe_held none a)) ≡ true
holds-maybe none column bs (exponents.Value n) e f = either (eqb n none) (exponent-again bs (exponents.Value n) (λ q. value-good q) e)
  where
    either : (t : Bool) → fits_whole (length bs) n ≡ true → (t || fits_whole (length bs) n) ≡ true
    either true h = refl
    either false h = h

    value-good : exponents.Value n ≡ exponents.Malformed → ⊥
    value-good q = let z : ◌≡◌ {A = ℕ} 0 1 = cc in omega arith
holds-maybe none column bs exponents.Unknown e f = rw (eq-eqb none none refl)
holds-maybe none column bs exponents.Malformed e f = absurd (no_key 6 column (omega arith) f)

holds-identifier : (column : ℕ) (bs : List ℕ) (t : Bool) → named bs ≡ t → cond t (bound_fault column 1 99 (identifier_number bs)) (keyed 6 column) ≡ clean
    → is_identifier (cond t (identifier_code bs) 0) ≡ true
holds-identifier column bs true e f = identifier-again bs e (bound-passed column 1 99 (identifier_number bs) f)
holds-identifier column bs false e f = absurd (no_key 6 column (omega arith) f)

-- what a field without fault holds, it can hold
pub holds-again : (kind : Kind) (column : ℕ) (bs : List ℕ) → fits_in kind (length bs) ≡ true → printable bs ≡ true → fault_in kind column bs ≡ clean → holds_in kind (length bs) (held_in kind bs) ≡ true
holds-again unused column bs w p f = refl
holds-again (fixed number these) column bs w p f =
    let some = ltb-true 0 number (and_right (eqb (length these) (length bs)) (ltb 0 number) w) in
    ap printable (sym (same-one bs these (passed (same_bytes bs these) number column some f))) ∙ p
holds-again (whole low high) column bs w p f = holds-whole low high column bs (whole_of bs) refl f
holds-again (decimal places low high) column bs w p f = holds-decimal places low high column bs (decimal_of bs places false) refl f
holds-again (signed places) column bs w p f = holds-signed places column bs (decimal_of bs places true) refl f
holds-again (clock places) column bs w p f = holds-clock places column bs (clock_of bs places) refl f
holds-again (maybe none) column bs w p f = holds-maybe none column bs (exponent_of bs) refl f
holds-again (maybe_signed none high) column bs w p f =
    holds-noted none high column bs (ltb-true high none (and_right (leb (length bs) 18) (ltb high none) w)) (every is_blank bs) refl (signed_whole_of bs) refl f
holds-again (flag sign) column bs w p f = refl
holds-again (letter these) column bs w p f =
    and_left (is_one_of (get_or bs 0 0) these) (every is_blank (drop 1 bs)) (passed (is_lettered bs these) 6 column (omega arith) f)
holds-again (listed these) column bs w p f = passed (is_listed bs these) 6 column (omega arith) f
holds-again identifier column bs w p f = holds-identifier column bs (named bs) refl f
holds-again filler column bs w p f = refl
holds-again zero_whole column bs w p f = refl
holds-again (zero_decimal places) column bs w p f = refl
holds-again text column bs w p f = and_both (eqb (length bs) (length bs)) (printable bs) (eq-eqb (length bs) (length bs) refl) p

-- a kind that never holds anything holds nothing
silent-held : (kind : Kind) (bs : List ℕ) → silent kind ≡ true → held_in kind bs ≡ nothing
silent-held unused bs s = refl
silent-held (fixed number these) bs s = refl
silent-held (whole low high) bs s = absurd (not-false-true s)
silent-held (decimal places low high) bs s = absurd (not-false-true s)
silent-held (signed places) bs s = absurd (not-false-true s)
silent-held (clock places) bs s = absurd (not-false-true s)
silent-held (maybe none) bs s = absurd (not-false-true s)
silent-held (maybe_signed none high) bs s = absurd (not-false-true s)
silent-held (flag sign) bs s = absurd (not-false-true s)
silent-held (letter these) bs s = absurd (not-false-true s)
silent-held (listed these) bs s = absurd (not-false-true s)
silent-held identifier bs s = absurd (not-false-true s)
silent-held filler bs s = absurd (not-false-true s)
silent-held zero_whole bs s = refl
silent-held (zero_decimal places) bs s = refl
silent-held text bs s = absurd (not-false-true s)

-- no fault of two is none of either
pub lower-clean : (a b : ℕ) → lower a b ≡ clean → (a ≡ clean) × (b ≡ clean)
unfolding lower_of
lower-clean a b e = go (eqb b clean) refl e
  where
    both : (t : Bool) → eqb a clean ≡ t → eqb b clean ≡ false → cond t b (min a b) ≡ clean → (a ≡ clean) × (b ≡ clean)
    both true p q h = (eqb-true a clean p, h)
    both false p q h =
        let some : 0 < a = omega (arith, eqb-false a clean p) in
        let other : 0 < b = omega (arith, eqb-false b clean q) in
        absurd (omega arith)

    go : (t : Bool) → eqb b clean ≡ t → lower_unless t a b ≡ clean → (a ≡ clean) × (b ≡ clean)
    go true q h = (h, eqb-true b clean q)
    go false q h = both (eqb a clean) refl q h

-- a line without fault has none before its items, and none in any of them
pub first-clean : (items : List Item) (line : List ℕ) (lowest : ℕ) → fault_from lowest items line ≡ clean → lowest ≡ clean
first-clean [] line lowest e = e
first-clean (item ∷ items) line lowest e =
    (lower-clean lowest (fault_at item line) (first-clean items line (lower lowest (fault_at item line)) e)).0

pub item-clean : (item : Item) (items : List Item) (line : List ℕ) (lowest : ℕ) → fault_from lowest (item ∷ items) line ≡ clean → fault_at item line ≡ clean
item-clean item items line lowest e =
    (lower-clean lowest (fault_at item line) (first-clean items line (lower lowest (fault_at item line)) e)).1

-- a part of a printable text
every_take : (n : ℕ) (s : List ℕ) → printable s ≡ true → printable (take n s) ≡ true
every_take zero [] h = refl
every_take (suc n) [] h = refl
every_take zero (b ∷ s) h = refl
every_take (suc n) (b ∷ s) h = and_both (is_printable b) _ (and_left (is_printable b) (printable s) h) (every_take n s (and_right (is_printable b) (printable s) h))

every_drop : (n : ℕ) (s : List ℕ) → printable s ≡ true → printable (drop n s) ≡ true
every_drop zero s h = h
every_drop (suc n) [] h = refl
every_drop (suc n) (b ∷ s) h = every_drop n s (and_right (is_printable b) (printable s) h)

-- the entry of an item, of what it holds
own-entry : (kind : Kind) (bs : List ℕ) (vs : Values) (t : Bool) → silent kind ≡ t
    → (has_own t (entered t (held_in kind bs) vs) ≡ true) × (own_of t (entered t (held_in kind bs) vs) ≡ held_in kind bs) × (others_of t (entered t (held_in kind bs) vs) ≡ vs)
own-entry kind bs vs true s = (refl, sym (silent-held kind bs s), refl)
own-entry kind bs vs false s = (refl, refl, refl)

module _ (line : List ℕ) (wide : length line ≡ 80) (plain : printable line ≡ true) where
  part-wide : (at : ℕ) (item : Item) (items : List Item) → 1 ≤ at → tiled_from at (item ∷ items) ≡ true → length (part_of item line) ≡ width_of item
  part-wide at item items p t =
      let here = stands at item items t in
      let bound = start-bound (suc item.last) items here.later in
      length-take-le (width_of item) (drop (item.first - 1) line) (omega (arith, length-drop (item.first - 1) line, here.starts, here.ends))

  again-from : (items : List Item) (at lowest : ℕ) → 1 ≤ at → tiled_from at items ≡ true → fault_from lowest items line ≡ clean → can_show items (values_of items line) ≡ true
  again-from [] at lowest p t e = refl
  again-from (item ∷ items) at lowest p t e =
      let here = stands at item items t in
      let part = part_of item line in
      let entry = own-entry item.kind part (values_of items line) (silent item.kind) refl in
      let wide-part = part-wide at item items p t in
      let held = holds-again item.kind item.blamed part (ap (fits_in item.kind) wide-part ∙ here.fits) (every_take (width_of item) (drop (item.first - 1) line) (every_drop (item.first - 1) line plain)) (item-clean item items line lowest e) in
      let own : holds_in item.kind (width_of item) (held_in item.kind part) ≡ true = ap (λ (w : ℕ). holds_in item.kind w (held_in item.kind part)) (sym wide-part) ∙ held in
      rw (entry.0, entry.1, entry.2, own)
      (again-from items (suc item.last) (lower lowest (fault_at item line)) (omega arith) here.later e)

-- the law of every layout: the values of a line without fault can be shown again
pub shown-again : (items : List Item) (line : List ℕ) → length line ≡ 80 → printable line ≡ true → tiled items ≡ true → fault_of items line ≡ clean
    → can_show items (values_of items line) ≡ true
shown-again items line w p t e = again-from line w p items 1 clean (omega arith) t e
