-- Which column a fault names, computed over every layout: an unused column itself, of a field its first column (4 for year, month and day), of a symbol and
-- of a slot after the last satellite none. Assumes nothing.
use mathlib.Core.Path.{◌≡◌, refl, sym, ap, ◌∙◌, subst}
use mathlib.Core.Logic.{◌⊎◌, inl, inr, ⊎_elim}
use mathlib.Core.Bool.{Bool, true, false, false≢true, cond, ◌&&◌, ◌||◌}
use mathlib.Core.List.{List, [], ◌∷◌, ◌++◌}
use Prim.Native.Nat.{ℕ, zero, suc, ◌+◌, ◌-◌, ◌*◌, ◌≤◌, ◌<◌}
use native.Mathlib.Omega.{arith}
use borrow.Author.Tests.{eqb-true, leb-true, le-leb, eq-eqb}
use lib.Dec.{eqb, leb, ltb}
use lib.ListN.{length, get_or, drop, length-take}
use lib.Seq.{get_or-take, get_or-drop}
use Rattle.laws.specs.Tests.{within}
use Rattle.laws.specs.Texts.{every}
use Rattle.laws.proofs.Bools.{and_left, and_right, and_both}
use Rattle.laws.proofs.Bounds.{within-true}
use Rattle.field.specs.Read.{whole_of, exponent_of, signed_whole_of, decimal_of}
use Rattle.field.specs.Clock.{clock_of}
use Rattle.field.specs.Sign.{largest}
use Rattle.field.specs.declared.Exponent.{Exponent}
use Rattle.field.specs.declared.Exponent.TheVariants as exponents
use Rattle.layout.specs.Fault.{clean, keyed, key_number, column_of}
use Rattle.layout.specs.Kind.{Kind, is_unused, unused_fault, same_bytes, is_listed, is_lettered, unless, whole_fault, amount_fault, exponent_fault, is_zero, is_zeros, named, identifier_number, zero_slot, bound_fault, fault_in, is_blank}
use Rattle.layout.specs.Kind.Kind.{unused, fixed, whole, decimal, signed, clock, flag, letter, listed, identifier, filler, zero_whole, zero_decimal, text, maybe, maybe_signed}
use Rattle.layout.specs.Layout.{Item, columns, width_of, part_of, fault_at, slot_for, slots_from}
use Rattle.record.specs.SlotLines.{slot_kind, satellite_items, more_items, count_in}
use Rattle.record.specs.Descriptors.{descriptor_items, character_items, base_items, float_items}
use Rattle.header.specs.declared.types.Rules.{Rules}
use Rattle.record.specs.declared.types.LineKind.{LineKind}
use Rattle.record.specs.declared.types.LineKind.TheVariants as kind
use Rattle.machine.specs.State.{is_first}
use Rattle.machine.specs.declared.types.State.{State}
use Rattle.scan_laws.specs.Earned.{Among, items_at, byte_at, field_number, in_date, field_column}
use Rattle.std.specs.Prelude.{Option, Some, None}
use Rattle.field.specs.declared.Signed.{Signed}

-- A FIELD'S FAULT has a number of its own, whatever column it names: what the document fixes its own number, a slot after the last satellite 8, a
-- placeholder of zero 5, any other 6 or 7.
pub data Tells (told : Bool) (fault : ℕ → ℕ) : Type 0 where
  no-fault : ((column : ℕ) → fault column ≡ clean) → Tells told fault
  a-fault : (number : ℕ) → 4 ≤ number → number ≤ 8 → within 5 7 number ≡ told → ((column : ℕ) → fault column ≡ keyed number column) → Tells told fault

-- the kinds whose faults name a column, which those with 5 to 7 do
abbrev is_told : Kind → Bool
is_told unused = true
is_told (fixed number these) = within 5 7 number
is_told (whole low high) = true
is_told (decimal places low high) = true
is_told (signed places) = true
is_told (clock places) = true
is_told (maybe none) = true
is_told (maybe_signed none high) = true
is_told (flag sign) = true
is_told (letter these) = true
is_told (listed these) = true
is_told identifier = true
is_told filler = false
is_told zero_whole = true
is_told (zero_decimal places) = true
is_told text = true

-- what the document fixes has a number from 4 to 8
abbrev is_numbered : Kind → Bool
is_numbered unused = true
is_numbered (fixed number these) = within 4 8 number
is_numbered (whole low high) = true
is_numbered (decimal places low high) = true
is_numbered (signed places) = true
is_numbered (clock places) = true
is_numbered (maybe none) = true
is_numbered (maybe_signed none high) = true
is_numbered (flag sign) = true
is_numbered (letter these) = true
is_numbered (listed these) = true
is_numbered identifier = true
is_numbered filler = true
is_numbered zero_whole = true
is_numbered (zero_decimal places) = true
is_numbered text = true

tells-unless : (number : ℕ) → 4 ≤ number → number ≤ 8 → (passed : Bool) → Tells (within 5 7 number) (λ column. unless passed number column)
tells-unless number p q true = no-fault (λ column. refl)
tells-unless number p q false = a-fault number p q refl (λ column. refl)

five : (passed : Bool) → Tells true (λ column. unless passed 5 column)
five passed = tells-unless 5 (omega arith) (omega arith) passed

six : (passed : Bool) → Tells true (λ column. unless passed 6 column)
six passed = tells-unless 6 (omega arith) (omega arith) passed

bound : (low high n : ℕ) → Tells true (λ column. bound_fault column low high n)
bound low high n = tells-unless 7 (omega arith) (omega arith) (within low high n)

tells-whole : (low high : ℕ) (a : Option ℕ) → Tells true (λ column. whole_fault column low high a)
tells-whole low high (Some n) = bound low high n
tells-whole low high None = six false

tells-amount : (low high : ℕ) (a : Option Signed) → Tells true (λ column. amount_fault column low high a)
tells-amount low high (Some held) = bound low high held.magnitude
tells-amount low high None = six false

tells-exponent : (a : Exponent) → Tells true (λ column. exponent_fault column a)
tells-exponent (exponents.Value n) = no-fault (λ column. refl)
tells-exponent exponents.Unknown = no-fault (λ column. refl)
tells-exponent exponents.Malformed = six false

tells-identifier : (t : Bool) (n : ℕ) → Tells true (λ column. cond t (bound_fault column 1 99 n) (keyed 6 column))
tells-identifier true n = bound 1 99 n
tells-identifier false n = six false

tells-maybe : (t : Bool) (high : ℕ) (a : Option Signed) → Tells true (λ column. cond t clean (amount_fault column 0 high a))
tells-maybe true high a = no-fault (λ column. refl)
tells-maybe false high a = tells-amount 0 high a

field-tells : (k : Kind) (bs : List ℕ) → is_unused k ≡ false → is_numbered k ≡ true → Tells (is_told k) (λ column. fault_in k column bs)
field-tells unused bs u e = absurd (false≢true (sym u))
field-tells (fixed number these) bs u e = let range = within-true 4 8 number e in tells-unless number range.0 range.1 (same_bytes bs these)
field-tells (whole low high) bs u e = tells-whole low high (whole_of bs)
field-tells (decimal places low high) bs u e = tells-amount low high (decimal_of bs places false)
field-tells (signed places) bs u e = tells-amount 0 largest (decimal_of bs places true)
field-tells (clock places) bs u e = tells-amount 0 largest (clock_of bs places)
field-tells (maybe none) bs u e = tells-exponent (exponent_of bs)
field-tells (maybe_signed none high) bs u e = tells-maybe (every is_blank bs) high (signed_whole_of bs)
field-tells (flag sign) bs u e = six (eqb (get_or bs 0 0) sign || eqb (get_or bs 0 0) 32)
field-tells (letter these) bs u e = six (is_lettered bs these)
field-tells (listed these) bs u e = six (is_listed bs these)
field-tells identifier bs u e = tells-identifier (named bs) (identifier_number bs)
field-tells filler bs u e = tells-unless 8 (omega arith) (omega arith) (same_bytes bs zero_slot)
field-tells zero_whole bs u e = five (is_zero (whole_of bs))
field-tells (zero_decimal places) bs u e = five (is_zeros (decimal_of bs places false))
field-tells text bs u e = no-fault (λ column. refl)

-- UNUSED COLUMNS: the fault is that of the first that is not blank.
unused-first : (bs : List ℕ) (at : ℕ) → 0 < unused_fault at bs
    → (i : ℕ) × (i < length bs) × (eqb (get_or bs i 32) 32 ≡ false) × (unused_fault at bs ≡ keyed 5 (at + i))
unused-first [] at h = absurd (omega arith)
unused-first (b ∷ bs) at h = go (eqb b 32) refl (unused-first bs (suc at))
  where
    go : (t : Bool) → eqb b 32 ≡ t → (0 < unused_fault (suc at) bs → (i : ℕ) × (i < length bs) × (eqb (get_or bs i 32) 32 ≡ false) × (unused_fault (suc at) bs ≡ keyed 5 (suc at + i)))
        → (i : ℕ) × (i < suc (length bs)) × (eqb (get_or (b ∷ bs) i 32) 32 ≡ false) × (unused_fault at (b ∷ bs) ≡ keyed 5 (at + i))
    go true e later =
        let here : unused_fault at (b ∷ bs) ≡ unused_fault (suc at) bs = rw e refl in
        let found = later (subst (λ (n : ℕ). 0 < n) here h) in
        let further : keyed 5 (suc at + found.0) ≡ keyed 5 (at + suc found.0) = omega arith in
        (suc found.0, omega (arith, found.1), found.2, here ∙ found.3 ∙ further)
    go false e later = (0, omega arith, e, rw e (omega arith))

unused-before : (bs : List ℕ) (at i : ℕ) → eqb (get_or bs i 32) 32 ≡ false → (0 < unused_fault at bs) × (unused_fault at bs ≤ keyed 5 (at + i))
unused-before [] at i e = absurd (false≢true (sym e))
unused-before (b ∷ bs) at i e = go (eqb b 32) refl i e (unused-before bs (suc at))
  where
    go : (t : Bool) → eqb b 32 ≡ t → (i : ℕ) → eqb (get_or (b ∷ bs) i 32) 32 ≡ false
        → ((i : ℕ) → eqb (get_or bs i 32) 32 ≡ false → (0 < unused_fault (suc at) bs) × (unused_fault (suc at) bs ≤ keyed 5 (suc at + i)))
        → (0 < unused_fault at (b ∷ bs)) × (unused_fault at (b ∷ bs) ≤ keyed 5 (at + i))
    go false f i e later = rw f (omega arith, omega arith)
    go true f zero e later = absurd (false≢true (sym e ∙ f))
    go true f (suc i) e later = rw f (let before = later i e in (before.0, omega (arith, before.1)))

-- EVERY LAYOUT, computed: its items stand in columns 1 to 80, what the document fixes has a number from 4 to 8, and each fault names the column that it
-- should.
abbrev blamed_of : LineKind → Item → ℕ
blamed_of k item = cond (is_unused item.kind) item.first (cond (is_told item.kind) (cond (in_date k item.first) 4 item.first) 0)

abbrev pub stands_right : LineKind → Item → Bool
stands_right k item = (within 1 80 item.first && leb item.last 80) && (is_numbered item.kind && eqb item.blamed (blamed_of k item))

abbrev all_right : LineKind → List Item → Bool
all_right k [] = true
all_right k (item ∷ items) = stands_right k item && all_right k items

-- slots, whichever of them are of satellites
slot_placed : (at : ℕ) → 1 ≤ at → at ≤ 78 → (within 1 80 at && leb (at + 2) 80) ≡ true
slot_placed at p q =
    and_both (within 1 80 at) (leb (at + 2) 80) (and_both (leb 1 at) (leb at 80) (le-leb 1 at p) (le-leb at 80 (omega arith))) (le-leb (at + 2) 80 (omega arith))

slot-right : (k : LineKind) → ((column : ℕ) → in_date k column ≡ false) → (c : Kind) → is_unused c ≡ false → is_numbered c ≡ true → is_told c ≡ true
    → (used : Bool) (at : ℕ) → 1 ≤ at → at ≤ 78 → stands_right k (record { first = at; last = at + 2; blamed = cond used at 0; kind = slot_for used c }) ≡ true
slot-right k undated c u n t true at p q =
    let named : eqb at (blamed_of k (record { first = at; last = at + 2; blamed = at; kind = c })) ≡ true = rw (u, t, undated at) (eq-eqb at at refl) in
    and_both _ _ (slot_placed at p q) (and_both _ _ n named)
slot-right k undated c u n t false at p q = and_both _ _ (slot_placed at p q) refl

slots-right : (k : LineKind) → ((column : ℕ) → in_date k column ≡ false) → (c : Kind) → is_unused c ≡ false → is_numbered c ≡ true → is_told c ≡ true
    → (count left at : ℕ) → 1 ≤ at → at + 3 * count ≤ 80 + 1 → (rest : List Item) → all_right k rest ≡ true → all_right k (slots_from c count left at ++ rest) ≡ true
unfolding slots_from
slots-right k undated c u n t zero left at p h rest r = r
slots-right k undated c u n t (suc count) left at p h rest r =
    and_both _ _ (slot-right k undated c u n t (ltb 0 left) at p (omega arith))
    (slots-right k undated c u n t count (left - 1) (at + 3) (omega arith) (omega arith) rest r)

-- the seventeen slots of a line, so many of satellites, and the unused columns after them
seventeen : (k : LineKind) → ((column : ℕ) → in_date k column ≡ false) → (accuracies : Bool) → is_unused (slot_kind accuracies) ≡ false
    → is_numbered (slot_kind accuracies) ≡ true → is_told (slot_kind accuracies) ≡ true → (left : ℕ)
    → all_right k (slots_from (slot_kind accuracies) 17 left 10 ++ (columns 61 80 unused ∷ [])) ≡ true
seventeen k undated accuracies u n t left =
    slots-right k undated (slot_kind accuracies) u n t 17 left 10 (omega arith) (omega arith) (columns 61 80 unused ∷ []) refl

pub layouts-right : (k : LineKind) (rules : Rules) (s : State) (line : List ℕ) → all_right k (items_at k rules s line) ≡ true
layouts-right kind.Other rules s line = refl
layouts-right kind.First rules s line = refl
layouts-right kind.Second rules s line = refl
layouts-right kind.Satellites rules s line = go (is_first s)
  where
    go : (t : Bool) → all_right kind.Satellites (cond t (satellite_items rules (count_in rules line)) (more_items false s.left)) ≡ true
    go true = seventeen kind.Satellites (λ column. refl) false refl refl refl (count_in rules line)
    go false = seventeen kind.Satellites (λ column. refl) false refl refl refl s.left
layouts-right kind.Accuracies rules s line = seventeen kind.Accuracies (λ column. refl) true refl refl refl s.left
layouts-right kind.Characters rules s line = go (eqb s.lines 2)
  where
    go : (t : Bool) → all_right kind.Characters (cond t descriptor_items character_items) ≡ true
    go true = refl
    go false = refl
layouts-right kind.Floats rules s line = go (eqb s.lines 2)
  where
    go : (t : Bool) → all_right kind.Floats (cond t base_items float_items) ≡ true
    go true = refl
    go false = refl
layouts-right kind.Integers rules s line = refl
layouts-right kind.Comment rules s line = refl
layouts-right kind.Epoch rules s line = refl
layouts-right kind.Position rules s line = refl
layouts-right kind.Velocity rules s line = refl
layouts-right kind.PositionCorrelation rules s line = refl
layouts-right kind.VelocityCorrelation rules s line = refl
layouts-right kind.EndOfFile rules s line = refl

pub among-right : (k : LineKind) (items : List Item) (item : Item) → Among item items → all_right k items ≡ true → stands_right k item ≡ true
among-right k [] item a e = absurd a
among-right k (i ∷ items) item (inl is) e = ap (stands_right k) is ∙ and_left (stands_right k i) _ e
among-right k (i ∷ items) item (inr a) e = among-right k items item a (and_right (stands_right k i) _ e)

is-unused : (c : Kind) (at : ℕ) (bs : List ℕ) → is_unused c ≡ true → fault_in c at bs ≡ unused_fault at bs
is-unused unused at bs e = refl
is-unused (fixed number these) at bs e = absurd (false≢true e)
is-unused (whole low high) at bs e = absurd (false≢true e)
is-unused (decimal places low high) at bs e = absurd (false≢true e)
is-unused (signed places) at bs e = absurd (false≢true e)
is-unused (clock places) at bs e = absurd (false≢true e)
is-unused (maybe none) at bs e = absurd (false≢true e)
is-unused (maybe_signed none high) at bs e = absurd (false≢true e)
is-unused (flag sign) at bs e = absurd (false≢true e)
is-unused (letter these) at bs e = absurd (false≢true e)
is-unused (listed these) at bs e = absurd (false≢true e)
is-unused identifier at bs e = absurd (false≢true e)
is-unused filler at bs e = absurd (false≢true e)
is-unused zero_whole at bs e = absurd (false≢true e)
is-unused (zero_decimal places) at bs e = absurd (false≢true e)
is-unused text at bs e = absurd (false≢true e)

-- a key has its number and its column
pub key-number : (number column : ℕ) → column < 128 → key_number (keyed number column) ≡ number
key-number number column h = omega arith

pub key-column : (number column : ℕ) → column < 128 → column_of (keyed number column) ≡ column
key-column number column h = omega arith

-- AN ITEM of a layout: its fault has a number from 4 to 8 and the column that it should, and none that it earns is before it.
module _ (k : LineKind) (item : Item) (line : List ℕ) (right : stands_right k item ≡ true) where
  pub first-bounds : (1 ≤ item.first) × (item.first ≤ 80)
  first-bounds = within-true 1 80 item.first (and_left (within 1 80 item.first) _ (and_left (within 1 80 item.first && leb item.last 80) _ right))

  pub last-bound : item.last ≤ 80
  last-bound = leb-true item.last 80 (and_right (within 1 80 item.first) _ (and_left (within 1 80 item.first && leb item.last 80) _ right))

  numbered : is_numbered item.kind ≡ true
  numbered = and_left (is_numbered item.kind) _ (and_right (within 1 80 item.first && leb item.last 80) _ right)

  blamed : item.blamed ≡ blamed_of k item
  blamed = eqb-true item.blamed (blamed_of k item) (and_right (is_numbered item.kind) _ (and_right (within 1 80 item.first && leb item.last 80) _ right))

  -- a byte of the item is that of its column
  part-byte : (i : ℕ) → i < width_of item → get_or (part_of item line) i 32 ≡ byte_at (item.first + i) line
  part-byte i h =
      let column : item.first - 1 + i ≡ item.first + i - 1 = omega (arith, first-bounds.0) in
      get_or-take (width_of item) (drop (item.first - 1) line) i 32 h ∙ get_or-drop (item.first - 1) line i 32 ∙ ap (λ (n : ℕ). get_or line n 32) column

  -- unused columns
  module _ (u : is_unused item.kind ≡ true) where
    fault-unused : fault_at item line ≡ unused_fault item.first (part_of item line)
    fault-unused =
        let first : item.blamed ≡ item.first = blamed ∙ rw u refl in
        ap (λ (n : ℕ). fault_in item.kind n (part_of item line)) first ∙ is-unused item.kind item.first (part_of item line) u

    pub unused-named : 0 < fault_at item line
        → (column : ℕ) × (item.first ≤ column) × (column ≤ item.last) × (eqb (byte_at column line) 32 ≡ false) × (fault_at item line ≡ keyed 5 column)
    unused-named h =
        let found = unused-first (part_of item line) item.first (subst (λ (n : ℕ). 0 < n) fault-unused h) in
        let inside : found.0 < width_of item = omega (arith, found.1, length-take (width_of item) (drop (item.first - 1) line)) in
        (item.first + found.0, omega arith, omega (arith, first-bounds.0), ap (λ (b : ℕ). eqb b 32) (sym (part-byte found.0 inside)) ∙ found.2, fault-unused ∙ found.3)

    pub unused-earned : (column : ℕ) → item.first ≤ column → column ≤ item.last → eqb (byte_at column line) 32 ≡ false
        → (0 < fault_at item line) × (fault_at item line ≤ keyed 5 column)
    unused-earned column from to e =
        let inside : column - item.first < width_of item = omega (arith, first-bounds.0) in
        let same : item.first + (column - item.first) ≡ column = omega arith in
        let byte : get_or (part_of item line) (column - item.first) 32 ≡ byte_at column line =
        part-byte (column - item.first) inside ∙ ap (λ (n : ℕ). byte_at n line) same in
        let before = unused-before (part_of item line) item.first (column - item.first) (ap (λ (b : ℕ). eqb b 32) byte ∙ e) in
        (subst (λ (n : ℕ). 0 < n) (sym fault-unused) before.0, omega (arith, fault-unused, before.1, same))

  -- a field
  module _ (u : is_unused item.kind ≡ false) where
    abbrev number : ℕ
    number = field_number item line

    -- its fault: a number from 4 to 8, and the column that it names
    abbrev Named : Type 0
    Named = (4 ≤ number) × (number ≤ 8) × (fault_at item line ≡ keyed number (field_column k item number))

    -- the number, whatever column is named, and the column that is; or neither number nor fault
    at-column : Tells (is_told item.kind) (λ column. fault_in item.kind column (part_of item line))
        → ((number ≡ 0) × (fault_at item line ≡ clean)) ⊎ Named
    at-column (no-fault f) = inl (ap key_number (f 0), f item.blamed)
    at-column (a-fault n p q told f) =
        let is : number ≡ n = ap key_number (f 0) ∙ key-number n 0 (omega arith) in
        let names : item.blamed ≡ field_column k item number =
        blamed ∙ rw u refl ∙ ap (λ (t : Bool). cond t (cond (in_date k item.first) 4 item.first) 0) (sym told ∙ ap (within 5 7) (sym is)) in
        inr (omega (arith, is), omega (arith, is), f item.blamed ∙ ap (λ (m : ℕ). keyed m item.blamed) (sym is) ∙ ap (keyed number) names)

    one-of-both : ((number ≡ 0) × (fault_at item line ≡ clean) → ⊥) → Named
    one-of-both some = ⊎_elim (λ none. absurd (some none)) (λ named. named) (at-column (field-tells item.kind (part_of item line) u numbered))

    -- a fault is so, and where a number is earned there is that fault
    pub field-named : 0 < fault_at item line → (4 ≤ number) × (number ≤ 8) × (fault_at item line ≡ keyed number (field_column k item number))
    field-named h = one-of-both (λ none. omega (arith, none.1))

    pub field-earned : 0 < number → (4 ≤ number) × (number ≤ 8) × (fault_at item line ≡ keyed number (field_column k item number))
    field-earned h = one-of-both (λ none. omega (arith, none.0))

  -- a column of 5 to 7 is one of the 80, of other numbers 0
  pub field-columns : (n : ℕ) → (field_column k item n ≤ 80) × (within 5 7 n ≡ true → 1 ≤ field_column k item n) × (within 5 7 n ≡ false → field_column k item n ≡ 0)
  field-columns n = go (within 5 7 n) (in_date k item.first)
    where
      go : (t dated : Bool) → (cond t (cond dated 4 item.first) 0 ≤ 80) × (t ≡ true → 1 ≤ cond t (cond dated 4 item.first) 0) × (t ≡ false → cond t (cond dated 4 item.first) 0 ≡ 0)
      go true true = (omega arith, λ e. omega arith, λ e. absurd (false≢true (sym e)))
      go true false = (first-bounds.1, λ e. first-bounds.0, λ e. absurd (false≢true (sym e)))
      go false dated = (omega arith, λ e. absurd (false≢true e), λ e. refl)
