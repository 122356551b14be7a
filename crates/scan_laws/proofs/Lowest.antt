-- In a line the lowest number decides, and of several faults with that number the leftmost: a line is refused with exactly that number and column, and
-- it is refused exactly when it earns a fault. Assumes nothing.
use mathlib.Core.Path.{◌≡◌, refl, sym, ap, ap₂, ◌∙◌, subst}
use mathlib.Core.Logic.{◌⊎◌, inl, inr, ⊎_elim, ◌↔◌}
use mathlib.Core.Bool.{Bool, true, false, false≢true, cond, ◌&&◌}
use mathlib.Core.List.{List, [], ◌∷◌, ◌++◌, map, append-nil}
use Prim.Native.Nat.{ℕ, ◌+◌, ◌-◌, ◌≤◌, ◌<◌}
use native.Mathlib.Decide.{dec_le}
use native.Mathlib.Omega.{arith}
use borrow.Author.Tests.{eqb-true, eqb-false, leb-false, le-leb, lt-leb, eq-eqb, ne_eqb}
use lib.Dec.{eqb, leb}
use lib.ListN.{length, get_or}
use Rattle.laws.specs.Tests.{within}
use Rattle.laws.specs.Texts.{every, is_printable}
use Rattle.laws.proofs.Bools.{and_both}
use Rattle.layout.specs.Fault.{clean, keyed, key_number, column_of, lower_of}
use Rattle.layout.specs.Kind.{unless, is_unused}
use Rattle.layout.specs.Layout.{Item, fault_at, fault_of}
use Rattle.layout.specs.Line.{padded}
use Rattle.record.specs.LineKinds.{longest}
use Rattle.header.specs.declared.types.Rules.{Rules}
use Rattle.record.specs.declared.types.LineKind.{LineKind}
use Rattle.record.specs.declared.types.LineKind.TheVariants as kind
use Rattle.machine.specs.State.{stands, is_first}
use Rattle.machine.specs.Faults.{first_unprintable, second_fault, satellites_fault, characters_fault, floats_fault, epoch_fault, named_fault, record_fault, standing_fault}
use Rattle.machine.specs.Next.{next_of}
use Rattle.machine.specs.Step.{on_key, judged_line, printed_line, step_of}
use Rattle.machine.specs.declared.types.State.{State}
use Rattle.machine.specs.declared.types.Verdict.{Verdict}
use Rattle.machine.specs.declared.types.Verdict.TheVariants as verdict
use Rattle.scan_laws.proofs.Blamed.{stands_right, layouts-right, among-right, unused-named, unused-earned, field-named, field-earned, field-columns, first-bounds, last-bound, key-number, key-column}
use Rattle.scan_laws.proofs.Checks.{Bounds, checked}
use Rattle.scan_laws.proofs.LeastKey.{lowest_of, Lowest, lowest-is, items-lowest}
use Rattle.scan_laws.proofs.Unprintable.{unprintable-first, unprintable-before}
use Rattle.scan_laws.specs.Earned.{Among, Check, items_at, checks_at, kind_at, byte_at, field_number, field_column, NotBlank, WrongField, Failed, Earns, Before, Decides}
use Rattle.scan_laws.specs.Earned.Earns.{by_byte, by_length, by_kind, by-unused, by_field, by-check}

-- the keys of what a line's tests earn; 0 is none
abbrev check_key : Check → ℕ
check_key c = unless c.passes c.number c.column

abbrev check_keys : List Check → List ℕ
check_keys checks = map check_key checks

-- the fault of a record is the lowest of its parts'
record-lowest : (k : LineKind) (rules : Rules) (s : State) (identifiers line : List ℕ)
    → record_fault k rules s identifiers line ≡ lowest_of (fault_of (items_at k rules s line) line) (check_keys (checks_at k rules s identifiers line))
unfolding second_fault satellites_fault characters_fault floats_fault epoch_fault named_fault lower_of
record-lowest kind.Other rules s identifiers line = refl
record-lowest kind.First rules s identifiers line = refl
record-lowest kind.Second rules s identifiers line = refl
record-lowest kind.Satellites rules s identifiers line = go (is_first s) refl
  where
    go : (t : Bool) → is_first s ≡ t
        → satellites_fault rules s identifiers line ≡ lowest_of (fault_of (items_at kind.Satellites rules s line) line) (check_keys (checks_at kind.Satellites rules s identifiers line))
    go true e = rw e refl
    go false e = rw e refl
record-lowest kind.Accuracies rules s identifiers line = refl
record-lowest kind.Characters rules s identifiers line = go (eqb s.lines 2) refl
  where
    go : (t : Bool) → eqb s.lines 2 ≡ t
        → characters_fault s identifiers line ≡ lowest_of (fault_of (items_at kind.Characters rules s line) line) (check_keys (checks_at kind.Characters rules s identifiers line))
    go true e = rw e refl
    go false e = rw e refl
record-lowest kind.Floats rules s identifiers line = go (eqb s.lines 2) refl
  where
    go : (t : Bool) → eqb s.lines 2 ≡ t → floats_fault s line ≡ fault_of (items_at kind.Floats rules s line) line
    go true e = rw e refl
    go false e = rw e refl
record-lowest kind.Integers rules s identifiers line = refl
record-lowest kind.Comment rules s identifiers line = refl
record-lowest kind.Epoch rules s identifiers line = refl
record-lowest kind.Position rules s identifiers line = refl
record-lowest kind.Velocity rules s identifiers line = refl
record-lowest kind.PositionCorrelation rules s identifiers line = refl
record-lowest kind.VelocityCorrelation rules s identifiers line = refl
record-lowest kind.EndOfFile rules s identifiers line = refl

-- a line that is not refused has no fault
is_fault : Verdict → Bool
is_fault (verdict.Fault number column) = true
is_fault (verdict.Next s) = false
is_fault verdict.Finished = false

abbrev NotRefused : Verdict → Type 0
NotRefused v = (m c : ℕ) → v ≡ verdict.Fault m c → ⊥

next-passes : (k : LineKind) (rules : Rules) (s : State) (line : List ℕ) → is_fault (next_of k rules s line) ≡ false
unfolding is_fault
next-passes kind.Other rules s line = refl
next-passes kind.First rules s line = refl
next-passes kind.Second rules s line = refl
next-passes kind.Satellites rules s line = refl
next-passes kind.Accuracies rules s line = refl
next-passes kind.Characters rules s line = refl
next-passes kind.Floats rules s line = refl
next-passes kind.Integers rules s line = refl
next-passes kind.Comment rules s line = refl
next-passes kind.Epoch rules s line = refl
next-passes kind.Position rules s line = refl
next-passes kind.Velocity rules s line = refl
next-passes kind.PositionCorrelation rules s line = refl
next-passes kind.VelocityCorrelation rules s line = refl
next-passes kind.EndOfFile rules s line = refl

not-refused : (v : Verdict) → is_fault v ≡ false → NotRefused v
unfolding is_fault
not-refused v e m c f = false≢true (sym e ∙ ap is_fault f)

-- LISTS of keys
among-map : {A : Type 0} (f : A → ℕ) (xs : List A) (x : A) (more : List ℕ) → Among x xs → Among (f x) (map f xs ++ more)
among-map f [] x more a = absurd a
among-map f (y ∷ ys) x more (inl e) = inl (ap f e)
among-map f (y ∷ ys) x more (inr a) = inr (among-map f ys x more a)

among-more : {A : Type 0} (f : A → ℕ) (xs : List A) (key : ℕ) (more : List ℕ) → Among key more → Among key (map f xs ++ more)
among-more f [] key more a = a
among-more f (y ∷ ys) key more a = inr (among-more f ys key more a)

among_of : {A : Type 0} (f : A → ℕ) (xs : List A) (key : ℕ) (more : List ℕ) → Among key (map f xs ++ more) → ((x : A) × Among x xs × (key ≡ f x)) ⊎ Among key more
among_of f [] key more a = inr a
among_of f (y ∷ ys) key more (inl e) = inl (y, inl refl, e)
among_of f (y ∷ ys) key more (inr a) = ⊎_elim (λ found. inl (found.0, inr found.1, found.2)) (λ later. inr later) (among_of f ys key more a)

-- faults in order
before-both : (n c m e : ℕ) → Before n c m e → Before m e n c → (n ≡ m) × (c ≡ e)
before-both n c m e (inl p) (inl q) = absurd (omega arith)
before-both n c m e (inl p) (inr (q, r)) = absurd (omega arith)
before-both n c m e (inr (p, q)) (inl r) = absurd (omega arith)
before-both n c m e (inr (p, q)) (inr (r, t)) = (p, omega arith)

key-before : (n c m e : ℕ) → c < 128 → e < 128 → keyed n c ≤ keyed m e → Before n c m e
key-before n c m e p q h = go (dec_le m n)
  where
    go : Dec (m ≤ n) → Before n c m e
    go (yes o) = inr (omega arith, omega arith)
    go (no o) = inl (omega arith)

both : {b : Bool} → b ≡ true → b ≡ false → ⊥
both p q = false≢true (sym q ∙ p)

-- A LINE
module _ (rules : Rules) (s : State) (identifiers line : List ℕ) where
  abbrev k : LineKind
  k = kind_at rules line

  abbrev items : List Item
  items = items_at k rules s (padded line)

  abbrev checks : List Check
  checks = checks_at k rules s identifiers (padded line)

  abbrev item_key : Item → ℕ
  item_key item = fault_at item (padded line)

  -- the keys of its parts
  abbrev keys : List ℕ
  keys = map item_key items ++ check_keys checks

  abbrev Fault : ℕ → ℕ → Type 0
  Fault number column = Earns rules s identifiers line number column

  item-right : (item : Item) → Among item items → stands_right k item ≡ true
  item-right item a = among-right k items item a (layouts-right k rules s (padded line))

  -- the key of a part is that of a fault that the line earns
  record Keyed (key : ℕ) : Type 0 where
    number : ℕ
    column : ℕ
    is : key ≡ keyed number column
    small : column < 128
    earned : Fault number column

  item-keyed : (item : Item) → Among item items → 0 < item_key item → Keyed (item_key item)
  item-keyed item a h = go (is_unused item.kind) refl
    where
      right : stands_right k item ≡ true
      right = item-right item a

      go : (t : Bool) → is_unused item.kind ≡ t → Keyed (item_key item)
      go true u =
          let found = unused-named k item (padded line) right u h in
          record {
            number = 5;
            column = found.0;
            is = found.4;
            small = omega (arith, found.2, last-bound k item (padded line) right);
            earned = by-unused (record { item = item; listed = a; unused = u; from = found.1; to = found.2; filled = found.3 }) refl;
          }
      go false u =
          let found = field-named k item (padded line) right u h in
          let n = field_number item (padded line) in
          record {
            number = n;
            column = field_column k item n;
            is = found.2;
            small = omega (arith, (field-columns k item (padded line) right n).0);
            earned = by_field (record { item = item; listed = a; used = u; some = omega (arith, found.0); earned = refl; names = refl });
          }

  check-keyed : (c : Check) → Among c checks → 0 < check_key c → Keyed (check_key c)
  check-keyed c a h = go c.passes refl
    where
      go : (t : Bool) → c.passes ≡ t → Keyed (check_key c)
      go true p = absurd (omega (arith, ap (λ (t : Bool). unless t c.number c.column) p, h))
      go false p =
          let bounds = checked k rules s identifiers (padded line) c a in
          record {
            number = c.number;
            column = c.column;
            is = ap (λ (t : Bool). unless t c.number c.column) p;
            small = bounds.small;
            earned = by-check (record { check = c; asked = a; fails = p; earned = refl; names = refl });
          }

  part-keyed : (key : ℕ) → Among key keys → 0 < key → Keyed key
  part-keyed key a h = go (among_of item_key items key (check_keys checks) a)
    where
      checked : ((c : Check) × Among c checks × (key ≡ check_key c)) ⊎ Among key [] → Keyed key
      checked (inl (c, b, is)) = subst Keyed (sym is) (check-keyed c b (subst (λ (n : ℕ). 0 < n) is h))
      checked (inr none) = absurd none

      go : ((item : Item) × Among item items × (key ≡ item_key item)) ⊎ Among key (check_keys checks) → Keyed key
      go (inl (item, b, is)) = subst Keyed (sym is) (item-keyed item b (subst (λ (n : ℕ). 0 < n) is h))
      go (inr b) = checked (among_of check_key checks key [] (subst (Among key) (sym (append-nil (check_keys checks))) b))

  -- a fault that the line earns by a part is not before the key of that part
  record Part (number column : ℕ) : Type 0 where
    key : ℕ
    among : Among key keys
    some : 0 < key
    below : key ≤ keyed number column
    low : 4 ≤ number
    high : number ≤ 10
    small : column < 128

  unused-part : (column : ℕ) → NotBlank rules s line column → Part 5 column
  unused-part column b =
      let right = item-right b.item b.listed in
      let found = unused-earned k b.item (padded line) right b.unused column b.from b.to b.filled in
      record {
        key = item_key b.item;
        among = among-map item_key items b.item (check_keys checks) b.listed;
        some = found.0;
        below = found.1;
        low = omega arith;
        high = omega arith;
        small = omega (arith, b.to, last-bound k b.item (padded line) right);
      }

  field-part : (number column : ℕ) → WrongField rules s line number column → Part number column
  field-part number column w =
      let right = item-right w.item w.listed in
      let some : 0 < field_number w.item (padded line) = omega (arith, w.some, w.earned) in
      let found = field-earned k w.item (padded line) right w.used some in
      let is : item_key w.item ≡ keyed number column =
      found.2 ∙ ap (λ (n : ℕ). keyed n (field_column k w.item n)) (sym w.earned) ∙ ap (keyed number) (sym w.names) in
      record {
        key = item_key w.item;
        among = among-map item_key items w.item (check_keys checks) w.listed;
        some = omega (arith, is, w.some);
        below = omega (arith, is);
        low = omega (arith, found.0, w.earned);
        high = omega (arith, found.1, w.earned);
        small = omega (arith, w.names, (field-columns k w.item (padded line) right number).0);
      }

  check-part : (number column : ℕ) → Failed rules s identifiers line number column → Part number column
  check-part number column f =
      let bounds = checked k rules s identifiers (padded line) f.check f.asked in
      let is : check_key f.check ≡ keyed number column =
      ap (λ (t : Bool). unless t f.check.number f.check.column) f.fails ∙ ap₂ keyed (sym f.earned) (sym f.names) in
      record {
        key = check_key f.check;
        among = among-more item_key items (check_key f.check) (check_keys checks) (subst (Among (check_key f.check)) (append-nil (check_keys checks)) (among-map check_key checks f.check [] f.asked));
        some = omega (arith, is, bounds.low, f.earned);
        below = omega (arith, is);
        low = omega (arith, bounds.low, f.earned);
        high = omega (arith, bounds.high, f.earned);
        small = omega (arith, bounds.small, f.names);
      }

  -- what it earns with 2 is a byte that is outside; else it earns 3, 4 or a part
  data Way (number column : ℕ) : Type 0 where
    byte-way : number ≡ 2 → every is_printable line ≡ false → first_unprintable line ≤ column → Way number column
    length-way : number ≡ 3 → leb (length line) (longest rules k) ≡ false → column ≡ longest rules k + 1 → Way number column
    kind-way : number ≡ 4 → stands s k ≡ false → Way number column
    part-way : Part number column → Way number column

  ways : (number column : ℕ) → Fault number column → Way number column
  ways number column (by_byte p q e n) =
      let before = unprintable-before line (column - 1) e in
      byte-way n before.0 (omega (arith, before.1))
  ways number column (by_length h n c) = length-way n (lt-leb (length line) (longest rules k) h) c
  ways number column (by_kind h n c) = kind-way n h
  ways number column (by-unused b n) = part-way (subst (λ (m : ℕ). Part m column) (sym n) (unused-part column b))
  ways number column (by_field w) = part-way (field-part number column w)
  ways number column (by-check f) = part-way (check-part number column f)

  -- A line earns numbers from 2 to 10 alone.
  pub earned-numbered : (number column : ℕ) → Fault number column → (2 ≤ number) × (number ≤ 10)
  earned-numbered number column e = go (ways number column e)
    where
      go : Way number column → (2 ≤ number) × (number ≤ 10)
      go (byte-way n b f) = (omega arith, omega arith)
      go (length-way n h c) = (omega arith, omega arith)
      go (kind-way n h) = (omega arith, omega arith)
      go (part-way p) = (omega (arith, p.low), p.high)

  -- THE COLUMN BY THE NUMBER. 2: a byte outside 32 to 126,
  pub two-column : (column : ℕ) → Fault 2 column → (1 ≤ column) × (column ≤ length line) × (is_printable (byte_at column line) ≡ false)
  two-column column (by_byte p q e n) = (p, q, e)
  two-column column (by_length h n c) = absurd (omega arith)
  two-column column (by_kind h n c) = absurd (omega arith)
  two-column column (by-unused b n) = absurd (omega arith)
  two-column column (by_field w) = absurd (omega (arith, (field-part 2 column w).low))
  two-column column (by-check f) = absurd (omega (arith, (check-part 2 column f).low))

  -- 3: the first column too many,
  pub three-column : (column : ℕ) → Fault 3 column → column ≡ longest rules k + 1
  three-column column (by_byte p q e n) = absurd (omega arith)
  three-column column (by_length h n c) = c
  three-column column (by_kind h n c) = absurd (omega arith)
  three-column column (by-unused b n) = absurd (omega arith)
  three-column column (by_field w) = absurd (omega (arith, (field-part 3 column w).low))
  three-column column (by-check f) = absurd (omega (arith, (check-part 3 column f).low))

  -- 5 to 7: one of the 80,
  field_told : (number : ℕ) → 5 ≤ number → number ≤ 7 → within 5 7 number ≡ true
  field_told number p q = and_both (leb 5 number) (leb number 7) (le-leb 5 number p) (le-leb number 7 q)

  check-told : (c : Check) → Among c checks → 5 ≤ c.number → c.number ≤ 7 → (1 ≤ c.column) × (c.column ≤ 80)
  check-told c a p q = go bounds.ranges
    where
      bounds : Bounds c
      bounds = checked k rules s identifiers (padded line) c a

      go : (c.number ≡ 4) ⊎ (7 ≤ c.number) → (1 ≤ c.column) × (c.column ≤ 80)
      go (inl e) = absurd (omega arith)
      go (inr h) =
          let seven : eqb c.number 7 ≡ true = eq-eqb c.number 7 (omega arith) in
          let four : c.column ≡ 4 = bounds.named ∙ ap (λ (t : Bool). cond t 4 0) seven in
          (omega (arith, four), omega (arith, four))

  pub field-column : (number column : ℕ) → 5 ≤ number → number ≤ 7 → Fault number column → (1 ≤ column) × (column ≤ 80)
  field-column number column p q (by_byte _ _ e n) = absurd (omega arith)
  field-column number column p q (by_length h n c) = absurd (omega arith)
  field-column number column p q (by_kind h n c) = absurd (omega arith)
  field-column number column p q (by-unused b n) =
      let right = item-right b.item b.listed in
      (omega (arith, b.from, (first-bounds k b.item (padded line) right).0), omega (arith, b.to, last-bound k b.item (padded line) right))
  field-column number column p q (by_field w) =
      let columns = field-columns k w.item (padded line) (item-right w.item w.listed) number in
      (omega (arith, w.names, columns.1 (field_told number p q)), omega (arith, w.names, columns.0))
  field-column number column p q (by-check f) =
      let columns = check-told f.check f.asked (omega (arith, f.earned)) (omega (arith, f.earned)) in
      (omega (arith, f.names, columns.0), omega (arith, f.names, columns.1))

  -- 4 and 8 to 10: none.
  untold : (number : ℕ) → (number ≡ 4) ⊎ (8 ≤ number) → within 5 7 number ≡ false
  untold number (inl e) = ap (within 5 7) e
  untold number (inr h) = and_no (leb 5 number) (leb number 7) (lt-leb number 7 (omega arith))
    where
      and_no : (a b : Bool) → b ≡ false → (a && b) ≡ false
      and_no true b e = e
      and_no false b e = refl

  check-untold : (c : Check) → Among c checks → (c.number ≡ 7 → ⊥) → c.column ≡ 0
  check-untold c a apart =
      let bounds = checked k rules s identifiers (padded line) c a in
      bounds.named ∙ ap (λ (t : Bool). cond t 4 0) (ne_eqb c.number 7 apart)

  pub no-column : (number column : ℕ) → (number ≡ 4) ⊎ (8 ≤ number) → Fault number column → column ≡ 0
  no-column number column h e = go (apart h) e
    where
      apart : (number ≡ 4) ⊎ (8 ≤ number) → (4 ≤ number) × (number ≡ 5 → ⊥) × (number ≡ 7 → ⊥)
      apart (inl e) = (omega arith, λ f. omega arith, λ f. omega arith)
      apart (inr h) = (omega arith, λ f. omega arith, λ f. omega arith)

      go : (4 ≤ number) × (number ≡ 5 → ⊥) × (number ≡ 7 → ⊥) → Fault number column → column ≡ 0
      go far (by_byte _ _ e n) = absurd (omega (arith, far.0))
      go far (by_length h n c) = absurd (omega (arith, far.0))
      go far (by_kind h n c) = c
      go far (by-unused b n) = absurd (far.1 n)
      go far (by_field w) = w.names ∙ (field-columns k w.item (padded line) (item-right w.item w.listed) number).2 (untold number h)
      go far (by-check f) = f.names ∙ check-untold f.check f.asked (λ e. far.2 (f.earned ∙ e))

  -- what a verdict on a line says of the faults that it earns
  data Settles (v : Verdict) : Type 0 where
    refused : (m c : ℕ) → v ≡ verdict.Fault m c → Decides rules s identifiers line m c → Settles v
    passed : NotRefused v → ((m c : ℕ) → Fault m c → ⊥) → Settles v

  abbrev Short : Bool
  Short = leb (length line) (longest rules k)

  -- a byte outside 32 to 126
  settles-two : every is_printable line ≡ false → Settles (step_of rules s identifiers line)
  unfolding step_of
  settles-two b = refused 2 (first_unprintable line) (rw b refl) (record { earned = here; before = λ m e f. go m e (ways m e f) })
    where
      here : Fault 2 (first_unprintable line)
      here =
          let found = unprintable-first line b in
          let place : first_unprintable line - 1 ≡ found.0 = omega (arith, found.1) in
          by_byte (omega (arith, found.1)) (omega (arith, found.1, found.2)) (ap (λ (i : ℕ). is_printable (get_or line i 32)) place ∙ found.3) refl

      go : (m e : ℕ) → Way m e → Before 2 (first_unprintable line) m e
      go m e (byte-way n _ f) = inr (sym n, f)
      go m e (length-way n h c) = inl (omega arith)
      go m e (kind-way n h) = inl (omega arith)
      go m e (part-way p) = inl (omega (arith, p.low))

  -- a line that is too long
  settles-three : every is_printable line ≡ true → Short ≡ false → Settles (step_of rules s identifiers line)
  unfolding step_of printed_line
  settles-three b n =
      refused 3 (longest rules k + 1) (rw (b, n) refl)
      (record { earned = by_length (leb-false (length line) (longest rules k) n) refl refl; before = λ m e f. go m e (ways m e f) })
    where
      go : (m e : ℕ) → Way m e → Before 3 (longest rules k + 1) m e
      go m e (byte-way _ p f) = absurd (both b p)
      go m e (length-way i h c) = inr (sym i, omega arith)
      go m e (kind-way i h) = inl (omega arith)
      go m e (part-way p) = inl (omega (arith, p.low))

  -- a line that may not stand here
  settles-four : every is_printable line ≡ true → Short ≡ true → stands s k ≡ false → Settles (step_of rules s identifiers line)
  unfolding step_of printed_line judged_line on_key standing_fault
  settles-four b n p = refused 4 0 (rw (b, n, p) refl) (record { earned = by_kind p refl refl; before = λ m e f. go m e (ways m e f) })
    where
      go : (m e : ℕ) → Way m e → Before 4 0 m e
      go m e (byte-way _ q f) = absurd (both b q)
      go m e (length-way _ q c) = absurd (both n q)
      go m e (kind-way i q) = inr (sym i, omega arith)
      go m e (part-way p) = four (dec_le m 4)
        where
          four : Dec (m ≤ 4) → Before 4 0 m e
          four (yes o) = inr (omega (arith, p.low), omega arith)
          four (no o) = inl (omega arith)

  -- a line whose record is looked at
  module _ (plain : every is_printable line ≡ true) (short : Short ≡ true) (placed : stands s k ≡ true) where
    abbrev key : ℕ
    key = lowest_of clean keys

    step-key : step_of rules s identifiers line ≡ on_key key (next_of k rules s (padded line))
    unfolding step_of printed_line judged_line standing_fault
    step-key =
        let record-key : record_fault k rules s identifiers (padded line) ≡ key =
        record-lowest k rules s identifiers (padded line) ∙ sym (items-lowest items (padded line) clean (check_keys checks)) in
        rw (plain, short, placed, record-key) refl

    -- a fault that it earns is that of a part
    by-a-part : (m e : ℕ) → Way m e → Part m e
    by-a-part m e (byte-way _ q f) = absurd (both plain q)
    by-a-part m e (length-way _ q c) = absurd (both short q)
    by-a-part m e (kind-way _ q) = absurd (both placed q)
    by-a-part m e (part-way p) = p

    lowest-key : Lowest clean keys key → 0 < key → Keyed key
    lowest-key low h = go low.one
      where
        go : (key ≡ clean) ⊎ Among key keys → Keyed key
        go (inl e) = absurd (omega arith)
        go (inr a) = part-keyed key a h

    settles-part : Settles (step_of rules s identifiers line)
    unfolding on_key
    settles-part = go (eqb key 0) refl (lowest-is keys clean)
      where
        go : (t : Bool) → eqb key 0 ≡ t → Lowest clean keys key → Settles (step_of rules s identifiers line)
        go true e low =
            let none : key ≡ 0 = eqb-true key 0 e in
            let next : step_of rules s identifiers line ≡ next_of k rules s (padded line) = step-key ∙ rw e refl in
            passed (not-refused (step_of rules s identifiers line) (ap is_fault next ∙ next-passes k rules s (padded line)))
            (λ m c f. let p = by-a-part m c (ways m c f) in omega (arith, none, (low.each p.key p.among p.some).0))
        go false e low =
            let some : 0 < key = omega (arith, eqb-false key 0 e) in
            let found = lowest-key low some in
            let number : key_number key ≡ found.number = ap key_number found.is ∙ key-number found.number found.column found.small in
            let column : column_of key ≡ found.column = ap column_of found.is ∙ key-column found.number found.column found.small in
            refused found.number found.column (step-key ∙ rw e (ap₂ verdict.Fault number column)) (record {
              earned = found.earned;
              before =
                  λ m c f.
                  let p = by-a-part m c (ways m c f) in
                  key-before found.number found.column m c found.small p.small
                  (omega (arith, found.is, (low.each p.key p.among p.some).1, p.below));
            })

  settles : Settles (step_of rules s identifiers line)
  settles = go (every is_printable line) Short (stands s k) refl refl refl
    where
      go : (b n p : Bool) → every is_printable line ≡ b → Short ≡ n → stands s k ≡ p → Settles (step_of rules s identifiers line)
      go false n p eb en ep = settles-two eb
      go true false p eb en ep = settles-three eb en
      go true true false eb en ep = settles-four eb en ep
      go true true true eb en ep = settles-part eb en ep

  -- A line is refused with a number and a column exactly when that fault decides it.
  pub decided : (m c : ℕ) → step_of rules s identifiers line ≡ verdict.Fault m c → Decides rules s identifiers line m c
  decided m c e = go settles
    where
      go : Settles (step_of rules s identifiers line) → Decides rules s identifiers line m c
      go (passed none nothing) = absurd (none m c e)
      go (refused n d f decides) =
          let faults : verdict.Fault n d ≡ verdict.Fault m c = sym f ∙ e in
          let number : n ≡ m = cc in
          let column : d ≡ c = cc in
          subst (λ (x : ℕ). Decides rules s identifiers line x c) number (subst (Decides rules s identifiers line n) column decides)

  pub deciding : (m c : ℕ) → Decides rules s identifiers line m c → step_of rules s identifiers line ≡ verdict.Fault m c
  deciding m c d = go settles
    where
      go : Settles (step_of rules s identifiers line) → step_of rules s identifiers line ≡ verdict.Fault m c
      go (passed none nothing) = absurd (nothing m c d.earned)
      go (refused n e f decides) =
          let same = before-both n e m c (decides.before m c d.earned) (d.before n e decides.earned) in
          f ∙ ap₂ verdict.Fault same.0 same.1

  -- A line is not refused exactly when it earns no fault.
  pub none : ((m c : ℕ) → Fault m c → ⊥) ↔ ((m c : ℕ) → step_of rules s identifiers line ≡ verdict.Fault m c → ⊥)
  none = (λ nothing m c e. nothing m c (decided m c e).earned, go settles)
    where
      go : Settles (step_of rules s identifiers line) → NotRefused (step_of rules s identifiers line) → (m c : ℕ) → Fault m c → ⊥
      go (passed n nothing) h = nothing
      go (refused m c f decides) h = absurd (h m c f)

  -- A line is refused with a number from 2 to 10.
  pub step-numbered : (m c : ℕ) → step_of rules s identifiers line ≡ verdict.Fault m c → (2 ≤ m) × (m ≤ 10)
  step-numbered m c e = earned-numbered m c (decided m c e).earned
