-- The bounds that a line without fault keeps: an epoch at least, a satellite at least, and no more of them than the version has.
-- Assumes nothing.
use mathlib.Core.Path.{◌≡◌}
use mathlib.Core.Bool.{false}
use mathlib.Core.List.{List, [], ◌∷◌, ◌++◌}
use Prim.Native.Nat.{ℕ, ◌≤◌}
use native.Mathlib.Omega.{arith}
use Rattle.laws.specs.Tests.{within}
use Rattle.laws.proofs.Bounds.{within-true}
use Rattle.field.specs.Read.{whole_of}
use Rattle.layout.specs.Fault.{clean, lower}
use Rattle.layout.specs.Kind.Kind.{unused, fixed, whole, letter}
use Rattle.layout.specs.Kind.{whole_fault, whole_held}
use Rattle.layout.specs.Layout.{Item, columns, column, part_at, part_of, fault_at, fault_from, fault_of, values_of}
use Rattle.layout.proofs.Again.{passed, lower-clean, item-clean}
use Rattle.header.specs.Rules.{max_epochs}
use Rattle.header.specs.Letters.{modes}
use Rattle.header.specs.declared.types.Rules.{Rules}
use Rattle.record.specs.Times.{time_items, moment_at, date_fault}
use Rattle.record.specs.Opening.{text_items, first_items, first_of}
use Rattle.record.specs.SlotLines.{count_item, slot_items, count_in, satellites_of}
use Rattle.std.specs.Prelude.{Option, Some, None}

-- a whole number without fault is within its bounds
whole-within : (column low high : ℕ) (a : Option ℕ) → whole_fault column low high a ≡ 0 → (low ≤ whole_held a) × (whole_held a ≤ high)
whole-within column low high (Some n) e = within-true low high n (passed (within low high n) 7 column (omega arith) e)
whole-within column low high None e = absurd (omega arith)

-- no item of a line without fault has one
clean_at : (before : List Item) (item : Item) (after : List Item) (line : List ℕ) (lowest : ℕ) → fault_from lowest (before ++ (item ∷ after)) line ≡ 0 → fault_at item line ≡ 0
clean_at [] item after line lowest e = item-clean item after line lowest e
clean_at (one ∷ before) item after line lowest e = clean_at before item after line (lower lowest (fault_at one line)) e

-- line 1 says one epoch at least
pub some-epoch : (rules : Rules) (p : List ℕ) → (first_of rules p).fault ≡ 0 → 1 ≤ (first_of rules p).epochs
some-epoch rules p e =
    let columns-clean = (lower-clean (fault_of (first_items rules) p) (date_fault (moment_at (values_of (first_items rules) p) 1)) e).0 in
    let item = columns 33 39 (whole 1 max_epochs) in
    (whole-within 33 1 max_epochs (whole_of (part_of item p))
    (clean_at (part_at 0 1 2 (fixed 4 (35 ∷ rules.letter ∷ [])) ∷ column 3 (letter modes) ∷ (time_items ++ (column 32 unused ∷ []))) item (column 40 unused ∷ text_items) p clean columns-clean)
    ).0

-- the first `+ ` line says one satellite at least, and no more than the version has
pub some-satellites : (rules : Rules) (p : List ℕ) → (satellites_of rules p).fault ≡ 0 → (1 ≤ (satellites_of rules p).count) × ((satellites_of rules p).count ≤ rules.most_satellites)
some-satellites rules p e =
    whole-within 4 1 rules.most_satellites (whole_of (part_of (count_item rules) p))
    (clean_at (part_at 0 1 2 (fixed 4 (43 ∷ 32 ∷ [])) ∷ column 3 unused ∷ []) (count_item rules)
    (columns 7 9 unused ∷ (slot_items false (count_in rules p) ++ (columns 61 80 unused ∷ []))) p clean e)
