-- What a record without fault says of each of its fields: none has a fault, and a number is within its bounds.
-- Assumes nothing.
use mathlib.Core.Path.{◌≡◌}
use mathlib.Core.Bool.{true}
use mathlib.Core.List.{List, [], ◌∷◌}
use Prim.Native.Nat.{ℕ, zero, suc, ◌<◌, ◌≤◌}
use native.Mathlib.Nat.{le_of_suc-le-suc, not-suc-le-zero}
use native.Mathlib.Omega.{arith}
use borrow.Author.Tests.{eqb-true}
use lib.Dec.{eqb}
use lib.ListN.{length, get_or}
use Rattle.laws.specs.Tests.{within}
use Rattle.layout.specs.Fault.{clean, lower}
use Rattle.layout.specs.Kind.{bound_fault, whole_fault, amount_fault, whole_held, amount_held}
use Rattle.layout.specs.Layout.{Item, fault_at, fault_from}
use Rattle.header.specs.declared.types.Rules.{Rules}
use Rattle.record.specs.declared.types.LineKind.{LineKind}
use Rattle.file.specs.Plain.{is_line, is_record}
use Rattle.laws.proofs.Bools.{and_right}
use Rattle.laws.proofs.Bounds.{within-true}
use Rattle.layout.proofs.Again.{passed, item-clean}
use Rattle.std.specs.Prelude.{Option, Some, None}
use Rattle.field.specs.declared.Signed.{Signed}

-- a record's line has no fault
pub record-clean : (rules : Rules) (kind : LineKind) (fault : ℕ) (l : List ℕ) → is_record rules kind fault l ≡ true → fault ≡ clean
record-clean rules kind fault l e = eqb-true fault 0 (and_right (is_line rules kind l) (eqb fault 0) e)

-- nor has any item of its layout
pub item-at : (items : List Item) (i : ℕ) (none : Item) (line : List ℕ) (lowest : ℕ) → i < length items → fault_from lowest items line ≡ clean
    → fault_at (get_or items i none) line ≡ clean
item-at [] i none line lowest h e = absurd (not-suc-le-zero h)
item-at (item ∷ items) zero none line lowest h e = item-clean item items line lowest e
item-at (item ∷ items) (suc i) none line lowest h e = item-at items i none line (lower lowest (fault_at item line)) (le_of_suc-le-suc h) e

-- a number without fault is within its bounds
bounded : (column low high n : ℕ) → bound_fault column low high n ≡ clean → (low ≤ n) × (n ≤ high)
bounded column low high n e = within-true low high n (passed (within low high n) 7 column (omega arith) e)

pub whole-bounds : (column low high : ℕ) (a : Option ℕ) → whole_fault column low high a ≡ clean → (low ≤ whole_held a) × (whole_held a ≤ high)
whole-bounds column low high (Some n) e = bounded column low high n e
whole-bounds column low high None e = absurd (omega arith)

pub amount-bounds : (column low high : ℕ) (a : Option Signed) → amount_fault column low high a ≡ clean → (low ≤ amount_held a) × (amount_held a ≤ high)
amount-bounds column low high (Some held) e = bounded column low high held.magnitude e
amount-bounds column low high None e = absurd (omega arith)
