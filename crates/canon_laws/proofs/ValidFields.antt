-- What each field of a record without fault holds, it can hold: by that the bounds of a table are read off the lines of an accepted file.
-- Assumes nothing.
use mathlib.Core.Path.{◌≡◌, refl, sym, ap, ◌∙◌}
use mathlib.Core.Bool.{Bool, true, ◌&&◌}
use mathlib.Core.List.{List, ◌++◌}
use Prim.Native.Nat.{ℕ, ◌-◌, ◌<◌}
use native.Mathlib.Omega.{arith}
use borrow.Author.Tests.{leb-true}
use lib.Dec.{leb, eqb}
use lib.ListN.{length, get_or, drop, length-drop}
use lib.Seq.{length-take-le}
use Rattle.laws.specs.Texts.{every, is_printable, blanks}
use Rattle.layout.specs.Fault.{clean}
use Rattle.layout.specs.Kind.{printable, fits_in, holds_in}
use Rattle.layout.specs.Kind.Kind.{unused}
use Rattle.layout.specs.Layout.{Item, column, width_of, part_of, fault_at, held_at, fault_of}
use Rattle.layout.specs.Line.{padded}
use Rattle.header.specs.declared.types.Rules.{Rules}
use Rattle.record.specs.declared.types.LineKind.{LineKind}
use Rattle.file.specs.Plain.{is_line, is_record}
use Rattle.laws.proofs.Bools.{and_left, and_right}
use Rattle.laws.proofs.Lists.{every_append, every-replicate}
use Rattle.layout.proofs.Again.{holds-again}
use Rattle.layout.proofs.Lines.{padded-length}
use Rattle.canon.proofs.Parted.{every_take, every_drop}
use Rattle.file_laws.proofs.Clean.{record-clean, item-at}

-- a line stays printable as it is padded
pub padded-printable : (l : List ℕ) → printable l ≡ true → printable (padded l) ≡ true
unfolding padded
padded-printable l h = every_take is_printable 80 (l ++ blanks 80) (every_append is_printable l (blanks 80) h (every-replicate is_printable 80 32 refl))

-- an item lies within the 80 columns, as wide as its kind can be
abbrev pub in_line : Item → Bool
in_line item = (leb 1 item.first && leb item.last 80) && fits_in item.kind (width_of item)

-- its field can hold what the line has there
abbrev pub holds_own : Item → List ℕ → Bool
holds_own item line = holds_in item.kind (width_of item) (held_at item line)

pub item-holds : (item : Item) (l : List ℕ) → printable l ≡ true → fault_at item (padded l) ≡ clean → in_line item ≡ true → holds_own item (padded l) ≡ true
item-holds item l plain sound fits =
    let line = padded l in
    let columns = and_left (leb 1 item.first && leb item.last 80) _ fits in
    let starts = leb-true 1 item.first (and_left (leb 1 item.first) _ columns) in
    let ends = leb-true item.last 80 (and_right (leb 1 item.first) _ columns) in
    let wide : length (part_of item line) ≡ width_of item =
    length-take-le (width_of item) (drop (item.first - 1) line) (omega (arith, length-drop (item.first - 1) line, padded-length l)) in
    let part = every_take is_printable (width_of item) (drop (item.first - 1) line) (every_drop is_printable (item.first - 1) line (padded-printable l plain)) in
    ap (λ (w : ℕ). holds_in item.kind w (held_at item line)) (sym wide)
    ∙ holds-again item.kind item.blamed (part_of item line) (ap (fits_in item.kind) wide ∙ and_right (leb 1 item.first && leb item.last 80) _ fits) part sound

-- the item at a place of a layout
abbrev pub item_of : List Item → ℕ → Item
item_of items i = get_or items i (column 1 unused)

pub field-holds : (items : List Item) (l : List ℕ) → printable l ≡ true → fault_of items (padded l) ≡ clean
    → (i : ℕ) → i < length items → in_line (item_of items i) ≡ true → holds_own (item_of items i) (padded l) ≡ true
field-holds items l plain sound i there fits = item-holds (item_of items i) l plain (item-at items i (column 1 unused) (padded l) clean there sound) fits

-- a record's line is printable
pub record-plain : (rules : Rules) (kind : LineKind) (fault : ℕ) (l : List ℕ) → is_record rules kind fault l ≡ true → printable l ≡ true
record-plain rules kind fault l e = and_left (every is_printable l) _ (and_left (is_line rules kind l) (eqb fault 0) e)

-- the fields of a record by its layout
pub record-holds : (rules : Rules) (kind : LineKind) (items : List Item) (l : List ℕ) → is_record rules kind (fault_of items (padded l)) l ≡ true
    → (i : ℕ) → i < length items → in_line (item_of items i) ≡ true → holds_own (item_of items i) (padded l) ≡ true
record-holds rules kind items l e i there fits =
    let fault = fault_of items (padded l) in
    field-holds items l (record-plain rules kind fault l e) (record-clean rules kind fault l e) i there fits
