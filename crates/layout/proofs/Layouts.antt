-- What holds of every layout whose items tile the 80 columns: a shown line has 80 columns, and values that can be shown make printable columns and are read back without fault.
-- Assumes nothing.
use mathlib.Core.Path.{◌≡◌, refl, sym, ap, ◌∙◌}
use mathlib.Core.Bool.{Bool, true, false, ◌&&◌}
use mathlib.Core.List.{List, [], ◌∷◌, ◌++◌, append_assoc}
use Prim.Native.Nat.{ℕ, suc, ◌-◌, ◌≤◌}
use native.Mathlib.Omega.{arith}
use borrow.Author.Tests.{leb-true, eqb-true}
use lib.Dec.{leb, eqb}
use lib.ListN.{length, take, length-append}
use lib.Seq.{take_at, drop_at}
use Rattle.laws.specs.Texts.{is_printable}
use Rattle.layout.specs.Fault.{clean}
use Rattle.layout.specs.Kind.{printable, silent, fits_in, holds_in}
use Rattle.layout.specs.Layout.{Item, Values, part_of, width_of, entered, own_of, others_of, no_more, has_own, stands_at, tiled_from, tiled, fault_from, values_of, show_line, can_show, bytes_of, left_of}
use Rattle.laws.proofs.Bools.{and_left, and_right}
use Rattle.laws.proofs.Lists.{every_append}
use Rattle.layout.proofs.Fields.{not-false-true, wide, keeps}

-- what the test of a tiling says of its first item
pub record Stands (at : ℕ) (item : Item) (items : List Item) : Type 0 where
  pub starts : item.first ≡ at
  pub ends : at ≤ item.last
  pub fits : fits_in item.kind (width_of item) ≡ true
  pub later : tiled_from (suc item.last) items ≡ true

pub stands : (at : ℕ) (item : Item) (items : List Item) → tiled_from at (item ∷ items) ≡ true → Stands at item items
stands at item items t =
    let here = and_left (stands_at at item) (tiled_from (suc item.last) items) t in
    let right = and_right (eqb item.first at) (leb at item.last && fits_in item.kind (width_of item)) here in
    record {
      starts = eqb-true item.first at (and_left (eqb item.first at) (leb at item.last && fits_in item.kind (width_of item)) here);
      ends = leb-true at item.last (and_left (leb at item.last) (fits_in item.kind (width_of item)) right);
      fits = and_right (leb at item.last) (fits_in item.kind (width_of item)) right;
      later = and_right (stands_at at item) (tiled_from (suc item.last) items) t;
    }

-- no item starts past column 81
pub start-bound : (at : ℕ) (items : List Item) → tiled_from at items ≡ true → at ≤ 81
start-bound at [] t = omega (arith, eqb-true at 81 t)
start-bound at (item ∷ items) t =
    let here = stands at item items t in
    omega (arith, start-bound (suc item.last) items here.later, here.ends)

-- an item that stands right after the columns `front`
module _ (item : Item) (items : List Item) (vs : Values) (front : List ℕ) (tiles : tiled_from (suc (length front)) (item ∷ items) ≡ true) where
  pub placed : Stands (suc (length front)) item items
  placed = stands (suc (length front)) item items tiles

  pub filled : length (bytes_of item vs) ≡ width_of item
  filled = wide item.kind (width_of item) (own_of (silent item.kind) vs) placed.fits

  -- what is shown so far ends with the item's last column
  pub grown : length (front ++ bytes_of item vs) ≡ item.last
  grown = length-append front (bytes_of item vs) ∙ omega (arith, filled, placed.starts, placed.ends)

  -- the items after it stand right after that
  pub further : tiled_from (suc (length (front ++ bytes_of item vs))) items ≡ true
  further = ap (λ (n : ℕ). tiled_from (suc n) items) grown ∙ placed.later

  -- and its own columns hold what it shows
  pub part-shown : (rest : List ℕ) → part_of item (front ++ (bytes_of item vs ++ rest)) ≡ bytes_of item vs
  part-shown rest =
      ap (take (width_of item)) (drop_at front (bytes_of item vs ++ rest) (item.first - 1) (omega (arith, placed.starts)))
      ∙ take_at (bytes_of item vs) rest (width_of item) filled

wide_from : (items : List Item) (vs : Values) (front : List ℕ) → tiled_from (suc (length front)) items ≡ true → length (front ++ show_line items vs) ≡ 80
wide_from [] vs front t = length-append front [] ∙ omega (arith, eqb-true (suc (length front)) 81 t)
wide_from (item ∷ items) vs front t =
    ap length (sym (append_assoc front (bytes_of item vs) (show_line items (left_of item vs))))
    ∙ wide_from items (left_of item vs) (front ++ bytes_of item vs) (further item items vs front t)

-- every shown line has 80 columns
pub shown-wide : (items : List Item) (vs : Values) → tiled items ≡ true → length (show_line items vs) ≡ 80
shown-wide items vs t = wide_from items vs [] t

-- what the test of the values says of the first item's entry
record Can (item : Item) (items : List Item) (vs : Values) : Type 0 where
  has : has_own (silent item.kind) vs ≡ true
  own : holds_in item.kind (width_of item) (own_of (silent item.kind) vs) ≡ true
  others : can_show items (left_of item vs) ≡ true

can : (item : Item) (items : List Item) (vs : Values) → can_show (item ∷ items) vs ≡ true → Can item items vs
can item items vs c =
    let held = holds_in item.kind (width_of item) (own_of (silent item.kind) vs) in
    let right = and_right (has_own (silent item.kind) vs) (held && can_show items (left_of item vs)) c in
    record {
      has = and_left (has_own (silent item.kind) vs) (held && can_show items (left_of item vs)) c;
      own = and_left held (can_show items (left_of item vs)) right;
      others = and_right held (can_show items (left_of item vs)) right;
    }

-- an item's entry and those of the others are all the entries
all-entries : (s : Bool) (vs : Values) → has_own s vs ≡ true → entered s (own_of s vs) (others_of s vs) ≡ vs
all-entries true vs h = refl
all-entries false [] h = absurd (not-false-true h)
all-entries false (v ∷ vs) h = refl

none_more : (vs : Values) → no_more vs ≡ true → [] ≡ vs
none_more [] h = refl
none_more (v ∷ vs) h = absurd (not-false-true h)

-- values that a layout can show are shown in printable columns and read back
pub record ReadsBack (items : List Item) (vs : Values) (front : List ℕ) : Type 0 where
  pub plain : printable (show_line items vs) ≡ true
  pub sound : fault_from clean items (front ++ show_line items vs) ≡ clean
  pub back : values_of items (front ++ show_line items vs) ≡ vs

back_from : (items : List Item) (vs : Values) (front : List ℕ) → tiled_from (suc (length front)) items ≡ true → can_show items vs ≡ true → ReadsBack items vs front
back_from [] vs front t c = record { plain = refl; sound = refl; back = none_more vs c }
back_from (item ∷ items) vs front t c =
    let bytes = bytes_of item vs in
    let rest = show_line items (left_of item vs) in
    let here = can item items vs c in
    let kept = keeps item.kind (width_of item) (own_of (silent item.kind) vs) (placed item items vs front t).fits here.own in
    let later = back_from items (left_of item vs) (front ++ bytes) (further item items vs front t) here.others in
    let part = part-shown item items vs front t rest in
    record {
      plain = every_append is_printable bytes rest kept.plain later.plain;
      sound = rw (part, kept.sound item.blamed, sym (append_assoc front bytes rest)) later.sound;
      back = rw (part, kept.back, sym (append_assoc front bytes rest), later.back) (all-entries (silent item.kind) vs here.has);
    }

-- the law of every layout
pub reads-back : (items : List Item) (vs : Values) → tiled items ≡ true → can_show items vs ≡ true → ReadsBack items vs []
reads-back items vs t c = back_from items vs [] t c
