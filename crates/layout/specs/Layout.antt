-- A record's line as data: its items in column order, as the document lists them, and what judging, reading and showing a line by such a
-- list means. Columns are counted from 1. 01, "Lines": "Unused columns, and all columns past a record's last, are blank."
use Rattle.std.specs.Prelude.{Bool, true, false, cond, ◌&&◌, List, [], ◌∷◌, ◌++◌, ℕ, zero, suc, ◌+◌, ◌-◌, get_or, take, drop, leb, ltb, eqb}
use Rattle.layout.specs.Fault.{clean, lower}
use Rattle.layout.specs.Kind.{Kind, Held, fault_in, held_in, silent, shown_in, fits_in, holds_in, number_in, negative_in, magnitude_in, mark_in, words_in}
use Rattle.layout.specs.Kind.Kind.{filler}
use Rattle.layout.specs.Kind.Held.{nothing, one}

-- columns first to last, the column that a fault there names, and what stands there
pub record Item : Type 0 where
  pub first : ℕ
  pub last : ℕ
  pub blamed : ℕ
  pub kind : Kind

-- a fault names the item's first column
abbrev pub columns : ℕ → ℕ → Kind → Item
columns first last kind = record { first = first; last = last; blamed = first; kind = kind }

-- the same of one column
abbrev pub column : ℕ → Kind → Item
column at kind = columns at at kind

-- an item whose faults name another column: the first of what it is a part of, or 0 where the paper names none
abbrev pub part_at : ℕ → ℕ → ℕ → Kind → Item
part_at blamed first last kind = record { first = first; last = last; blamed = blamed; kind = kind }

-- how many columns it has
abbrev pub width_of : Item → ℕ
width_of item = item.last - (item.first - 1)

-- the bytes of its columns
abbrev pub part_of : Item → List ℕ → List ℕ
part_of item line = take (width_of item) (drop (item.first - 1) line)

-- the fault of its columns, and what they hold
abbrev pub fault_at : Item → List ℕ → ℕ
fault_at item line = fault_in item.kind item.blamed (part_of item line)

abbrev pub held_at : Item → List ℕ → Held
held_at item line = held_in item.kind (part_of item line)

-- the item stands at the column at, in columns that its kind can have
abbrev pub stands_at : ℕ → Item → Bool
stands_at at item = eqb item.first at && (leb at item.last && fits_in item.kind (width_of item))

-- the items stand one after the other from the column at, and end at column 80
abbrev pub tiled_from : ℕ → List Item → Bool
tiled_from at [] = eqb at 81
tiled_from at (item ∷ items) = stands_at at item && tiled_from (suc item.last) items

-- the items tile columns 1 to 80
abbrev pub tiled : List Item → Bool
tiled items = tiled_from 1 items

-- the lowest of a fault found before and those of the items
abbrev pub fault_from : ℕ → List Item → List ℕ → ℕ
fault_from lowest [] line = lowest
fault_from lowest (item ∷ items) line = fault_from (lower lowest (fault_at item line)) items line

-- the fault that decides a line
abbrev pub fault_of : List Item → List ℕ → ℕ
fault_of items line = fault_from clean items line

-- what a line holds: an entry for each item that is not silent, in column order
abbrev pub Values : Type 0
Values = List Held

abbrev pub entered : Bool → Held → Values → Values
entered true v vs = vs
entered false v vs = v ∷ vs

abbrev pub values_of : List Item → List ℕ → Values
values_of [] line = []
values_of (item ∷ items) line = entered (silent item.kind) (held_at item line) (values_of items line)

-- an item's own entry, which stands in front, and those of the items after it
abbrev pub own_of : Bool → Values → Held
own_of true vs = nothing
own_of false vs = get_or vs 0 nothing

abbrev pub others_of : Bool → Values → Values
others_of true vs = vs
others_of false vs = drop 1 vs

-- the bytes that an item shows, and the values that it leaves to the others
abbrev pub bytes_of : Item → Values → List ℕ
bytes_of item vs = shown_in item.kind (width_of item) (own_of (silent item.kind) vs)

abbrev pub left_of : Item → Values → Values
left_of item vs = others_of (silent item.kind) vs

-- the line of 80 columns that shows these values
abbrev pub show_line : List Item → Values → List ℕ
show_line [] vs = []
show_line (item ∷ items) vs = bytes_of item vs ++ show_line items (left_of item vs)

abbrev pub no_more : Values → Bool
no_more [] = true
no_more (v ∷ vs) = false

abbrev pub has_own : Bool → Values → Bool
has_own true vs = true
has_own false [] = false
has_own false (v ∷ vs) = true

-- there is an entry for each item that is not silent, and each field can hold its own
abbrev pub can_show : List Item → Values → Bool
can_show [] vs = no_more vs
can_show (item ∷ items) vs =
    has_own (silent item.kind) vs
    && (holds_in item.kind (width_of item) (own_of (silent item.kind) vs) && can_show items (left_of item vs))

-- the entry at k as a number, a sign, a magnitude, a mark, a text
abbrev pub number_at : Values → ℕ → ℕ
number_at vs k = number_in (get_or vs k nothing)

abbrev pub negative_at : Values → ℕ → Bool
negative_at vs k = negative_in (get_or vs k nothing)

abbrev pub magnitude_at : Values → ℕ → ℕ
magnitude_at vs k = magnitude_in (get_or vs k nothing)

abbrev pub mark_at : Values → ℕ → Bool
mark_at vs k = mark_in (get_or vs k nothing)

abbrev pub words_at : Values → ℕ → List ℕ
words_at vs k = words_in (get_or vs k nothing)

-- a slot of a satellite, or one after the last, whose fault names no column
abbrev pub slot_for : Bool → Kind → Kind
slot_for true kind = kind
slot_for false kind = filler

abbrev pub slot_at : Bool → Kind → ℕ → Item
slot_at used kind at = part_at (cond used at 0) at (at + 2) (slot_for used kind)

-- so many slots of three columns from the column at, of which the first `left` are of satellites
unfoldable pub slots_from : Kind → ℕ → ℕ → ℕ → List Item
slots_from kind zero left at = []
slots_from kind (suc count) left at = slot_at (ltb 0 left) kind at ∷ slots_from kind count (left - 1) (at + 3)

-- the numbers of the entries, and entries of numbers
abbrev pub numbers_of : Values → List ℕ
numbers_of [] = []
numbers_of (v ∷ vs) = number_in v ∷ numbers_of vs

abbrev pub ones_of : List ℕ → Values
ones_of [] = []
ones_of (n ∷ ns) = one n ∷ ones_of ns
