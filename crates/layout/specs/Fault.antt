-- Which fault decides. 01, "Numbers of the answers": "in a line the lowest number"; among equal numbers it is the leftmost column.
-- A fault found in a line is one number, its key: the paper's number of the answer and the column that it names, so that the lowest key decides.
use Rattle.std.specs.Prelude.{Bool, true, false, cond, ℕ, ◌+◌, ◌*◌, ◌/◌, ◌%◌, min, eqb}

-- no fault: the number of what is accepted, and no column
abbrev pub clean : ℕ
clean = 0

-- the paper's number and a column, counted from 1, or 0 where the fault names none
abbrev pub keyed : ℕ → ℕ → ℕ
keyed number column = number * 128 + column

-- the number of a key
abbrev pub key_number : ℕ → ℕ
key_number key = key / 128

-- its column
abbrev pub column_of : ℕ → ℕ
column_of key = key % 128

-- the lower of two faults, of which the first may be none
unfoldable pub lower_of : ℕ → ℕ → ℕ
lower_of a b = cond (eqb a clean) b (min a b)

-- the first where the second is none
abbrev pub lower_unless : Bool → ℕ → ℕ → ℕ
lower_unless true a b = a
lower_unless false a b = lower_of a b

-- the lower of two faults, of which either may be none; what was found before stands in it once, so that a row of them stays short
abbrev pub lower : ℕ → ℕ → ℕ
lower a b = lower_unless (eqb b clean) a b
