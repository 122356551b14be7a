-- How the crate answers on the way: of lines that were judged and measured, what they leave of a room; of a table, its length or why it is not written.
use Rattle.std.specs.Prelude.{Bool, cond, ℕ, ◌-◌, Option, Some, None, Result, Ok, Err}
use Rattle.canon.specs.Table.{Table, table_of}
use Rattle.canon.specs.Measured.{refused_as}
use Rattle.canon.specs.declared.types.Table as lent
use Rattle.canon.specs.declared.types.Measured.{Measured}
use Rattle.canon.specs.declared.types.Unwritten.{Unwritten}
use Rattle.canon.specs.declared.types.Unwritten.TheVariants.{TooLittleRoom, Invalid, OutsideVersion}

-- what lines of so many bytes leave of a room, where they are valid
abbrev pub spent : Bool → ℕ → ℕ → Option ℕ
spent valid room bytes = cond valid (Some (room - bytes)) None

-- a table of lent lists
abbrev pub lent_table : lent.Table → Table
lent_table t = table_of t.header t.identifiers.now t.exponents.now t.comments.now t.rows.now

-- the number of a refusal
abbrev pub number_of : Unwritten → ℕ
number_of TooLittleRoom = 12
number_of Invalid = 13
number_of OutsideVersion = 17

-- the answer that is told
abbrev pub told : Result ℕ Unwritten → Measured
told (Ok bytes) = record { refusal = 0; length = bytes }
told (Err why) = refused_as (number_of why)
