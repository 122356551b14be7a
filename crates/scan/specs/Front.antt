-- What stands at the front of some bytes: a file, by what has been read of it, or the refusal of a line.
use Rattle.std.specs.Prelude.{ℕ, Result, Ok, Err}
use Rattle.scan.specs.declared.Tally.{Tally}
use Rattle.scan.specs.declared.Refusal.{Refusal}

abbrev pub Front : Type 0
Front = Result Tally Refusal

-- a file
abbrev pub File : Tally → Front
File t = Ok t

-- a refusal by its number, its line and its column
abbrev pub Refused : ℕ → ℕ → ℕ → Front
Refused number line column = Err (record { number = number; line = line; column = column })
