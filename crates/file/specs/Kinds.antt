-- The kind of a line as it stands in a file, a short line being padded, and the lines of a kind.
use Rattle.std.specs.Prelude.{Bool, ◌&&◌, ◌||◌, true, false, List, ℕ, eqb, get_or}
use Rattle.layout.specs.Line.{padded}
use Rattle.lines.specs.Lines.{select, nth}
use Rattle.record.specs.LineKinds.{position_kind, velocity_kind, position_correlation_kind, velocity_correlation_kind, told_kind, kind_of}
use Rattle.header.specs.declared.types.Rules.{Rules}

-- the number of its kind
abbrev pub kind_in : Rules → List ℕ → ℕ
kind_in rules line = told_kind (kind_of rules (padded line))

abbrev pub is_kind : Rules → ℕ → List ℕ → Bool
is_kind rules kind line = eqb (kind_in rules line) kind

-- P and V
abbrev pub is_row : Rules → List ℕ → Bool
is_row rules line = is_kind rules position_kind line || is_kind rules velocity_kind line

-- EP and EV
abbrev pub is_note : Rules → List ℕ → Bool
is_note rules line = is_kind rules position_correlation_kind line || is_kind rules velocity_correlation_kind line

-- whether EP or EV stands first in some bytes
abbrev pub begins_note : List ℕ → Bool
begins_note bytes = eqb (get_or bytes 0 0) 69 && (eqb (get_or bytes 1 0) 80 || eqb (get_or bytes 1 0) 86)

-- the lines of a kind, in their order
abbrev pub of_kind : Rules → ℕ → List (List ℕ) → List (List ℕ)
of_kind rules kind lines = select (is_kind rules kind) lines

-- the first of them
abbrev pub first_of_kind : Rules → ℕ → List (List ℕ) → List ℕ
first_of_kind rules kind lines = nth 0 (of_kind rules kind lines)

-- the kind of P lines (false) and of V lines (true)
abbrev pub row_number : Bool → ℕ
row_number true = velocity_kind
row_number false = position_kind
