-- The state between two lines: what must stand next, and what the lines before have said.
use Rattle.std.specs.Prelude.{ℕ, ◌+◌, ◌-◌, Bool, false, cond, ◌||◌, List, ◌++◌, length, take, drop, replicate, ◌==◌, nat_le, slice_index}
use Rattle.header.specs.Rules.{max_satellites}
use Rattle.lines.specs.Lent.{over}
use Rattle.record.specs.LineKinds.{no_kind, first_kind, told_kind}
use Rattle.record.specs.SlotLines.{satellites_of, more_of}
use Rattle.header.specs.declared.types.Rules.{Rules}
use Rattle.record.specs.declared.types.LineKind.{LineKind}
use Rattle.machine.specs.declared.types.State.{State}

-- before the first line: `#d` must come
abbrev pub start_state : State
start_state = record {
  due = first_kind;
  also = no_kind;
  lines = 1;
  left = 0;
  comments = 0;
  velocity = false;
  satellites = 0;
  epochs = 0;
  at8 = 0;
  gap8 = 0;
  interval8 = 0;
}

-- no identifier is known before the first `+ ` line
abbrev pub no_identifiers : List ℕ
no_identifiers = replicate max_satellites 0

-- a kind of line may stand here: the one that must come, or the other that may
abbrev pub stands : State → LineKind → Bool
stands s kind = told_kind kind == s.due || told_kind kind == s.also

-- how many satellites have had their slot, or their row of this epoch
abbrev pub seen : State → ℕ
seen s = s.satellites - s.left

-- the identifiers known so far
abbrev pub known_identifiers : State → List ℕ → List ℕ
known_identifiers s identifiers = take (seen s) identifiers

-- the identifier of the satellite whose row must come
abbrev pub identifier_due : State → List ℕ → ℕ
identifier_due s identifiers = slice_index identifiers (seen s)

-- the first `+ ` line is due as long as no number of satellites is known
abbrev pub is_first : State → Bool
is_first s = s.satellites == 0

-- the identifiers that a `+ ` line of 80 columns brings: the first `+ ` line as many as its own number says, a further one as many as are left
unfoldable pub identifiers_in : Rules → State → List ℕ → List ℕ
identifiers_in rules s line =
    cond (is_first s)
    (take (satellites_of rules line).count (satellites_of rules line).identifiers)
    (take s.left (more_of false s.left line).values)

-- new numbers fit into a list behind its first so many
abbrev pub fit_behind : ℕ → List ℕ → List ℕ → Bool
fit_behind from new list = nat_le (from + length new) (length list)

-- laid there; where they do not fit the list is as it was
unfoldable pub laid_behind : ℕ → List ℕ → List ℕ → List ℕ
laid_behind from new list = cond (fit_behind from new list) (take from list ++ over new (drop from list)) list

-- the list has room for the identifiers that a `+ ` line brings, behind those known
unfoldable pub has_room : Rules → State → List ℕ → List ℕ → Bool
has_room rules s identifiers line = fit_behind (seen s) (identifiers_in rules s line) identifiers

-- the identifiers after a `+ ` line
unfoldable pub identifiers_joined : Rules → State → List ℕ → List ℕ → List ℕ
identifiers_joined rules s identifiers line = laid_behind (seen s) (identifiers_in rules s line) identifiers
