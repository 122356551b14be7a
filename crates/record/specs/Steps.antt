-- A line judged field by field, as the readers do it: the lowest fault up to here, and the number that a field holds.
use Rattle.std.specs.Prelude.{List, [], ◌∷◌, ℕ}
use Rattle.layout.specs.Fault.{lower}
use Rattle.layout.specs.Kind.{number_in}
use Rattle.layout.specs.Layout.{Item, fault_at, held_at}
use Rattle.record.specs.declared.fields.Judge.{Judge}

-- what has been found after one more item, and after several in their order
unfoldable pub after : Item → Judge → Judge
after item judge = record judge { fault = lower judge.fault (fault_at item judge.line.now) }

abbrev pub after_all : List Item → Judge → Judge
after_all [] judge = judge
after_all (item ∷ items) judge = after_all items (after item judge)

-- the number that an item's columns hold
abbrev pub number_of : Item → Judge → ℕ
number_of item judge = number_in (held_at item judge.line.now)
