-- How many of the known identifiers must be looked at to judge a line; no answer is defined by it.
use Rattle.std.specs.Prelude.{List, ◌≡◌, ℕ, ◌≤◌, length, take}
use Rattle.header.specs.declared.types.Rules.{Rules}
use Rattle.machine.specs.Step.{line_known}
use Rattle.machine.specs.declared.types.State.{State}

-- so many of them are enough: the line at a byte does what it does with all of them
pub record Enough (rules : Rules) (bytes : List ℕ) (at : ℕ) (s : State) (identifiers : List ℕ) (many : ℕ) : Type 0 where
  pub few : many ≤ length identifiers
  pub same : line_known rules bytes at s (take many identifiers) ≡ line_known rules bytes at s identifiers
