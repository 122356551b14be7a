-- What a call that writes into lent bytes needs and does.
use Rattle.std.specs.Prelude.{◌≡◌, List, ℕ, length}
use Rattle.std.specs.Fn.{Once, FnOnceTakesAtMut, FnOnceReturnsAtMut}
use denote.Ref.{MutBor}

-- it may be made on any n bytes
abbrev pub Takes : {F : Type 0} → Once F (MutBor (List ℕ) × Unit {0}) (Unit {0} × (MutBor (List ℕ) × Unit {0})) → F → ℕ → Type 0
Takes g put n = (part : List ℕ) → length part ≡ n → FnOnceTakesAtMut g put part

-- whatever n bytes stand there, it leaves these
abbrev pub Leaves : {F : Type 0} → Once F (MutBor (List ℕ) × Unit {0}) (Unit {0} × (MutBor (List ℕ) × Unit {0})) → F → ℕ → List ℕ → Type 0
Leaves g put n bytes = (old new : List ℕ) → length old ≡ n → FnOnceReturnsAtMut g put old tt new → new ≡ bytes
