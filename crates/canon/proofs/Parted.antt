-- A test that every number of a list passes, every number of a part of it passes.
-- Assumes nothing.
use mathlib.Core.Path.{◌≡◌, refl, ap}
use mathlib.Core.Bool.{Bool, true, ◌&&◌}
use mathlib.Core.List.{List, [], ◌∷◌}
use Prim.Native.Nat.{ℕ, zero, suc}
use lib.ListN.{take, drop, get_or}
use Rattle.std.specs.List.{list_all}
use Rattle.laws.specs.Texts.{every}
use Rattle.layout.proofs.Lines.{trimmed-shorter}
use Rattle.laws.proofs.Bools.{and_left, and_right, and_both}

-- it is the library's test of a whole list
pub every_all : (test : ℕ → Bool) (ns : List ℕ) → every test ns ≡ list_all test ns
every_all test [] = refl
every_all test (n ∷ ns) = ap (λ (t : Bool). test n && t) (every_all test ns)

pub every_take : (test : ℕ → Bool) (k : ℕ) (ns : List ℕ) → every test ns ≡ true → every test (take k ns) ≡ true
every_take test zero ns e = refl
every_take test (suc k) [] e = refl
every_take test (suc k) (n ∷ ns) e = and_both (test n) (every test (take k ns)) (and_left (test n) (every test ns) e) (every_take test k ns (and_right (test n) (every test ns) e))

pub every_drop : (test : ℕ → Bool) (k : ℕ) (ns : List ℕ) → every test ns ≡ true → every test (drop k ns) ≡ true
every_drop test zero ns e = e
every_drop test (suc k) [] e = refl
every_drop test (suc k) (n ∷ ns) e = every_drop test k ns (and_right (test n) (every test ns) e)

pub every-at : (test : ℕ → Bool) → test 0 ≡ true → (ns : List ℕ) (i : ℕ) → every test ns ≡ true → test (get_or ns i 0) ≡ true
every-at test z [] i e = z
every-at test z (n ∷ ns) zero e = and_left (test n) (every test ns) e
every-at test z (n ∷ ns) (suc i) e = every-at test z ns i (and_right (test n) (every test ns) e)

-- without its trailing blanks a text is no longer
pub ruleset shorter = (trimmed-shorter)
