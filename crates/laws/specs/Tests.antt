-- Tests on numbers. A test is a Bool that computes; the laws of proofs/ turn it into a fact and back.
use Rattle.std.specs.Prelude.{Bool, true, ◌&&◌, ℕ, zero, suc, leb}

-- from low to high, both counted in
abbrev pub within : ℕ → ℕ → ℕ → Bool
within low high n = leb low n && leb n high

-- the test passes at each number below n
abbrev pub every_below : ℕ → (ℕ → Bool) → Bool
every_below zero test = true
every_below (suc n) test = test n && every_below n test
