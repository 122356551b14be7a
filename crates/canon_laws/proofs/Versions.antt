-- The rules of SP3-c and those of SP3-d are such as the theorems ask.
-- Assumes nothing.
use mathlib.Core.Path.{◌≡◌, refl, sym, subst}
use mathlib.Core.List.{List}
use mathlib.Core.Logic.{◌⊎◌, inl, inr}
use Prim.Native.Nat.{ℕ}
use native.Mathlib.Omega.{arith}
use Rattle.header.specs.Rules.{c, d}
use Rattle.header.specs.Versions.{rules_of, rules_in}
use Rattle.header.specs.declared.types.Version.{Version}
use Rattle.header.specs.declared.types.Version.TheVariants as version
use Rattle.canon_laws.specs.Held.{Proper}
use Rattle.scan_laws.proofs.Files.{c-sound, d-sound}
use Rattle.scan_laws.proofs.Which.{told-either}

-- those of SP3-c are rules whose tables can be written, and so are those of SP3-d,
pub c-proper : Proper c
c-proper = record { sound = c-sound; letter-printable = refl; letter-own = refl; symbol-fits = omega arith; within_d = record { satellites = omega arith; fewest = omega arith; most = omega arith; columns = omega arith } }

pub d-proper : Proper d
d-proper = record { sound = d-sound; letter-printable = refl; letter-own = refl; symbol-fits = omega arith; within_d = record { satellites = omega arith; fewest = omega arith; most = omega arith; columns = omega arith } }

-- so those of each version,
pub of-proper : (v : Version) → Proper (rules_of v)
of-proper version.C = c-proper
of-proper version.D = d-proper

-- and those that some bytes tell
pub told-proper : (bytes : List ℕ) → Proper (rules_in bytes)
told-proper bytes = go (told-either bytes)
  where
    go : (rules_in bytes ≡ c) ⊎ (rules_in bytes ≡ d) → Proper (rules_in bytes)
    go (inl e) = subst Proper (sym e) c-proper
    go (inr e) = subst Proper (sym e) d-proper
