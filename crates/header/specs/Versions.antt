-- The versions that are read and written. 02, Ask 9: "We need both directions for it: `#c`"; "a table doesn't keep its version, reading tells it". The
-- version of some bytes is told by the first two: SP3-c where they are `#c`, else SP3-d.
use Rattle.std.specs.Prelude.{Bool, cond, ◌&&◌, List, ℕ, eqb, get_or}
use Rattle.header.specs.Rules.{c, d}
use Rattle.header.specs.declared.types.Rules.{Rules}
use Rattle.header.specs.declared.types.Version.{Version}
use Rattle.header.specs.declared.types.Version.TheVariants as version

-- the letter of a version, and its rules
abbrev pub told_version : Version → ℕ
told_version version.C = 99
told_version version.D = 100

abbrev pub rules_of : Version → Rules
rules_of version.C = c
rules_of version.D = d

-- the version with this letter: c, or d for every other
unfoldable pub version_by : ℕ → Version
version_by letter = cond (eqb letter 99) version.C version.D

-- some bytes begin with `#c`
unfoldable pub begins_c : List ℕ → Bool
begins_c bytes = eqb (get_or bytes 0 0) 35 && eqb (get_or bytes 1 0) 99

-- the rules that they are judged by
unfoldable pub rules_in : List ℕ → Rules
rules_in bytes = cond (begins_c bytes) c d
