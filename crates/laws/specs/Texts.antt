-- Texts as lists of bytes: a test of every byte, the bytes that a line may have, and runs of blanks.
-- 01, "Lines": a line has characters 32 to 126; a blank is 32.
use Rattle.std.specs.Prelude.{List, Bool, ℕ, replicate}
use Rattle.std.specs.List.{list_all}
use Rattle.laws.specs.Tests.{within}

-- every byte passes the test
abbrev pub every : (ℕ → Bool) → List ℕ → Bool
every test s = list_all test s

-- one of the bytes that a line may have
abbrev pub is_printable : ℕ → Bool
is_printable b = within 32 126 b

-- n blanks
abbrev pub blanks : ℕ → List ℕ
blanks n = replicate n 32
