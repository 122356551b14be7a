-- What a writing leaves. 01, "Numbers of the answers": "Each refusal leaves all lent memory unchanged. After success the places past those filled are
-- unchanged too." Its answer is `measured_in` (canon, Measured).
use Rattle.std.specs.Prelude.{cond, ◌&&◌, List, ℕ, leb, length}
use Rattle.lines.specs.Lent.{over}
use Rattle.header.specs.declared.types.Rules.{Rules}
use Rattle.canon.specs.Table.{Table}
use Rattle.canon.specs.Valid.{valid}
use Rattle.canon.specs.Canonical.{canonical}

-- the output afterwards: the canonical form from its first byte on where the table is valid and there is room, else as it was
unfoldable pub out_after : Rules → Table → List ℕ → List ℕ
out_after rules t out = cond (valid rules t && leb (length (canonical rules t)) (length out)) (over (canonical rules t) out) out
