-- The paper's number of what stands at the front of some bytes, then which case it is (0 a refusal, 1 a file), then its values: line and column,
-- or lines, bytes, comments and rows.
use Rattle.std.specs.Prelude.{List, [], ◌∷◌, ℕ}
use Rattle.std.specs.Prelude.{Ok, Err}
use Rattle.scan.specs.Front.{Front}
use Rattle.scan.specs.Front as front

unfoldable pub told_front : Front → List ℕ
told_front (Ok t) = 0 ∷ 1 ∷ t.lines ∷ t.end ∷ t.comments ∷ t.rows ∷ []
told_front (Err refusal) = refusal.number ∷ 0 ∷ refusal.line ∷ refusal.column ∷ []
