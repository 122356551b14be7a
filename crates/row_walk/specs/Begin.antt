-- Before a walk: the file judged whole, then room asked for its identifiers. 01, "Numbers of the answers": "12 comes after all other checks, with line
-- 0"; "Each refusal leaves all lent memory unchanged."
use Rattle.std.specs.Prelude.{ℕ, Bool, false, cond, ◌&&◌, List, length, ◌==◌, nat_le}
use Rattle.lines.specs.Lent.{over}
use Rattle.lines.specs.Lines.{lines_of}
use Rattle.header.specs.declared.types.Rules.{Rules}
use Rattle.file.specs.Table.{slots_in}
use Rattle.reader.specs.Reading.{refused_with}
use Rattle.reader.specs.declared.types.Reading.{Reading}

-- the judgement of a file, or 12 where so much room is less than its satellites
unfoldable pub begun_as : Reading → ℕ → Reading
begun_as r room = cond (r.refusal == 0) (cond (nat_le r.header.satellites room) r (refused_with 12 0 0)) r

-- accepted, and room for the identifiers
abbrev pub begins : Reading → ℕ → Bool
begins r room = r.refusal == 0 && nat_le r.header.satellites room

-- the list afterwards: the identifiers from its first place on, or as it was
unfoldable pub identifiers_begun : Rules → Reading → List ℕ → List ℕ → List ℕ
identifiers_begun rules r file old = cond (begins r (length old)) (over (slots_in rules false r.header.satellites (lines_of file)) old) old
