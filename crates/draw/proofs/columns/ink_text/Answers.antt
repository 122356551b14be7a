use Rattle.std.proofs.Common.{◌≡◌, ◌-◌, length, take, drop, length-take, length-drop, sym, arith}
use Rattle.layout.specs.Kind.{shown_text}
use Rattle.layout.proofs.Shown.{text-wide}
use Rattle.layout.proofs.Inked.{text-part}
use Rattle.layout.proofs.Inking.{past-part, columns-put}
use Rattle.draw.proofs.columns.ink_text.Goals as goal

pub returns-then-from-to : goal.returns-then-from-to
returns-then-from-to c =
    let a = c.args in
    let w = a.last - (a.first - 1) in
    let to = c.min-to.result in
    let from = a.first - 1 in
    let reached : length (take (to - from) (drop from a.line.now)) ≡ to - from =
    omega (arith, length-take (to - from) (drop from a.line.now), length-drop from a.line.now) in
    rw (c.put_text.ensures, reached, text-part (to - (a.first - 1)) w a.text.now (omega arith))
    (columns-put a.first a.last (shown_text w a.text.now) a.line.now (omega arith) (text-wide w a.text.now) to (omega arith) (omega arith))

pub returns-else-from-to : goal.returns-else-from-to
returns-else-from-to c =
    let a = c.args in
    sym (past-part a.first a.last (shown_text (a.last - (a.first - 1)) a.text.now) a.line.now (omega arith))
