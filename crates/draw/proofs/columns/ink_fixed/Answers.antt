use Rattle.std.proofs.Common.{◌≡◌, List, ℕ, ◌-◌, ◌++◌, length, take, drop, sym, ap, ◌∙◌, arith, length-drop, append-nil}
use lib.ListN.{drop_of_length-le}
use lib.Seq.{take_all}
use Rattle.layout.proofs.Inking.{past-part, part-put}
use Rattle.draw.proofs.columns.ink_fixed.Goals as goal

pub returns-then-from-line : goal.returns-then-from-line
returns-then-from-line c =
    let a = c.args in
    let line = a.line.now in
    let these = a.these.now in
    let rest = drop (a.first - 1) line in
    let left = length-drop (a.first - 1) line in
    let whole : take (length line - (a.first - 1)) rest ≡ rest = take_all (length line - (a.first - 1)) rest (omega (arith, left)) in
    let none = drop_of_length-le rest {i = length line - (a.first - 1)} (omega (arith, left)) in
    let front = take (a.first - 1) line in
    let part = take (length rest) these in
    rw (c.copy_front.ensures.lent, whole, none)
    (ap (λ (l : List ℕ). front ++ l) (append-nil (part ++ drop (length these) rest))
    ∙ ap (λ (n : ℕ). front ++ (part ++ drop n rest)) c.requires.2
    ∙ part-put a.first a.last these line (omega arith) c.requires.2)

pub returns-else-from-line : goal.returns-else-from-line
returns-else-from-line c = sym (past-part c.args.first c.args.last c.args.these.now c.args.line.now c.if-from-line.false)
