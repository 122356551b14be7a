-- A turn passes the first of the lines that are left; where none is left, the walker is where they all lead.
use Rattle.std.proofs.Common.{◌≡◌, ◌≤◌, ◌-◌, ◌<◌, ◌+◌, arith}
use Rattle.header.specs.Versions.{rules_in}
use Rattle.line_walk.proofs.Spots.{first-line-more, no-line-more}
use Rattle.line_walk.proofs.after_lines.Goals as goal

pub loop-line-preserved : goal.loop-line-preserved
loop-line-preserved c =
    let l = c.loop-line in
    let a = c.args in
    let some : 0 < a.lines - l._line = omega arith in
    let less : a.lines - (l._line + 1) ≡ a.lines - l._line - 1 = omega arith in
    let more = first-line-more (rules_in a.file.now) a.file.now l.identifiers l.w.spot (a.lines - l._line) some in
    rw less (record { same = cc; holds = cc; keeps = cc })

pub returns-clause-result : goal.returns-clause-result
returns-clause-result c =
    let l = c.loop-line in
    let file = c.args.file.now in
    let none : c.args.lines - l._line ≤ 0 = omega arith in
    let here = no-line-more (rules_in file) file l.identifiers l.w.spot (c.args.lines - l._line) none in
    cc

pub returns-clause-lent : goal.returns-clause-lent
returns-clause-lent c =
    let l = c.loop-line in
    let file = c.args.file.now in
    let none : c.args.lines - l._line ≤ 0 = omega arith in
    let here = no-line-more (rules_in file) file l.identifiers l.w.spot (c.args.lines - l._line) none in
    cc
