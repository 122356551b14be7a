-- Where the new numbers have no room nothing changes, and else they stand behind the first.
use Rattle.std.proofs.Common.{arith}
use Rattle.machine.proofs.Stepping.{none-laid, all_laid}
use Rattle.machine.proofs.step.lay_behind.Goals as goal

pub returns-then-list-from-clause-lent : goal.returns-then-list-from-clause-lent
returns-then-list-from-clause-lent c =
    let a = c.args in
    (none-laid a.from a.new.now a.list.now (omega arith)).1

pub returns-clause-lent : goal.returns-clause-lent
returns-clause-lent c =
    let a = c.args in
    (all_laid a.from a.new.now a.list.now _ (omega arith) c.lay_numbers.ensures.lent).1
