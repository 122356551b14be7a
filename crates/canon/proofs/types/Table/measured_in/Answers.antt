use Rattle.header.specs.Versions.{rules_of}
use Rattle.canon.specs.Spent.{lent_table}
use Rattle.canon.proofs.Answers.{none-invalid, told-invalid, too_long, written}
use Rattle.canon.proofs.types.Table.measured_in.Goals as goal

pub returns-in-None : goal.returns-in-None
returns-in-None c =
    let a = c.args in
    let none = rw c.of.ensures.result at c.in-None.ensures in
    rw c.invalid_in.ensures (told-invalid (rules_of a.version) (lent_table a.self) a.most (none-invalid (rules_of a.version) (lent_table a.self) a.most none))

pub returns-in-Some-eq0 : goal.returns-in-Some-eq0
returns-in-Some-eq0 c =
    let a = c.args in
    too_long (rules_of a.version) (lent_table a.self) a.most c.in-Some-eq0.field-0 (rw c.of.ensures.result at c.in-Some-eq0.ensures) c.in-Some-eq0.field-0-test

pub returns-in-Some : goal.returns-in-Some
returns-in-Some c =
    let a = c.args in
    written (rules_of a.version) (lent_table a.self) a.most c.in-Some.left (rw c.of.ensures.result at c.in-Some.ensures) c.in-Some.left-test.1
