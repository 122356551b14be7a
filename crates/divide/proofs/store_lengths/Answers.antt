-- A turn stores the length of the file that stands first in the rest.
use Rattle.std.proofs.Common.{refl, arith}
use Rattle.divide.proofs.Cutting.{storing-first, stored-all, file-lent, cut-there, stores-length}
use Rattle.divide.proofs.store_lengths.Goals as goal

pub loop-stored-init : goal.loop-stored-init
loop-stored-init c = record { kept = refl; storing = storing-first c.args.stretch.now c.args.lengths.now }

pub file_length-size-requires : goal.file_length-size-requires
file_length-size-requires c =
    let a = c.args in
    let l = c.loop-stored in
    file-lent a.stretch.now a.lengths.now l.lengths l.stored l.rest l.invariant.storing (omega arith)

pub overflow_add-rest : goal.overflow_add-rest
overflow_add-rest c =
    let a = c.args in
    let l = c.loop-stored in
    let cut = cut-there a.stretch.now a.lengths.now l.lengths l.stored l.rest l.invariant.storing (omega arith) c.file_length-size.result c.file_length-size.ensures in
    omega (arith, cut.within)

pub loop-stored-preserved : goal.loop-stored-preserved
loop-stored-preserved c =
    let a = c.args in
    let l = c.loop-stored in
    let next = stores-length a.stretch.now a.lengths.now l.lengths l.stored l.rest l.invariant.storing (omega arith) c.file_length-size.result c.file_length-size.ensures (omega (arith, l.invariant.kept)) in
    record { kept = next.has.kept; storing = next }

pub returns : goal.returns
returns c =
    let a = c.args in
    let l = c.loop-stored in
    stored-all a.stretch.now a.lengths.now l.lengths l.stored l.rest l.invariant.storing a.count (omega arith) c.requires.1
