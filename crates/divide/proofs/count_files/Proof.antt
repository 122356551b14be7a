-- `divide::count_files` meets its contract. The loop's invariant and its turn are in `Cutting`.
-- Assumes nothing.
use mathlib.Core.Path.{◌≡◌, ap, ◌∙◌}
use Prim.Native.Nat.{◌-◌}
use native.Mathlib.Omega.{arith}
use borrow.Author.Rules.{rules}
use lib.ListN.{length, take, drop}
use Rattle.header.specs.Versions.{rules_in}
use Rattle.header.specs.declared.types.Rules.{Rules}
use Rattle.scan.specs.Run.{scan_of}
use Rattle.scan.specs.Told.{told_front}
use Rattle.divide.proofs.Cutting.{Cut, Counting, counting-first, counted-end, counted-refused, file-here, counted-over, counts-file}
use Rattle.divide.proofs.count_files.Statement.{statement}
use Rattle.divide.proofs.count_files.Tie as tie

abbrev invariant-loop : tie.invariant-loop-rest
invariant-loop stretch room count₀ rest₀ count rest = Counting stretch room count rest

abbrev decreases-loop : tie.decreases-loop-rest
decreases-loop stretch room count₀ rest₀ count rest = length stretch - rest

loop-holds : tie.Need-loop-rest-init invariant-loop decreases-loop
loop-holds c = let a = c.args in counting-first a.stretch.now a.room

-- what stands at the front of the rest, by the rules that it tells
seen : (c : tie.After-scan_front invariant-loop decreases-loop) → (
    let at-loop = c.before.before.before.before in
    let bytes = at-loop.args.stretch.now in
    let left = take (length bytes - at-loop.loop-rest.rest) (drop at-loop.loop-rest.rest bytes) in
    told_front c.scan_front.result ≡ told_front (scan_of (rules_in left) left))
seen c =
    let at-loop = c.before.before.before.before in
    let bytes = at-loop.args.stretch.now in
    let left = take (length bytes - at-loop.loop-rest.rest) (drop at-loop.loop-rest.rest bytes) in
    c.scan_front.ensures ∙ ap (λ (rules : Rules). told_front (scan_of rules left)) c.told_by.ensures

returns : tie.Need-returns-in-Err invariant-loop decreases-loop
returns c =
    let known = c.in-Err in
    let ran = c in
    let turn = c in
    let at-loop = turn.before in
    let a = at-loop.args in
    c.answer.ensures
    ∙ counted-refused a.stretch.now a.room at-loop.loop-rest.count at-loop.loop-rest.rest at-loop.loop-rest.invariant
    ran.scan_front.result (seen c.before.before) known.refusal.number known.refusal.line known.refusal.column turn.loop-rest-test.true known.is

-- where the rest begins with a file
file-there : (c : tie.In-Ok invariant-loop decreases-loop)
    → Cut c.args.stretch.now
    c.loop-rest.rest c.in-Ok.tally.end
file-there c =
    let ran = c in
    let at-loop = ran.before.before.before.before in
    let a = at-loop.args in
    file-here a.stretch.now a.room at-loop.loop-rest.count at-loop.loop-rest.rest at-loop.loop-rest.invariant
    ran.scan_front.result (seen c.before) c.in-Ok.tally c.in-Ok.is

returns-2 : tie.Need-returns-then-count-room invariant-loop decreases-loop
returns-2 c =
    let known = c in
    let ran = c in
    let at-loop = ran.before.before.before.before in
    let a = at-loop.args in
    c.answer-then-count-room.ensures
    ∙ counted-over a.stretch.now a.room at-loop.loop-rest.count at-loop.loop-rest.rest at-loop.loop-rest.invariant
    ran.scan_front.result (seen c.before.before.before) known.in-Ok.tally known.in-Ok.is (omega (arith, c.if-count-room.true))

add-rest : tie.Need-overflow_add-rest invariant-loop decreases-loop
add-rest c = omega (arith, (file-there c.before.before).within)

loop-less : tie.Need-loop-rest-smaller invariant-loop decreases-loop
loop-less c = let cut = file-there c.before.before in omega (arith, cut.byte, cut.within)

loop-again : tie.Need-loop-rest-preserved invariant-loop decreases-loop
loop-again c =
    let known = c in
    let ran = c in
    let at-loop = ran.before.before.before.before in
    let a = at-loop.args in
    counts-file a.stretch.now a.room at-loop.loop-rest.count at-loop.loop-rest.rest at-loop.loop-rest.invariant
    ran.scan_front.result (seen c.before.before.before) known.in-Ok.tally known.in-Ok.is (omega (arith, c.if-count-room.false))

returns-3 : tie.Need-returns invariant-loop decreases-loop
returns-3 c =
    let at-loop = c.before.before in
    let a = at-loop.args in
    c.answer-2.ensures
    ∙ counted-end a.stretch.now a.room at-loop.loop-rest.count at-loop.loop-rest.rest at-loop.loop-rest.invariant c.loop-rest-test.false

pub count_files_spec : {M : Type 1} → statement M
count_files_spec =
    tie.close
    (tie.spec
    invariant-loop
    decreases-loop
    loop-holds
    (λ c. search rules)
    (λ c. search rules)
    (λ c. search rules)
    (λ c κs. search rules)
    (λ c κs. search rules)
    (λ c. search rules)
    (λ c κs. search rules)
    returns
    (λ c. search rules)
    (λ c. search rules)
    (λ c κs. search rules)
    returns-2
    add-rest
    loop-less
    loop-again
    (λ c κs. search rules)
    returns-3)
