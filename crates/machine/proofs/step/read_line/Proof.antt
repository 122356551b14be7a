-- `machine::step::read_line` meets its contract.
-- Assumes nothing.
use Rattle.std.proofs.Common.{◌≡◌, ℕ, ◌<◌, ◌≤◌, true, false, length, sym, ◌∙◌, arith, rules}
use Rattle.machine.specs.declared.types.State.{State}
use Rattle.machine.specs.declared.types.LineRead.TheVariants as found
use Rattle.machine.proofs.Stepping.{goes_on, read_same, read-other, read-identifiers}
use Rattle.machine.proofs.step.read_line.Statement.{statement}
use Rattle.machine.proofs.step.read_line.Tie as tie

returns : tie.Need-returns-in_default
returns c =
    let read = c in
    let a = read.args in
    read_same a.rules a.bytes.now a.at a.state a.identifiers.now read.line_known-found.result read.line_known-found.ensures c.in_default.in_default-own.keys2

-- where the line goes on: its bounds
bounds : (c : tie.After-line_known-found) (place : ℕ) (s' : State) → c.line_known-found.result ≡ found.Next place s'
    → let a = c.args in
    (a.at < place) × (place ≤ length a.bytes.now)
bounds c place s' is =
    let a = c.args in
    let g = (goes_on a.rules a.bytes.now a.at a.state a.identifiers.now c.line_known-found.result place s' c.line_known-found.ensures is).lined-so in
    (g.starts, g.within)

returns-2 : tie.Need-returns-then-state-ne-SATELLITES_KIND
returns-2 c =
    let told = c in
    let read = c in
    let a = read.args in
    read-other a.rules a.bytes.now a.at a.state a.identifiers.now read.line_known-found.result _ _ read.line_known-found.ensures told.in-Next.is c.if-state-ne-SATELLITES_KIND.true

returns-3 : tie.Need-returns-then-keep_identifiers
returns-3 c =
    let keeping = c in
    let due = c in
    let told = c in
    let read = c in
    let a = read.args in
    read-identifiers a.rules a.bytes.now a.at a.state a.identifiers.now read.line_known-found.result _ _ read.line_known-found.ensures told.in-Next.is
    due.if-state-ne-SATELLITES_KIND.false true _ (sym c.if-keep_identifiers.true ∙ keeping.keep_identifiers.ensures.0) keeping.keep_identifiers.ensures.1

returns-4 : tie.Need-returns
returns-4 c =
    let keeping = c in
    let due = c in
    let told = c in
    let read = c in
    let a = read.args in
    read-identifiers a.rules a.bytes.now a.at a.state a.identifiers.now read.line_known-found.result _ _ read.line_known-found.ensures told.in-Next.is
    due.if-state-ne-SATELLITES_KIND.false false _ (sym c.if-keep_identifiers.false ∙ keeping.keep_identifiers.ensures.0) keeping.keep_identifiers.ensures.1

pub read_line_spec : {M : Type 1} → statement M
read_line_spec =
    tie.close
    (tie.spec
    (λ c κs. search rules)
    (λ c. search rules)
    (λ c. search rules)
    returns
    (λ c. search rules)
    returns-2
    (λ c. let h = bounds c.before.before.before.before _ _ c.in-Next.is in omega (arith, h))
    (λ c. let h = bounds c.before.before.before.before _ _ c.in-Next.is in omega (arith, h))
    (λ c. let h = bounds c.before.before.before.before _ _ c.in-Next.is in omega (arith, h))
    (λ c. let h = bounds c.before.before.before.before _ _ c.in-Next.is in omega (arith, h))
    (λ c κs. search rules)
    (λ c. search rules)
    returns-3
    (λ c. search rules)
    returns-4)
