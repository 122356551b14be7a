use Rattle.std.proofs.Common.{arith, rules, ℕ, ◌+◌, ◌≤◌, ◌<◌, ◌≡◌, length, get_or}
use Rattle.std.proofs.iter.runs.Made.{chains}
use Rattle.layout.proofs.Lines.{trimmed_by}
use Rattle.layout.proofs.trimmed_length.Goals as goal

pub returns-in-Some : goal.returns-in-Some
returns-in-Some c =
    let line = c.args.line.now in
    let last = c.in-Some.last in
    let within : last + 1 ≤ length line = search rules in
    let blank : (k : ℕ) → last + 1 ≤ k → k < length line → get_or line k 0 ≡ 32 = λ k p q. search (rules, chains) in
    let kept : (k : ℕ) → last + 1 ≡ k + 1 → get_or line k 0 ≡ 32 → ⊥ = λ k e h. search (rules, chains) in
    record { result = trimmed_by line (last + 1) within blank kept }

pub returns-in-None : goal.returns-in-None
returns-in-None c =
    let line = c.args.line.now in
    let blank : (k : ℕ) → 0 ≤ k → k < length line → get_or line k 0 ≡ 32 = λ k p q. search (rules, chains) in
    record { result = trimmed_by line 0 (omega arith) blank (λ k e h. absurd (omega arith)) }
