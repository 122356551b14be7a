-- Two refusals that are one have the same number, line and column.
-- Assumes nothing.
use Rattle.std.proofs.Common.{◌≡◌, ap, ℕ, Ok, Err}
use Rattle.scan.specs.declared.Refusal.{Refusal}
use Rattle.scan.specs.Front.{Front, Refused}

-- the refusal, and one of nothing for a file
abbrev refusal_in : Front → Refusal
refusal_in (Ok t) = record { number = 0; line = 0; column = 0 }
refusal_in (Err refusal) = refusal

pub same-number : (number line column n l c : ℕ) → Refused number line column ≡ Refused n l c → number ≡ n
same-number number line column n l c e = ap (λ (f : Front). (refusal_in f).number) e

pub same-line : (number line column n l c : ℕ) → Refused number line column ≡ Refused n l c → line ≡ l
same-line number line column n l c e = ap (λ (f : Front). (refusal_in f).line) e

pub same-column : (number line column n l c : ℕ) → Refused number line column ≡ Refused n l c → column ≡ c
same-column number line column n l c e = ap (λ (f : Front). (refusal_in f).column) e
