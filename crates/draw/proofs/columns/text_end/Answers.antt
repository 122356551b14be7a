use Rattle.std.proofs.Common.{◌≡◌, ◌≤◌, ◌-◌, List, ℕ, length, min, take, sym, ap, ◌∙◌, arith}
use borrow.Author.Tests.{ne_eqb}
use Rattle.layout.specs.Kind.{shown_text}
use Rattle.layout.specs.Line.{trimmed}
use Rattle.layout.proofs.Shown.{text-wide}
use Rattle.layout.proofs.Inked.{text-ends}
use Rattle.layout.proofs.Lines.{trimmed-shorter}
use Rattle.draw.proofs.columns.text_end.Goals as goal

-- what is found in the text's part is where the shown text ends
found : (w : ℕ) (words : List ℕ) {part n : ℕ} → part ≡ min (length words) w → n ≡ length (trimmed (take part words)) → n ≡ length (trimmed (shown_text w words))
found w words fewer told = told ∙ ap (λ (k : ℕ). length (trimmed (take k words))) fewer ∙ sym (text-ends w words)

pub returns-then-n-eq0 : goal.returns-then-n-eq0
returns-then-n-eq0 c =
    let a = c.args in
    rw (← found (a.last - (a.first - 1)) a.text.now c.min-shown.ensures c.trimmed_length-n.ensures.result, c.if-n-eq0.true)

pub overflow_add-result : goal.overflow_add-result
overflow_add-result c =
    let words = c.args.text.now in
    let w = c.args.last - (c.args.first - 1) in
    let short : c.trimmed_length-n.result ≤ 80 =
    omega (arith, found w words c.min-shown.ensures c.trimmed_length-n.ensures.result, trimmed-shorter (shown_text w words), text-wide w words) in
    record { fits = omega arith }

pub returns : goal.returns
returns c =
    let a = c.args in
    rw (← found (a.last - (a.first - 1)) a.text.now c.min-shown.ensures c.trimmed_length-n.ensures.result, ne_eqb c.trimmed_length-n.result 0 c.if-n-eq0.false)
