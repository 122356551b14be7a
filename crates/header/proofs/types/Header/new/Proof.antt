-- `header::Header::new` meets its contract: each way out by the tests that led there.
-- Assumes nothing.
use mathlib.Core.Bool.{true}
use mathlib.Core.List.{[], ◌∷◌}
use mathlib.Core.Path.{◌≡◌, sym, ap, ◌∙◌}
use borrow.Author.Rules.{rules}
use Rattle.calendar.specs.Clock.{told_instant}
use Rattle.header.specs.Header.{letters_listed}
use Rattle.header.specs.declared.types.Header.{Header}
use Rattle.header.proofs.Answers.{start_answer, no-letters, no_start, no-numbers, made}
use Rattle.header.proofs.types.Header.new.Statement.{statement}
use Rattle.header.proofs.types.Header.new.Tie as tie

returns : tie.Need-returns-then-not-letters_listed
returns c =
    let asked = c in
    c.refuse.ensures
    ∙ sym (no-letters _ _ _ _ _ _ _ _ _ _ (sym asked.letters_listed.ensures ∙ c.if-not-letters_listed.true))

-- past the first test every letter is listed
listed : (c : tie.Else-not-letters_listed) →
    letters_listed c.args.mode c.args.texts c.args.file_type
    c.args.time_system
    ≡ true
listed c = sym c.letters_listed.ensures ∙ c.if-not-letters_listed.false

returns-2 : tie.Need-returns-in_default
unfolding told_instant
returns-2 c =
    let told = c in
    let asked = c in
    c.refuse-in_default.ensures
    ∙ sym
    (no_start _ _ _ _ _ _ _ _ _ _ (listed c.before.before.before) (sym asked.instant_of.ensures ∙ ap told_instant told.in_default.is))

-- where the start has an instant, the calendar gave it
given : (c : tie.In-Some) → start_answer c.args.start ≡ 0 ∷ c.in-Some.start8 ∷ []
unfolding told_instant
given c = sym c.instant_of.ensures ∙ ap told_instant c.in-Some.is

returns-3 : tie.Need-returns-then-not-numbers_bounded
returns-3 c =
    let asked = c in
    let at = c in
    c.refuse-then-not-numbers_bounded.ensures
    ∙ sym
    (no-numbers _ _ _ _ _ _ _ _ _ _ (listed c.before.before.before.before.before) _ (given c.before.before.before) (sym asked.numbers_bounded.ensures ∙ c.if-not-numbers_bounded.true))

returns-4 : tie.Need-returns
returns-4 c =
    let asked = c in
    let at = c in
    ap (λ (h : Header). record { refusal = 0; header = h }) c.of.ensures
    ∙ sym
    (made _ _ _ _ _ _ _ _ _ _ (listed c.before.before.before.before.before) _ (given c.before.before.before) (sym asked.numbers_bounded.ensures ∙ c.if-not-numbers_bounded.false))

pub new_spec : {M : Type 1} → statement M
new_spec =
    tie.close
    (tie.spec
    (λ c κs. search rules)
    (λ c κs. search rules)
    returns
    (λ c κs. search rules)
    (λ c. search rules)
    (λ c. search rules)
    (λ c κs. search rules)
    returns-2
    (λ c κs. search rules)
    (λ c κs. search rules)
    returns-3
    (λ c κs. search rules)
    returns-4)
