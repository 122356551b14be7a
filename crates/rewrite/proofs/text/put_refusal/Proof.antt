-- `rewrite::text::put_refusal` meets its contract: the number, the line, the column and LF, each directly after the one before.
-- Assumes nothing.
use mathlib.Core.List.{List, [], ◌∷◌, ◌++◌}
use Prim.Native.Nat.{ℕ, ◌+◌, ◌≤◌}
use native.Mathlib.Omega.{arith}
use borrow.Author.Rules.{rules}
use lib.ListN.{length, length-append}
use Rattle.writer.proofs.Laying.{then}
use Rattle.rewrite.specs.Printed.{refused_word, line_word, column_word, said, refused_text}
use Rattle.rewrite.proofs.Saying.{Next, next}
use Rattle.rewrite.proofs.text.put_refusal.Statement.{statement}
use Rattle.rewrite.proofs.text.put_refusal.Tie as tie

abbrev first : tie.Start → List ℕ
first c = said refused_word c.args.number

abbrev second : tie.Start → List ℕ
second c = said line_word c.args.line

abbrev third : tie.Start → List ℕ
third c = said column_word c.args.column

room : (c : tie.Start) → length (((first c ++ second c) ++ third c) ++ (10 ∷ [])) ≤ length c.args.out.now
unfolding refused_text
room c = c.requires

three-room : (c : tie.Start) → length ((first c ++ second c) ++ third c) ≤ length c.args.out.now
three-room c = omega (arith, room c, length-append ((first c ++ second c) ++ third c) (10 ∷ []))

both-room : (c : tie.Start) → length (first c ++ second c) ≤ length c.args.out.now
both-room c = omega (arith, three-room c, length-append (first c ++ second c) (third c))

put-said-requires : tie.Need-put_said-at-requires
put-said-requires c κs =
    let start = c.before.before.before.before in
    omega (arith, both-room c.before.before.before.before, length-append (first start) (second start))

-- after the number the line
abbrev start : tie.After-put_said-at → tie.Start
start c = c.before.before.before.before.before

after_first : (c : tie.After-put_said-at)
    → Next (first (start c)) (second (start c)) (start c).args.out.now c.put_said-at.result c.put_said-at.new.out
after_first c = next (first (start c)) (second (start c)) (start c).args.out.now (both-room (start c)) c.put_said-at.ensures

-- after the line the column
abbrev earlier : tie.After-put_said-at-2 → tie.After-put_said-at
earlier c = c.before.before.before.before.before.before

abbrev at-2 : tie.After-put_said-at-2 → ℕ
at-2 c = (earlier c).put_said-at.result + c.put_said-at-2.result

abbrev out-2 : tie.After-put_said-at-2 → List ℕ
out-2 c = then (earlier c).put_said-at.result (earlier c).put_said-at.new.out c.put_said-at-2.new.out

after-second : (c : tie.After-put_said-at-2)
    → Next (first (start (earlier c)) ++ second (start (earlier c))) (third (start (earlier c))) (start (earlier c)).args.out.now (at-2 c) (out-2 c)
after-second c =
    let begin = start (earlier c) in
    next (first begin ++ second begin) (third begin) begin.args.out.now (three-room begin) ((after_first (earlier c)).both c.put_said-at-2.ensures)

-- after the column LF
abbrev before-column : tie.After-put_said-at-3 → tie.After-put_said-at-2
before-column c = c.before.before.before.before.before.before

abbrev begun : tie.After-put_said-at-3 → tie.Start
begun c = start (earlier (before-column c))

abbrev at-3 : tie.After-put_said-at-3 → ℕ
at-3 c = at-2 (before-column c) + c.put_said-at-3.result

abbrev out-3 : tie.After-put_said-at-3 → List ℕ
out-3 c = then (at-2 (before-column c)) (out-2 (before-column c)) c.put_said-at-3.new.out

after-third : (c : tie.After-put_said-at-3)
    → Next ((first (begun c) ++ second (begun c)) ++ third (begun c)) (10 ∷ []) (begun c).args.out.now (at-3 c) (out-3 c)
after-third c =
    let begin = begun c in
    next ((first begin ++ second begin) ++ third begin) (10 ∷ []) begin.args.out.now (room begin) ((after-second (before-column c)).both c.put_said-at-3.ensures)

add_at : tie.Need-overflow_add-at
add_at c =
    let lined = c.before.before in
    omega (arith, (start (earlier lined)).well_formed, (after_first (earlier lined)).ends, lined.put_said-at-2.ensures.length-told)

add-at-2 : tie.Need-overflow_add-at-2
add-at-2 c =
    let told = c.before.before in
    omega (arith, (begun told).well_formed, (after-second (before-column told)).ends, told.put_said-at-3.ensures.length-told)

add-result : tie.Need-overflow_add-result
add-result c =
    let told = c.before.before.before.before.before.before.before.before in
    omega (arith, (begun told).well_formed, (after-third c.before.before.before.before.before.before.before.before).ends, c.put_bytes.ensures.length-told)

returns : tie.Need-returns
unfolding refused_text
returns c = (after-third c.before.before.before.before.before.before.before.before).both c.put_bytes.ensures

pub put_refusal_spec : {M : Type 1} → statement M
put_refusal_spec =
    tie.close
    (tie.spec
    put-said-requires
    (λ c. (after_first c.before.before.before.before).within)
    (λ c. (after_first c.before.before.before.before).within)
    (λ c. search rules)
    (λ c κs. (after_first c.before.before.before.before.before).room)
    add_at
    (λ c. (after-second c.before.before.before.before).within)
    (λ c. (after-second c.before.before.before.before).within)
    (λ c. search rules)
    (λ c κs. (after-second c.before.before.before.before.before).room)
    add-at-2
    (λ c. (after-third c.before.before.before.before).within)
    (λ c. (after-third c.before.before.before.before).within)
    (λ c. search rules)
    (λ c κs. (after-third c.before.before.before.before.before).room)
    add-result
    (λ c. search rules)
    returns)
