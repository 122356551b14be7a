-- `writer::whole::put_opening` meets its contract: the lines before the comments, kind by kind.
-- Assumes nothing.
use mathlib.Core.Path.{◌≡◌}
use mathlib.Core.Bool.{true, false}
use mathlib.Core.List.{List, [], ◌∷◌, ◌++◌}
use Prim.Native.Nat.{ℕ, ◌+◌, ◌-◌}
use native.Mathlib.Omega.{arith}
use borrow.Author.Rules.{rules}
use lib.ListN.{length, take, drop}
use Rattle.laws.proofs.Lists.{rest_part}
use Rattle.header.specs.Rules.{slot_lines}
use Rattle.record.specs.Opening.{first_line, second_line}
use Rattle.record.specs.SlotLines.{satellites_line}
use Rattle.canon.specs.Canonical.{first_shown, second_shown, satellites_shown, slot_lines_of, descriptor_lines, lines_before}
use Rattle.writer.proofs.Blocks.{rest-past}
use Rattle.writer.proofs.Laying.{Laying, then, laying-first, first-room, laying-alone, laying-within, laying-fits, laying-room, laying-more, laying-end}
use Rattle.writer.proofs.whole.put_opening.Statement.{statement}
use Rattle.writer.proofs.whole.put_opening.Tie as tie

abbrev opening : tie.Start → List (List ℕ)
opening c =
    first_line c.args.rules (first_shown c.args.h)
    ∷ second_line (second_shown c.args.h)
    ∷ satellites_line c.args.rules (satellites_shown c.args.h.satellites c.args.identifiers.now)
    ∷ []

abbrev identifiers : tie.Start → List (List ℕ)
identifiers c = slot_lines_of false (slot_lines c.args.h.satellites - 1) (drop 17 c.args.identifiers.now)

abbrev exponents : tie.Start → List (List ℕ)
exponents c = slot_lines_of true (slot_lines c.args.h.satellites) c.args.exponents.now

abbrev descriptors : tie.Start → List (List ℕ)
descriptors c = descriptor_lines c.args.h

abbrev Laid : tie.Start → ℕ → List ℕ → (tie.Start → List (List ℕ)) → Type 0
Laid c at now rest = Laying (opening c ++ (identifiers c ++ (exponents c ++ descriptors c))) c.args.out.now at now (rest c)

put-first-requires : tie.Need-put_first-at-requires
unfolding lines_before
put-first-requires c κs =
    let start = c.before.before.before.before.before in
    (start.requires.0, first-room (opening start) (identifiers start ++ (exponents start ++ descriptors start)) start.args.out.now start.requires.1)

first-laid : (c : tie.After-put_first-at)
    → Laid c.before.before.before.before.before.before c.put_first-at.result c.put_first-at.new.out (λ start. identifiers start ++ (exponents start ++ descriptors start))
unfolding lines_before
first-laid c =
    let start = c.before.before.before.before.before.before in
    laying-first (opening start) (identifiers start ++ (exponents start ++ descriptors start)) start.requires.1 c.put_first-at.ensures

sub-put-slots : tie.Need-overflow_sub-lines
unfolding slot_lines
sub-put-slots c = omega (arith, c.slot_lines-lines.ensures)

-- the identifiers past the first line
rest-identifiers : (c : tie.After-fewer-first)
    → slot_lines_of false (c.slot_lines-lines.result - 1)
    (take (length c.args.identifiers.now - c.fewer-first.result) (drop c.fewer-first.result c.args.identifiers.now))
    ≡ identifiers c.before.before.before.before.before.before.before.before.before
rest-identifiers c =
    let all = c.args.identifiers.now in
    rw (rest_part all c.fewer-first.result, c.fewer-first.ensures, rest-past all 17, c.slot_lines-lines.ensures)

put-slots-requires : tie.Need-put_slots-at-requires
put-slots-requires c κs =
    let start = c.before.before.before.before.before.before.before.before.before.before.before in
    rw (rest-identifiers c.before.before)
    (laying-room (identifiers start) (exponents start ++ descriptors start) (first-laid c.before.before.before.before.before))

abbrev at-2 : tie.After-put_slots-at → ℕ
at-2 c = c.put_first-at.result + c.put_slots-at.result

abbrev out-2 : tie.After-put_slots-at → List ℕ
out-2 c = then c.put_first-at.result c.put_first-at.new.out c.put_slots-at.new.out

identifiers-laid : (c : tie.After-put_slots-at) → Laid c.before.before.before.before.before.before.before.before.before.before.before.before (at-2 c) (out-2 c) (λ start. exponents start ++ descriptors start)
identifiers-laid c =
    let start = c.before.before.before.before.before.before.before.before.before.before.before.before in
    laying-more (identifiers start) (exponents start ++ descriptors start) (first-laid c.before.before.before.before.before.before)
    (rw (rest-identifiers c.before.before.before) at c.put_slots-at.ensures)

add_at : tie.Need-overflow_add-at
add_at c = omega (arith, c.well_formed, laying-fits (identifiers-laid c.before.before))

put-slots-requires-2 : tie.Need-put_slots-at-requires-2
put-slots-requires-2 c κs =
    let start = c.before.before.before.before.before.before.before.before.before.before.before.before.before.before.before in
    rw c.slot_lines-lines.ensures
    (laying-room (exponents start) (descriptors start) (identifiers-laid c.before.before.before))

abbrev at-3 : tie.After-put_slots-at-2 → ℕ
at-3 c = at-2 c.before.before.before.before + c.put_slots-at-2.result

abbrev out-3 : tie.After-put_slots-at-2 → List ℕ
out-3 c = then (at-2 c.before.before.before.before) (out-2 c.before.before.before.before) c.put_slots-at-2.new.out

exponents-laid : (c : tie.After-put_slots-at-2) → Laid c.before.before.before.before.before.before.before.before.before.before.before.before.before.before.before.before (at-3 c) (out-3 c) (λ start. descriptors start ++ [])
exponents-laid c =
    let start = c.before.before.before.before.before.before.before.before.before.before.before.before.before.before.before.before in
    laying-alone
    (laying-more (exponents start) (descriptors start) (identifiers-laid c.before.before.before.before)
    (rw c.slot_lines-lines.ensures at c.put_slots-at-2.ensures))

add-at-2 : tie.Need-overflow_add-at-2
add-at-2 c = omega (arith, c.well_formed, laying-fits (exponents-laid c.before.before))

put-descriptors-requires : tie.Need-put_descriptors-requires
put-descriptors-requires c κs = laying-room (descriptors c.before.before.before.before.before.before.before.before.before.before.before.before.before.before.before.before.before.before.before) [] (exponents-laid c.before.before.before)

all_laid : (c : tie.After-put_descriptors)
    → Laid c.before.before.before.before.before.before.before.before.before.before.before.before.before.before.before.before.before.before.before.before (at-3 c.before.before.before.before + c.put_descriptors.result)
    (then (at-3 c.before.before.before.before) (out-3 c.before.before.before.before) c.put_descriptors.new.out) (λ start. [])
all_laid c = laying-more (descriptors c.before.before.before.before.before.before.before.before.before.before.before.before.before.before.before.before.before.before.before.before) [] (exponents-laid c.before.before.before.before) c.put_descriptors.ensures

add-result : tie.Need-overflow_add-result
add-result c = omega (arith, c.well_formed, laying-fits (all_laid c.before.before))

returns : tie.Need-returns
unfolding lines_before
returns c = laying-end (all_laid c.before.before)

pub put_opening_spec : {M : Type 1} → statement M
put_opening_spec =
    tie.close
    (tie.spec
    (λ c κs. search rules)
    put-first-requires
    (λ c κs. search rules)
    sub-put-slots
    (λ c. search rules)
    (λ c. search rules)
    (λ c. search rules)
    (λ c. search rules)
    (λ c. laying-within (first-laid c.before.before.before.before))
    (λ c. laying-within (first-laid c.before.before.before.before))
    (λ c. search rules)
    put-slots-requires
    add_at
    (λ c. laying-within (identifiers-laid c.before.before))
    (λ c. laying-within (identifiers-laid c.before.before))
    (λ c. search rules)
    put-slots-requires-2
    add-at-2
    (λ c. laying-within (exponents-laid c.before.before))
    (λ c. laying-within (exponents-laid c.before.before))
    (λ c. search rules)
    put-descriptors-requires
    add-result
    (λ c. search rules)
    returns)
