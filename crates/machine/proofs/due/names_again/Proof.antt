-- `machine::due::names_again` meets its contract: no `+ ` line is due, or no line is left, or the slots of the line say it.
-- Assumes nothing.
use Rattle.std.proofs.Common.{◌≡◌, ℕ, ◌+◌, true, false, ◌&&◌, eqb, List, [], ◌∷◌, length, drop, sym, refl, ap, ◌∙◌, subst, arith, rules, eq-eqb, ne_eqb}
use denote.Enum.Declared.{tag_of}
use types.Run.{OneOf, miss}
use Rattle.lines.specs.Lines.{lines_of}
use Rattle.layout.specs.Fault.{clean}
use Rattle.layout.specs.Line.{padded}
use Rattle.lines.proofs.Ends.{no_line, first-line}
use Rattle.record.specs.LineKinds.{satellites_kind}
use Rattle.header.specs.declared.types.Rules.{Rules}
use Rattle.machine.specs.Due.{is_eight, again_at}
use Rattle.machine.specs.Faults.{slots_fault}
use Rattle.machine.specs.Step.{step_of, read_as, read_first, line_known}
use Rattle.machine.specs.Told.{told_read}
use Rattle.machine.specs.declared.types.State.{State}
use Rattle.machine.specs.declared.types.Verdict.{Verdict}
use Rattle.machine.specs.declared.types.Verdict.TheVariants as verdict
use Rattle.machine.specs.declared.types.LineRead.{LineRead}
use Rattle.machine.specs.declared.types.LineRead.TheVariants as found
use Rattle.machine.proofs.Told.{told_read-one}
use Rattle.machine.specs.contracts.types.LineRead.{the_type}
use Rattle.machine.proofs.due.names_again.Statement.{statement}
use Rattle.machine.proofs.due.names_again.Tie as tie

module _ (rules : Rules) (s : State) (identifiers : List ℕ) where
  not-due : (lines : List (List ℕ)) → eqb s.due satellites_kind ≡ false → false ≡ again_at rules s identifiers lines
  unfolding again_at
  not-due [] e = refl
  not-due (l ∷ ls) e = rw e

  none_left : (lines : List (List ℕ)) → lines ≡ [] → false ≡ again_at rules s identifiers lines
  unfolding again_at
  none_left lines e = rw e

-- what a verdict that was told so is: no fault, or a fault of this number
none_told : (v : Verdict) (place : ℕ) → OneOf (0 ∷ 2 ∷ 3 ∷ []) (tag_of the_type (read_as v place)) → is_eight v ≡ false
unfolding is_eight
none_told (verdict.Fault number column) place k = absurd (miss (0 ∷ 2 ∷ 3 ∷ []) 1 tt k)
none_told (verdict.Next s) place k = refl
none_told verdict.Finished place k = refl

number-told : (v : Verdict) (place number column : ℕ) → read_as v place ≡ found.Fault number column → is_eight v ≡ eqb number 8
unfolding is_eight
number-told (verdict.Fault m c) place number column e = let same : m ≡ number = cc in ap (λ (n : ℕ). eqb n 8) same
number-told (verdict.Next s) place number column e = let z : ◌≡◌ {A = ℕ} 0 1 = cc in absurd (omega arith)
number-told verdict.Finished place number column e = let z : ◌≡◌ {A = ℕ} 0 1 = cc in absurd (omega arith)

-- a `+ ` line is due, there is a line, and this is what the line reader finds there
record LineAt (rules : Rules) (s : State) (identifiers bytes : List ℕ) (at : ℕ) (r : LineRead) : Type 0 where
  line : List ℕ
  after : List (List ℕ)
  first : lines_of (drop at bytes) ≡ line ∷ after
  due : eqb s.due satellites_kind ≡ true
  told : told_read r ≡ told_read (line_known rules bytes at s identifiers)

-- whether it is refused with 8, and then what its slots say
module _ (rules : Rules) (s : State) (identifiers bytes : List ℕ) (at : ℕ) (r : LineRead) (g : LineAt rules s identifiers bytes at r) where
  abbrev does : Verdict
  does = step_of rules s identifiers g.line

  here : again_at rules s identifiers (lines_of (drop at bytes)) ≡ (is_eight does && eqb (slots_fault rules s (padded g.line)) clean)
  unfolding again_at
  here = rw (g.first, g.due) refl

  not_eight : is_eight does ≡ false → false ≡ again_at rules s identifiers (lines_of (drop at bytes))
  not_eight e = sym (here ∙ rw e refl)

  eight : is_eight does ≡ true → eqb (slots_fault rules s (padded g.line)) clean ≡ again_at rules s identifiers (lines_of (drop at bytes))
  eight e = sym (here ∙ rw e refl)

  is : r ≡ read_as does (at + length g.line + 1)
  unfolding read_first
  is = told_read-one r _ g.told ∙ rw g.first refl

  no-fault : OneOf (0 ∷ 2 ∷ 3 ∷ []) (tag_of the_type r) → is_eight does ≡ false
  no-fault k = none_told does _ (subst (λ (x : LineRead). OneOf (0 ∷ 2 ∷ 3 ∷ []) (tag_of the_type x)) is k)

  number_is : (number column : ℕ) → r ≡ found.Fault number column → is_eight does ≡ eqb number 8
  number_is number column e = number-told does _ number column (sym is ∙ e)

returns : tie.Need-returns-then-state-ne-SATELLITES_KIND
returns c = let a = c.args in not-due a.rules a.state a.identifiers.now _ (ne_eqb _ _ c.if-state-ne-SATELLITES_KIND.true)

returns-2 : tie.Need-returns-then-end-bytes
returns-2 c =
    let ended = c in
    let a = ended.args in
    none_left a.rules a.state a.identifiers.now _ (no_line a.bytes.now a.at ended.line_end-end.result ended.line_end-end.ensures c.if-end-bytes.true)

-- where the line has been read
read : (c : tie.After-line_known)
    → let a = c.args in
    LineAt a.rules a.state a.identifiers.now a.bytes.now a.at c.line_known.result
read c =
    let ended = c in
    let a = ended.args in
    record {
      line = _;
      after = _;
      first = first-line a.bytes.now a.at ended.line_end-end.result ended.line_end-end.ensures c.if-end-bytes.false;
      due = eq-eqb _ _ ended.if-state-ne-SATELLITES_KIND.false;
      told = c.line_known.ensures;
    }

returns-3 : tie.Need-returns-in_default
returns-3 c = let g = read c.before in not_eight _ _ _ _ _ _ g (no-fault _ _ _ _ _ _ g c.in_default.in_default-own.keys2)

returns-4 : tie.Need-returns-then-number-ne8
returns-4 c =
    let told = c in
    let g = read c.before.before in
    not_eight _ _ _ _ _ _ g (number_is _ _ _ _ _ _ g _ _ told.in-Fault.is ∙ ne_eqb _ _ c.if-number-ne8.true)

part-pad-end : tie.Need-slice_bounds-pad-end
part-pad-end c = let told = c in omega (arith, told.if-end-bytes.false)

returns-5 : tie.Need-returns
unfolding read
returns-5 c =
    let tested = c in
    let told = c in
    let a = told.args in
    let g = read c.before.before.before.before.before.before in
    c.slots_clean.ensures
    ∙ ap (λ (line : List ℕ). eqb (slots_fault a.rules a.state line) clean) c.pad-padded.ensures
    ∙ eight _ _ _ _ _ _ g (number_is _ _ _ _ _ _ g _ _ told.in-Fault.is ∙ eq-eqb _ _ tested.if-number-ne8.false)

pub names_again_spec : {M : Type 1} → statement M
names_again_spec =
    tie.close
    (tie.spec
    returns
    (λ c κs. search rules)
    returns-2
    (λ c κs. search rules)
    (λ c. search rules)
    returns-3
    returns-4
    (λ c. search rules)
    (λ c. search rules)
    part-pad-end
    (λ c κs. search rules)
    (λ c κs. search rules)
    returns-5)
