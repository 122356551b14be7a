-- The machine accepts exactly the files of the plain definition: their lines end a run, and a run that ends has read such lines.
-- Assumes nothing.
use mathlib.Core.Path.{◌≡◌, refl, sym, ap, ◌∙◌, subst}
use mathlib.Core.Bool.{true, false}
use mathlib.Core.List.{List, [], ◌∷◌, ◌++◌}
use Prim.Native.Nat.{ℕ, suc, ◌-◌, ◌≤◌}
use native.Mathlib.Omega.{arith}
use native.Mathlib.Nat.{add-zero}
use lib.ListN.{length, length-replicate}
use Rattle.layout.specs.Line.{padded}
use Rattle.record.specs.Opening.{first_of}
use Rattle.record.specs.SlotLines.{satellites_of}
use Rattle.header.specs.Rules.{max_satellites, slot_lines}
use Rattle.header.specs.declared.types.Rules.{Rules}
use Rattle.record.specs.Agrees.{instant_in, repeats}
use Rattle.machine.specs.State.{start_state, no_identifiers}
use Rattle.machine.specs.Next.{after_first, after_second, after_count}
use Rattle.file.specs.Plain.{slot_identifiers, are_slots, is_first_line, is_second_line, is_count_line, Plain, Sound}
use Rattle.scan.specs.Run.{run, counted}
use Rattle.scan.specs.declared.Tally.{Tally}
use Rattle.scan.specs.Front as front
use Rattle.scan_laws.proofs.Reaching.{counted_over, Ends, reach-end, Ending, ending-on}
use Rattle.scan_laws.proofs.Count.{plus-reach, Plus, plus-read}
use Rattle.scan_laws.proofs.Tail.{Tail, tail-ends, tail-read}
use Rattle.scan_laws.proofs.Head.{opened, dated, counts, first_reach, first_read, second-reach, second-read, identifiers-due, identifiers-alone, none_yet, begins, identifiers-all, some-identifier}

-- the lines that a run to a file has read: those of a plain file, and the rest; and what it has tallied
pub record PlainFront (rules : Rules) (t : Tally) (ls : List (List ℕ)) (t' : Tally) : Type 0 where
  pub used : List (List ℕ)
  pub rest : List (List ℕ)
  pub split : ls ≡ used ++ rest
  pub plain : Plain rules used
  pub tally : t' ≡ counted_over rules t used

module _ (rules : Rules) (sound : Sound rules) (identifiers : List ℕ) (wide : length identifiers ≡ max_satellites) where
  pub room : rules.most_satellites ≤ length identifiers
  room = omega (arith, sound.identifiers-fit, wide)

  pub seventeen-fit : 17 ≤ length identifiers
  seventeen-fit = omega (arith, wide)

  -- the part of a plain file from the `++` lines on
  abbrev pub tail_of : (used : List (List ℕ)) → Plain rules used → List (List ℕ)
  tail_of used p =
      p.accuracies
      ++ (p.descriptor ∷ p.characters ∷ p.bases ∷ p.floats ∷ p.integers ∷ p.integers' ∷ (p.comments ++ (p.epochs ++ (p.last ∷ []))))

  plain-tail : (used : List (List ℕ)) (p : Plain rules used) (rest : List ℕ)
      → Tail rules (counts rules p.first p.second p.count) (slot_identifiers (satellites_of rules (padded p.count)).count (p.count ∷ p.slots)) rest
      (identifiers-all rules p.first p.second p.count p.slots p.slots-many)
      (some-identifier rules p.first p.second p.count p.slots p.is-count p.slots-many)
      (begins rules p.first p.second p.count p.is-first) (tail_of used p)
  unfolding after_first after_second after_count
  plain-tail used p rest = record {
    accuracies = p.accuracies;
    descriptor = p.descriptor;
    characters = p.characters;
    bases = p.bases;
    floats = p.floats;
    integers = p.integers;
    integers' = p.integers';
    comments = p.comments;
    epochs = p.epochs;
    last = p.last;
    lines_are = refl;
    are-accuracies = p.are-accuracies;
    accuracies-many = p.accuracies-many;
    is-descriptor = p.is-descriptor;
    is-characters = p.is-characters;
    is-bases = p.is-bases;
    is-floats = p.is-floats;
    is-integers = p.is-integers;
    is-integers' = p.is-integers';
    are-comments = p.are-comments;
    comments-many = p.comments-many;
    are-epochs = rw (add-zero) p.are-epochs;
    is_last = p.is_last;
  }

  -- the lines of a plain file end a run
  plain-ends : (used : List (List ℕ)) → Plain rules used → Ends rules start_state identifiers used
  unfolding after_count
  plain-ends used p =
      let s₁ = opened rules p.first in
      let s₂ = dated rules p.first p.second in
      let plus =
      plus-reach rules s₂ identifiers (identifiers-due rules p.first p.second) (none_yet rules p.first p.second) room seventeen-fit
      p.count p.slots p.is-count p.are-slots p.slots-many p.all-different in
      let known = slot_identifiers (satellites_of rules (padded p.count)).count (p.count ∷ p.slots) in
      let ends =
      tail-ends rules (counts rules p.first p.second p.count) known plus.0
      (identifiers-all rules p.first p.second p.count p.slots p.slots-many)
      (some-identifier rules p.first p.second p.count p.slots p.is-count p.slots-many)
      (begins rules p.first p.second p.count p.is-first) (tail_of used p) (plain-tail used p plus.0) in
      let from-plus = reach-end rules s₂ _ identifiers (known ++ plus.0) (p.count ∷ p.slots) (tail_of used p) plus.1 ends in
      let from_Second = reach-end rules s₁ s₂ identifiers identifiers (p.second ∷ []) ((p.count ∷ p.slots) ++ tail_of used p) (second-reach rules identifiers p.first p.second p.is-second) from-plus in
      subst (λ (x : List (List ℕ)). Ends rules start_state identifiers x) (sym p.lines_are)
      (reach-end rules start_state s₁ identifiers identifiers (p.first ∷ []) (p.second ∷ ((p.count ∷ p.slots) ++ tail_of used p)) (first_reach rules identifiers p.first p.is-first) from_Second)

  -- the plain file of a front, its `+ ` lines and the lines after them
  module _ (first second count : List ℕ) (slots : List (List ℕ)) (is-first : is_first_line rules first ≡ true)
      (is-second : is_second_line rules (instant_in (first_of rules (padded first)).start) second ≡ true) (is-count : is_count_line rules count ≡ true)
      (are-slots : are_slots rules false ((satellites_of rules (padded count)).count - 17) slots ≡ true)
      (slots-many : suc (length slots) ≡ slot_lines (satellites_of rules (padded count)).count)
      (all-different : repeats [] (slot_identifiers (satellites_of rules (padded count)).count (count ∷ slots)) ≡ false) where
    abbrev known : List ℕ
    known = slot_identifiers (satellites_of rules (padded count)).count (count ∷ slots)

    abbrev FromPlus : List ℕ → List (List ℕ) → Type 0
    FromPlus rest lines =
        Tail rules (counts rules first second count) known rest (identifiers-all rules first second count slots slots-many)
        (some-identifier rules first second count slots is-count slots-many) (begins rules first second count is-first) lines

    plain_of : (rest : List ℕ) (lines : List (List ℕ)) → FromPlus rest lines → Plain rules (first ∷ second ∷ count ∷ (slots ++ lines))
    unfolding after_first after_second after_count
    plain_of rest lines p = record {
      first = first;
      second = second;
      count = count;
      slots = slots;
      accuracies = p.accuracies;
      descriptor = p.descriptor;
      characters = p.characters;
      bases = p.bases;
      floats = p.floats;
      integers = p.integers;
      integers' = p.integers';
      comments = p.comments;
      epochs = p.epochs;
      last = p.last;
      lines_are = ap (λ (r : List (List ℕ)). first ∷ second ∷ count ∷ (slots ++ r)) p.lines_are;
      is-first = is-first;
      is-second = is-second;
      is-count = is-count;
      are-slots = are-slots;
      slots-many = slots-many;
      all-different = all-different;
      are-accuracies = p.are-accuracies;
      accuracies-many = p.accuracies-many;
      is-descriptor = p.is-descriptor;
      is-characters = p.is-characters;
      is-bases = p.is-bases;
      is-floats = p.is-floats;
      is-integers = p.is-integers;
      is-integers' = p.is-integers';
      are-comments = p.are-comments;
      comments-many = p.comments-many;
      are-epochs = rw (add-zero) at p.are-epochs;
      is_last = p.is_last;
    }

  -- from its first two lines and its `+ ` lines on
  from-plus : (first second : List ℕ) (t t' : Tally) (ls others₁ others₂ : List (List ℕ)) → is_first_line rules first ≡ true
      → is_second_line rules (instant_in (first_of rules (padded first)).start) second ≡ true → ls ≡ first ∷ others₁ → others₁ ≡ second ∷ others₂
      → Plus rules (dated rules first second) identifiers (identifiers-due rules first second) (none_yet rules first second) room seventeen-fit
      (counted rules (counted rules t first) second) t' others₂ → PlainFront rules t ls t'
  unfolding after_count counted_over
  from-plus first second t t' ls others₁ others₂ is-first is-second split₁ split₂ x =
      let n = (satellites_of rules (padded x.count)).count in
      let front-lines = first ∷ second ∷ x.count ∷ x.slots in
      let y =
      tail-read rules (counts rules first second x.count) (slot_identifiers n (x.count ∷ x.slots)) x.rest
      (identifiers-all rules first second x.count x.slots x.slots-many) (some-identifier rules first second x.count x.slots x.is-count x.slots-many)
      (begins rules first second x.count is-first) (counted_over rules t front-lines) t' x.more sound.comments-fit x.goes in
      let split : ls ≡ front-lines ++ x.more = split₁ ∙ ap (λ (r : List (List ℕ)). first ∷ r) (split₂ ∙ ap (λ (r : List (List ℕ)). second ∷ r) x.split) in
      let ending : Ending rules t t' ls (front-lines ++ y.used) y.more = ending-on rules t t' ls front-lines x.more y.used y.more split y.ending in
      record {
        used = front-lines ++ y.used;
        rest = y.more;
        split = ending.split;
        plain =
            plain_of first second x.count x.slots is-first is-second x.is-count x.are-slots x.slots-many x.all-different x.rest y.used
            y.tail;
        tally = ending.tally;
      }

  front_of : (t t' : Tally) (ls : List (List ℕ)) → run rules start_state identifiers t ls ≡ front.File t' → PlainFront rules t ls t'
  front_of t t' ls e =
      let x = first_read rules identifiers t t' ls e in
      let t₁ = counted rules t x.line in
      let y = second-read rules identifiers x.line t₁ t' x.others x.goes in
      let s₂ = dated rules x.line y.line in
      from-plus x.line y.line t t' ls x.others y.others x.is y.is x.split y.split
      (plus-read rules s₂ identifiers (identifiers-due rules x.line y.line) (none_yet rules x.line y.line) room seventeen-fit (counted rules t₁ y.line) t' y.others
      (identifiers-alone rules x.line y.line) y.goes)

-- no identifier is known before the first line, and there is room for as many as a version has
pub identifiers-wide : length no_identifiers ≡ max_satellites
identifiers-wide = length-replicate {A = ℕ} max_satellites 0

-- A run that ends in a file has read the lines of a plain file, and tallied them.
pub run-plain : (rules : Rules) → Sound rules → (ls : List (List ℕ)) (t t' : Tally) → run rules start_state no_identifiers t ls ≡ front.File t'
    → PlainFront rules t ls t'
run-plain rules sound ls t t' e = front_of rules sound no_identifiers identifiers-wide t t' ls e

-- The lines of a plain file end in a file, whatever follows them.
pub plain-run : (rules : Rules) → Sound rules → (used more : List (List ℕ)) (t : Tally) → Plain rules used
    → run rules start_state no_identifiers t (used ++ more) ≡ front.File (counted_over rules t used)
plain-run rules sound used more t p = (plain-ends rules sound no_identifiers identifiers-wide used p).runs t more
