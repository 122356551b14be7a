-- Nothing else changes with the bound of satellites: any bytes are judged as by a lower bound, but those that the lower refuses with 7 at column 4 of a
-- `+ ` line whose columns 4 to 6 hold more.
-- Assumes nothing.
use mathlib.Core.Path.{◌≡◌, refl, sym, ap, ap₂, ◌∙◌, subst}
use mathlib.Core.Bool.{Bool, true, false, cond, not}
use mathlib.Core.List.{List, [], ◌∷◌, ◌++◌}
use mathlib.Core.Logic.{◌⊎◌, inl, inr}
use Prim.Native.Nat.{ℕ, suc, ◌+◌, ◌-◌, ◌≤◌, ◌<◌}
use native.Mathlib.Omega.{arith}
use native.Mathlib.Decide.{dec_le}
use native.Mathlib.Nat.{le_trans, lt_of_not-le}
use lib.Dec.{leb}
use lib.ListN.{length}
use Rattle.laws.specs.Tests.{within}
use Rattle.laws.specs.Texts.{every, is_printable}
use Rattle.laws.proofs.Bounds.{true-within, below-within, above_within}
use Rattle.layout.specs.Fault.{clean, keyed, lower}
use Rattle.layout.specs.Kind.{unless, whole_fault, whole_held}
use Rattle.layout.specs.Kind.Kind.{unused, fixed}
use Rattle.layout.specs.Layout.{Item, columns, column, part_at, part_of, fault_at, fault_from}
use Rattle.layout.specs.Line.{padded}
use Rattle.field.specs.Read.{whole_of}
use Rattle.record.specs.LineKinds.{kind_of, longest}
use Rattle.record.specs.SlotLines.{slot_items, count_item, count_in, satellites_of, more_of}
use Rattle.header.specs.declared.types.Rules.{Rules}
use Rattle.record.specs.declared.types.LineKind.{LineKind}
use Rattle.record.specs.declared.types.LineKind.TheVariants as kind
use Rattle.machine.specs.State.{stands, is_first, identifiers_in, identifiers_joined, start_state, no_identifiers}
use Rattle.machine.specs.Step.{on_key, judged_line, printed_line, step_of, identifiers_brought}
use Rattle.machine.specs.Faults.{first_unprintable, slots_fault, names_again, satellites_fault, record_fault, standing_fault}
use Rattle.machine.specs.Next.{after_satellites, after_integers, next_of}
use Rattle.machine.specs.declared.types.State.{State}
use Rattle.machine.specs.declared.types.Verdict.{Verdict}
use Rattle.machine.specs.declared.types.Verdict.TheVariants as verdict
use Rattle.lines.specs.Lines.{lines_of, nth}
use Rattle.scan.specs.Run.{counted, on_verdict, run, nothing_seen, scan_of, whole_front}
use Rattle.scan.specs.declared.Tally.{Tally}
use Rattle.scan.specs.Front.{Front}
use Rattle.scan.specs.Front as front
use Rattle.theorems.specs.Before.{with_most}
use Rattle.theorems.proofs.Beside.{Beside, seven-beside, lower-beside, items-beside}
use Rattle.std.specs.Prelude.{Option, Some, None}

module _ (rules : Rules) (most : ℕ) (lower-most : most ≤ rules.most_satellites) where
  abbrev narrow : Rules
  narrow = with_most most rules

  -- a line whose columns 4 to 6 hold more, and a `+ ` line of which that is so
  abbrev Many : List ℕ → Type 0
  Many line = most < (satellites_of rules line).count

  abbrev More : List ℕ → Type 0
  More line = (kind_of rules line ≡ kind.Satellites) × Many line

  -- the number of satellites has the same fault, or holds more and has 7 by the lower bound alone
  number-either : (x : Option ℕ) → (whole_fault 4 1 most x ≡ whole_fault 4 1 rules.most_satellites x)
      ⊎ ((whole_fault 4 1 most x ≡ keyed 7 4) × (whole_fault 4 1 rules.most_satellites x ≡ clean) × (most < whole_held x))
  number-either None = inl refl
  number-either (Some n) = by (dec_le n most) (dec_le n rules.most_satellites) (dec_le 1 n)
    where
      by : Dec (n ≤ most) → Dec (n ≤ rules.most_satellites) → Dec (1 ≤ n)
          → (unless (within 1 most n) 7 4 ≡ unless (within 1 rules.most_satellites n) 7 4)
          ⊎ ((unless (within 1 most n) 7 4 ≡ keyed 7 4) × (unless (within 1 rules.most_satellites n) 7 4 ≡ clean) × (most < n))
      by h k (no z) = inl (rw (below-within 1 most n (lt_of_not-le z), below-within 1 rules.most_satellites n (lt_of_not-le z)))
      by (yes h) (yes k) (yes z) = inl (rw (true-within 1 most n z h, true-within 1 rules.most_satellites n z k))
      by (yes h) (no k) (yes z) = absurd (k (le_trans h lower-most))
      by (no h) (yes k) (yes z) =
          let over : within 1 most n ≡ false = above_within 1 most n (lt_of_not-le h) in
          let inside : within 1 rules.most_satellites n ≡ true = true-within 1 rules.most_satellites n z k in
          inr (rw over, rw inside, lt_of_not-le h)
      by (no h) (no k) (yes z) = inl (rw (above_within 1 most n (lt_of_not-le h), above_within 1 rules.most_satellites n (lt_of_not-le k)))

  -- so the first `+ ` line
  count-either : (line : List ℕ) → ((satellites_of narrow line).fault ≡ (satellites_of rules line).fault)
      ⊎ (Beside (satellites_of narrow line).fault (satellites_of rules line).fault × Many line)
  count-either line = go (number-either (whole_of (part_of (count_item rules) line)))
    where
      earlier : ℕ
      earlier = lower (lower clean (fault_at (part_at 0 1 2 (fixed 4 (43 ∷ 32 ∷ []))) line)) (fault_at (column 3 unused) line)

      rest : List Item
      rest = columns 7 9 unused ∷ (slot_items false (count_in rules line) ++ (columns 61 80 unused ∷ []))

      go : (fault_at (count_item narrow) line ≡ fault_at (count_item rules) line)
          ⊎ ((fault_at (count_item narrow) line ≡ keyed 7 4) × (fault_at (count_item rules) line ≡ clean) × Many line)
          → ((satellites_of narrow line).fault ≡ (satellites_of rules line).fault)
          ⊎ (Beside (satellites_of narrow line).fault (satellites_of rules line).fault × Many line)
      go (inl e) = inl (ap (λ (f : ℕ). fault_from (lower earlier f) rest line) e)
      go (inr (seven, none, more)) =
          inr (
            items-beside rest line (lower earlier (fault_at (count_item narrow) line)) (lower earlier (fault_at (count_item rules) line))
                (subst (λ (f : ℕ). Beside (lower earlier f) (lower earlier (fault_at (count_item rules) line))) (sym seven)
                (subst (λ (f : ℕ). Beside (lower earlier (keyed 7 4)) (lower earlier f)) (sym none) (seven-beside earlier))),
            more,
          )

  -- the same fault, or 7 at column 4 of a line that holds more; so after a further test
  abbrev Either : ℕ → ℕ → List ℕ → Type 0
  Either p q line = (p ≡ q) ⊎ ((p ≡ keyed 7 4) × Many line)

  lowered : (p q g : ℕ) (line : List ℕ) → (p ≡ q) ⊎ (Beside p q × Many line) → Either (lower p g) (lower q g) line
  lowered p q g line (inl e) = inl (ap (λ (x : ℕ). lower x g) e)
  lowered p q g line (inr (b, more)) = go (lower-beside p q g b)
    where
      go : Beside (lower p g) (lower q g) → Either (lower p g) (lower q g) line
      go (inl e) = inl e
      go (inr (seven, other)) = inr (seven, more)

  -- so of a line of a kind, and the same verdict, or that fault
  abbrev Of : LineKind → ℕ → ℕ → List ℕ → Type 0
  Of k p q line = (p ≡ q) ⊎ ((p ≡ keyed 7 4) × (k ≡ kind.Satellites) × Many line)

  abbrev Agree : LineKind → Verdict → Verdict → List ℕ → Type 0
  Agree k v w line = (v ≡ w) ⊎ ((v ≡ verdict.Fault 7 4) × (k ≡ kind.Satellites) × Many line)

  -- a line may be as long
  same_length : (k : LineKind) → longest narrow k ≡ longest rules k
  same_length kind.Other = refl
  same_length kind.First = refl
  same_length kind.Second = refl
  same_length kind.Satellites = refl
  same_length kind.Accuracies = refl
  same_length kind.Characters = refl
  same_length kind.Floats = refl
  same_length kind.Integers = refl
  same_length kind.Comment = refl
  same_length kind.Epoch = refl
  same_length kind.Position = refl
  same_length kind.Velocity = refl
  same_length kind.PositionCorrelation = refl
  same_length kind.VelocityCorrelation = refl
  same_length kind.EndOfFile = refl

  module _ (s : State) (identifiers : List ℕ) (line : List ℕ) where
    -- a `+ ` line, the first or a further one,
    slots-either : (b : Bool) → let p = cond b (satellites_of narrow line).fault (more_of false s.left line).fault in
        let q = cond b (satellites_of rules line).fault (more_of false s.left line).fault in (p ≡ q) ⊎ (Beside p q × Many line)
    slots-either true = count-either line
    slots-either false = inl refl

    satellites-either : Either (satellites_fault narrow s identifiers line) (satellites_fault rules s identifiers line) line
    unfolding satellites_fault identifiers_in
    satellites-either =
        lowered (slots_fault narrow s line) (slots_fault rules s line) (unless (not (names_again rules s identifiers line)) 8 0) line (slots-either (is_first s))

    -- and any line, by its kind
    fault-either : (k : LineKind) → Of k (record_fault k narrow s identifiers line) (record_fault k rules s identifiers line) line
    fault-either kind.Satellites = named satellites-either
      where
        named : Either (satellites_fault narrow s identifiers line) (satellites_fault rules s identifiers line) line
            → Of kind.Satellites (satellites_fault narrow s identifiers line) (satellites_fault rules s identifiers line) line
        named (inl e) = inl e
        named (inr (seven, more)) = inr (seven, refl, more)
    fault-either kind.Other = inl refl
    fault-either kind.First = inl refl
    fault-either kind.Second = inl refl
    fault-either kind.Accuracies = inl refl
    fault-either kind.Characters = inl refl
    fault-either kind.Floats = inl refl
    fault-either kind.Integers = inl refl
    fault-either kind.Comment = inl refl
    fault-either kind.Epoch = inl refl
    fault-either kind.Position = inl refl
    fault-either kind.Velocity = inl refl
    fault-either kind.PositionCorrelation = inl refl
    fault-either kind.VelocityCorrelation = inl refl
    fault-either kind.EndOfFile = inl refl

    same_next : (k : LineKind) → next_of k narrow s line ≡ next_of k rules s line
    unfolding after_satellites after_integers
    same_next kind.Other = refl
    same_next kind.First = refl
    same_next kind.Second = refl
    same_next kind.Satellites = refl
    same_next kind.Accuracies = refl
    same_next kind.Characters = refl
    same_next kind.Floats = refl
    same_next kind.Integers = refl
    same_next kind.Comment = refl
    same_next kind.Epoch = refl
    same_next kind.Position = refl
    same_next kind.Velocity = refl
    same_next kind.PositionCorrelation = refl
    same_next kind.VelocityCorrelation = refl
    same_next kind.EndOfFile = refl

    standing-either : (k : LineKind) → Of k (standing_fault k narrow s identifiers line) (standing_fault k rules s identifiers line) line
    unfolding standing_fault
    standing-either k = go (stands s k)
      where
        go : (b : Bool) → Of k (cond b (record_fault k narrow s identifiers line) (keyed 4 0)) (cond b (record_fault k rules s identifiers line) (keyed 4 0)) line
        go true = fault-either k
        go false = inl refl

    judged-either : (k : LineKind) → Agree k (judged_line k narrow s identifiers line) (judged_line k rules s identifiers line) line
    unfolding judged_line on_key
    judged-either k = go (standing-either k)
      where
        go : Of k (standing_fault k narrow s identifiers line) (standing_fault k rules s identifiers line) line
            → Agree k (judged_line k narrow s identifiers line) (judged_line k rules s identifiers line) line
        go (inl e) = inl (ap₂ on_key e (same_next k))
        go (inr (seven, plus, more)) = inr (ap (λ (f : ℕ). on_key f (next_of k narrow s line)) seven, plus, more)

  step-either : (s : State) (identifiers : List ℕ) (l : List ℕ) → Agree (kind_of rules (padded l)) (step_of narrow s identifiers l) (step_of rules s identifiers l) (padded l)
  unfolding step_of printed_line kind_of
  step-either s identifiers l =
      subst (λ (v : Verdict). Agree k v (step_of rules s identifiers l) (padded l)) (ap by_length (sym (same_length k)))
      (go (every is_printable l) (leb (length l) (longest rules k)))
    where
      k : LineKind
      k = kind_of rules (padded l)

      by_length : ℕ → Verdict
      by_length n =
          cond (every is_printable l) (cond (leb (length l) n) (judged_line k narrow s identifiers (padded l)) (verdict.Fault 3 (n + 1))) (verdict.Fault 2 (first_unprintable l))

      by : Rules → Bool → Bool → Verdict
      by r b c = cond b (cond c (judged_line k r s identifiers (padded l)) (verdict.Fault 3 (longest rules k + 1))) (verdict.Fault 2 (first_unprintable l))

      go : (b c : Bool) → Agree k (by narrow b c) (by rules b c) (padded l)
      go true true = judged-either s identifiers (padded l) k
      go true false = inl refl
      go false c = inl refl

  -- THE RUN over any lines is the same, or is refused by the lower bound with 7 at column 4 of a `+ ` line that holds more.
  abbrev Runs : Front → Front → ℕ → List (List ℕ) → Type 0
  Runs f g before ls = (f ≡ g) ⊎ ((j : ℕ) × (f ≡ front.Refused 7 (before + 1 + j) 4) × More (padded (nth j ls)))

  run-either : (ls : List (List ℕ)) (s : State) (identifiers : List ℕ) (t : Tally) → Runs (run narrow s identifiers t ls) (run rules s identifiers t ls) t.lines ls
  unfolding run counted identifiers_brought identifiers_joined identifiers_in kind_of nth
  run-either [] s identifiers t = inl refl
  run-either (l ∷ ls) s identifiers t = go (step-either s identifiers l) (λ s'. run-either ls s' brought seen)
    where
      seen : Tally
      seen = counted rules t l

      brought : List ℕ
      brought = identifiers_brought rules s identifiers l

      goes_on : Rules → Verdict → Front
      goes_on r v = on_verdict v seen (λ s'. run r s' brought seen ls)

      Later : Type 0
      Later = (s' : State) → Runs (run narrow s' brought seen ls) (run rules s' brought seen ls) seen.lines ls

      shifted : (f g : Front) → Runs f g (t.lines + 1) ls → Runs f g t.lines (l ∷ ls)
      shifted f g (inl e) = inl e
      shifted f g (inr (j, is, more)) =
          let line : t.lines + 1 + 1 + j ≡ t.lines + 1 + suc j = omega arith in
          inr (suc j, is ∙ ap (λ (n : ℕ). front.Refused 7 n 4) line, more)

      on : (v : Verdict) → Later → Runs (goes_on narrow v) (goes_on rules v) t.lines (l ∷ ls)
      on (verdict.Fault n c) later = inl refl
      on verdict.Finished later = inl refl
      on (verdict.Next s') later = shifted (run narrow s' brought seen ls) (run rules s' brought seen ls) (later s')

      go : Agree (kind_of rules (padded l)) (step_of narrow s identifiers l) (step_of rules s identifiers l) (padded l) → Later
          → Runs (goes_on narrow (step_of narrow s identifiers l)) (goes_on rules (step_of rules s identifiers l)) t.lines (l ∷ ls)
      go (inl e) later =
          subst (λ (v : Verdict). Runs (goes_on narrow v) (goes_on rules (step_of rules s identifiers l)) t.lines (l ∷ ls)) (sym e) (on (step_of rules s identifiers l) later)
      go (inr (seven, plus, more)) later =
          let line : t.lines + 1 ≡ t.lines + 1 + 0 = omega arith in
          inr (0, ap (goes_on narrow) seven ∙ ap (λ (n : ℕ). front.Refused 7 n 4) line, (plus, more))

  -- so of any bytes, at their front and as a whole.
  abbrev pub Found : List ℕ → Front → Front → Type 0
  Found bytes f g = (g ≡ f) ⊎ ((line : ℕ) × (f ≡ front.Refused 7 line 4) × More (padded (nth (line - 1) (lines_of bytes))))

  pub front-either : (bytes : List ℕ) → Found bytes (scan_of narrow bytes) (scan_of rules bytes)
  front-either bytes = go (run-either (lines_of bytes) start_state no_identifiers nothing_seen)
    where
      go : Runs (scan_of narrow bytes) (scan_of rules bytes) 0 (lines_of bytes) → Found bytes (scan_of narrow bytes) (scan_of rules bytes)
      go (inl e) = inl (sym e)
      go (inr (j, is, more)) =
          let back : 0 + 1 + j - 1 ≡ j = omega arith in
          inr (0 + 1 + j, is, subst (λ (i : ℕ). More (padded (nth i (lines_of bytes)))) (sym back) more)

  pub file-either : (bytes : List ℕ) → Found bytes (whole_front (length bytes) (scan_of narrow bytes)) (whole_front (length bytes) (scan_of rules bytes))
  unfolding whole_front
  file-either bytes = go (front-either bytes)
    where
      go : Found bytes (scan_of narrow bytes) (scan_of rules bytes) → Found bytes (whole_front (length bytes) (scan_of narrow bytes)) (whole_front (length bytes) (scan_of rules bytes))
      go (inl e) = inl (ap (whole_front (length bytes)) e)
      go (inr (line, is, more)) = inr (line, ap (whole_front (length bytes)) is, more)
