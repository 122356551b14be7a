-- What a line does, on plain values: each test that the code makes, and what follows of it.
-- Assumes nothing.
use Rattle.std.proofs.Common.{◌≡◌, ℕ, zero, suc, ◌+◌, ◌-◌, ◌<◌, ◌≤◌, Bool, true, false, cond, ◌&&◌, eqb, List, [], ◌∷◌, ◌++◌, length, take, drop, sym, refl, ap, ◌∙◌, subst, arith, length-append, length-drop, length-take-le, take_at, eq-eqb, ne_eqb, le-leb, leb-true}
use denote.Enum.Declared.{tag_of}
use types.Run.{OneOf, miss}
use borrow.Author.Tests.{lt-leb}
use borrow.Rule.Slice.PartMut.{put_mid}
use Rattle.laws.specs.Texts.{every, is_printable, blanks}
use Rattle.layout.specs.Line.{padded}
use Rattle.lines.specs.Lent.{over, laid}
use Rattle.lines.specs.Lines.{line_length, lines_of}
use Rattle.lines.proofs.Ends.{no_line, first-line}
use Rattle.lines.proofs.Laying.{rest-lent, rest_back, laid-fits}
use Rattle.lines.proofs.Lined.{Lined, lined}
use Rattle.record.specs.LineKinds.{told_kind, kind_of, longest, satellites_kind}
use Rattle.record.specs.SlotLines.{satellites_of, more_of}
use Rattle.record.proofs.Determined.{told_kind-one}
use Rattle.header.specs.declared.types.Rules.{Rules}
use Rattle.record.specs.declared.types.LineKind.{LineKind}
use Rattle.machine.specs.Faults.{first_unprintable}
use Rattle.machine.specs.State.{seen, known_identifiers, identifiers_in, fit_behind, laid_behind, has_room, identifiers_joined}
use Rattle.machine.specs.Step.{judged_line, printed_line, step_of, identifiers_brought, kept_on, identifiers_kept, finds_room, if_room, step_within, read_as, read_first, identifiers_first, line_known, line_read, line_identifiers}
use Rattle.machine.specs.Told.{told_read}
use Rattle.machine.proofs.Told.{told_read-one}
use Rattle.machine.specs.contracts.types.LineRead.{the_type}
use Rattle.machine.specs.declared.types.State.{State}
use Rattle.machine.specs.declared.types.Verdict.{Verdict}
use Rattle.machine.specs.declared.types.Verdict.TheVariants as verdict
use Rattle.machine.specs.declared.types.LineRead.{LineRead}
use Rattle.machine.specs.declared.types.LineRead.TheVariants as found

-- The 80 columns of a line that is not longer have only characters 32 to 126 where the line has.
blanks-plain : (n m : ℕ) → every is_printable (take n (blanks m)) ≡ true
blanks-plain zero zero = refl
blanks-plain zero (suc m) = refl
blanks-plain (suc n) zero = refl
blanks-plain (suc n) (suc m) = blanks-plain n m

columns-plain : (line : List ℕ) (n m : ℕ) → length line ≤ n → every is_printable (take n (line ++ blanks m)) ≡ every is_printable line
columns-plain [] n m h = blanks-plain n m
columns-plain (b ∷ line) zero m h = absurd (omega arith)
columns-plain (b ∷ line) (suc n) m h = ap (λ (rest : Bool). is_printable b && rest) (columns-plain line n m (omega arith))

pub padded-plain : (line : List ℕ) → length line ≤ 80 → every is_printable (padded line) ≡ every is_printable line
unfolding padded
padded-plain line h = columns-plain line 80 80 h

module _ (rules : Rules) (s : State) (identifiers line : List ℕ) where
  -- a byte outside 32 to 126
  pub unprintable : (column : ℕ) → every is_printable line ≡ false → column ≡ first_unprintable line
      → verdict.Fault 2 column ≡ step_of rules s identifiers line
  unfolding step_of
  unprintable column e at = rw (e, at)

  -- none: the line padded, its kind, and the columns that it may have
  module _ (printable : every is_printable line ≡ true) (pad : List ℕ) (pad-is : pad ≡ padded line) (kind : LineKind)
      (told : told_kind kind ≡ told_kind (kind_of rules pad)) (most : ℕ) (most-is : most ≡ longest rules kind) where
    kind-is : kind ≡ kind_of rules (padded line)
    kind-is = told_kind-one kind (kind_of rules pad) told ∙ ap (kind_of rules) pad-is

    printed : printed_line kind rules s identifiers line ≡ step_of rules s identifiers line
    unfolding step_of
    printed = rw (printable, sym kind-is)

    long : most < length line → verdict.Fault 3 (most + 1) ≡ printed_line kind rules s identifiers line
    unfolding printed_line
    long h = rw (← most-is, lt-leb (length line) most h)

    pub too_long : most < length line → verdict.Fault 3 (most + 1) ≡ step_of rules s identifiers line
    too_long h = long h ∙ printed

    fits : length line ≤ most → judged_line kind rules s identifiers (padded line) ≡ printed_line kind rules s identifiers line
    unfolding printed_line
    fits h = rw (← most-is, le-leb (length line) most h)

    pub short-enough : (v : Verdict) → length line ≤ most → v ≡ judged_line kind rules s identifiers pad → v ≡ step_of rules s identifiers line
    short-enough v h e = e ∙ ap (judged_line kind rules s identifiers) pad-is ∙ fits h ∙ printed

-- Numbers laid into a list behind its first `from`, where they fit and where not.
module _ (from : ℕ) (new list : List ℕ) where
  pub none-laid : length list < from + length new → (false ≡ fit_behind from new list) × (list ≡ laid_behind from new list)
  unfolding laid_behind
  none-laid h = let e = lt-leb (from + length new) (length list) h in rw e (refl, refl)

  pub all_laid : (part : List ℕ) → from + length new ≤ length list → part ≡ laid new (take (length list - from) (drop from list))
      → (true ≡ fit_behind from new list) × (put_mid from (length list - from) list part ≡ laid_behind from new list)
  unfolding laid_behind
  all_laid part h e =
      let fit = le-leb (from + length new) (length list) h in
      let room : length new ≤ length (drop from list) = omega (arith, length-drop from list) in
      let placed : put_mid from (length list - from) list part ≡ take from list ++ over new (drop from list) =
      rest_back from list part (omega arith)
      ∙ ap (λ (p : List ℕ). take from list ++ p) (e ∙ ap (laid new) (rest-lent from list) ∙ laid-fits new (drop from list) room) in
      rw fit (refl, placed)

  -- either way the list is as long as it was
  pub laid-length : length (laid_behind from new list) ≡ length list
  unfolding laid_behind
  laid-length = go (fit_behind from new list) refl
    where
      go : (fit : Bool) → fit_behind from new list ≡ fit → length (laid_behind from new list) ≡ length list
      go true e =
          let h = leb-true (from + length new) (length list) e in
          rw e
          (omega (
            arith,
            length-append (take from list) (over new (drop from list)),
            length-append new (drop (length new) (drop from list)),
            length-take-le from list (omega arith),
            length-drop (length new) (drop from list),
            length-drop from list,
          ))
      go false e = rw e

-- those of the first `+ ` line, and those of a further one
module _ (rules : Rules) (s : State) (line new : List ℕ) where
  pub first-identifiers : s.satellites ≡ 0 → new ≡ take (satellites_of rules line).count (satellites_of rules line).identifiers → new ≡ identifiers_in rules s line
  unfolding identifiers_in
  first-identifiers e is = is ∙ rw (eq-eqb s.satellites 0 e)

  pub further-identifiers : (s.satellites ≡ 0 → ⊥) → new ≡ take s.left (more_of false s.left line).values → new ≡ identifiers_in rules s line
  unfolding identifiers_in
  further-identifiers e is = is ∙ rw (ne_eqb s.satellites 0 e)

-- the room for them and the list after them, by what the code has in hand
pub kept-so : (rules : Rules) (s : State) (identifiers line new : List ℕ) (from : ℕ) → from ≡ seen s → new ≡ identifiers_in rules s (padded line)
    → (fit_behind from new identifiers ≡ has_room rules s identifiers (padded line)) × (laid_behind from new identifiers ≡ identifiers_joined rules s identifiers (padded line))
unfolding has_room identifiers_joined
kept-so rules s identifiers line new from from_is New-is = rw (New-is, from_is) (refl, refl)

-- those known so far
pub known-front : (s : State) (identifiers known : List ℕ) (many : ℕ) → many ≡ seen s → known ≡ take many identifiers → known ≡ known_identifiers s identifiers
known-front s identifiers known many many_is is = is ∙ ap (λ (n : ℕ). take n identifiers) many_is

-- a line keeps the number of places for identifiers
pub brought-length : (rules : Rules) (s : State) (identifiers line : List ℕ) → length (identifiers_brought rules s identifiers line) ≡ length identifiers
unfolding identifiers_brought identifiers_joined
brought-length rules s identifiers line = go (eqb s.due satellites_kind) refl
  where
    go : (due : Bool) → eqb s.due satellites_kind ≡ due → length (identifiers_brought rules s identifiers line) ≡ length identifiers
    go true e = rw e (laid-length (seen s) (identifiers_in rules s (padded line)) identifiers)
    go false e = rw e

-- and those known before it
pub brought-front : (rules : Rules) (s : State) (identifiers line : List ℕ) → take (seen s) (identifiers_brought rules s identifiers line) ≡ take (seen s) identifiers
unfolding identifiers_brought identifiers_joined laid_behind
brought-front rules s identifiers line = go (eqb s.due satellites_kind) (fit_behind (seen s) new identifiers) refl
  where
    new : List ℕ
    new = identifiers_in rules s (padded line)

    go : (due fit : Bool) → fit_behind (seen s) new identifiers ≡ fit
        → take (seen s) (cond due (cond fit (take (seen s) identifiers ++ over new (drop (seen s) identifiers)) identifiers) identifiers) ≡ take (seen s) identifiers
    go false fit e = refl
    go true false e = refl
    go true true e =
        let h = leb-true (seen s + length new) (length identifiers) e in
        take_at (take (seen s) identifiers) (over new (drop (seen s) identifiers)) (seen s) (length-take-le (seen s) identifiers (omega arith))

-- The line at a place of some bytes, by what lines do.
module _ (does : List ℕ → Verdict) (bytes : List ℕ) (at end : ℕ) (ended : end ≡ at + line_length (drop at bytes)) where
  -- there is none
  pub none_left : length bytes ≤ end → found.NoLine ≡ read_first does at (lines_of (drop at bytes))
  unfolding read_first
  none_left h = rw (no_line bytes at end ended h)

  -- there is one, which does so
  module _ (h : end < length bytes) where
    abbrev line : List ℕ
    line = take (end - at) (drop at bytes)

    next_place : at + length line + 1 ≡ end + 1
    next_place = omega (arith, length-line)
      where
        length-line : length line ≡ end - at
        length-line = length-take-le (end - at) (drop at bytes) (omega (arith, length-drop at bytes))

    pub judged-read : (v : Verdict) → v ≡ does line → read_as v (end + 1) ≡ read_first does at (lines_of (drop at bytes))
    unfolding read_first
    judged-read v judged = rw (first-line bytes at end ended h, ← judged, next_place)

-- What the line reader makes of the line that was found where the identifiers are known.
module _ (rules : Rules) (bytes : List ℕ) (at : ℕ) (s : State) (identifiers : List ℕ) where
  -- a reading and the identifiers beside it are those of the line reader
  abbrev pub ReadAs : LineRead → List ℕ → Type 0
  ReadAs r kept = (told_read r ≡ told_read (line_read rules bytes at s identifiers)) × (kept ≡ line_identifiers rules bytes at s identifiers)

  -- where no line goes on: the same, and no identifier is kept
  none-brought : (ls : List (List ℕ)) → OneOf (0 ∷ 1 ∷ 3 ∷ []) (tag_of the_type (read_first (step_of rules s identifiers) at ls))
      → (read_first (step_of rules s identifiers) at ls ≡ read_first (step_within rules s identifiers) at ls) × (identifiers ≡ identifiers_first rules s identifiers ls)
  unfolding read_first identifiers_first identifiers_kept step_within
  none-brought [] k = (refl, refl)
  none-brought (l ∷ ls) k = go (finds_room rules s identifiers l) (step_of rules s identifiers l) k
    where
      go : (roomy : Bool) (v : Verdict) → OneOf (0 ∷ 1 ∷ 3 ∷ []) (tag_of the_type (read_as v (at + length l + 1)))
          → (read_as v (at + length l + 1) ≡ read_as (if_room roomy v) (at + length l + 1)) × (identifiers ≡ kept_on v rules s identifiers l)
      go roomy (verdict.Fault number column) h = (refl, refl)
      go roomy (verdict.Next s') h = absurd (miss (0 ∷ 1 ∷ 3 ∷ []) 2 tt h)
      go roomy verdict.Finished h = (refl, refl)

  pub read_same : (r : LineRead) → told_read r ≡ told_read (line_known rules bytes at s identifiers) → OneOf (0 ∷ 1 ∷ 3 ∷ []) (tag_of the_type r) → ReadAs r identifiers
  read_same r told k =
      let same = told_read-one r (line_known rules bytes at s identifiers) told in
      let none = none-brought (lines_of (drop at bytes)) (subst (λ (x : LineRead). OneOf (0 ∷ 1 ∷ 3 ∷ []) (tag_of the_type x)) same k) in
      (ap told_read (same ∙ none.0), none.1)

  -- a line that goes on: its text, and the place behind its LF
  pub record Goes (place : ℕ) (s' : State) : Type 0 where
    line : List ℕ
    after : List (List ℕ)
    lines_are : lines_of (drop at bytes) ≡ line ∷ after
    place_is : at + length line + 1 ≡ place
    pub lined-so : Lined bytes at place line after
    does : step_of rules s identifiers line ≡ verdict.Next s'

  goes_by : (ls : List (List ℕ)) (place : ℕ) (s' : State) → lines_of (drop at bytes) ≡ ls → read_first (step_of rules s identifiers) at ls ≡ found.Next place s' → Goes place s'
  unfolding read_first
  goes_by [] place s' e r = absurd (other_tag r)
    where
      other_tag : found.NoLine ≡ found.Next place s' → ⊥
      other_tag x = let z : ◌≡◌ {A = ℕ} 0 1 = cc in absurd (omega arith)
  goes_by (l ∷ ls) place s' e r = go (step_of rules s identifiers l) refl r
    where
      go : (v : Verdict) → step_of rules s identifiers l ≡ v → read_as v (at + length l + 1) ≡ found.Next place s' → Goes place s'
      go (verdict.Fault number column) is x = let z : ◌≡◌ {A = ℕ} 0 1 = cc in absurd (omega arith)
      go verdict.Finished is x = let z : ◌≡◌ {A = ℕ} 0 1 = cc in absurd (omega arith)
      go (verdict.Next s'') is x =
          let where_to : at + length l + 1 ≡ place = cc in
          let state : s'' ≡ s' = cc in
          record {
            line = l;
            after = ls;
            lines_are = e;
            place_is = where_to;
            lined-so = subst (λ (n : ℕ). Lined bytes at n l ls) where_to (lined bytes at l ls e);
            does = is ∙ ap verdict.Next state;
          }

  module _ (r : LineRead) (place : ℕ) (s' : State) (told : told_read r ≡ told_read (line_known rules bytes at s identifiers)) (is : r ≡ found.Next place s') where
    pub goes_on : Goes place s'
    goes_on = goes_by (lines_of (drop at bytes)) place s' refl (sym (told_read-one r (line_known rules bytes at s identifiers) told) ∙ is)

    abbrev g : Goes place s'
    g = goes_on

    text-is : take (place - 1 - at) (drop at bytes) ≡ g.line
    text-is = g.lined-so.text

    -- the line reader's answer and the list after it, by the room for a line
    read_by : (roomy : Bool) → roomy ≡ finds_room rules s identifiers g.line → read_as (if_room roomy (verdict.Next s')) place ≡ line_read rules bytes at s identifiers
    unfolding read_first step_within
    read_by roomy e = rw (g.lines_are, g.does, g.place_is, ← e)

    kept_by : identifiers_brought rules s identifiers g.line ≡ line_identifiers rules bytes at s identifiers
    unfolding identifiers_first identifiers_kept
    kept_by = rw (g.lines_are, g.does)

    -- where no `+ ` line is due
    pub read-other : (s.due ≡ satellites_kind → ⊥) → ReadAs (found.Next place s') identifiers
    unfolding identifiers_brought
    read-other not-due =
        let not_three = ne_eqb s.due satellites_kind not-due in
        let free : true ≡ finds_room rules s identifiers g.line = rw not_three in
        let same : identifiers ≡ identifiers_brought rules s identifiers g.line = rw not_three in
        (ap told_read (read_by true free), same ∙ kept_by)

    -- where one is due, by the room for what it brings
    pub read-identifiers : s.due ≡ satellites_kind → (roomy : Bool) (kept : List ℕ) → let text = take (place - 1 - at) (drop at bytes) in
        roomy ≡ has_room rules s identifiers (padded text) → kept ≡ identifiers_joined rules s identifiers (padded text)
        → ReadAs (read_as (if_room roomy (verdict.Next s')) place) kept
    unfolding identifiers_brought
    read-identifiers due roomy kept e k =
        let three = eq-eqb s.due satellites_kind due in
        let room : roomy ≡ finds_room rules s identifiers g.line = rw three (e ∙ ap (λ (l : List ℕ). has_room rules s identifiers (padded l)) text-is) in
        let new : kept ≡ identifiers_brought rules s identifiers g.line = rw three (k ∙ ap (λ (l : List ℕ). identifiers_joined rules s identifiers (padded l)) text-is) in
        (ap told_read (read_by roomy room), new ∙ kept_by)

-- The list after a line, by what the line reader makes of it: without room it is as it was.
module _ (rules : Rules) (s : State) (identifiers l : List ℕ) where
  no_room : finds_room rules s identifiers l ≡ false → identifiers_brought rules s identifiers l ≡ identifiers
  unfolding identifiers_brought identifiers_joined laid_behind has_room
  no_room e = go (eqb s.due satellites_kind) refl
    where
      go : (due : Bool) → eqb s.due satellites_kind ≡ due → identifiers_brought rules s identifiers l ≡ identifiers
      go true three = let none : has_room rules s identifiers (padded l) ≡ false = rw three at e in rw (three, none)
      go false three = rw three

  pub kept-within : (v : Verdict) → step_within rules s identifiers l ≡ v → identifiers_kept rules s identifiers l ≡ kept_on v rules s identifiers l
  unfolding step_within identifiers_kept
  kept-within v e = go (finds_room rules s identifiers l) refl (step_of rules s identifiers l) ∙ ap (λ (x : Verdict). kept_on x rules s identifiers l) e
    where
      go : (roomy : Bool) → finds_room rules s identifiers l ≡ roomy → (w : Verdict) → kept_on w rules s identifiers l ≡ kept_on (if_room (finds_room rules s identifiers l) w) rules s identifiers l
      go roomy is (verdict.Fault number column) = refl
      go true is (verdict.Next s') = rw is
      go false is (verdict.Next s') = rw is (no_room is)
      go roomy is verdict.Finished = refl
