-- The further `+ ` lines of a file: so many of them, with identifiers that do not repeat, take the machine to the `++` lines, and a run to a
-- file has read such lines.
-- Assumes nothing.
use mathlib.Core.Path.{◌≡◌, refl, sym, ap, ◌∙◌, subst}
use mathlib.Core.Bool.{Bool, true, false, not}
use mathlib.Core.List.{List, [], ◌∷◌, ◌++◌, append_assoc}
use Prim.Native.Nat.{ℕ, zero, suc, ◌+◌, ◌-◌, ◌≤◌}
use native.Mathlib.Omega.{arith}
use lib.Dec.{eqb}
use lib.ListN.{length, take, drop, length-append, length-drop}
use lib.Seq.{take_at, drop_at}
use borrow.Author.Tests.{eqb-true, ne_eqb, not-true, le-leb}
use Rattle.laws.proofs.Bools.{and_left, and_right, and_both}
use Rattle.laws.proofs.Lists.{one_less}
use Rattle.layout.specs.Fault.{lower}
use Rattle.layout.specs.Kind.{unless}
use Rattle.layout.specs.Line.{padded}
use Rattle.layout.proofs.Again.{lower-clean, passed}
use Rattle.record.specs.SlotLines.{more_of}
use Rattle.header.specs.Rules.{slot_lines}
use Rattle.record.specs.LineKinds.{satellites_kind, accuracies_kind}
use Rattle.header.specs.declared.types.Rules.{Rules}
use Rattle.record.specs.declared.types.LineKind.TheVariants as kind
use Rattle.record.specs.Agrees.{repeats}
use Rattle.machine.specs.State.{identifiers_in, fit_behind, laid_behind, identifiers_joined}
use Rattle.machine.specs.Faults.{satellites_fault}
use Rattle.machine.specs.Next.{expect, leave, after_identifiers, after_satellites}
use Rattle.machine.specs.Step.{identifiers_brought}
use Rattle.machine.specs.declared.types.State.{State}
use Rattle.machine.specs.declared.types.Verdict.TheVariants as verdict
use Rattle.file.specs.Plain.{is_line, is_record, are_slots, slot_identifiers}
use Rattle.scan.specs.Run.{run, counted}
use Rattle.scan.specs.declared.Tally.{Tally}
use Rattle.scan.specs.Front as front
use Rattle.scan_laws.proofs.Reaching.{counted_over, Reach, reach-append, reach-one, due-line}
use Rattle.scan_laws.proofs.Slots.{fresh_in, more-fresh, fresh-length, all-identifiers, one_line, first-new, all_new, none-new}

-- the fault of a `+ ` line: that of its columns, and 8 where an identifier repeats
abbrev pub identifiers_fault : ℕ → Bool → ℕ
identifiers_fault fault again = lower fault (unless (not again) 8 0)

pub identifiers-clean : (fault : ℕ) (again : Bool) → fault ≡ 0 → again ≡ false → identifiers_fault fault again ≡ 0
identifiers-clean fault again e f = rw (e, f)

pub clean-identifiers : (fault : ℕ) (again : Bool) → identifiers_fault fault again ≡ 0 → (fault ≡ 0) × (again ≡ false)
clean-identifiers fault again e =
    let parts = lower-clean fault (unless (not again) 8 0) e in
    (parts.0, not-true again (passed (not again) 8 0 (omega arith) parts.1))

module _ (rules : Rules) (s : State) (some : eqb s.satellites 0 ≡ false) where
  -- so many `+ ` lines are due, with the slots of so many satellites
  abbrev pub identifiers_due : ℕ → ℕ → State
  identifiers_due lines left = leave left (expect satellites_kind lines s)

  abbrev pub after_all : State
  after_all = leave s.satellites (expect accuracies_kind (slot_lines s.satellites) s)

  pub last_one : (left : ℕ) (p : List ℕ) → after_satellites rules (identifiers_due 1 left) p ≡ after_all
  unfolding after_satellites after_identifiers
  last_one left p = rw some

  pub one-of-more : (k left : ℕ) (p : List ℕ) → after_satellites rules (identifiers_due (suc (suc k)) left) p ≡ identifiers_due (suc k) (left - 17)
  unfolding after_satellites after_identifiers
  one-of-more k left p = rw (some, one_less (suc k), ne_eqb (suc k) 0 (λ e. omega arith))

  module _ (left : ℕ) (known rest : List ℕ) (many : length known + left ≡ s.satellites) where
    known-are : take (s.satellites - left) (known ++ rest) ≡ known
    known-are = take_at known rest (s.satellites - left) (omega (arith, many))

    rest-is : drop (s.satellites - left) (known ++ rest) ≡ rest
    rest-is = drop_at known rest (s.satellites - left) (omega (arith, many))

    pub fault-is : (lines : ℕ) (l : List ℕ) → satellites_fault rules (identifiers_due lines left) (known ++ rest) (padded l)
        ≡ identifiers_fault (more_of false left (padded l)).fault (repeats known (fresh_in left l))
    unfolding satellites_fault identifiers_in
    fault-is lines l = rw (some, known-are, more-fresh left l)

    -- the identifiers after one line more
    abbrev pub brought : List ℕ → List ℕ
    brought l = (known ++ fresh_in left l) ++ drop (length (fresh_in left l)) rest

    pub brought-is : left ≤ length rest → (lines : ℕ) (l : List ℕ) → identifiers_brought rules (identifiers_due lines left) (known ++ rest) l ≡ brought l
    unfolding identifiers_brought identifiers_joined laid_behind identifiers_in
    brought-is room lines l =
        let fits : fit_behind (s.satellites - left) (fresh_in left l) (known ++ rest) ≡ true =
        le-leb (s.satellites - left + length (fresh_in left l)) (length (known ++ rest)) (omega (arith, length-append known rest, fresh-length left l, room, many)) in
        rw (some, known-are, rest-is, more-fresh left l, fits) (sym (append_assoc known (fresh_in left l) (drop (length (fresh_in left l)) rest)))

    pub many-on : (l : List ℕ) → length (known ++ fresh_in left l) + (left - 17) ≡ s.satellites
    many-on l = omega (arith, length-append known (fresh_in left l), fresh-length left l, many)

    pub room-on : left ≤ length rest → (l : List ℕ) → left - 17 ≤ length (drop (length (fresh_in left l)) rest)
    room-on room l = omega (arith, length-drop (length (fresh_in left l)) rest, fresh-length left l, room)

    -- one line
    line-reach : left ≤ length rest → (lines : ℕ) (next : State) (l : List ℕ) → ((p : List ℕ) → after_satellites rules (identifiers_due lines left) p ≡ next)
        → is_record rules kind.Satellites (more_of false left (padded l)).fault l ≡ true → repeats known (fresh_in left l) ≡ false
        → Reach rules (identifiers_due lines left) (known ++ rest) (l ∷ []) next (brought l)
    line-reach room lines next l nexts is new =
        let fault = (more_of false left (padded l)).fault in
        reach-one rules kind.Satellites (identifiers_due lines left) next (known ++ rest) (brought l) l refl (and_left (is_line rules kind.Satellites l) _ is)
        (fault-is lines l ∙ identifiers-clean fault (repeats known (fresh_in left l)) (eqb-true fault 0 (and_right (is_line rules kind.Satellites l) _ is)) new)
        (ap verdict.Next (nexts (padded l))) (brought-is room lines l)

    record One (next : State) (t t' : Tally) (ls : List (List ℕ)) : Type 0 where
      line : List ℕ
      others : List (List ℕ)
      split : ls ≡ line ∷ others
      is : is_record rules kind.Satellites (more_of false left (padded line)).fault line ≡ true
      new : repeats known (fresh_in left line) ≡ false
      goes : run rules next (brought line) (counted rules t line) others ≡ front.File t'

    line_read : left ≤ length rest → (lines : ℕ) (next : State) (t t' : Tally) (ls : List (List ℕ)) → ((p : List ℕ) → after_satellites rules (identifiers_due lines left) p ≡ next)
        → run rules (identifiers_due lines left) (known ++ rest) t ls ≡ front.File t' → One next t t' ls
    line_read room lines next t t' ls nexts e =
        let x = due-line rules kind.Satellites (identifiers_due lines left) (known ++ rest) t t' ls refl refl e in
        let l = x.line in
        let parts = clean-identifiers (more_of false left (padded l)).fault (repeats known (fresh_in left l)) (sym (fault-is lines l) ∙ x.clean) in
        record {
          line = l;
          others = x.others;
          split = x.split;
          is = rw (x.is-kind, parts.0);
          new = parts.1;
          goes = rw (nexts (padded l), brought-is room lines l) at x.goes;
        }

  -- all further `+ ` lines
  pub identifiers-reach : (k left : ℕ) (known rest : List ℕ) (ls : List (List ℕ)) → length ls ≡ suc k → length known + left ≡ s.satellites → left ≤ length rest
      → are_slots rules false left ls ≡ true → repeats known (slot_identifiers left ls) ≡ false
      → (rest' : List ℕ) × Reach rules (identifiers_due (suc k) left) (known ++ rest) ls after_all ((known ++ slot_identifiers left ls) ++ rest')
  unfolding are_slots
  identifiers-reach k left known rest [] lines many room are new = absurd (omega arith)
  identifiers-reach zero left known rest (l ∷ []) lines many room are new =
      let rest' = drop (length (fresh_in left l)) rest in
      let is = and_left (is_record rules kind.Satellites (more_of false left (padded l)).fault l) _ are in (
        rest',
        subst (λ (r : List ℕ). Reach rules (identifiers_due 1 left) (known ++ rest) (l ∷ []) after_all (r ++ rest')) (one_line left known l)
            (line-reach left known rest many room 1 after_all l (last_one left) is (first-new left known l [] new).0),
      )
  identifiers-reach zero left known rest (l ∷ m ∷ ls) lines many room are new = absurd (omega arith)
  identifiers-reach (suc k) left known rest (l ∷ ls) lines many room are new =
      let parts = is_record rules kind.Satellites (more_of false left (padded l)).fault l in
      let known' = known ++ fresh_in left l in
      let rest' = drop (length (fresh_in left l)) rest in
      let both = first-new left known l ls new in
      let others =
      identifiers-reach k (left - 17) known' rest' ls (omega arith) (many-on left known rest many l) (room-on left known rest many room l)
      (and_right parts _ are) both.1 in
      let first = line-reach left known rest many room (suc (suc k)) (identifiers_due (suc k) (left - 17)) l (one-of-more k left) (and_left parts _ are) both.0 in (
        others.0,
        subst (λ (r : List ℕ). Reach rules (identifiers_due (suc (suc k)) left) (known ++ rest) (l ∷ ls) after_all (r ++ others.0)) (all-identifiers left known l ls)
            (reach-append rules (identifiers_due (suc (suc k)) left) (identifiers_due (suc k) (left - 17)) after_all (known ++ rest) (known' ++ rest')
            ((known' ++ slot_identifiers (left - 17) ls) ++ others.0) (l ∷ []) ls first others.1),
      )

  -- the `+ ` lines that a run to a file has read
  pub record Named (lines left : ℕ) (known : List ℕ) (t t' : Tally) (ls : List (List ℕ)) : Type 0 where
    pub used : List (List ℕ)
    pub more : List (List ℕ)
    pub split : ls ≡ used ++ more
    pub many : length used ≡ lines
    pub are : are_slots rules false left used ≡ true
    pub new : repeats known (slot_identifiers left used) ≡ false
    pub rest : List ℕ
    pub goes : run rules after_all ((known ++ slot_identifiers left used) ++ rest) (counted_over rules t used) more ≡ front.File t'

  -- one line more in front
  named_more : (lines left : ℕ) (known l : List ℕ) (t t' : Tally) (ls others : List (List ℕ)) → ls ≡ l ∷ others
      → is_record rules kind.Satellites (more_of false left (padded l)).fault l ≡ true → repeats known (fresh_in left l) ≡ false
      → Named lines (left - 17) (known ++ fresh_in left l) (counted rules t l) t' others → Named (suc lines) left known t t' ls
  unfolding counted_over are_slots
  named_more lines left known l t t' ls others split is new y = record {
    used = l ∷ y.used;
    more = y.more;
    split = split ∙ ap (λ (r : List (List ℕ)). l ∷ r) y.split;
    many = ap suc y.many;
    are = and_both (is_record rules kind.Satellites (more_of false left (padded l)).fault l) _ is y.are;
    new = all_new left known l y.used new y.new;
    rest = y.rest;
    goes =
        subst (λ (r : List ℕ). run rules after_all (r ++ y.rest) (counted_over rules (counted rules t l) y.used) y.more ≡ front.File t')
        (all-identifiers left known l y.used) y.goes;
  }

  pub identifiers-read : (k left : ℕ) (known rest : List ℕ) (t t' : Tally) (ls : List (List ℕ)) → length known + left ≡ s.satellites → left ≤ length rest
      → run rules (identifiers_due (suc k) left) (known ++ rest) t ls ≡ front.File t' → Named (suc k) left known t t' ls
  unfolding counted_over are_slots
  identifiers-read zero left known rest t t' ls many room e =
      let x = line_read left known rest many room 1 after_all t t' ls (last_one left) e in
      let rest' = drop (length (fresh_in left x.line)) rest in
      record {
        used = x.line ∷ [];
        more = x.others;
        split = x.split;
        many = refl;
        are = rw x.is;
        new = all_new left known x.line [] x.new (none-new (left - 17) (known ++ fresh_in left x.line));
        rest = rest';
        goes = subst (λ (r : List ℕ). run rules after_all (r ++ rest') (counted rules t x.line) x.others ≡ front.File t') (one_line left known x.line) x.goes;
      }
  identifiers-read (suc k) left known rest t t' ls many room e =
      let x = line_read left known rest many room (suc (suc k)) (identifiers_due (suc k) (left - 17)) t t' ls (one-of-more k left) e in
      let l = x.line in
      named_more (suc k) left known l t t' ls x.others x.split x.is x.new
      (identifiers-read k (left - 17) (known ++ fresh_in left l) (drop (length (fresh_in left l)) rest) (counted rules t l) t' x.others
      (many-on left known rest many l) (room-on left known rest many room l) x.goes)
