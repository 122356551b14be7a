-- The front page for the adjustment's loop: a walk over an accepted file, with its identifiers, gives every row of the file in order, each with its epoch
-- and its satellite, absence a case, and then the end.
-- Assumes nothing.
use mathlib.Core.Path.{◌≡◌, refl, sym, ap, ◌∙◌, subst}
use mathlib.Core.Bool.{Bool, true, false, cond, false≢true}
use mathlib.Core.Logic.{◌⊎◌, inl, inr}
use mathlib.Core.List.{List, [], ◌∷◌}
use Prim.Native.Nat.{ℕ, zero, suc, ◌+◌, ◌-◌, ◌*◌, ◌/◌, ◌%◌, ◌^◌, ◌≤◌, ◌<◌}
use native.Mathlib.Nat.{le_of_suc-le-suc, add-zero, mod-eq_of_lt, div-eq_of_lt, mul-add-div_right, mul-add-mod_self_right, mul-le-mul, mul-le-mul_right, mul_comm, suc-mul}
use native.Mathlib.Omega.{arith}
use borrow.Author.Tests.{ne_eqb}
use lib.Dec.{eqb, leb}
use lib.ListN.{length, drop, drop_of_length-le}
use Rattle.laws.specs.Texts.{every, is_printable}
use Rattle.layout.specs.Line.{padded}
use Rattle.header.specs.Rules.{max_satellites, max_epochs}
use Rattle.lines.specs.Lines.{lines_of, select, nth}
use Rattle.record.specs.LineKinds.{position_kind, told_kind, kind_of, longest}
use Rattle.record.specs.Rows.{row_of, six_nines_in}
use Rattle.file.specs.Kinds.{is_kind, of_kind}
use Rattle.machine.specs.Faults.{standing_fault}
use Rattle.machine.specs.Next.{next_of}
use Rattle.machine.specs.Step.{on_key, judged_line, printed_line, step_of, read_first, line_known}
use Rattle.float_row.specs.Floats.{float_row, line_from}
use Rattle.reader.specs.Reading.{front_of, file_of}
use Rattle.file.specs.Table.{count_of, header_in}
use Rattle.scan.specs.Run.{stepped_over, at_first}
use Rattle.questions.proofs.Asking.{bounded}
use Rattle.scan_laws.proofs.Files.{whole-taken}
use Rattle.scan_laws.proofs.Local.{whole-ends}
use Rattle.scan_laws.proofs.Refused.{EndsAfter, accepted-steps}
use Rattle.scan_laws.proofs.Stepping.{behind-next, next-line, stepped-on}
use Rattle.scan_laws.specs.Lines.{judged}
use Rattle.scan_laws.proofs.Used.{front_lines, accepted-front}
use Rattle.theorems.specs.Faults.{after}
use Rattle.theorems.proofs.Known.{Knows, known-steps}
use Rattle.theorems.proofs.Reading.{rows-number}
use Rattle.theorems.specs.Files.{header, row_lines_of, row_at, There, line_asked}
use Rattle.theorems.proofs.Floats.{row-asked, asked-six-nines}
use Rattle.theorems.specs.Asked.{asked}
use Rattle.theorems.specs.Walked.{spot_of}
use Rattle.line_walk.specs.Spots.{first_spot}
use Rattle.row_walk.specs.Rows.{first_walk, to_row, line_number, epoch_of, satellite_of, shown, step_at, step_from, row_step, row_of_step}
use Rattle.row_walk.proofs.Going.{passed-to}
use Rattle.divide.proofs.Ending.{ends-or-on}
use Rattle.record.specs.declared.types.LineKind.{LineKind}
use Rattle.machine.specs.declared.types.State.{State}
use Rattle.machine.specs.declared.types.Verdict.{Verdict}
use Rattle.machine.specs.declared.types.Verdict.TheVariants as verdict
use Rattle.machine.specs.declared.types.LineRead.TheVariants as line_found
use Rattle.float_row.specs.declared.FloatRow.{FloatRow}
use Rattle.questions.specs.declared.types.RowAnswer.{RowAnswer}
use Rattle.scan.specs.declared.Tally.{Tally}
use Rattle.scan.specs.Front as front
use Rattle.line_walk.specs.declared.Spot.{Spot}
use Rattle.row_walk.specs.declared.types.RowWalk.{RowWalk}
use Rattle.row_walk.specs.declared.types.RowStep.{RowStep}
use Rattle.row_walk.specs.declared.types.RowStep.TheVariants as step
use Rattle.theorems.specs.Walked.{on_row, steps_from, walk_step, Identified, spot_ahead}
use Rattle.canon_laws.specs.Held.{Proper}
use Rattle.header.specs.declared.types.Rules.{Rules}

-- a line that ends the file is no P line
past-test : (b : Bool) (v : Verdict) (m c : ℕ) → cond b v (verdict.Fault m c) ≡ verdict.Finished → v ≡ verdict.Finished
past-test true v m c e = e
past-test false v m c e = let z : ◌≡◌ {A = ℕ} 0 1 = cc in absurd (omega arith)

module _ {rules : Rules} (proper : Proper rules) where
  last-kind : (k : LineKind) (s : State) (line : List ℕ) → next_of k rules s line ≡ verdict.Finished → eqb (told_kind k) 10 ≡ false
  last-kind k s line e = go (ends-or-on rules k s line)
    where
      go : ((told_kind k ≡ 14) × (next_of k rules s line ≡ verdict.Finished))
          ⊎ ((s' : State) × (eqb (told_kind k) 14 ≡ false) × (next_of k rules s line ≡ verdict.Next s'))
          → eqb (told_kind k) 10 ≡ false
      go (inl (is, ends)) = ap (λ (n : ℕ). eqb n 10) is
      go (inr (s', other, on)) =
          let both : verdict.Finished ≡ verdict.Next s' = sym e ∙ on in
          let z : ◌≡◌ {A = ℕ} 0 1 = cc in
          absurd (omega arith)

  pub last-no-row : (s : State) (identifiers l : List ℕ) → step_of rules s identifiers l ≡ verdict.Finished → is_kind rules position_kind l ≡ false
  unfolding step_of printed_line judged_line on_key
  last-no-row s identifiers l e =
      let k = kind_of rules (padded l) in
      last-kind k s (padded l)
      (past-test (eqb (standing_fault k rules s identifiers (padded l)) 0) _ _ _
      (past-test (leb (length l) (longest rules k)) _ _ _ (past-test (every is_printable l) _ _ _ e)))

  row-leads : (epoch satellite : ℕ) (row : FloatRow) (next : RowWalk) (more : RowWalk → RowStep) → on_row (shown epoch satellite row next) more ≡ more next
  unfolding shown
  row-leads epoch satellite row next more = go row.place_absent
    where
      go : (b : Bool) → on_row (cond b (step.Absent epoch satellite row next) (step.At epoch satellite row next)) more ≡ more next
      go true = refl
      go false = refl

  -- a row that is shown is the one that is given
  row-shown : (epoch satellite : ℕ) (row : FloatRow) (next : RowWalk) → (row_of_step (shown epoch satellite row next)).clock_absent ≡ row.clock_absent
  unfolding shown
  row-shown epoch satellite row next = go row.place_absent
    where
      go : (b : Bool) → (row_of_step (cond b (step.Absent epoch satellite row next) (step.At epoch satellite row next))).clock_absent ≡ row.clock_absent
      go true = refl
      go false = refl

  module _ (bytes identifiers : List ℕ) where
    module _ (n : ℕ) where
      abbrev behind : Spot → List ℕ → State → Spot
      behind p l s = record { at = p.at + length l + 1; state = s }

      -- each of the lines goes on with these identifiers, up to the one that ends the file, which is the last; where a P line stands there are n satellites
      unfoldable pub Ahead : Spot → List (List ℕ) → Type 0
      Ahead p [] = ⊥
      Ahead p (l ∷ ls) =
          ((step_of rules p.state identifiers l ≡ verdict.Finished) × (ls ≡ []))
          ⊎ ((s : State) × (step_of rules p.state identifiers l ≡ verdict.Next s) × (is_kind rules position_kind l ≡ true → p.state.satellites ≡ n) × Ahead (behind p l s) ls)

      -- what a walk to the next row finds
      record Row (q : Spot) (l : List ℕ) (more rows : List (List ℕ)) : Type 0 where
        state : State
        goes : step_of rules q.state identifiers l ≡ verdict.Next state
        many : q.state.satellites ≡ n
        rows_are : rows ≡ l ∷ of_kind rules position_kind more
        ahead : Ahead (behind q l state) more

      record Found (p : Spot) (ls : List (List ℕ)) : Type 0 where
        q : Spot
        l : List ℕ
        more : List (List ℕ)
        is : to_row rules identifiers p ls ≡ q
        here : lines_of (drop q.at bytes) ≡ l ∷ more
        what : Row q l more (of_kind rules position_kind ls) ⊎ ((step_of rules q.state identifiers l ≡ verdict.Finished) × (of_kind rules position_kind ls ≡ []))

      found : (ls : List (List ℕ)) (p : Spot) → Ahead p ls → lines_of (drop p.at bytes) ≡ ls → Found p ls
      unfolding Ahead to_row select
      found [] p ahead here = absurd ahead
      found (l ∷ ls) p ahead here = go (is_kind rules position_kind l) refl ahead (found ls)
        where
          go : (b : Bool) → is_kind rules position_kind l ≡ b
              → ((step_of rules p.state identifiers l ≡ verdict.Finished) × (ls ≡ []))
              ⊎ ((s : State) × (step_of rules p.state identifiers l ≡ verdict.Next s) × (is_kind rules position_kind l ≡ true → p.state.satellites ≡ n) × Ahead (behind p l s) ls)
              → ((p' : Spot) → Ahead p' ls → lines_of (drop p'.at bytes) ≡ ls → Found p' ls)
              → Found p (l ∷ ls)
          go true is (inl (last, none)) later = absurd (false≢true (sym (last-no-row p.state identifiers l last) ∙ is))
          go true is (inr (s, goes, many, more)) later = record {
            q = p;
            l = l;
            more = ls;
            is = rw is;
            here = here;
            what = inl (record { state = s; goes = goes; many = many is; rows_are = rw is; ahead = more });
          }
          go false is (inl (last, none)) later = record { q = p; l = l; more = ls; is = rw (is, last); here = here; what = inr (last, rw (is, none)) }
          go false is (inr (s, goes, many, more)) later =
              let f = later (behind p l s) more (passed-to bytes p.at l ls here).1 in
              record {
                q = f.q;
                l = f.l;
                more = f.more;
                is = rw (is, goes) f.is;
                here = f.here;
                what = rw is f.what;
              }

      -- the line at a spot, as it is read
      line-here : (q : Spot) (l : List ℕ) (more : List (List ℕ)) → lines_of (drop q.at bytes) ≡ l ∷ more → line_from q.at bytes ≡ l
      unfolding nth
      line-here q l more e = rw e

      -- one row of the walk
      record Taken (passed-so : ℕ) (rows : List (List ℕ)) (w : RowWalk) : Type 0 where
        l : List ℕ
        others : List (List ℕ)
        next : Spot
        rows_are : rows ≡ l ∷ of_kind rules position_kind others
        gives : row_step rules bytes identifiers w ≡ shown (epoch_of passed-so n) (satellite_of passed-so n) (float_row (row_of false l)) (record { spot = next; passed = passed-so + 1 })
        ahead : Ahead next others
        here : lines_of (drop next.at bytes) ≡ others

      module _ (p : Spot) (ls : List (List ℕ)) (r : ℕ) (ahead : Ahead p ls) (here : lines_of (drop p.at bytes) ≡ ls) where
        abbrev at_row : RowWalk
        at_row = record { spot = p; passed = r }

        to-there : (q : Spot) → to_row rules identifiers p ls ≡ q → row_step rules bytes identifiers at_row ≡ step_from rules bytes identifiers r q
        to-there q is = ap (step_from rules bytes identifiers r) (ap (to_row rules identifiers p) here ∙ is)

        row-step : (q : Spot) (l : List ℕ) (more : List (List ℕ)) (s : State) → lines_of (drop q.at bytes) ≡ l ∷ more → step_of rules q.state identifiers l ≡ verdict.Next s
            → q.state.satellites ≡ n → r + 1 < 2 ^ 64
            → step_from rules bytes identifiers r q ≡ shown (epoch_of r n) (satellite_of r n) (float_row (row_of false l)) (record { spot = behind q l s; passed = r + 1 })
        unfolding step_from step_at read_first
        row-step q l more s e goes many small =
            let fits : (r + 1) % 2 ^ 64 ≡ r + 1 = mod-eq_of_lt small in
            let next : RowWalk = record { spot = behind q l s; passed = r + 1 } in
            rw (e, goes, many, fits) (ap (λ (x : List ℕ). shown (epoch_of r n) (satellite_of r n) (float_row (row_of false x)) next) (line-here q l more e))

        end_step : (q : Spot) (l : List ℕ) (more : List (List ℕ)) → lines_of (drop q.at bytes) ≡ l ∷ more → step_of rules q.state identifiers l ≡ verdict.Finished
            → step_from rules bytes identifiers r q ≡ step.End
        unfolding step_from step_at read_first
        end_step q l more e last = rw (e, last)

        -- where rows are left, the next of them; where none is, the end
        next_row : r + 1 < 2 ^ 64 → Taken r (of_kind rules position_kind ls) at_row ⊎ ((of_kind rules position_kind ls ≡ []) × (row_step rules bytes identifiers at_row ≡ step.End))
        next_row small = go (found ls p ahead here)
          where
            go : Found p ls → Taken r (of_kind rules position_kind ls) at_row ⊎ ((of_kind rules position_kind ls ≡ []) × (row_step rules bytes identifiers at_row ≡ step.End))
            go f = by f.what
              where
                by : Row f.q f.l f.more (of_kind rules position_kind ls) ⊎ ((step_of rules f.q.state identifiers f.l ≡ verdict.Finished) × (of_kind rules position_kind ls ≡ []))
                    → Taken r (of_kind rules position_kind ls) at_row ⊎ ((of_kind rules position_kind ls ≡ []) × (row_step rules bytes identifiers at_row ≡ step.End))
                by (inl row) = inl (record {
                  l = f.l;
                  others = f.more;
                  next = behind f.q f.l row.state;
                  rows_are = row.rows_are;
                  gives = to-there f.q f.is ∙ row-step f.q f.l f.more row.state f.here row.goes row.many small;
                  ahead = row.ahead;
                  here = (passed-to bytes f.q.at f.l f.more f.here).1;
                })
                by (inr (last, none)) = inr (none, to-there f.q f.is ∙ end_step f.q f.l f.more f.here last)

      -- the answer of step i: row i of those that follow, or the end after the last
      record Gives (w : RowWalk) (r i : ℕ) (rows : List (List ℕ)) : Type 0 where
        row : i < length rows
            → (next : RowWalk) × (steps_from rules bytes identifiers w i ≡ shown (epoch_of (r + i) n) (satellite_of (r + i) n) (float_row (row_of false (nth i rows))) next)
        end : i ≡ length rows → steps_from rules bytes identifiers w i ≡ step.End

      -- the first of them
      gives-first : (p : Spot) (r : ℕ) (rows : List (List ℕ))
          → Taken r rows (record { spot = p; passed = r }) ⊎ ((rows ≡ []) × (row_step rules bytes identifiers (record { spot = p; passed = r }) ≡ step.End))
          → Gives (record { spot = p; passed = r }) r 0 rows
      unfolding steps_from nth
      gives-first p r rows (inl x) = record {
        row = λ some. (record { spot = x.next; passed = r + 1 }, rw (x.rows_are, add-zero r) x.gives);
        end = λ none. absurd (omega (arith, ap length x.rows_are));
      }
      gives-first p r rows (inr (none, end)) = record { row = λ some. absurd (omega (arith, ap length none)); end = λ all. end }

      -- a later one
      gives-later : (i : ℕ) (p next : Spot) (r : ℕ) (l : List ℕ) (others : List (List ℕ))
          → row_step rules bytes identifiers (record { spot = p; passed = r })
          ≡ shown (epoch_of r n) (satellite_of r n) (float_row (row_of false l)) (record { spot = next; passed = r + 1 })
          → Gives (record { spot = next; passed = r + 1 }) (r + 1) i others → Gives (record { spot = p; passed = r }) r (suc i) (l ∷ others)
      unfolding steps_from nth
      gives-later i p next r l others first more =
          let leads : steps_from rules bytes identifiers (record { spot = p; passed = r }) (suc i) ≡ steps_from rules bytes identifiers (record { spot = next; passed = r + 1 }) i =
          ap (λ (x : RowStep). on_row x (λ (w : RowWalk). (steps_from rules) bytes identifiers w i)) first
          ∙ row-leads (epoch_of r n) (satellite_of r n) (float_row (row_of false l)) (record { spot = next; passed = r + 1 }) (λ w. steps_from rules bytes identifiers w i) in
          let sum : r + 1 + i ≡ r + suc i = omega arith in
          record {
            row = λ some. let x = more.row (le_of_suc-le-suc some) in (x.0, leads ∙ rw (← sum) x.1);
            end = λ all. leads ∙ more.end (omega arith);
          }

      gives : (i : ℕ) (p : Spot) (ls : List (List ℕ)) (r : ℕ) → Ahead p ls → lines_of (drop p.at bytes) ≡ ls → r + length (of_kind rules position_kind ls) + 1 < 2 ^ 64
          → Gives (record { spot = p; passed = r }) r i (of_kind rules position_kind ls)
      gives zero p ls r ahead here small = gives-first p r (of_kind rules position_kind ls) (next_row p ls r ahead here (omega arith))
      gives (suc i) p ls r ahead here small = by (next_row p ls r ahead here (omega arith)) (gives i)
        where
          by : Taken r (of_kind rules position_kind ls) (record { spot = p; passed = r }) ⊎ ((of_kind rules position_kind ls ≡ []) × (row_step rules bytes identifiers (record { spot = p; passed = r }) ≡ step.End))
              → ((p' : Spot) (ls' : List (List ℕ)) (r' : ℕ) → Ahead p' ls' → lines_of (drop p'.at bytes) ≡ ls' → r' + length (of_kind rules position_kind ls') + 1 < 2 ^ 64
              → Gives (record { spot = p'; passed = r' }) r' i (of_kind rules position_kind ls'))
              → Gives (record { spot = p; passed = r }) r (suc i) (of_kind rules position_kind ls)
          by (inl x) more =
              rw x.rows_are
              (gives-later i p x.next r x.l (of_kind rules position_kind x.others) x.gives
              (more x.next x.others (r + 1) x.ahead x.here (omega (arith, ap length x.rows_are))))
          by (inr (none, end)) more =
              record { row = λ some. absurd (omega (arith, ap length none)); end = λ all. absurd (omega (arith, ap length none)) }

  -- AN ACCEPTED FILE, and a list that begins with its identifiers.
  module _ (bytes : List ℕ) (t : Tally) (accepted : file_of rules bytes ≡ front.File t) (identifiers : List ℕ) (identified : Identified rules bytes identifiers) where
    at_front : front_of rules bytes ≡ front.File t
    at_front = (whole-ends rules bytes t accepted).0

    lines-all : front_lines bytes t ≡ lines_of bytes
    lines-all = ap lines_of (whole-taken rules bytes t accepted)

    lines-many : t.lines ≡ length (lines_of bytes)
    lines-many = (accepted-front rules bytes t at_front).lines ∙ ap length lines-all

    knows : Knows rules bytes t identifiers
    unfolding header_in
    knows = rw lines-all identified

    ends : EndsAfter rules bytes t (t.lines - 1)
    ends = accepted-steps rules bytes t at_front

    abbrev n : ℕ
    n = (header rules bytes).satellites

    abbrev lines : List (List ℕ)
    lines = lines_of bytes

    same : (k : ℕ) → k < t.lines
        → (step_of rules (after rules bytes k).state identifiers (nth k lines) ≡ judged rules (after rules bytes k) (nth k lines))
        × (is_kind rules position_kind (nth k lines) ≡ true → (after rules bytes k).state.satellites ≡ n)
    unfolding header_in
    same k h =
        let both = known-steps rules proper.sound bytes t at_front identifiers knows k h in
        (both.0, λ row. both.1 row ∙ ap (count_of rules) lines-all)

    -- from behind each line but the last
    ahead : (m k : ℕ) → k + m ≡ t.lines - 1 → Ahead bytes identifiers n (spot_of (after rules bytes k)) (drop k lines)
    unfolding Ahead
    ahead zero k e =
        let some : k < t.lines = omega (arith, ends.lines) in
        let below : k < length lines = omega (arith, lines-many) in
        let past : length lines ≤ suc k = omega (arith, lines-many) in
        let none : drop (suc k) lines ≡ [] = drop_of_length-le lines past in
        let last : k ≡ t.lines - 1 = omega arith in
        rw (next-line k lines below) (inl ((same k some).0 ∙ ap (λ (i : ℕ). judged rules (after rules bytes i) (nth i lines)) last ∙ ends.last, none))
    ahead (suc m) k e =
        let some : k < t.lines = omega arith in
        let below : k < length lines = omega (arith, lines-many) in
        let on = ends.goes k (omega arith) in
        let next : spot_of (after rules bytes (suc k)) ≡ record { at = (after rules bytes k).at + length (nth k lines) + 1; state = on.0 } =
        ap spot_of (behind-next rules k lines at_first below ∙ stepped-on rules (after rules bytes k) (nth k lines) on.0 on.1) in
        rw (next-line k lines below)
        (inr (on.0, (same k some).0 ∙ on.1, (same k some).1, subst (λ (p : Spot). Ahead bytes identifiers n p (drop (suc k) lines)) next (ahead m (suc k) (omega arith))))

    rows-many : length (row_lines_of rules false bytes) ≡ (header rules bytes).satellites * (header rules bytes).epochs
    rows-many = rows-number proper bytes (t, accepted)

    few : length (row_lines_of rules false bytes) ≤ max_satellites * max_epochs
    unfolding header_in
    few =
        let bounds = bounded proper.sound bytes t accepted in
        let satellites-few : (header rules bytes).satellites ≤ max_satellites = rw lines-all at bounds.1 in
        let epochs-few : (header rules bytes).epochs ≤ max_epochs = rw lines-all at bounds.0 in
        let product : (header rules bytes).satellites * (header rules bytes).epochs ≤ max_satellites * max_epochs = mul-le-mul satellites-few epochs-few in
        omega (arith, rows-many)

    given : (i : ℕ) → Gives bytes identifiers n first_walk 0 i (row_lines_of rules false bytes)
    unfolding stepped_over
    given i =
        let first : 0 + (t.lines - 1) ≡ t.lines - 1 = omega arith in
        gives bytes identifiers n i first_spot lines 0 (ahead (t.lines - 1) 0 first) refl (omega (arith, few))

    -- THE WALK: step k * n + j gives epoch k and satellite j, and the row that the row question gives for them.
    pub walk-gives : (k j : ℕ) → There rules bytes k j → (next : RowWalk) × (walk_step rules bytes identifiers (row_at rules bytes k j) ≡ shown k j (asked rules bytes k j).row next)
    unfolding epoch_of satellite_of
    walk-gives k j there =
        let some : 0 < n = omega (arith, there.satellite) in
        let number : row_at rules bytes k j < length (row_lines_of rules false bytes) = row_below k j there in
        let x = (given (row_at rules bytes k j)).row number in
        let not_none : eqb n 0 ≡ false = ne_eqb n 0 (λ e. omega arith) in
        let epoch : row_at rules bytes k j / n ≡ k = mul-add-div_right some k j ∙ ap (λ (q : ℕ). k + q) (div-eq_of_lt there.satellite) ∙ add-zero k in
        let satellite : row_at rules bytes k j % n ≡ j = mul-add-mod_self_right k n j ∙ mod-eq_of_lt there.satellite in
        let whole : 0 + row_at rules bytes k j ≡ row_at rules bytes k j = omega arith in
        let row : float_row (row_of false (nth (row_at rules bytes k j) (row_lines_of rules false bytes))) ≡ (asked rules bytes k j).row =
        sym (ap (λ (a : RowAnswer). a.row) (row-asked proper bytes (t, accepted) k j there)) in
        (x.0, x.1 ∙ rw (whole, not_none, epoch, satellite, row))
      where
        row_below : (k j : ℕ) → There rules bytes k j → row_at rules bytes k j < length (row_lines_of rules false bytes)
        row_below k j there =
            let more : suc k * n ≤ (header rules bytes).epochs * n = mul-le-mul_right n there.epoch in
            let turn : (header rules bytes).epochs * n ≡ n * (header rules bytes).epochs = mul_comm (header rules bytes).epochs n in
            let one : suc k * n ≡ k * n + n = suc-mul k n in
            omega (arith, there.satellite, rows-many)

    -- After all rows, satellites times epochs of them, comes the end.
    pub walk_ends : walk_step rules bytes identifiers ((header rules bytes).satellites * (header rules bytes).epochs) ≡ step.End
    walk_ends = (given ((header rules bytes).satellites * (header rules bytes).epochs)).end (sym rows-many)

    -- ABSENCE IS A CASE: a row comes as absent exactly when its place is marked so, that is when its three fields are zero, whatever its clock.
    module _ (k j : ℕ) (there : There rules bytes k j) where
      pub walk-absent : (asked rules bytes k j).row.place_absent ≡ true
          → (next : RowWalk) × (walk_step rules bytes identifiers (row_at rules bytes k j) ≡ step.Absent k j (asked rules bytes k j).row next)
      unfolding shown
      walk-absent e = let x = walk-gives k j there in (x.0, x.1 ∙ rw e)

      pub walk_at : (asked rules bytes k j).row.place_absent ≡ false
          → (next : RowWalk) × (walk_step rules bytes identifiers (row_at rules bytes k j) ≡ step.At k j (asked rules bytes k j).row next)
      unfolding shown
      walk_at e = let x = walk-gives k j there in (x.0, x.1 ∙ rw e)

      -- THE CLOCK of the row that comes is marked absent exactly where columns 47 to 53 of its line hold 999999 without a minus.
      pub walk-clock : (row_of_step (walk_step rules bytes identifiers (row_at rules bytes k j))).clock_absent ≡ six_nines_in (line_asked rules false bytes k j)
      walk-clock =
          let x = walk-gives k j there in
          ap (λ (s : RowStep). (row_of_step s).clock_absent) x.1 ∙ row-shown k j (asked rules bytes k j).row x.0 ∙ asked-six-nines proper bytes (t, accepted) k j there

  -- A LINE ON THE WAY THAT IS REFUSED is the walk's refusal, with its number, its line and its column; where no line is left it is 1.
  module _ (bytes identifiers : List ℕ) (w : RowWalk) where
    pub step-refused : (number column : ℕ) → line_known rules bytes (spot_ahead rules bytes identifiers w).at (spot_ahead rules bytes identifiers w).state identifiers ≡ line_found.Fault number column
        → row_step rules bytes identifiers w ≡ step.Refused number (line_number bytes (spot_ahead rules bytes identifiers w).at) column
    unfolding step_from step_at
    step-refused number column e = rw e refl

    pub step-ran-out : line_known rules bytes (spot_ahead rules bytes identifiers w).at (spot_ahead rules bytes identifiers w).state identifiers ≡ line_found.NoLine
        → row_step rules bytes identifiers w ≡ step.Refused 1 (line_number bytes (spot_ahead rules bytes identifiers w).at) 0
    unfolding step_from step_at
    step-ran-out e = rw e refl
