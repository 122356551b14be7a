-- The comments of a version: a `/*` line that is longer than it allows earns 3, wherever it stands; one more than it has earns 4, and so does an epoch
-- before which one is missing.
-- Assumes nothing.
use mathlib.Core.Path.{◌≡◌, refl, sym, ap, ◌∙◌, subst}
use mathlib.Core.Bool.{Bool, true, false, cond, ◌||◌, false≢true}
use mathlib.Core.List.{List, [], ◌∷◌}
use mathlib.Core.Logic.{inr}
use Prim.Native.Nat.{ℕ, zero, suc, ◌+◌, ◌-◌, ◌≤◌, ◌<◌, min}
use native.Mathlib.Omega.{arith}
use lib.Dec.{eqb, leb}
use lib.ListN.{length, take}
use borrow.Author.Tests.{eqb-true, eqb-false, le-leb, lt-leb}
use Rattle.laws.specs.Texts.{every, is_printable}
use Rattle.layout.specs.Line.{padded}
use Rattle.header.specs.Rules.{c}
use Rattle.header.specs.declared.types.Rules.{Rules}
use Rattle.lines.specs.Lines.{lines_of, select, nth}
use Rattle.record.specs.LineKinds.{no_kind, floats_kind, integers_kind, comment_kind, epoch_kind, position_correlation_kind, velocity_correlation_kind, told_kind, longest}
use Rattle.record.specs.SlotLines.{satellites_of}
use Rattle.record.specs.declared.types.LineKind.{LineKind}
use Rattle.record.specs.declared.types.LineKind.TheVariants as kind
use Rattle.record.proofs.Determined.{told_kind-one}
use Rattle.machine.specs.State.{stands, is_first}
use Rattle.machine.specs.Next.{expect, allow, line_less, after_first, after_second, after_count, after_identifiers, after_satellites, after_accuracies, comments_due, after_integers, after_epoch, satellite_done, after_position, next_of}
use Rattle.machine.specs.Faults.{standing_fault}
use Rattle.machine.specs.Step.{on_key, judged_line, printed_line, step_of}
use Rattle.machine.specs.declared.types.State.{State}
use Rattle.machine.specs.declared.types.Verdict.{Verdict}
use Rattle.machine.specs.declared.types.Verdict.TheVariants as verdict
use Rattle.file.specs.Kinds.{is_kind, of_kind}
use Rattle.file.specs.Plain.{Sound}
use Rattle.scan.specs.Run.{Going, nothing_seen, on_verdict, one_more, stepped, stepped_over, at_first, whole_front}
use Rattle.scan.specs.Front.{Front}
use Rattle.scan.specs.Front as front
use Rattle.scan_laws.specs.Earned.{kind_at, Earns}
use Rattle.scan_laws.specs.Lines.{GoOn, behind}
use Rattle.scan_laws.proofs.Passing.{is-line, good, step-of}
use Rattle.scan_laws.proofs.Refused.{first-refused}
use Rattle.reader.specs.Reading.{judged, front_of, refused_with}
use Rattle.canon_laws.specs.Held.{Proper}
use Rattle.theorems.specs.Faults.{after, AllGoOn, Earned}
use Rattle.theorems.specs.Room.{found_in}

-- a line with the number of a kind is of that kind
of-kind : (rules : Rules) (x : LineKind) (line : List ℕ) → is_kind rules (told_kind x) line ≡ true → kind_at rules line ≡ x
of-kind rules x line is = told_kind-one (kind_at rules line) x (eqb-true (told_kind (kind_at rules line)) (told_kind x) is)

-- a test that does not pass
not-true : (b : Bool) → (b ≡ true → ⊥) → b ≡ false
not-true true fails = absurd (fails refl)
not-true false fails = refl

-- a line more, by a test of it
one-more : (test : List ℕ → Bool) (l : List ℕ) (ls : List (List ℕ)) (n : ℕ) → one_more (test l) n + length (select test ls) ≡ n + length (select test (l ∷ ls))
unfolding select
one-more test l ls n = go (test l)
  where
    go : (b : Bool) → one_more b n + length (select test ls) ≡ n + length (cond b (l ∷ select test ls) (select test ls))
    go true = omega arith
    go false = refl

-- A `/*` LINE LONGER THAN THE VERSION ALLOWS earns 3 with the column after the last that it may have, whatever stood before it;
pub too_long : (rules : Rules) (s : State) (identifiers line : List ℕ) → is_kind rules comment_kind line ≡ true → min 80 rules.comment_columns < length line
    → Earns rules s identifiers line 3 (min 80 rules.comment_columns + 1)
too_long rules s identifiers line is long =
    let same : longest rules (kind_at rules line) ≡ min 80 rules.comment_columns = ap (longest rules) (of-kind rules kind.Comment line is) in
    Earns.by_length (subst (λ (n : ℕ). n < length line) (sym same) long) refl (ap (λ (n : ℕ). n + 1) (sym same))

-- so in SP3-c one of more than 60 characters, with column 61.
pub long-comment : (s : State) (identifiers line : List ℕ) → is_kind c comment_kind line ≡ true → 60 < length line → Earns c s identifiers line 3 61
long-comment s identifiers line is long = too_long c s identifiers line is long

-- what may stand besides the kind due: nothing, a comment, a correlation record
abbrev aside : ℕ → Bool
aside kind = eqb kind no_kind || (eqb kind comment_kind || leb position_correlation_kind kind)

module _ (rules : Rules) where
  -- where a comment may stand, the version has one more, and as many as must come; with those read before they are all that it has
  record Allowed (s : State) (read : ℕ) : Type 0 where
    some : 1 ≤ s.comments
    enough : s.lines ≤ s.comments
    wanted : rules.fewest_comments ≤ s.lines + read
    all : s.comments + read ≡ rules.most_comments

  -- a state after so many comments: none before they are due, and none is missing once an epoch is due
  record Commented (s : State) (read : ℕ) : Type 0 where
    early : s.due ≤ integers_kind → read ≡ 0
    late : epoch_kind ≤ s.due → rules.fewest_comments ≤ read
    others : aside s.also ≡ true
    allowed : stands s kind.Comment ≡ true → Allowed s read

  either : (read : ℕ) (b : Bool) (s t : State) → Commented s read → Commented t read → Commented (cond b s t) read
  either read true s t p q = p
  either read false s t p q = q

  -- a state where no comment may stand: in the header,
  module _ (s : State) (read : ℕ) where
    none-stands : (s.due ≡ comment_kind → ⊥) → eqb comment_kind s.also ≡ false → stands s kind.Comment ≡ true → ⊥
    none-stands due also here = go (eqb comment_kind s.due) refl here
      where
        go : (b : Bool) → eqb comment_kind s.due ≡ b → (b || eqb comment_kind s.also) ≡ true → ⊥
        go true e h = due (sym (eqb-true comment_kind s.due e))
        go false e h = false≢true (sym also ∙ h)

    in-header : read ≡ 0 → s.due ≤ integers_kind → s.also ≡ no_kind → Commented s read
    in-header none due also = record {
      early = λ _. none;
      late = λ h. absurd (omega arith);
      others = ap aside also;
      allowed = λ here. absurd (none-stands (λ e. omega arith) (ap (eqb comment_kind) also) here);
    }

    -- or behind the comments
    behind-them : rules.fewest_comments ≤ read → epoch_kind ≤ s.due → aside s.also ≡ true → eqb comment_kind s.also ≡ false → Commented s read
    behind-them enough due may also = record {
      early = λ h. absurd (omega arith);
      late = λ _. enough;
      others = may;
      allowed = λ here. absurd (none-stands (λ e. omega arith) also here);
    }

  module _ (s : State) (read : ℕ) (p : Commented s read) where
    -- a kind that stands here and is none of those that may stand besides is the one due
    due-here : (k : LineKind) → aside (told_kind k) ≡ false → stands s k ≡ true → told_kind k ≡ s.due
    due-here k not here = go (eqb (told_kind k) s.due) refl here
      where
        go : (b : Bool) → eqb (told_kind k) s.due ≡ b → (b || eqb (told_kind k) s.also) ≡ true → told_kind k ≡ s.due
        go true e h = eqb-true (told_kind k) s.due e
        go false e h = absurd (false≢true (sym not ∙ ap aside (eqb-true (told_kind k) s.also h) ∙ p.others))

    -- where a line of the header stands no comment was read, where an epoch or a row does none is missing
    none_read : (k : LineKind) → aside (told_kind k) ≡ false → told_kind k ≤ integers_kind → stands s k ≡ true → read ≡ 0
    none_read k not high here = p.early (omega (arith, due-here k not here))

    none-missing : (k : LineKind) → aside (told_kind k) ≡ false → epoch_kind ≤ told_kind k → stands s k ≡ true → rules.fewest_comments ≤ read
    none-missing k not low here = p.late (omega (arith, due-here k not here))

    -- a line of the header less
    less-lines : (k : LineKind) → aside (told_kind k) ≡ false → told_kind k ≤ integers_kind → stands s k ≡ true → (next many : ℕ) → next ≤ integers_kind
        → Commented (line_less next many s) read
    less-lines k not high here next many few =
        let none = none_read k not high here in
        either read (eqb (s.lines - 1) 0) _ _ (in-header (expect next many s) read none few refl)
        (in-header (expect s.due (s.lines - 1) s) read none (omega (arith, due-here k not here)) refl)

    -- nothing else may stand any more
    nothing-else : Commented (allow no_kind s) read
    nothing-else = record {
      early = p.early;
      late = p.late;
      others = refl;
      allowed = λ here.
          let a = p.allowed (due-stands (eqb comment_kind s.due) here) in
          record { some = a.some; enough = a.enough; wanted = a.wanted; all = a.all };
    }
      where
        due-stands : (b : Bool) → (b || false) ≡ true → (b || eqb comment_kind s.also) ≡ true
        due-stands true h = refl
        due-stands false h = absurd (false≢true h)

  -- comments are due, or may stand, or none is left
  comments-left : (s : State) (read needed left : ℕ) → needed ≤ left → rules.fewest_comments ≤ needed + read → left + read ≡ rules.most_comments
      → Commented (comments_due needed left s) read
  unfolding comments_due
  comments-left s read needed left fit wanted all = go (eqb needed 0) (eqb left 0) refl refl
    where
      go : (b c : Bool) → eqb needed 0 ≡ b → eqb left 0 ≡ c → Commented (comments_due needed left s) read
      go true true e f = rw (e, f) (behind-them _ read (omega (arith, eqb-true needed 0 e)) (omega arith) refl refl)
      go true false e f =
          rw (e, f) (record {
            early = λ h. absurd (omega arith);
            late = λ h. omega (arith, eqb-true needed 0 e);
            others = refl;
            allowed = λ h. record { some = omega (arith, eqb-false left 0 f); enough = fit; wanted = wanted; all = all };
          })
      go false c e f =
          rw e (record {
            early = λ h. absurd (omega arith);
            late = λ h. absurd (omega arith);
            others = refl;
            allowed = λ h. record { some = omega (arith, eqb-false needed 0 e); enough = fit; wanted = wanted; all = all };
          })

  -- where a comment may stand and one does, one more was read
  after-comment : (s : State) (read : ℕ) → Commented s read → stands s kind.Comment ≡ true
      → Commented (comments_due (s.lines - 1) (s.comments - 1) s) (read + 1)
  after-comment s read p here =
      let a = p.allowed here in
      comments-left s (read + 1) (s.lines - 1) (s.comments - 1) (omega (arith, a.enough)) (omega (arith, a.wanted)) (omega (arith, a.some, a.all))

  -- a satellite's rows are read
  row_read : (s : State) (read also : ℕ) → rules.fewest_comments ≤ read → aside also ≡ true → eqb comment_kind also ≡ false
      → Commented (satellite_done also s) read
  unfolding satellite_done
  row_read s read also enough may other = go (eqb (s.left - 1) 0) (eqb s.epochs 0) refl refl
    where
      go : (b c : Bool) → eqb (s.left - 1) 0 ≡ b → eqb s.epochs 0 ≡ c → Commented (satellite_done also s) read
      go true true e f = rw (e, f) (behind-them _ read enough (omega arith) may other)
      go true false e f = rw (e, f) (behind-them _ read enough (omega arith) may other)
      go false c e f = rw e (behind-them _ read enough (omega arith) may other)

  on : (t s' : State) (read : ℕ) → Commented t read → verdict.Next t ≡ verdict.Next s' → Commented s' read
  on t s' read p e = let same : t ≡ s' = cc in subst (λ (x : State). Commented x read) same p

  -- so many comments are read before a line; after it one more if it is a comment
  module _ (sound : Sound rules) (s : State) (read : ℕ) (p : Commented s read) (l : List ℕ) (s' : State) where
    next-commented : (k : LineKind) → stands s k ≡ true → next_of k rules s l ≡ verdict.Next s' → Commented s' (one_more (eqb (told_kind k) comment_kind) read)
    unfolding after_first after_second after_count after_identifiers after_satellites after_accuracies after_integers after_epoch after_position
    next-commented kind.Other here e = on s s' read p e
    next-commented kind.First here e = on _ s' read (in-header _ read (none_read s read p kind.First refl (omega arith) here) (omega arith) refl) e
    next-commented kind.Second here e = on _ s' read (in-header _ read (none_read s read p kind.Second refl (omega arith) here) (omega arith) refl) e
    next-commented kind.Satellites here e =
        let none = none_read s read p kind.Satellites refl (omega arith) here in
        on _ s' read
        (either read (is_first s) _ _ (in-header (after_count (satellites_of rules l).count s) read none (omega arith) refl)
        (either read (eqb (s.lines - 1) 0) _ _ (in-header _ read none (omega arith) refl) (in-header _ read none (omega arith) refl))) e
    next-commented kind.Accuracies here e = on _ s' read (go (eqb (s.lines - 1) 0) refl) e
      where
        none : read ≡ 0
        none = none_read s read p kind.Accuracies refl (omega arith) here

        go : (b : Bool) → eqb (s.lines - 1) 0 ≡ b → Commented (after_accuracies s) read
        go true f = rw f (in-header _ read none (omega arith) refl)
        go false f = rw f (in-header _ read none (omega (arith, due-here s read p kind.Accuracies refl here)) refl)
    next-commented kind.Characters here e = on _ s' read (less-lines s read p kind.Characters refl (omega arith) here floats_kind 2 (omega arith)) e
    next-commented kind.Floats here e = on _ s' read (less-lines s read p kind.Floats refl (omega arith) here integers_kind 2 (omega arith)) e
    next-commented kind.Integers here e =
        let none = none_read s read p kind.Integers refl (omega arith) here in
        on _ s' read
        (either read (eqb (s.lines - 1) 0) _ _
        (comments-left s read rules.fewest_comments rules.most_comments sound.comments-fit (omega arith) (omega arith))
        (in-header _ read none (omega arith) refl)) e
    next-commented kind.Comment here e = on _ s' (read + 1) (after-comment s read p here) e
    next-commented kind.Epoch here e = on _ s' read (behind-them _ read (none-missing s read p kind.Epoch refl (omega arith) here) (omega arith) refl refl) e
    next-commented kind.Position here e =
        let enough = none-missing s read p kind.Position refl (omega arith) here in
        on _ s' read
        (either read s.velocity _ _ (behind-them _ read enough (omega arith) refl refl) (row_read s read position_correlation_kind enough refl refl)) e
    next-commented kind.Velocity here e =
        on _ s' read (row_read s read velocity_correlation_kind (none-missing s read p kind.Velocity refl (omega arith) here) refl refl) e
    next-commented kind.PositionCorrelation here e = on _ s' read (nothing-else s read p) e
    next-commented kind.VelocityCorrelation here e = on _ s' read (nothing-else s read p) e
    next-commented kind.EndOfFile here e = let z : ◌≡◌ {A = ℕ} 0 1 = cc in absurd (omega arith)

  -- a line that goes on stands here, and does what its kind does
  goes_on : (s s' : State) (identifiers l : List ℕ) → step_of rules s identifiers l ≡ verdict.Next s'
      → (stands s (kind_at rules l) ≡ true) × (next_of (kind_at rules l) rules s (padded l) ≡ verdict.Next s')
  goes_on s s' identifiers l e =
      let more : State → Front = λ _. front.File nothing_seen in
      let g = good rules s identifiers l nothing_seen nothing_seen more (ap (λ (v : Verdict). on_verdict v nothing_seen more) e) in
      let is = is-line rules (kind_at rules l) l g.printed g.short refl in
      (g.here, sym (step-of rules (kind_at rules l) s identifiers l is g.here g.clean) ∙ e)

  -- before the first line
  at-first : Commented at_first.state 0
  at-first = in-header at_first.state 0 refl (omega arith) refl

  module _ (sound : Sound rules) where
    step-commented : (g : Going) (read : ℕ) (l : List ℕ) (s : State) → Commented g.state read → step_of rules g.state g.identifiers l ≡ verdict.Next s
        → Commented (stepped rules g l).state (one_more (is_kind rules comment_kind l) read)
    unfolding stepped
    step-commented g read l s p e =
        let went = goes_on g.state s g.identifiers l e in
        rw e (next-commented sound g.state read p (padded l) s (kind_at rules l) went.0 went.1)

    -- over lines that go on, as many as are comments
    lines-commented : (k : ℕ) (ls : List (List ℕ)) (g : Going) (read : ℕ) → Commented g.state read → GoOn rules g ls k
        → Commented (behind rules g ls k).state (read + length (of_kind rules comment_kind (take k ls)))
    unfolding nth stepped_over select
    lines-commented zero ls g read p goes = subst (Commented g.state) (omega arith) p
    lines-commented (suc k) [] g read p goes = subst (Commented g.state) (omega arith) p
    lines-commented (suc k) (l ∷ ls) g read p goes =
        let first = goes 0 (omega arith) in
        subst (Commented (behind rules g (l ∷ ls) (suc k)).state) (one-more (is_kind rules comment_kind) l (take k ls) read)
        (lines-commented k ls (stepped rules g l) (one_more (is_kind rules comment_kind l) read) (step-commented g read l first.0 p first.1)
        (λ i h. goes (suc i) (omega arith)))

module _ {rules : Rules} (proper : Proper rules) (bytes : List ℕ) (k : ℕ) (goes : AllGoOn rules bytes k) where
  abbrev next : List ℕ
  next = nth k (lines_of bytes)

  abbrev comments : ℕ
  comments = length (of_kind rules comment_kind (take k (lines_of bytes)))

  here-commented : Commented rules (after rules bytes k).state comments
  here-commented =
      subst (Commented rules (after rules bytes k).state) (omega arith)
      (lines-commented rules proper.sound k (lines_of bytes) at_first 0 (at-first rules) goes)

  -- a kind that cannot stand after these lines earns 4
  out-of-place : (x : LineKind) → is_kind rules (told_kind x) next ≡ true → (stands (after rules bytes k).state x ≡ true → ⊥) → Earned rules bytes k 4 0
  out-of-place x is not =
      Earns.by_kind (ap (stands (after rules bytes k).state) (of-kind rules x next is) ∙ not-true (stands (after rules bytes k).state x) not) refl refl

  fifth-away : rules.most_comments ≤ comments → stands (after rules bytes k).state kind.Comment ≡ true → ⊥
  fifth-away all here = let a = here-commented.allowed here in omega (arith, a.some, a.all)

  epoch-away : comments < rules.fewest_comments → stands (after rules bytes k).state kind.Epoch ≡ true → ⊥
  epoch-away few here = omega (arith, none-missing rules (after rules bytes k).state comments here-commented kind.Epoch refl (omega arith) here)

  -- ONE COMMENT TOO MANY: where some lines go on and the version has no more comments than stand among them, a `/*` line after them earns 4.
  pub fifth-comment : rules.most_comments ≤ comments → is_kind rules comment_kind next ≡ true → Earned rules bytes k 4 0
  fifth-comment all is = out-of-place kind.Comment is (fifth-away all)

  -- TOO FEW: where fewer than the version wants stand among them, a `* ` line earns 4.
  pub missing-comment : comments < rules.fewest_comments → is_kind rules epoch_kind next ≡ true → Earned rules bytes k 4 0
  missing-comment few is = out-of-place kind.Epoch is (epoch-away few)

  -- THE ANSWER, where no lower number is earned. A fault of the line behind those that go on is the answer of judging, whole files and files at the front,
  module _ (whole : Bool) (some : k < length (lines_of bytes)) (printed : every is_printable next ≡ true) where
    stops : (number column : ℕ) → step_of rules (after rules bytes k).state (after rules bytes k).identifiers next ≡ verdict.Fault number column
        → judged rules bytes (found_in rules whole bytes) ≡ refused_with number (k + 1) column
    unfolding judged whole_front
    stops number column fault = go whole
      where
        front-is : front_of rules bytes ≡ front.Refused number (k + 1) column
        front-is = first-refused rules bytes number (k + 1) column (record { k = k; line-is = refl; goes = goes; why = inr (some, fault) })

        go : (b : Bool) → judged rules bytes (found_in rules b bytes) ≡ refused_with number (k + 1) column
        go true = rw front-is
        go false = rw front-is

    -- so a longer comment is 3,
    pub long-refused : is_kind rules comment_kind next ≡ true → min 80 rules.comment_columns < length next
        → judged rules bytes (found_in rules whole bytes) ≡ refused_with 3 (k + 1) (min 80 rules.comment_columns + 1)
    unfolding step_of printed_line
    long-refused is long =
        stops 3 (min 80 rules.comment_columns + 1)
        (rw (printed, of-kind rules kind.Comment next is, lt-leb (length next) (min 80 rules.comment_columns) long))

    misplaced : (x : LineKind) → is_kind rules (told_kind x) next ≡ true → length next ≤ longest rules x → (stands (after rules bytes k).state x ≡ true → ⊥)
        → judged rules bytes (found_in rules whole bytes) ≡ refused_with 4 (k + 1) 0
    unfolding step_of printed_line judged_line on_key standing_fault
    misplaced x is short not =
        stops 4 0
        (rw (printed, of-kind rules x next is, le-leb (length next) (longest rules x) short, not-true (stands (after rules bytes k).state x) not))

    -- one too many is 4,
    pub fifth-refused : rules.most_comments ≤ comments → is_kind rules comment_kind next ≡ true → length next ≤ min 80 rules.comment_columns
        → judged rules bytes (found_in rules whole bytes) ≡ refused_with 4 (k + 1) 0
    fifth-refused all is short = misplaced kind.Comment is short (fifth-away all)

    -- and a missing one.
    pub missing-refused : comments < rules.fewest_comments → is_kind rules epoch_kind next ≡ true → length next ≤ 80
        → judged rules bytes (found_in rules whole bytes) ≡ refused_with 4 (k + 1) 0
    missing-refused few is short = misplaced kind.Epoch is short (epoch-away few)
