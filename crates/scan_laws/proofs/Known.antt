-- Once the `+ ` lines are read, a line does the same with any list that begins with the identifiers of the header, and so do the lines after it.
-- Assumes nothing.
use mathlib.Core.Path.{◌≡◌, refl, sym, ap, ◌∙◌}
use mathlib.Core.Bool.{Bool, true, false, cond, ◌||◌}
use mathlib.Core.List.{List, [], ◌∷◌}
use Prim.Native.Nat.{ℕ, ◌-◌, ◌≤◌, ◌<◌}
use native.Mathlib.Omega.{arith}
use lib.Dec.{eqb, leb}
use lib.ListN.{length, take, get_or}
use lib.Seq.{get_or-take}
use borrow.Author.Tests.{eqb-true, eqb-false, ne_eqb}
use Rattle.laws.specs.Texts.{every, is_printable}
use Rattle.layout.specs.Line.{padded}
use Rattle.record.specs.LineKinds.{told_kind, kind_of, longest, no_kind, satellites_kind, accuracies_kind, characters_kind, floats_kind, integers_kind, comment_kind, epoch_kind, position_kind, velocity_kind, position_correlation_kind, velocity_correlation_kind}
use Rattle.header.specs.declared.types.Rules.{Rules}
use Rattle.record.specs.declared.types.LineKind.{LineKind}
use Rattle.record.specs.declared.types.LineKind.TheVariants as kind
use Rattle.machine.specs.State.{stands, seen}
use Rattle.machine.specs.Faults.{characters_fault, named_fault, standing_fault}
use Rattle.machine.specs.Next.{line_less, leave, after_accuracies, comments_due, after_integers, after_epoch, satellite_done, after_position, next_of}
use Rattle.machine.specs.Step.{on_key, judged_line, printed_line, step_of}
use Rattle.machine.specs.declared.types.State.{State}
use Rattle.machine.specs.declared.types.Verdict.{Verdict}
use Rattle.machine.specs.declared.types.Verdict.TheVariants as verdict
use Rattle.file.specs.Kinds.{is_kind}
use Rattle.scan.specs.Run.{Going, gone_on, stepped}
use Rattle.scan_laws.proofs.Passing.{placed}
use Rattle.scan_laws.proofs.Reaching.{identifiers-kept}

-- each of the lines does the same with these identifiers as in the run, and where a P line stands the number of satellites is known
unfoldable pub Alike : Rules → ℕ → List ℕ → Going → List (List ℕ) → Type 0
Alike rules n identifiers g [] = Unit
Alike rules n identifiers g (l ∷ ls) =
    (step_of rules g.state identifiers l ≡ step_of rules g.state g.identifiers l)
    × (is_kind rules position_kind l ≡ true → g.state.satellites ≡ n)
    × Alike rules n identifiers (stepped rules g l) ls

-- what may stand besides the kind due after the `+ ` lines: nothing, a comment, a correlation record
abbrev aside : ℕ → Bool
aside kind = eqb kind no_kind || (eqb kind comment_kind || leb position_correlation_kind kind)

-- the `+ ` lines are read, with n identifiers, and where a row is due one of them is not yet seen
pub record Past (n : ℕ) (s : State) : Type 0 where
  pub many : s.satellites ≡ n
  pub later : accuracies_kind ≤ s.due
  pub others : aside s.also ≡ true
  pub row : position_kind ≤ s.due → s.due ≤ velocity_kind → 1 ≤ s.left

-- what follows is past them too
abbrev Goes : ℕ → Verdict → Type 0
Goes n (verdict.Fault number column) = Unit
Goes n (verdict.Next s) = Past n s
Goes n verdict.Finished = Unit

-- of two states, by a test
either : (n : ℕ) (b : Bool) (x y : State) → Past n x → Past n y → Past n (cond b x y)
either n true x y p q = p
either n false x y p q = q

module _ (n : ℕ) (s : State) (p : Past n s) where
  -- a kind that stands here and is none of those is the one due
  is-due : (k : LineKind) → aside (told_kind k) ≡ false → stands s k ≡ true → told_kind k ≡ s.due
  is-due k not here = go (eqb (told_kind k) s.due) refl here
    where
      go : (b : Bool) → eqb (told_kind k) s.due ≡ b → (b || eqb (told_kind k) s.also) ≡ true → told_kind k ≡ s.due
      go true e h = eqb-true (told_kind k) s.due e
      go false e h =
          let both : aside (told_kind k) ≡ true = rw (eqb-true (told_kind k) s.also h) p.others in
          let z : ◌≡◌ {A = ℕ} 0 1 = cc in
          absurd (omega arith)

  -- one line less of a kind
  less-past : (next lines : ℕ) → accuracies_kind ≤ next → next ≤ epoch_kind → Past n (line_less next lines s)
  less-past next lines low high =
      either n (eqb (s.lines - 1) 0) _ _ (record { many = p.many; later = low; others = refl; row = λ a b. absurd (omega arith) })
      (record { many = p.many; later = p.later; others = refl; row = p.row })

  -- comments, or epochs, are due
  comments-past : (needed allowed : ℕ) → Past n (comments_due needed allowed s)
  unfolding comments_due
  comments-past needed allowed = go (eqb needed 0) (eqb allowed 0) refl refl
    where
      go : (b c : Bool) → eqb needed 0 ≡ b → eqb allowed 0 ≡ c → Past n (comments_due needed allowed s)
      go true true e f = rw (e, f) (record { many = p.many; later = omega arith; others = refl; row = omega arith })
      go true false e f = rw (e, f) (record { many = p.many; later = omega arith; others = refl; row = omega arith })
      go false c e f = rw e (record { many = p.many; later = omega arith; others = refl; row = omega arith })

  -- a satellite's rows are read
  done-past : (also : ℕ) → aside also ≡ true → Past n (satellite_done also s)
  unfolding satellite_done
  done-past also may = go (eqb (s.left - 1) 0) (eqb s.epochs 0) refl refl
    where
      go : (b c : Bool) → eqb (s.left - 1) 0 ≡ b → eqb s.epochs 0 ≡ c → Past n (satellite_done also s)
      go true true e f = rw (e, f) (record { many = p.many; later = omega arith; others = may; row = omega arith })
      go true false e f = rw (e, f) (record { many = p.many; later = omega arith; others = may; row = omega arith })
      go false c e f = rw e (record { many = p.many; later = omega arith; others = may; row = omega (arith, eqb-false (s.left - 1) 0 e) })

  -- where a row may stand, some satellite is not yet seen
  row-left : (k : LineKind) → aside (told_kind k) ≡ false → stands s k ≡ true → position_kind ≤ told_kind k → told_kind k ≤ velocity_kind → 1 ≤ s.left
  row-left k not here low high =
      let due = is-due k not here in p.row (omega arith) (omega arith)

  -- what a line does leads past the `+ ` lines again
  next_past : 1 ≤ n → (rules : Rules) (l : List ℕ) (k : LineKind) → stands s k ≡ true → Goes n (next_of k rules s l)
  unfolding after_accuracies after_integers after_epoch after_position
  next_past some rules l kind.Other here = p
  next_past some rules l kind.First here = absurd (omega (arith, is-due kind.First refl here, p.later))
  next_past some rules l kind.Second here = absurd (omega (arith, is-due kind.Second refl here, p.later))
  next_past some rules l kind.Satellites here = absurd (omega (arith, is-due kind.Satellites refl here, p.later))
  next_past some rules l kind.Accuracies here = go (eqb (s.lines - 1) 0) refl
    where
      due : accuracies_kind ≡ s.due
      due = is-due kind.Accuracies refl here

      go : (b : Bool) → eqb (s.lines - 1) 0 ≡ b → Past n (leave (s.left - 17) (line_less characters_kind 2 s))
      go true e = rw e (record { many = p.many; later = omega arith; others = refl; row = omega arith })
      go false e = rw e (record { many = p.many; later = p.later; others = refl; row = λ a b. absurd (omega (arith, due)) })
  next_past some rules l kind.Characters here = less-past floats_kind 2 (omega arith) (omega arith)
  next_past some rules l kind.Floats here = less-past integers_kind 2 (omega arith) (omega arith)
  next_past some rules l kind.Integers here =
      either n (eqb (s.lines - 1) 0) _ _ (comments-past rules.fewest_comments rules.most_comments)
      (record { many = p.many; later = omega arith; others = refl; row = omega arith })
  next_past some rules l kind.Comment here = comments-past (s.lines - 1) (s.comments - 1)
  next_past some rules l kind.Epoch here =
      record { many = p.many; later = omega arith; others = refl; row = λ a b. omega (arith, p.many) }
  next_past some rules l kind.Position here =
      let left = row-left kind.Position refl here (omega arith) (omega arith) in
      either n s.velocity _ _ (record { many = p.many; later = omega arith; others = refl; row = λ a b. left }) (done-past position_correlation_kind refl)
  next_past some rules l kind.Velocity here = done-past velocity_correlation_kind refl
  next_past some rules l kind.PositionCorrelation here = record { many = p.many; later = p.later; others = refl; row = p.row }
  next_past some rules l kind.VelocityCorrelation here = record { many = p.many; later = p.later; others = refl; row = p.row }
  next_past some rules l kind.EndOfFile here = tt

-- what follows where a test passes, else a fault
tested : (n : ℕ) (b : Bool) (v : Verdict) (number column : ℕ) → (b ≡ true → Goes n v) → Goes n (cond b v (verdict.Fault number column))
tested n true v number column h = h refl
tested n false v number column h = tt

-- two faults are the same where they are wherever a kind may stand
both-stand : (b : Bool) (x y none : ℕ) → (b ≡ true → x ≡ y) → cond b x none ≡ cond b y none
both-stand true x y none h = h refl
both-stand false x y none h = refl

module _ (rules : Rules) (n : ℕ) (some : 1 ≤ n) (identifiers : List ℕ) where
  -- what a line of any kind does leads past them
  step_past : (s : State) (now l : List ℕ) → Past n s → Goes n (step_of rules s now l)
  unfolding step_of printed_line judged_line on_key standing_fault
  step_past s now l p =
      let k = kind_of rules (padded l) in
      tested n (every is_printable l) _ _ _
      (λ printed. tested n (leb (length l) (longest rules k)) _ _ _
      (λ short. tested n (eqb (standing_fault k rules s now (padded l)) 0) _ _ _
      (λ free. next_past n s p some rules (padded l) k (placed (stands s k) _ (eqb-true (standing_fault k rules s now (padded l)) 0 free)).0)))

  module _ (s : State) (now : List ℕ) (p : Past n s) (same : take n identifiers ≡ take n now) where
    -- the satellite whose row is due is the same in both lists
    due-alike : 1 ≤ s.left → get_or identifiers (seen s) 0 ≡ get_or now (seen s) 0
    due-alike left =
        let below : seen s < n = omega (arith, p.many) in
        sym (get_or-take n identifiers (seen s) 0 below) ∙ ap (λ (x : List ℕ). get_or x (seen s) 0) same ∙ get_or-take n now (seen s) 0 below

    -- the fault at a place is the same with both lists
    place-alike : (l : List ℕ) (k : LineKind) → standing_fault k rules s identifiers l ≡ standing_fault k rules s now l
    unfolding standing_fault characters_fault named_fault
    place-alike l kind.Satellites =
        both-stand (stands s kind.Satellites) _ _ _ (λ here. absurd (omega (arith, is-due n s p kind.Satellites refl here, p.later)))
    place-alike l kind.Characters = rw (p.many, same)
    place-alike l kind.Position =
        both-stand (stands s kind.Position) _ _ _ (λ here. rw (due-alike (row-left n s p kind.Position refl here (omega arith) (omega arith))))
    place-alike l kind.Velocity =
        both-stand (stands s kind.Velocity) _ _ _ (λ here. rw (due-alike (row-left n s p kind.Velocity refl here (omega arith) (omega arith))))
    place-alike l kind.Other = refl
    place-alike l kind.First = refl
    place-alike l kind.Second = refl
    place-alike l kind.Accuracies = refl
    place-alike l kind.Floats = refl
    place-alike l kind.Integers = refl
    place-alike l kind.Comment = refl
    place-alike l kind.Epoch = refl
    place-alike l kind.PositionCorrelation = refl
    place-alike l kind.VelocityCorrelation = refl
    place-alike l kind.EndOfFile = refl

    step-alike : (l : List ℕ) → step_of rules s identifiers l ≡ step_of rules s now l
    unfolding step_of printed_line judged_line
    step-alike l = rw (place-alike (padded l) (kind_of rules (padded l)))

  -- where one is after a line
  gone-past : (g : Going) (l : List ℕ) → Past n g.state → (v : Verdict) → Goes n v
      → Past n (gone_on v rules g l).state × ((gone_on v rules g l).identifiers ≡ g.identifiers)
  gone-past g l p (verdict.Fault number column) goes = (p, refl)
  gone-past g l p (verdict.Next s) goes =
      (goes, identifiers-kept rules g.state g.identifiers l (ne_eqb g.state.due satellites_kind (λ e. omega (arith, p.later))))
  gone-past g l p verdict.Finished goes = (p, refl)

  -- From behind the `+ ` lines on, every line does the same with any list that begins with the same n identifiers.
  pub past-alike : (ls : List (List ℕ)) (g : Going) → Past n g.state → take n identifiers ≡ take n g.identifiers → Alike rules n identifiers g ls
  unfolding Alike stepped
  past-alike [] g p same = tt
  past-alike (l ∷ ls) g p same =
      let on = gone-past g l p (step_of rules g.state g.identifiers l) (step_past g.state g.identifiers l p) in
      (step-alike g.state g.identifiers p same l, λ row. p.many, past-alike ls (stepped rules g l) on.0 (same ∙ ap (take n) (sym on.1)))
