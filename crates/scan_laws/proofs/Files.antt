-- The bytes that are accepted are exactly the bytes of a plain file.
-- Assumes nothing.
use mathlib.Core.Path.{◌≡◌, refl, sym, ap, subst, ◌∙◌}
use mathlib.Core.Bool.{Bool, true, false}
use mathlib.Core.List.{List, [], ◌∷◌, ◌++◌, append-nil}
use mathlib.Core.Logic.{◌↔◌}
use Prim.Native.Nat.{ℕ, ◌+◌, ◌≤◌}
use native.Mathlib.Omega.{arith}
use lib.Dec.{ltb}
use lib.ListN.{length, take, length-append}
use lib.Seq.{take_all}
use borrow.Author.Tests.{ne_eqb, ltb-false, le-ltb}
use Rattle.laws.specs.Texts.{every, is_printable}
use Rattle.laws.proofs.Bools.{and_left, and_right}
use Rattle.laws.proofs.Bounds.{within-true}
use Rattle.lines.specs.Lines.{lines_of, join_lines}
use Rattle.lines.proofs.Each.{Each, each_weaken}
use Rattle.lines.proofs.Split.{OneLine, one-cons, one-nil, join-lines, parted}
use Rattle.header.specs.Rules.{c, d}
use Rattle.header.specs.declared.types.Rules.{Rules}
use Rattle.machine.specs.State.{start_state, no_identifiers}
use Rattle.machine.specs.Step.{step_of}
use Rattle.machine.specs.declared.types.State.{State}
use Rattle.machine.specs.declared.types.Verdict.{Verdict}
use Rattle.machine.specs.declared.types.Verdict.TheVariants as verdict
use Rattle.file.specs.Plain.{Plain, Accepted, Sound}
use Rattle.scan.specs.Run.{nothing_seen, counted, run, scan_of, whole_front, IsFile}
use Rattle.scan.specs.declared.Tally.{Tally}
use Rattle.std.specs.Prelude.{Ok, Err}
use Rattle.scan.specs.Front.{Front}
use Rattle.scan.specs.Front as front
use Rattle.scan_laws.proofs.Passing.{not-refused, good}
use Rattle.scan_laws.proofs.Reaching.{counted_over}
use Rattle.scan_laws.proofs.Accepts.{run-plain, plain-run}

-- a line of printable characters has no LF
printed-one : (l : List ℕ) → every is_printable l ≡ true → OneLine l
printed-one [] e = one-nil
printed-one (b ∷ l) e =
    let bounds = within-true 32 126 b (and_left (is_printable b) (every is_printable l) e) in
    one-cons b l (ne_eqb b 10 (λ z. omega (arith, bounds.0))) (printed-one l (and_right (is_printable b) (every is_printable l) e))

module _ (rules : Rules) where
  -- the lines and the bytes that were tallied
  lines-counted : (t : Tally) (ls : List (List ℕ)) → (counted_over rules t ls).lines ≡ t.lines + length ls
  unfolding counted_over counted
  lines-counted t [] = omega arith
  lines-counted t (l ∷ ls) = omega (arith, lines-counted (counted rules t l) ls)

  pub bytes_counted : (t : Tally) (ls : List (List ℕ)) → (counted_over rules t ls).end ≡ t.end + length (join_lines ls)
  unfolding counted_over counted join_lines
  bytes_counted t [] = omega arith
  bytes_counted t (l ∷ ls) = omega (arith, bytes_counted (counted rules t l) ls, length-append l (10 ∷ join_lines ls))

  -- every line of a file is of printable characters
  abbrev Printed : List ℕ → Type 0
  Printed l = every is_printable l ≡ true

  no_line : (ls : List (List ℕ)) → length ls ≡ 0 → Each Printed ls
  no_line [] e = tt
  no_line (l ∷ ls) e = absurd (omega arith)

  all-printed : (ls : List (List ℕ)) (s : State) (identifiers : List ℕ) (t : Tally) → run rules s identifiers t ls ≡ front.File (counted_over rules t ls) → Each Printed ls
  unfolding run counted_over counted
  all-printed [] s identifiers t e = tt
  all-printed (l ∷ ls) s identifiers t e = ((good rules s identifiers l (counted rules t l) _ _ e).printed, go (step_of rules s identifiers l) refl (all-printed ls))
    where
      go : (v : Verdict) → step_of rules s identifiers l ≡ v
          → ((s₁ : State) (identifiers₁ : List ℕ) (t₁ : Tally) → run rules s₁ identifiers₁ t₁ ls ≡ front.File (counted_over rules t₁ ls) → Each Printed ls) → Each Printed ls
      go (verdict.Fault n c) v more = absurd (not-refused n (t.lines + 1) c (counted_over rules (counted rules t l) ls) (rw v at e))
      go (verdict.Next s₁) v more = more s₁ _ (counted rules t l) (rw v at e)
      go verdict.Finished v more =
          let is-file : front.File (counted rules t l) ≡ front.File (counted_over rules (counted rules t l) ls) = rw v at e in
          let is : counted rules t l ≡ counted_over rules (counted rules t l) ls = cc in
          no_line ls (omega (arith, ap (λ (x : Tally). x.lines) is, lines-counted (counted rules t l) ls))

  -- the lines of its bytes are its lines
  pub plain_lines : Sound rules → (ls : List (List ℕ)) → Plain rules ls → lines_of (join_lines ls) ≡ ls
  plain_lines sound ls p =
      let whole : run rules start_state no_identifiers nothing_seen ls ≡ front.File (counted_over rules nothing_seen ls) =
      ap (run rules start_state no_identifiers nothing_seen) (sym (append-nil ls)) ∙ plain-run rules sound ls [] nothing_seen p in
      join-lines ls (each_weaken Printed OneLine printed-one ls (all-printed ls start_state no_identifiers nothing_seen whole))

-- the whole of the bytes is the file at their front
whole-ends : (size : ℕ) (f : Front) (t : Tally) → whole_front size f ≡ front.File t → (f ≡ front.File t) × (size ≤ t.end)
unfolding whole_front
whole-ends size (Err refusal) t e = absurd (not-refused refusal.number refusal.line refusal.column t e)
whole-ends size (Ok x) t e = go (ltb x.end size) refl
  where
    go : (b : Bool) → ltb x.end size ≡ b → (front.File x ≡ front.File t) × (size ≤ t.end)
    go true is = absurd (not-refused 11 (x.lines + 1) 0 t (rw is at e))
    go false is =
        let same-file : front.File x ≡ front.File t = rw is at e in
        let same : x ≡ t = cc in
        (same-file, omega (arith, ltb-false x.end size is, ap (λ (y : Tally). y.end) same))

-- Bytes that the machine accepts as one file are the bytes of a plain file.
pub accepts-plain : (rules : Rules) → Sound rules → (bytes : List ℕ) → IsFile rules bytes → Accepted rules bytes
accepts-plain rules sound bytes (t, e) =
    let w = whole-ends (length bytes) (scan_of rules bytes) t e in
    let p = run-plain rules sound (lines_of bytes) nothing_seen t w.0 in
    let parts = parted p.used bytes p.rest p.split in
    let end : t.end ≡ 0 + length (join_lines p.used) = ap (λ (x : Tally). x.end) p.tally ∙ bytes_counted rules nothing_seen p.used in
    (p.used, sym (take_all (length (join_lines p.used)) bytes (omega (arith, end, w.1))) ∙ parts.front, p.plain)

-- and the bytes of a plain file are accepted as one file
pub plain-accepts : (rules : Rules) → Sound rules → (bytes : List ℕ) → Accepted rules bytes → IsFile rules bytes
unfolding whole_front
plain-accepts rules sound bytes (lines, bytes-are, p) =
    let t = counted_over rules nothing_seen lines in
    let lines_are : lines_of bytes ≡ lines ++ [] = ap lines_of bytes-are ∙ plain_lines rules sound lines p ∙ sym (append-nil lines) in
    let accepted : scan_of rules bytes ≡ front.File t = ap (run rules start_state no_identifiers nothing_seen) lines_are ∙ plain-run rules sound lines [] nothing_seen p in
    let all : ltb t.end (length bytes) ≡ false = le-ltb t.end (length bytes) (omega (arith, bytes_counted rules nothing_seen lines, ap length bytes-are)) in
    (t, rw (accepted, all))

-- both at once
pub accepts-exactly : (rules : Rules) → Sound rules → (bytes : List ℕ) → IsFile rules bytes ↔ Accepted rules bytes
accepts-exactly rules sound bytes = (accepts-plain rules sound bytes, plain-accepts rules sound bytes)

-- The rules of SP3-c and those of SP3-d are such rules.
pub c-sound : Sound c
c-sound = record { identifiers-fit = omega arith; comments-fit = omega arith }

pub d-sound : Sound d
d-sound = record { identifiers-fit = omega arith; comments-fit = omega arith }

-- The lines of a file at the front of some bytes are those of a plain file.
pub plain-front : (rules : Rules) → Sound rules → (bytes : List ℕ) (t : Tally) → scan_of rules bytes ≡ front.File t → Plain rules (lines_of (take t.end bytes))
plain-front rules sound bytes t e =
    let p = run-plain rules sound (lines_of bytes) nothing_seen t e in
    let parts = parted p.used bytes p.rest p.split in
    let end : t.end ≡ length (join_lines p.used) = ap (λ (x : Tally). x.end) p.tally ∙ bytes_counted rules nothing_seen p.used ∙ omega arith in
    let lines : lines_of (take t.end bytes) ≡ p.used = ap (λ (n : ℕ). lines_of (take n bytes)) end ∙ ap lines_of parts.front ∙ parts.front-lines in
    rw lines p.plain

-- a whole file takes up all of its bytes
pub whole-taken : (rules : Rules) (bytes : List ℕ) (t : Tally) → whole_front (length bytes) (scan_of rules bytes) ≡ front.File t → take t.end bytes ≡ bytes
whole-taken rules bytes t e = take_all t.end bytes (whole-ends (length bytes) (scan_of rules bytes) t e).1

-- and its lines are those of a plain file
pub file-plain : (rules : Rules) → Sound rules → (bytes : List ℕ) → IsFile rules bytes → Plain rules (lines_of bytes)
file-plain rules sound bytes (t, e) =
    subst (λ (s : List ℕ). Plain rules (lines_of s)) (whole-taken rules bytes t e)
    (plain-front rules sound bytes t (whole-ends (length bytes) (scan_of rules bytes) t e).0)
