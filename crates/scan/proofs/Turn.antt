-- A turn of `scan_front`'s loop, on plain values. `Going` is the loop's invariant: the run over all lines is the run from here over the lines left.
-- Assumes nothing.
use mathlib.Core.Path.{◌≡◌, refl, sym, ap, ap₂, ◌∙◌, subst}
use mathlib.Core.Bool.{Bool, true, false, cond, ◌||◌}
use mathlib.Core.List.{List, [], ◌∷◌}
use Prim.Native.Nat.{ℕ, ◌+◌, ◌-◌, ◌^◌, ◌≤◌, ◌<◌, zero-le}
use native.Mathlib.Omega.{arith}
use borrow.Author.Tests.{eq-eqb, ne_eqb}
use lib.Dec.{eqb}
use lib.ListN.{length, get_or, take, drop, length-take}
use Rattle.header.specs.Rules.{max_satellites}
use Rattle.layout.specs.Line.{padded}
use Rattle.lines.specs.Lines.{lines_of}
use Rattle.record.specs.LineKinds.{satellites_kind, comment_kind, position_kind, velocity_kind}
use Rattle.lines.proofs.Lined.{Lined, lined}
use Rattle.file.specs.Kinds.{kind_in, is_kind, is_row}
use Rattle.file.proofs.Finding.{kind-told}
use Rattle.header.specs.declared.types.Rules.{Rules}
use Rattle.machine.specs.State.{start_state, no_identifiers, identifiers_joined}
use Rattle.machine.specs.Step.{step_of, identifiers_brought, read_as, read_first, line_known}
use Rattle.machine.specs.declared.types.State.{State}
use Rattle.machine.specs.declared.types.Verdict.{Verdict}
use Rattle.machine.specs.declared.types.Verdict.TheVariants as verdict
use Rattle.machine.specs.declared.types.LineRead.{LineRead}
use Rattle.machine.specs.declared.types.LineRead.TheVariants as found
use Rattle.machine.proofs.Stepping.{brought-length}
use Rattle.scan.specs.declared.Tally.{Tally}
use Rattle.scan.specs.Front as front
use Rattle.scan.specs.Run.{nothing_seen, one_more, counted, on_verdict, run, scan_of}

-- the kind of a P line by its first column
pub position-told : (rules : Rules) (line : List ℕ) → get_or line 0 32 ≡ 80 → position_kind ≡ kind_in rules line
position-told rules line e = rw (← kind-told rules line 80 (get_or line 1 32) (get_or line 2 32) (sym e) refl refl)

pub position-first : (rules : Rules) (line : List ℕ) → get_or line 0 0 ≡ 80 → 10 ≡ kind_in rules line
position-first rules [] e = absurd (omega arith)
position-first rules (b ∷ l) e = position-told rules (b ∷ l) e

-- one line more, by the number of its kind
pub more-by : (passed : Bool) (n m : ℕ) → m ≡ cond passed 1 0 → n + m ≡ one_more passed n
more-by true n m e = omega arith
more-by false n m e = omega arith

pub counted-as : (rules : Rules) (t : Tally) (line : List ℕ) (kind comments rows : ℕ) → kind ≡ kind_in rules line
    → comments ≡ one_more (eqb kind comment_kind) t.comments → rows ≡ one_more (eqb kind position_kind || eqb kind velocity_kind) t.rows
    → ◌≡◌ {A = Tally} (record { lines = t.lines + 1; end = t.end + length line + 1; comments = comments; rows = rows }) (counted rules t line)
unfolding counted
counted-as rules t line kind comments rows e p q = rw (p, q, e)

more-or-not : (b : Bool) (n : ℕ) → one_more b n ≤ n + 1
more-or-not true n = omega arith
more-or-not false n = omega arith

pub record Going (rules : Rules) (bytes identifiers : List ℕ) (s : State) (t : Tally) : Type 0 where
  pub size : length identifiers ≡ max_satellites
  pub within : t.end ≤ length bytes
  pub lines : t.lines ≤ t.end
  pub comments : t.comments ≤ t.end
  pub rows : t.rows ≤ t.end
  pub same : run rules s identifiers t (lines_of (drop t.end bytes)) ≡ scan_of rules bytes

pub going-first : (rules : Rules) (bytes : List ℕ) (s : State) (t : Tally) → s ≡ start_state → t ≡ nothing_seen → Going rules bytes no_identifiers s t
going-first rules bytes s t e f =
    subst (λ (x : Tally). Going rules bytes no_identifiers s x) (sym f)
    (record { size = refl; within = zero-le; lines = zero-le; comments = zero-le; rows = zero-le; same = rw e })

-- no count can overflow, since there are no more lines than bytes
pub no_overflow : (rules : Rules) (bytes identifiers : List ℕ) (s : State) (t : Tally) → Going rules bytes identifiers s t → (end : ℕ) → t.end < end → end ≤ length bytes → length bytes < 2 ^ 64
    → (t.lines + 1 < 2 ^ 64) × (t.comments + 1 < 2 ^ 64) × (t.rows + 1 < 2 ^ 64) × (t.end + length (take (end - 1 - t.end) (drop t.end bytes)) + 1 < 2 ^ 64)
no_overflow rules bytes identifiers s t g end starts within size = (
  omega (arith, g.lines),
  omega (arith, g.comments),
  omega (arith, g.rows),
  omega (arith, length-take (end - 1 - t.end) (drop t.end bytes)),
)

-- after the last line of a file, which ends before `end`
pub record Ended (rules : Rules) (bytes : List ℕ) (t : Tally) (end : ℕ) : Type 0 where
  pub starts : t.end < end
  pub within : end ≤ length bytes
  pub finished : (t' : Tally) → t' ≡ counted rules t (take (end - 1 - t.end) (drop t.end bytes)) → front.File t' ≡ scan_of rules bytes

-- after another line, which ends before `end` and after which the state is `next`
pub record Passed (rules : Rules) (bytes identifiers : List ℕ) (s : State) (t : Tally) (end : ℕ) (next : State) : Type 0 where
  pub starts : t.end < end
  pub within : end ≤ length bytes
  pub goes_on : let text = take (end - 1 - t.end) (drop t.end bytes) in
      (identifiers' : List ℕ) (t' : Tally) → identifiers' ≡ identifiers_brought rules s identifiers text → t' ≡ counted rules t text → Going rules bytes identifiers' next t'
  pub falls : (t' : Tally) → t' ≡ counted rules t (take (end - 1 - t.end) (drop t.end bytes)) → length bytes - t'.end < length bytes - t.end

-- by what was found at a state, with these identifiers
abbrev pub Turned : Rules → List ℕ → List ℕ → State → Tally → LineRead → Type 0
Turned rules bytes identifiers s t found.NoLine = front.Refused 1 (t.lines + 1) 0 ≡ scan_of rules bytes
Turned rules bytes identifiers s t (found.Fault number column) = front.Refused number (t.lines + 1) column ≡ scan_of rules bytes
Turned rules bytes identifiers s t (found.Next end next) = Passed rules bytes identifiers s t end next
Turned rules bytes identifiers s t (found.Finished end) = Ended rules bytes t end

module _ (rules : Rules) (bytes identifiers : List ℕ) (s : State) (t : Tally) (g : Going rules bytes identifiers s t) where
  module _ (l : List ℕ) (ls : List (List ℕ)) (e : lines_of (drop t.end bytes) ≡ l ∷ ls) where
    here : Lined bytes t.end (t.end + length l + 1) l ls
    here = lined bytes t.end l ls e

    judged : on_verdict (step_of rules s identifiers l) (counted rules t l) (λ s'. run rules s' (identifiers_brought rules s identifiers l) (counted rules t l) ls) ≡ scan_of rules bytes
    unfolding run
    judged = sym (ap (run rules s identifiers t) e) ∙ g.same

    goes : (s' : State) → step_of rules s identifiers l ≡ verdict.Next s' → (identifiers' : List ℕ) (t' : Tally) → identifiers' ≡ identifiers_brought rules s identifiers l → t' ≡ counted rules t l
        → Going rules bytes identifiers' s' t'
    unfolding counted
    goes s' w identifiers' t' x y =
        let ends : t'.end ≡ t.end + length l + 1 = ap (λ (x : Tally). x.end) y in
        let after : run rules s' (identifiers_brought rules s identifiers l) t' (lines_of (drop t'.end bytes)) ≡ scan_of rules bytes =
        ap₂ (λ (x : Tally) (k : List (List ℕ)). run rules s' (identifiers_brought rules s identifiers l) x k) y (ap (λ (n : ℕ). lines_of (drop n bytes)) ends ∙ here.rest)
        ∙ (rw w at judged) in
        record {
          size = ap length x ∙ brought-length rules s identifiers l ∙ g.size;
          within = omega (arith, here.within);
          lines = omega (arith, ap (λ (x : Tally). x.lines) y, g.lines);
          comments = omega (arith, ap (λ (x : Tally). x.comments) y, more-or-not (is_kind rules comment_kind l) t.comments, g.comments);
          rows = omega (arith, ap (λ (x : Tally). x.rows) y, more-or-not (is_row rules l) t.rows, g.rows);
          same = ap (λ (n : List ℕ). run rules s' n t' (lines_of (drop t'.end bytes))) x ∙ after;
        }

    drops : (t' : Tally) → t' ≡ counted rules t l → length bytes - t'.end < length bytes - t.end
    unfolding counted
    drops t' y = omega (arith, ap (λ (x : Tally). x.end) y, here.starts, here.within)

    line-turned : (v : Verdict) → step_of rules s identifiers l ≡ v → Turned rules bytes identifiers s t (read_as v (t.end + length l + 1))
    unfolding counted
    line-turned (verdict.Fault number column) w = rw w at judged
    line-turned (verdict.Next s') w =
        let known = ap (counted rules t) here.text in
        record {
          starts = here.starts;
          within = here.within;
          goes_on = λ identifiers' t' x y. goes s' w identifiers' t' (x ∙ ap (identifiers_brought rules s identifiers) here.text) (y ∙ known);
          falls = λ t' y. drops t' (y ∙ known);
        }
    line-turned verdict.Finished w =
        let known = ap (counted rules t) here.text in
        record { starts = here.starts; within = here.within; finished = λ t' y. ap front.File (y ∙ known) ∙ (rw w at judged) }

  first-turned : (ks : List (List ℕ)) → lines_of (drop t.end bytes) ≡ ks → Turned rules bytes identifiers s t (read_first (step_of rules s identifiers) t.end ks)
  unfolding read_first run
  first-turned [] e = sym (ap (run rules s identifiers t) e) ∙ g.same
  first-turned (l ∷ ls) e = line-turned l ls e (step_of rules s identifiers l) refl

  pub turned : (v w : LineRead) → v ≡ line_known rules bytes t.end s identifiers → v ≡ w → Turned rules bytes identifiers s t w
  turned v w p e =
      subst (λ (x : LineRead). Turned rules bytes identifiers s t x) (sym p ∙ e) (first-turned (lines_of (drop t.end bytes)) refl)

-- the identifiers after a line, whether it brings some or not
pub brought-so : (rules : Rules) (s : State) (identifiers line kept : List ℕ) → s.due ≡ satellites_kind → kept ≡ identifiers_joined rules s identifiers (padded line) → kept ≡ identifiers_brought rules s identifiers line
unfolding identifiers_brought
brought-so rules s identifiers line kept due e = rw (eq-eqb s.due satellites_kind due) e

pub none-brought : (rules : Rules) (s : State) (identifiers line : List ℕ) → (s.due ≡ satellites_kind → ⊥) → identifiers ≡ identifiers_brought rules s identifiers line
unfolding identifiers_brought
none-brought rules s identifiers line not-due = rw (ne_eqb s.due satellites_kind not-due)

-- a file has no more lines than bytes
no-more-lines : (ls : List (List ℕ)) (rules : Rules) (s : State) (identifiers : List ℕ) (t t' : Tally) → t.lines ≤ t.end → run rules s identifiers t ls ≡ front.File t' → t'.lines ≤ t'.end
unfolding run counted
no-more-lines [] rules s identifiers t t' h e = let z : ◌≡◌ {A = ℕ} 0 1 = cc in absurd (omega arith)
no-more-lines (l ∷ ls) rules s identifiers t t' h e = go (step_of rules s identifiers l) refl (λ (s' : State) (identifiers' : List ℕ). no-more-lines ls rules s' identifiers' (counted rules t l) t' (omega arith))
  where
    go : (v : Verdict) → step_of rules s identifiers l ≡ v → ((s' : State) (identifiers' : List ℕ) → run rules s' identifiers' (counted rules t l) ls ≡ front.File t' → t'.lines ≤ t'.end) → t'.lines ≤ t'.end
    go (verdict.Fault number column) w more = let f : front.Refused number (t.lines + 1) column ≡ front.File t' = rw w at e in let z : ◌≡◌ {A = ℕ} 0 1 = cc in absurd (omega arith)
    go (verdict.Next s') w more = more s' (identifiers_brought rules s identifiers l) (rw w at e)
    go verdict.Finished w more =
        let f : front.File (counted rules t l) ≡ front.File t' = rw w at e in
        let same : counted rules t l ≡ t' = cc in
        omega (arith, ap (λ (x : Tally). x.lines) same, ap (λ (x : Tally). x.end) same)

pub lines-within : (rules : Rules) (bytes : List ℕ) (t : Tally) → scan_of rules bytes ≡ front.File t → t.lines ≤ t.end
lines-within rules bytes t e = no-more-lines (lines_of bytes) rules start_state no_identifiers nothing_seen t zero-le e
