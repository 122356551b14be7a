-- How many of the known identifiers a turn of `scan_front`'s loop looks at, and that the marks cover them: on plain values.
-- Assumes nothing.
use mathlib.Core.Path.{◌≡◌, refl, sym, ap, ◌∙◌, subst}
use mathlib.Core.Bool.{Bool, true, false}
use mathlib.Core.List.{List}
use Prim.Native.Nat.{ℕ, ◌+◌, ◌-◌, ◌<◌, zero-le}
use native.Mathlib.Omega.{arith}
use borrow.Author.Tests.{eqb-true}
use lib.Dec.{eqb}
use lib.ListN.{length, take, drop}
use lib.Seq.{take_all}
use Rattle.layout.specs.Line.{padded}
use Rattle.lines.specs.Lines.{line_length, lines_of}
use Rattle.lines.proofs.Ends.{first-line}
use Rattle.record.specs.LineKinds.{satellites_kind, no_kind}
use Rattle.header.specs.declared.types.Rules.{Rules}
use Rattle.marks.specs.Marks.{all_new, marked_all, Covers}
use Rattle.marks.proofs.Marking.{new-alone, covers-all, covers-fewer}
use Rattle.machine.specs.State.{seen, known_identifiers, identifiers_in}
use Rattle.machine.specs.Step.{identifiers_brought, line_known}
use Rattle.machine.specs.declared.types.State.{State}
use Rattle.machine.proofs.Stepping.{brought-front}
use Rattle.machine.proofs.Unlooked.{reads_same}
use Rattle.scan.specs.Looking.{Enough}

module _ (rules : Rules) (bytes : List ℕ) (at : ℕ) (s : State) (identifiers : List ℕ) where
  -- all of them
  pub all-enough : (many : ℕ) → many ≡ length identifiers → Enough rules bytes at s identifiers many
  all-enough many e =
      record {
        few = omega arith;
        same = ap (λ (l : List ℕ). line_known rules bytes at s l) (take_all many identifiers (omega arith));
      }

  -- none, where the line's own are new by marks that cover those known
  pub none-enough : (marks : List ℕ) (end : ℕ) → s.due ≡ satellites_kind → s.also ≡ no_kind → Covers (known_identifiers s identifiers) marks
      → end ≡ at + line_length (drop at bytes) → end < length bytes → true ≡ all_new marks (identifiers_in rules s (padded (take (end - at) (drop at bytes))))
      → Enough rules bytes at s identifiers 0
  none-enough marks end due alone covers ended h new =
      record {
        few = zero-le;
        same =
            reads_same rules s identifiers due alone at (take (end - at) (drop at bytes)) (lines_of (drop at bytes)) (lines_of (drop (end + 1) bytes)) (first-line bytes at end ended h)
            (new-alone (identifiers_in rules s (padded (take (end - at) (drop at bytes)))) (known_identifiers s identifiers) marks covers (sym new));
      }

-- what a turn has before it reads the line at a byte: enough of the identifiers, the marks of the first `marked`, and of all that are known where a
-- `+ ` line is due
pub record Looked (rules : Rules) (bytes : List ℕ) (at : ℕ) (identifiers marks : List ℕ) (marked : ℕ) (s : State) (many : ℕ) : Type 0 where
  pub enough : Enough rules bytes at s identifiers many
  pub covers : Covers (take marked identifiers) marks
  pub all-marked : s.due ≡ satellites_kind → marked ≡ seen s

module _ (rules : Rules) (bytes : List ℕ) (at : ℕ) (identifiers : List ℕ) (s : State) where
  -- where a `+ ` line is due
  pub looked-due : (marks marks' : List ℕ) (marked many many' : ℕ) → Enough rules bytes at s identifiers many → Covers (known_identifiers s identifiers) marks
      → marks' ≡ marks → marked ≡ seen s → many' ≡ many → Looked rules bytes at identifiers marks' marked s many'
  looked-due marks marks' marked many many' enough covers marks-are marked-is many_is =
      record {
        enough = subst (λ (n : ℕ). Enough rules bytes at s identifiers n) (sym many_is) enough;
        covers =
            subst (λ (m : List ℕ). Covers (take marked identifiers) m) (sym marks-are)
            (subst (λ (n : ℕ). Covers (take n identifiers) marks) (sym marked-is) covers);
        all-marked = λ due. marked-is;
      }

  -- and where another is
  pub looked-else : (marks marks' : List ℕ) (marked marked' many : ℕ) → (s.due ≡ satellites_kind → ⊥) → Covers (take marked identifiers) marks
      → marks' ≡ marks → marked' ≡ marked → many ≡ length identifiers → Looked rules bytes at identifiers marks' marked' s many
  looked-else marks marks' marked marked' many other covers marks-are marked-is many_is =
      record {
        enough = all-enough rules bytes at s identifiers many many_is;
        covers =
            subst (λ (m : List ℕ). Covers (take marked' identifiers) m) (sym marks-are)
            (subst (λ (n : ℕ). Covers (take n identifiers) marks) (sym marked-is) covers);
        all-marked = λ due. absurd (other due);
      }

-- the line brings identifiers behind those that are marked
pub covers-on : (rules : Rules) (bytes : List ℕ) (at : ℕ) (identifiers marks : List ℕ) (marked : ℕ) (s : State) (many : ℕ) → Looked rules bytes at identifiers marks marked s many
    → (line identifiers' : List ℕ) → identifiers' ≡ identifiers_brought rules s identifiers line → Covers (take marked identifiers') marks
unfolding identifiers_brought
covers-on rules bytes at identifiers marks marked s many k line identifiers' e = go (eqb s.due satellites_kind) refl
  where
    go : (due : Bool) → eqb s.due satellites_kind ≡ due → Covers (take marked identifiers') marks
    go true d =
        let all = k.all-marked (eqb-true s.due satellites_kind d) in
        let same : take marked identifiers' ≡ take marked identifiers =
        ap (take marked) e ∙ ap (λ (n : ℕ). take n (identifiers_brought rules s identifiers line)) all ∙ brought-front rules s identifiers line ∙ sym (ap (λ (n : ℕ). take n identifiers) all) in
        subst (λ (l : List ℕ). Covers l marks) (sym same) k.covers
    go false d = subst (λ (l : List ℕ). Covers (take marked l) marks) (sym (e ∙ rw d)) k.covers

-- marks that cover some identifiers do so after more are marked
pub covers-brought : (known more marks marks' : List ℕ) → Covers known marks → marks' ≡ marked_all more marks → Covers known marks'
covers-brought known more marks marks' c e = subst (λ (m : List ℕ). Covers known m) (sym e) (covers-fewer known more (marked_all more marks) (covers-all more known marks c))
