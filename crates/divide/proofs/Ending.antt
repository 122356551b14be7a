-- An accepted file ends with its first EOF line: no line before it is of that kind.
-- Assumes nothing.
use mathlib.Core.Path.{◌≡◌, refl, ap, ◌∙◌}
use mathlib.Core.Bool.{Bool, false}
use mathlib.Core.Logic.{◌⊎◌, inl, inr}
use mathlib.Core.List.{List, [], ◌∷◌, ◌++◌}
use Prim.Native.Nat.{ℕ, suc, ◌+◌, ◌<◌}
use native.Mathlib.Omega.{arith}
use lib.Dec.{eqb}
use lib.ListN.{length, drop}
use borrow.Author.Tests.{eq-eqb}
use Rattle.layout.specs.Line.{padded}
use Rattle.lines.specs.Lines.{is_lf, has_lf, line_length, lines_of, select, nth, begins_from}
use Rattle.lines.proofs.Ends.{neither}
use Rattle.lines.proofs.Picking.{select-first, select-other, nth_here, place_here, place_other, placed}
use Rattle.lines.proofs.Split.{OneLine, first}
use Rattle.header.specs.declared.types.Rules.{Rules}
use Rattle.record.specs.LineKinds.{end_kind, told_kind}
use Rattle.record.specs.declared.types.LineKind.{LineKind}
use Rattle.record.specs.declared.types.LineKind.TheVariants as kind
use Rattle.machine.specs.Next.{next_of}
use Rattle.machine.specs.Step.{identifiers_brought}
use Rattle.machine.specs.State.{start_state, no_identifiers}
use Rattle.machine.specs.declared.types.State.{State}
use Rattle.machine.specs.declared.types.Verdict.TheVariants as verdict
use Rattle.file.specs.Kinds.{is_kind}
use Rattle.scan.specs.Run.{nothing_seen, counted, run, scan_of}
use Rattle.scan.specs.declared.Tally.{Tally}
use Rattle.scan.specs.Front as front
use Rattle.scan_laws.proofs.Passing.{kind_here, good, after, some-line}

-- a line's length, where its LF stands after it
line-length : (l rest : List ℕ) → OneLine l → line_length (l ++ (10 ∷ rest)) ≡ length l
unfolding line_length has_lf
line-length [] rest h = refl
line-length (b ∷ l) rest h = let parts = neither (is_lf b) (has_lf l) h in rw parts.0 (ap suc (line-length l rest parts.1))

module _ (rules : Rules) where
  abbrev is_last : List ℕ → Bool
  is_last l = is_kind rules end_kind l

  -- a line of kind EOF ends the file, and from one of any other kind the file goes on
  pub ends-or-on : (k : LineKind) (s : State) (line : List ℕ)
      → ((told_kind k ≡ end_kind) × (next_of k rules s line ≡ verdict.Finished))
      ⊎ ((s' : State) × (eqb (told_kind k) end_kind ≡ false) × (next_of k rules s line ≡ verdict.Next s'))
  ends-or-on kind.Other s line = inr (_, refl, refl)
  ends-or-on kind.First s line = inr (_, refl, refl)
  ends-or-on kind.Second s line = inr (_, refl, refl)
  ends-or-on kind.Satellites s line = inr (_, refl, refl)
  ends-or-on kind.Accuracies s line = inr (_, refl, refl)
  ends-or-on kind.Characters s line = inr (_, refl, refl)
  ends-or-on kind.Floats s line = inr (_, refl, refl)
  ends-or-on kind.Integers s line = inr (_, refl, refl)
  ends-or-on kind.Comment s line = inr (_, refl, refl)
  ends-or-on kind.Epoch s line = inr (_, refl, refl)
  ends-or-on kind.Position s line = inr (_, refl, refl)
  ends-or-on kind.Velocity s line = inr (_, refl, refl)
  ends-or-on kind.PositionCorrelation s line = inr (_, refl, refl)
  ends-or-on kind.VelocityCorrelation s line = inr (_, refl, refl)
  ends-or-on kind.EndOfFile s line = inl (refl, refl)

  -- some lines from a place on have an EOF line, and behind the first of them the file ends
  record Last (ls : List (List ℕ)) (from end : ℕ) : Type 0 where
    pub some : 0 < length (select is_last ls)
    pub behind : begins_from is_last 0 from ls + length (nth 0 (select is_last ls)) + 1 ≡ end

  last_line : (ls : List (List ℕ)) (s : State) (identifiers : List ℕ) (t t' : Tally) → run rules s identifiers t ls ≡ front.File t' → Last ls t.end t'.end
  unfolding run counted
  last_line [] s identifiers t t' e = absurd (some-line rules s identifiers t t' e)
  last_line (l ∷ ls) s identifiers t t' e =
      let g = good rules s identifiers l (counted rules t l) t' _ e in
      go (ends-or-on (kind_here rules l) s (padded l)) g.goes (last_line ls)
    where
      go : ((told_kind (kind_here rules l) ≡ end_kind) × (next_of (kind_here rules l) rules s (padded l) ≡ verdict.Finished))
          ⊎ ((s' : State) × (eqb (told_kind (kind_here rules l)) end_kind ≡ false) × (next_of (kind_here rules l) rules s (padded l) ≡ verdict.Next s'))
          → after rules (kind_here rules l) s identifiers t l ls ≡ front.File t'
          → ((s₁ : State) (n₁ : List ℕ) (t₁ t₂ : Tally) → run rules s₁ n₁ t₁ ls ≡ front.File t₂ → Last ls t₁.end t₂.end)
          → Last (l ∷ ls) t.end t'.end
      go (inl (is, ends)) goes more =
          let file : front.File (counted rules t l) ≡ front.File t' = rw ends at goes in
          let tally : counted rules t l ≡ t' = cc in
          let chosen = select-first is_last l ls refl (eq-eqb (told_kind (kind_here rules l)) end_kind is) in
          let line : nth 0 (select is_last (l ∷ ls)) ≡ l = ap (nth 0) chosen ∙ nth_here 0 l (select is_last ls) refl in
          record {
            some = omega (arith, ap length chosen);
            behind = omega (arith, place_here is_last l ls refl 0 t.end (eq-eqb (told_kind (kind_here rules l)) end_kind is) refl, ap length line, ap (λ (x : Tally). x.end) tally);
          }
      go (inr (s', other, on)) goes more =
          let later = more s' (identifiers_brought rules s identifiers l) (counted rules t l) t' (rw on at goes) in
          let chosen = select-other is_last l ls refl other in
          record {
            some = omega (arith, ap length chosen, later.some);
            behind = omega (arith, place_other is_last l ls refl 0 t.end other, ap (λ (k : List (List ℕ)). length (nth 0 k)) chosen, later.behind);
          }

  -- A file at the front of some bytes ends behind their first EOF line.
  pub file-ends : (bytes : List ℕ) (t : Tally) → scan_of rules bytes ≡ front.File t
      → begins_from is_last 0 0 (lines_of bytes) + line_length (drop (begins_from is_last 0 0 (lines_of bytes)) bytes) + 1 ≡ t.end
  file-ends bytes t e =
      let last = last_line (lines_of bytes) start_state no_identifiers nothing_seen t e in
      let p = placed is_last 0 bytes last.some in
      let f = first (drop (begins_from is_last 0 0 (lines_of bytes)) bytes) (nth 0 (select is_last (lines_of bytes))) p.more p.there in
      ap (λ (n : ℕ). begins_from is_last 0 0 (lines_of bytes) + n + 1) (ap line_length f.bytes-are ∙ line-length (nth 0 (select is_last (lines_of bytes))) f.rest f.text)
      ∙ last.behind
