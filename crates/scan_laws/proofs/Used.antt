-- The lines that a file at the front of some bytes takes up: the run goes by them alone, and what it tallies is their number, their bytes,
-- their comments and their rows. Assumes nothing.
use mathlib.Core.Path.{◌≡◌, refl, sym, ap, ◌∙◌}
use mathlib.Core.Bool.{Bool, true, false, cond}
use mathlib.Core.List.{List, [], ◌∷◌, ◌++◌}
use Prim.Native.Nat.{ℕ, ◌+◌, ◌≤◌, zero-le}
use native.Mathlib.Omega.{arith}
use lib.ListN.{length, take}
use Rattle.lines.specs.Lines.{lines_of, join_lines, bytes_in, select}
use Rattle.record.specs.LineKinds.{comment_kind}
use Rattle.lines.proofs.Split.{parted, bytes-in}
use Rattle.lines.proofs.Picking.{select-fewer}
use Rattle.file.specs.Kinds.{is_kind, is_row, of_kind}
use Rattle.file.specs.Table.{row_lines}
use Rattle.header.specs.declared.types.Rules.{Rules}
use Rattle.machine.specs.State.{start_state, no_identifiers}
use Rattle.machine.specs.Step.{step_of, identifiers_brought}
use Rattle.machine.specs.declared.types.State.{State}
use Rattle.machine.specs.declared.types.Verdict.{Verdict}
use Rattle.machine.specs.declared.types.Verdict.TheVariants as verdict
use Rattle.scan.specs.declared.Tally.{Tally}
use Rattle.scan.specs.Front as front
use Rattle.scan.specs.Run.{nothing_seen, one_more, counted, run, scan_of}

-- a file took up the lines `used` of those that the run was given
pub record Taken (rules : Rules) (s : State) (identifiers : List ℕ) (t : Tally) (ls : List (List ℕ)) (t' : Tally) : Type 0 where
  pub used : List (List ℕ)
  pub rest : List (List ℕ)
  pub split : ls ≡ used ++ rest
  pub alone : (more : List (List ℕ)) → run rules s identifiers t (used ++ more) ≡ front.File t'
  pub lines : t'.lines ≡ t.lines + length used
  pub end : t'.end ≡ t.end + bytes_in used
  pub comments : t'.comments ≡ t.comments + length (of_kind rules comment_kind used)
  pub rows : t'.rows ≡ t.rows + length (row_lines rules used)

-- a line more, by a test of it
more-passing : (test : List ℕ → Bool) (l : List ℕ) (ls : List (List ℕ)) (n : ℕ)
    → one_more (test l) n + length (select test ls) ≡ n + length (select test (l ∷ ls))
unfolding select
more-passing test l ls n = go (test l)
  where
    go : (b : Bool) → one_more b n + length (select test ls) ≡ n + length (cond b (l ∷ select test ls) (select test ls))
    go true = omega arith
    go false = refl

module _ (rules : Rules) where
  -- the last line of a file
  taken-last : (s : State) (identifiers : List ℕ) (t t' : Tally) (l : List ℕ) (ls : List (List ℕ))
      → step_of rules s identifiers l ≡ verdict.Finished → front.File (counted rules t l) ≡ front.File t' → Taken rules s identifiers t (l ∷ ls) t'
  unfolding run counted select bytes_in
  taken-last s identifiers t t' l ls v e =
      let is : counted rules t l ≡ t' = cc in
      record {
        used = l ∷ [];
        rest = ls;
        split = refl;
        alone = λ more. rw v e;
        lines = ap (λ (x : Tally). x.lines) (sym is);
        end = ap (λ (x : Tally). x.end) (sym is) ∙ omega arith;
        comments = ap (λ (x : Tally). x.comments) (sym is) ∙ omega (arith, more-passing (is_kind rules comment_kind) l [] t.comments);
        rows = ap (λ (x : Tally). x.rows) (sym is) ∙ omega (arith, more-passing (is_row rules) l [] t.rows);
      }

  -- a line that the machine goes on from
  taken_more : (s s' : State) (identifiers : List ℕ) (t t' : Tally) (l : List ℕ) (ls : List (List ℕ))
      → step_of rules s identifiers l ≡ verdict.Next s' → Taken rules s' (identifiers_brought rules s identifiers l) (counted rules t l) ls t'
      → Taken rules s identifiers t (l ∷ ls) t'
  unfolding run counted bytes_in
  taken_more s s' identifiers t t' l ls v u =
      record {
        used = l ∷ u.used;
        rest = u.rest;
        split = ap (λ (k : List (List ℕ)). l ∷ k) u.split;
        alone = λ more. rw v (u.alone more);
        lines = omega (arith, u.lines);
        end = omega (arith, u.end);
        comments = u.comments ∙ more-passing (is_kind rules comment_kind) l u.used t.comments;
        rows = u.rows ∙ more-passing (is_row rules) l u.used t.rows;
      }

  -- What an accepted front is: the lines used, and the tally that they give.
  pub taken : (ls : List (List ℕ)) (s : State) (identifiers : List ℕ) (t t' : Tally) → run rules s identifiers t ls ≡ front.File t' → Taken rules s identifiers t ls t'
  unfolding run
  taken [] s identifiers t t' e = let z : ◌≡◌ {A = ℕ} 0 1 = cc in absurd (omega arith)
  taken (l ∷ ls) s identifiers t t' e = go (step_of rules s identifiers l) refl (taken ls)
    where
      go : (v : Verdict) → step_of rules s identifiers l ≡ v
          → ((s₁ : State) (n₁ : List ℕ) (t₁ t₂ : Tally) → run rules s₁ n₁ t₁ ls ≡ front.File t₂ → Taken rules s₁ n₁ t₁ ls t₂)
          → Taken rules s identifiers t (l ∷ ls) t'
      go (verdict.Fault n c) v more =
          let refused : front.Refused n (counted rules t l).lines c ≡ front.File t' = rw v at e in
          let z : ◌≡◌ {A = ℕ} 0 1 = cc in
          absurd (omega arith)
      go (verdict.Next s') v more =
          taken_more s s' identifiers t t' l ls v (more s' (identifiers_brought rules s identifiers l) (counted rules t l) t' (rw v at e))
      go verdict.Finished v more = taken-last s identifiers t t' l ls v (rw v at e)

lines-le-bytes : (ls : List (List ℕ)) → length ls ≤ bytes_in ls
unfolding bytes_in
lines-le-bytes [] = zero-le
lines-le-bytes (l ∷ ls) = omega (arith, lines-le-bytes ls)

-- the lines of the bytes up to the end of the file
abbrev pub front_lines : List ℕ → Tally → List (List ℕ)
front_lines bytes t = lines_of (take t.end bytes)

-- the file at the front of some bytes: its lines, and what they say of the tally
pub record AcceptedFront (rules : Rules) (bytes : List ℕ) (t : Tally) : Type 0 where
  pub within : t.end ≤ length bytes
  pub rest : List (List ℕ)
  pub split : lines_of bytes ≡ front_lines bytes t ++ rest
  pub alone : (more : List (List ℕ)) → run rules start_state no_identifiers nothing_seen (front_lines bytes t ++ more) ≡ front.File t
  pub joined : take t.end bytes ≡ join_lines (front_lines bytes t)
  pub end : t.end ≡ bytes_in (front_lines bytes t)
  pub lines : t.lines ≡ length (front_lines bytes t)
  pub comments : t.comments ≡ length (of_kind rules comment_kind (front_lines bytes t))
  pub rows : t.rows ≡ length (row_lines rules (front_lines bytes t))
  pub lines-within : t.lines ≤ t.end
  pub comments-within : t.comments ≤ t.end
  pub rows-within : t.rows ≤ t.end

-- What an accepted file at the front of some bytes is.
pub accepted-front : (rules : Rules) (bytes : List ℕ) (t : Tally) → scan_of rules bytes ≡ front.File t → AcceptedFront rules bytes t
accepted-front rules bytes t e =
    let u = taken rules (lines_of bytes) start_state no_identifiers nothing_seen t e in
    let p = parted u.used bytes u.rest u.split in
    let n : t.end ≡ length (join_lines u.used) = omega (arith, u.end, bytes-in u.used) in
    let joined : take t.end bytes ≡ join_lines u.used = ap (λ (k : ℕ). take k bytes) n ∙ p.front in
    let same : u.used ≡ front_lines bytes t = sym (ap lines_of joined ∙ p.front-lines) in
    let some = lines-le-bytes u.used in
    record {
      within = omega (arith, p.within);
      rest = u.rest;
      split = rw (← same) u.split;
      alone = rw (← same) u.alone;
      joined = rw (← same) joined;
      end = rw (← same) (omega (arith, u.end));
      lines = rw (← same) (omega (arith, u.lines));
      comments = rw (← same) (omega (arith, u.comments));
      rows = rw (← same) (omega (arith, u.rows));
      lines-within = omega (arith, u.lines, u.end);
      comments-within = omega (arith, u.comments, u.end, select-fewer (is_kind rules comment_kind) u.used);
      rows-within = omega (arith, u.rows, u.end, select-fewer (is_row rules) u.used);
    }
