-- A walk over rows, on plain values: what its loops do in a turn.
-- Assumes nothing.
use Rattle.std.proofs.Common.{◌≡◌, ℕ, ◌+◌, ◌<◌, ◌≤◌, Bool, true, false, cond, ◌&&◌, eqb, List, [], ◌∷◌, length, get_or, drop, sym, refl, ap, ◌∙◌, add-zero, arith, get_or-drop, eqb-true}
use Rattle.layout.specs.Line.{padded}
use Rattle.lines.specs.Lines.{is_lf, lines_of, on_first, bytes_in}
use Rattle.record.specs.LineKinds.{position_kind, told_kind, kind_of, kind_by, star_kind, e_kind, plus_kind, slash_kind, percent_kind, hash_kind}
use Rattle.file.specs.Kinds.{is_kind}
use Rattle.file.proofs.Finding.{padded-column, lines-within}
use Rattle.file.proofs.FirstLine.{passed}
use Rattle.machine.specs.Step.{step_of, read_first}
use Rattle.header.specs.declared.types.Rules.{Rules}
use Rattle.record.specs.declared.types.LineKind.{LineKind}
use Rattle.record.specs.declared.types.LineKind.TheVariants as kind
use Rattle.machine.specs.declared.types.State.{State}
use Rattle.machine.specs.declared.types.Verdict.{Verdict}
use Rattle.machine.specs.declared.types.Verdict.TheVariants as verdict
use Rattle.line_walk.specs.declared.Spot.{Spot}
use Rattle.row_walk.specs.Rows.{spot_past, to_row, row_ahead}

-- a kind that is not P, or another that is not
not-row : (p : Bool) (x y : LineKind) → eqb (told_kind x) position_kind ≡ false → eqb (told_kind y) position_kind ≡ false → eqb (told_kind (cond p x y)) position_kind ≡ false
not-row true x y e f = e
not-row false x y e f = f

-- P is told by the first byte alone
row-letter : (letter a b c : ℕ) → eqb (told_kind (kind_by letter a b c)) position_kind ≡ eqb a 80
row-letter letter a b c = go (eqb a 80)
  where
    other : eqb (told_kind (cond (eqb a 86) kind.Velocity
        (cond (eqb a 42) (star_kind b)
        (cond (eqb a 69) (e_kind b c)
        (cond (eqb a 43) (plus_kind b) (cond (eqb a 47) (slash_kind b) (cond (eqb a 37) (percent_kind b) (cond (eqb a 35) (hash_kind letter b) kind.Other)))))))) position_kind
        ≡ false
    other =
        not-row (eqb a 86) _ _ refl
        (not-row (eqb a 42) _ _ (not-row (eqb b 32) _ _ refl refl)
        (not-row (eqb a 69) _ _ (not-row (eqb b 80) _ _ refl (not-row (eqb b 86) _ _ refl (not-row (eqb b 79 && eqb c 70) _ _ refl refl)))
        (not-row (eqb a 43) _ _ (not-row (eqb b 32) _ _ refl (not-row (eqb b 43) _ _ refl refl))
        (not-row (eqb a 47) _ _ (not-row (eqb b 42) _ _ refl refl)
        (not-row (eqb a 37) _ _ (not-row (eqb b 99) _ _ refl (not-row (eqb b 102) _ _ refl (not-row (eqb b 105) _ _ refl refl)))
        (not-row (eqb a 35) _ _ (not-row (eqb b 35) _ _ refl (not-row (eqb b letter) _ _ refl refl)) refl))))))

    go : (t : Bool) → eqb (told_kind (cond t kind.Position
        (cond (eqb a 86) kind.Velocity
        (cond (eqb a 42) (star_kind b)
        (cond (eqb a 69) (e_kind b c)
        (cond (eqb a 43) (plus_kind b) (cond (eqb a 47) (slash_kind b) (cond (eqb a 37) (percent_kind b) (cond (eqb a 35) (hash_kind letter b) kind.Other))))))))) position_kind
        ≡ t
    go true = refl
    go false = other

line_row : (rules : Rules) (l : List ℕ) → is_kind rules position_kind l ≡ eqb (get_or l 0 32) 80
unfolding kind_of
line_row rules l =
    row-letter rules.letter (get_or (padded l) 0 0) (get_or (padded l) 1 0) (get_or (padded l) 2 0) ∙ ap (λ (a : ℕ). eqb a 80) (padded-column l 0 (omega arith))

-- a line is a P line exactly where the byte at which it begins is P
pub row-begins : (rules : Rules) (xs l : List ℕ) (ls : List (List ℕ)) → lines_of xs ≡ l ∷ ls → is_kind rules position_kind l ≡ eqb (get_or xs 0 0) 80
unfolding lines_of on_first
row-begins rules [] l ls e = let z : ◌≡◌ {A = ℕ} 0 1 = cc in absurd (omega arith)
row-begins rules (b ∷ bs) l ls e = go (is_lf b) refl (lines_of bs) refl
  where
    go : (t : Bool) → is_lf b ≡ t → (ms : List (List ℕ)) → lines_of bs ≡ ms → is_kind rules position_kind l ≡ eqb b 80
    go true is ms lines =
        let same : [] ∷ lines_of bs ≡ l ∷ ls = rw is at e in
        let empty : [] ≡ l = cc in
        line_row rules l ∙ ap (λ (x : List ℕ). eqb (get_or x 0 32) 80) (sym empty) ∙ ap (λ (x : ℕ). eqb x 80) (sym (eqb-true b 10 is))
    go false is [] lines =
        let none : on_first b [] ≡ l ∷ ls = rw (is, lines) at e in
        let z : ◌≡◌ {A = ℕ} 0 1 = cc in
        absurd (omega arith)
    go false is (m ∷ ms) lines =
        let same : (b ∷ m) ∷ ms ≡ l ∷ ls = rw (is, lines) at e in
        let first : b ∷ m ≡ l = cc in
        line_row rules l ∙ ap (λ (x : List ℕ). eqb (get_or x 0 32) 80) (sym first)

-- the lines behind the first begin after its LF
pub passed-to : (file : List ℕ) (at : ℕ) (l : List ℕ) (ls : List (List ℕ)) → lines_of (drop at file) ≡ l ∷ ls
    → (at + length l + 1 ≤ length file) × (lines_of (drop (at + length l + 1) file) ≡ ls)
passed-to file at l ls e =
    let p = passed file at l ls e in
    let behind : at + length l + 1 ≡ at + (length l + 1) = omega arith in
    (omega (arith, p.within), ap (λ (n : ℕ). lines_of (drop n file)) behind ∙ p.rest)

-- the line at a spot, or none: what the next step of a walk over the lines does
module _ (rules : Rules) (file identifiers : List ℕ) (p : Spot) where
  -- nothing is left
  stays-none : lines_of (drop p.at file) ≡ [] → (p ≡ row_ahead rules file identifiers p) × (spot_past rules file identifiers p ≡ p)
  unfolding to_row spot_past read_first
  stays-none e = (rw e, rw e)

  module _ (l : List ℕ) (ls : List (List ℕ)) (e : lines_of (drop p.at file) ≡ l ∷ ls) where
    -- a P line stops the walk
    stays-row : is_kind rules position_kind l ≡ true → p ≡ row_ahead rules file identifiers p
    unfolding to_row
    stays-row is = rw (e, is)

    -- another that is refused or ends the file does
    stays-fault : (m c : ℕ) → is_kind rules position_kind l ≡ false → step_of rules p.state identifiers l ≡ verdict.Fault m c
        → (p ≡ row_ahead rules file identifiers p) × (spot_past rules file identifiers p ≡ p)
    unfolding to_row spot_past read_first
    stays-fault m c is v = (rw (e, is, v), rw (e, v))

    stays-end : is_kind rules position_kind l ≡ false → step_of rules p.state identifiers l ≡ verdict.Finished
        → (p ≡ row_ahead rules file identifiers p) × (spot_past rules file identifiers p ≡ p)
    unfolding to_row spot_past read_first
    stays-end is v = (rw (e, is, v), rw (e, v))

    -- one that goes on leads to the lines after it
    abbrev behind : State → Spot
    behind s = record { at = p.at + length l + 1; state = s }

    moves : (s : State) → is_kind rules position_kind l ≡ false → step_of rules p.state identifiers l ≡ verdict.Next s
        → (row_ahead rules file identifiers (behind s) ≡ row_ahead rules file identifiers p) × (spot_past rules file identifiers p ≡ behind s)
    unfolding to_row spot_past read_first
    moves s is v = (rw (e, is, v, (passed-to file p.at l ls e).1), rw (e, v))

  -- a turn of the walk to the next row
  pub record Turn (next : Spot) : Type 0 where
    pub stays : next.at ≡ p.at → p ≡ row_ahead rules file identifiers p
    pub goes : (next.at ≡ p.at → ⊥) → row_ahead rules file identifiers next ≡ row_ahead rules file identifiers p
    pub nearer : (next.at ≡ p.at → ⊥) → (p.at < next.at) × (next.at ≤ length file)

  still : (p ≡ row_ahead rules file identifiers p) × (spot_past rules file identifiers p ≡ p) → Turn (spot_past rules file identifiers p)
  still (here, same) =
      let at : (spot_past rules file identifiers p).at ≡ p.at = ap (λ (x : Spot). x.at) same in
      record { stays = λ e. here; goes = λ not. absurd (not at); nearer = λ not. absurd (not at) }

  turned : (s : State) (l : List ℕ) (ls : List (List ℕ)) → lines_of (drop p.at file) ≡ l ∷ ls
      → (row_ahead rules file identifiers (record { at = p.at + length l + 1; state = s }) ≡ row_ahead rules file identifiers p) × (spot_past rules file identifiers p ≡ record { at = p.at + length l + 1; state = s })
      → Turn (spot_past rules file identifiers p)
  turned s l ls e (same, next) =
      let at : (spot_past rules file identifiers p).at ≡ p.at + length l + 1 = ap (λ (x : Spot). x.at) next in
      record {
        stays = λ stay. absurd (omega arith);
        goes = λ not. ap (row_ahead rules file identifiers) next ∙ same;
        nearer = λ not. (omega arith, omega (arith, (passed-to file p.at l ls e).0));
      }

  here-byte : get_or (drop p.at file) 0 0 ≡ get_or file p.at 0
  here-byte = get_or-drop p.at file 0 0 ∙ ap (λ (n : ℕ). get_or file n 0) (add-zero p.at)

  -- where no P line begins here
  pub turn : eqb (get_or file p.at 0) 80 ≡ false → Turn (spot_past rules file identifiers p)
  turn none = go (lines_of (drop p.at file)) refl
    where
      go : (ls : List (List ℕ)) → lines_of (drop p.at file) ≡ ls → Turn (spot_past rules file identifiers p)
      go [] e = still (stays-none e)
      go (l ∷ ls) e = by (step_of rules p.state identifiers l) refl
        where
          is : is_kind rules position_kind l ≡ false
          is = row-begins rules (drop p.at file) l ls e ∙ ap (λ (b : ℕ). eqb b 80) here-byte ∙ none

          by : (v : Verdict) → step_of rules p.state identifiers l ≡ v → Turn (spot_past rules file identifiers p)
          by (verdict.Fault m c) v = still (stays-fault l ls e m c is v)
          by verdict.Finished v = still (stays-end l ls e is v)
          by (verdict.Next s) v = turned s l ls e (moves l ls e s is v)

  -- where one does
  pub row_here : eqb (get_or file p.at 0) 80 ≡ true → p ≡ row_ahead rules file identifiers p
  row_here some = go (lines_of (drop p.at file)) refl
    where
      go : (ls : List (List ℕ)) → lines_of (drop p.at file) ≡ ls → p ≡ row_ahead rules file identifiers p
      go [] e = (stays-none e).0
      go (l ∷ ls) e = stays-row l ls e (row-begins rules (drop p.at file) l ls e ∙ ap (λ (b : ℕ). eqb b 80) here-byte ∙ some)

-- complete lines are fewer than their bytes
lines-fewer : (ls : List (List ℕ)) → length ls ≤ bytes_in ls
unfolding bytes_in
lines-fewer [] = omega arith
lines-fewer (l ∷ ls) = omega (arith, lines-fewer ls)

pub few-lines : (bytes : List ℕ) → length (lines_of bytes) ≤ length bytes
few-lines bytes = omega (arith, lines-fewer (lines_of bytes), lines-within bytes)
