-- The front page for the walker: after k steps the spot, the state and the identifiers are those of the first k lines, for every k and any bytes; so
-- they are those of the judge's own run, as long as its lines go on.
-- Assumes nothing.
use mathlib.Core.Path.{◌≡◌, refl, sym, ap, ap₂, ◌∙◌}
use mathlib.Core.List.{List, [], ◌∷◌}
use Prim.Native.Nat.{ℕ, zero, suc, ◌+◌, ◌-◌, ◌≤◌, ◌<◌}
use native.Mathlib.Nat.{le_of_suc-le-suc, not-suc-le-zero, add-zero, zero-add}
use native.Mathlib.Omega.{arith}
use lib.ListN.{length, take, drop}
use denote.Ref.{Bor}
use Rattle.header.specs.Versions.{rules_in}
use Rattle.lines.specs.Lines.{lines_of, nth}
use Rattle.lines.proofs.Lined.{lined}
use Rattle.machine.specs.State.{no_identifiers}
use Rattle.machine.specs.Step.{read_first, identifiers_first, line_identifiers, Overfull}
use Rattle.machine.proofs.Stepping.{kept-within}
use Rattle.file.specs.Plain.{Sound}
use Rattle.scan.specs.Run.{Going, stepped, stepped_over, at_first}
use Rattle.reader.specs.Reading.{front_of}
use Rattle.line_walk.specs.Spots.{first_spot, spot_after, spots_after, identifiers_past}
use Rattle.line_walk.proofs.Promised.{Begins, Moves}
use Rattle.scan_laws.proofs.Refused.{EndsAfter, accepted-steps}
use Rattle.scan_laws.proofs.Room.{Ready, ready-first, ready-next, never-short}
use Rattle.scan_laws.proofs.Stepping.{next-line, go-first, go-later, stepped-on, ready-behind}
use Rattle.scan_laws.specs.Lines.{judged, behind, GoOn}
use Rattle.theorems.proofs.LineRoom.{overfull-twelve}
use Rattle.theorems.specs.Faults.{after}
use Rattle.header.specs.declared.types.Rules.{Rules}
use Rattle.machine.specs.declared.types.State.{State}
use Rattle.machine.specs.declared.types.Verdict.{Verdict}
use Rattle.machine.specs.declared.types.Verdict.TheVariants as verdict
use Rattle.scan.specs.declared.Tally.{Tally}
use Rattle.scan.specs.Front as front
use Rattle.line_walk.specs.declared.Spot.{Spot}
use Rattle.line_walk.specs.declared.Walker.{Walker}
use Rattle.theorems.specs.Walked.{spot_of, going_at, read, on_from, past, over_lines, walked_from}
use Rattle.canon_laws.specs.Held.{Proper}
use Rattle.canon_laws.proofs.Versions.{told-proper}

no-fault : (m c : ℕ) (s : State) → verdict.Fault m c ≡ verdict.Next s → ⊥
no-fault m c s x = let z : ◌≡◌ {A = ℕ} 0 1 = cc in absurd (omega arith)

no_end : (s : State) → verdict.Finished ≡ verdict.Next s → ⊥
no_end s x = let z : ◌≡◌ {A = ℕ} 0 1 = cc in absurd (omega arith)

module _ (rules : Rules) (bytes : List ℕ) where
  -- a line at which the walk stays
  stays_at : (g : Going) (l : List ℕ) (ls : List (List ℕ)) → ((s : State) → read rules g l ≡ verdict.Next s → ⊥)
      → (k : ℕ) → over_lines rules g (take k (l ∷ ls)) ≡ g
  unfolding over_lines
  stays_at g l ls stay zero = refl
  stays_at g l ls stay (suc k) = go (read rules g l) refl
    where
      go : (v : Verdict) → read rules g l ≡ v → on_from v g (λ s. over_lines rules (past rules g l s) (take k ls)) ≡ g
      go (verdict.Fault m c) e = refl
      go verdict.Finished e = refl
      go (verdict.Next s) e = absurd (stay s e)

  abbrev Walks : ℕ → Type 0
  Walks k = (g : Going) → walked_from rules bytes g k ≡ over_lines rules g (take k (lines_of (drop g.at bytes)))

  -- one step: where the line leads
  record Leads (g h : Going) : Type 0 where
    spot : spot_after rules bytes g.identifiers (spot_of g) ≡ spot_of h
    identifiers : line_identifiers rules bytes g.at g.state g.identifiers ≡ h.identifiers

  leads-on : (g h : Going) (k : ℕ) → Leads g h → walked_from rules bytes g (suc k) ≡ walked_from rules bytes h k
  unfolding spots_after identifiers_past
  leads-on g h k to =
      ap₂ (λ (p : Spot) (ns : List ℕ). going_at (spots_after rules bytes ns p k) (identifiers_past rules bytes ns p k)) to.spot to.identifiers

  module _ (g : Going) where
    none-leads : lines_of (drop g.at bytes) ≡ [] → Leads g g
    unfolding spot_after read_first identifiers_first
    none-leads e = record { spot = rw e; identifiers = rw e }

    module _ (l : List ℕ) (ls : List (List ℕ)) (e : lines_of (drop g.at bytes) ≡ l ∷ ls) where
      fault-leads : (m c : ℕ) → read rules g l ≡ verdict.Fault m c → Leads g g
      unfolding spot_after read_first identifiers_first
      fault-leads m c v = record { spot = rw (e, v); identifiers = rw e (kept-within rules g.state g.identifiers l (verdict.Fault m c) v) }

      end-leads : read rules g l ≡ verdict.Finished → Leads g g
      unfolding spot_after read_first identifiers_first
      end-leads v = record { spot = rw (e, v); identifiers = rw e (kept-within rules g.state g.identifiers l verdict.Finished v) }

      next-leads : (s : State) → read rules g l ≡ verdict.Next s → Leads g (past rules g l s)
      unfolding spot_after read_first identifiers_first
      next-leads s v = record { spot = rw (e, v); identifiers = rw e (kept-within rules g.state g.identifiers l (verdict.Next s) v) }

  walks_more : (k : ℕ) → Walks k → Walks (suc k)
  unfolding over_lines
  walks_more k walks g = go (lines_of (drop g.at bytes)) refl
    where
      none : (k : ℕ) → over_lines rules g (take k []) ≡ g
      none zero = refl
      none (suc k) = refl

      -- the walk stays here
      here : (ls : List (List ℕ)) → lines_of (drop g.at bytes) ≡ ls → Leads g g → walked_from rules bytes g (suc k) ≡ over_lines rules g (take k ls)
      here ls e to = leads-on g g k to ∙ walks g ∙ ap (λ (x : List (List ℕ)). over_lines rules g (take k x)) e

      go : (ls : List (List ℕ)) → lines_of (drop g.at bytes) ≡ ls → walked_from rules bytes g (suc k) ≡ over_lines rules g (take (suc k) ls)
      go [] e = here [] e (none-leads g e) ∙ none k
      go (l ∷ ls) e = by (read rules g l) refl
        where
          by : (v : Verdict) → read rules g l ≡ v → walked_from rules bytes g (suc k) ≡ over_lines rules g (take (suc k) (l ∷ ls))
          by (verdict.Fault m c) v =
              let stay : (s : State) → read rules g l ≡ verdict.Next s → ⊥ = λ s on. no-fault m c s (sym v ∙ on) in
              here (l ∷ ls) e (fault-leads g l ls e m c v) ∙ stays_at g l ls stay k ∙ sym (stays_at g l ls stay (suc k))
          by verdict.Finished v =
              let stay : (s : State) → read rules g l ≡ verdict.Next s → ⊥ = λ s on. no_end s (sym v ∙ on) in
              here (l ∷ ls) e (end-leads g l ls e v) ∙ stays_at g l ls stay k ∙ sym (stays_at g l ls stay (suc k))
          by (verdict.Next s) v =
              leads-on g (past rules g l s) k (next-leads g l ls e s v)
              ∙ walks (past rules g l s)
              ∙ ap (λ (x : List (List ℕ)). over_lines rules (past rules g l s) (take k x)) (lined bytes g.at l ls e).rest
              ∙ rw v refl

  -- AFTER K STEPS from any spot, with any list lent, the spot, the state and the identifiers are those of the first k lines from there, for every k
  -- and any bytes.
  pub walks : (k : ℕ) → Walks k
  unfolding spots_after identifiers_past over_lines
  walks zero g = refl
  walks (suc k) g = walks_more k (walks k) g

  -- A SHORT LIST: at a `+ ` line that brings more identifiers than fit the walker stays.
  pub short-stays : (g : Going) → Overfull rules bytes g.at g.state g.identifiers → (k : ℕ) → walked_from rules bytes g k ≡ g
  short-stays g o k =
      walks k g
      ∙ ap (λ (x : List (List ℕ)). over_lines rules g (take k x)) o.stands
      ∙ stays_at g o.line o.after (λ s on. no-fault 12 0 s (sym (overfull-twelve rules bytes g.at g.state g.identifiers o) ∙ on)) k

module _ (rules : Rules) (sound : Sound rules) where
  -- over lines that go on, with the judge's list, a walk is where the run is, and what follows them is walked from there
  over-behind : (k : ℕ) (ls : List (List ℕ)) (g : Going) (m : ℕ) → Ready rules g → GoOn rules g ls k → k ≤ length ls
      → over_lines rules g (take (k + m) ls) ≡ over_lines rules (behind rules g ls k) (take m (drop k ls))
  unfolding over_lines stepped_over
  over-behind zero ls g m ready goes h = ap (λ (n : ℕ). over_lines rules g (take n ls)) (zero-add m)
  over-behind (suc k) [] g m ready goes h = absurd (not-suc-le-zero h)
  over-behind (suc k) (l ∷ ls) g m ready goes h =
      let here = go-first rules k l ls g goes in
      let sum : suc k + m ≡ suc (k + m) = omega arith in
      rw (sum, never-short rules sound g ready l, here.1)
      (ap (λ (x : Going). over_lines rules x (take (k + m) ls)) (sym (stepped-on rules g l here.0 here.1))
      ∙ over-behind k ls (stepped rules g l) m (ready-next rules g l here.0 ready here.1) (go-later rules k l ls g goes) (le_of_suc-le-suc h))

module _ {rules : Rules} (proper : Proper rules) where
  -- ANY BYTES: from the first line, with room for the identifiers as the judge has it.
  module _ (bytes : List ℕ) where
    abbrev pub walked_to : ℕ → Going
    walked_to k = walked_from rules bytes at_first k

    walked : (k m : ℕ) → GoOn rules at_first (lines_of bytes) k → k ≤ length (lines_of bytes) → walked_to (k + m) ≡ over_lines rules (after rules bytes k) (take m (drop k (lines_of bytes)))
    walked k m goes h = walks rules bytes (k + m) at_first ∙ over-behind rules proper.sound k (lines_of bytes) at_first m (ready-first rules) goes h

    -- STEPPING BY THE WALKER: after k steps over lines that go on, spot, state and identifiers are those of the judge's run after the first k lines.
    pub walker-steps : (k : ℕ) → GoOn rules at_first (lines_of bytes) k → k ≤ length (lines_of bytes) → walked_to k ≡ after rules bytes k
    unfolding over_lines
    walker-steps k goes h = ap walked_to (sym (add-zero k)) ∙ walked k 0 goes h

    -- At the first line that does not go on, refused or the last, it stays.
    pub walker-stays : (k : ℕ) → GoOn rules at_first (lines_of bytes) k → k < length (lines_of bytes)
        → ((s : State) → judged rules (after rules bytes k) (nth k (lines_of bytes)) ≡ verdict.Next s → ⊥) → (m : ℕ) → walked_to (k + m) ≡ after rules bytes k
    walker-stays k goes h stay m =
        let ready = ready-behind rules k (lines_of bytes) at_first (ready-first rules) goes (omega arith) in
        let same = never-short rules proper.sound (after rules bytes k) ready (nth k (lines_of bytes)) in
        walked k m goes (omega arith)
        ∙ ap (λ (ls : List (List ℕ)). over_lines rules (after rules bytes k) (take m ls)) (next-line k (lines_of bytes) h)
        ∙ stays_at rules bytes (after rules bytes k) (nth k (lines_of bytes)) (drop (suc k) (lines_of bytes)) (λ s on. stay s (sym same ∙ on)) m

  -- An accepted file: each of its lines is reached, and the walker stays before the EOF line.
  module _ (bytes : List ℕ) (t : Tally) (accepted : front_of rules bytes ≡ front.File t) where
    ends : EndsAfter rules bytes t (t.lines - 1)
    ends = accepted-steps rules bytes t accepted

    pub file-steps : (k : ℕ) → k < t.lines → walked_to bytes k ≡ after rules bytes k
    file-steps k h = walker-steps bytes k (λ i below. ends.goes i (omega arith)) (omega (arith, ends.within))

    pub file-stays : (k : ℕ) → t.lines ≤ k + 1 → walked_to bytes k ≡ after rules bytes (t.lines - 1)
    file-stays k h =
        let last = t.lines - 1 in
        let sum : k ≡ last + (k - last) = omega (arith, ends.lines) in
        ap (walked_to bytes) sum ∙ walker-stays bytes last (λ i below. ends.goes i below) ends.within (λ s on. no_end s (sym ends.last ∙ on)) (k - last)

-- one step more at the end
last_step : (rules : Rules) (bytes : List ℕ) (k : ℕ) (identifiers : List ℕ) (p : Spot)
    → let q = spots_after rules bytes identifiers p k in let kept = identifiers_past rules bytes identifiers p k in
    (spot_after rules bytes kept q ≡ spots_after rules bytes identifiers p (suc k))
    × (line_identifiers rules bytes q.at q.state kept ≡ identifiers_past rules bytes identifiers p (suc k))
unfolding spots_after identifiers_past
last_step rules bytes zero identifiers p = (refl, refl)
last_step rules bytes (suc k) identifiers p = last_step rules bytes k (line_identifiers rules bytes p.at p.state identifiers) (spot_after rules bytes identifiers p)

-- a walker and the identifiers lent, so many moves after another
pub data After (from : Walker) (first : List ℕ) : ℕ → Walker → List ℕ → Type 0 where
  none : After from first 0 from first
  more : {k : ℕ} {w v : Walker} {identifiers kept : List ℕ} → After from first k w identifiers → Moves w identifiers v kept → After from first (suc k) v kept

-- BY THE PROMISES OF `new` AND `moved`: k moves after a walker, the file is the same, the spot is k lines further and the identifiers are theirs, for every k;
pub record Further (from : Walker) (first : List ℕ) (k : ℕ) (w : Walker) (identifiers : List ℕ) : Type 0 where
  pub file : w.file ≡ from.file
  pub spot : w.spot ≡ spots_after (rules_in from.file.now) from.file.now first from.spot k
  pub identifiers-are : identifiers ≡ identifiers_past (rules_in from.file.now) from.file.now first from.spot k

pub after-moves : (from : Walker) (first : List ℕ) {k : ℕ} {w : Walker} {identifiers : List ℕ} → After from first k w identifiers → Further from first k w identifiers
unfolding spots_after identifiers_past
after-moves from first none = record { file = refl; spot = refl; identifiers-are = refl }
after-moves from first (more {k} {w} {v} {identifiers} {kept} steps move) =
    let so_far = after-moves from first steps in
    let bytes = from.file.now in
    let rules = rules_in bytes in
    let here : spot_after rules bytes identifiers w.spot ≡ spot_after rules bytes (identifiers_past rules bytes first from.spot k) (spots_after rules bytes first from.spot k) =
    ap₂ (λ (ns : List ℕ) (p : Spot). spot_after rules bytes ns p) so_far.identifiers-are so_far.spot in
    let brought : line_identifiers rules bytes w.spot.at w.spot.state identifiers
    ≡ line_identifiers rules bytes (spots_after rules bytes first from.spot k).at (spots_after rules bytes first from.spot k).state (identifiers_past rules bytes first from.spot k) =
    ap₂ (λ (ns : List ℕ) (p : Spot). line_identifiers rules bytes p.at p.state ns) so_far.identifiers-are so_far.spot in
    record {
      file = move.file ∙ so_far.file;
      spot =
          move.spot
          ∙ ap (λ (f : Bor (List ℕ)). spot_after (rules_in f.now) f.now identifiers w.spot) so_far.file
          ∙ here
          ∙ (last_step rules bytes k first from.spot).0;
      identifiers-are =
          move.identifiers-are
          ∙ ap (λ (f : Bor (List ℕ)). line_identifiers (rules_in f.now) f.now w.spot.at w.spot.state identifiers) so_far.file
          ∙ brought
          ∙ (last_step rules bytes k first from.spot).1;
    }

-- so from `new` at the first line of any bytes, over lines that go on, they are those of its first k lines.
pub walker-walks : (file : Bor (List ℕ)) (from : Walker) → Begins file first_spot from → (k : ℕ) (w : Walker) (identifiers : List ℕ) → After from no_identifiers k w identifiers
    → GoOn (rules_in file.now) at_first (lines_of file.now) k → k ≤ length (lines_of file.now) → going_at w.spot identifiers ≡ after (rules_in file.now) file.now k
walker-walks file from begins k w identifiers steps goes h =
    let far = after-moves from no_identifiers steps in
    ap₂ going_at far.spot far.identifiers-are
    ∙ ap₂ (λ (f : Bor (List ℕ)) (p : Spot). going_at (spots_after (rules_in f.now) f.now no_identifiers p k) (identifiers_past (rules_in f.now) f.now no_identifiers p k)) begins.file-is begins.spot_is
    ∙ walker-steps (told-proper file.now) file.now k goes h
