-- Line by line: after k lines that go on, the place is the byte behind them and the line reader finds the next line there, for every k.
-- Assumes nothing.
use mathlib.Core.Path.{◌≡◌, refl, sym, ap, ◌∙◌}
use mathlib.Core.List.{List, [], ◌∷◌}
use Prim.Native.Nat.{ℕ, zero, suc, ◌+◌, ◌≤◌, ◌<◌}
use native.Mathlib.Nat.{le_of_suc-le-suc, not-suc-le-zero}
use native.Mathlib.Omega.{arith}
use lib.ListN.{length, take, drop, take-append-drop, drop_of_length-le}
use Rattle.lines.specs.Lines.{lines_of, bytes_in, nth}
use Rattle.lines.proofs.Split.{parted, bytes-in}
use Rattle.header.specs.declared.types.Rules.{Rules}
use Rattle.machine.specs.Step.{step_of, identifiers_brought, identifiers_kept, step_within, read_as, read_first, identifiers_first, line_read, line_identifiers}
use Rattle.machine.specs.declared.types.State.{State}
use Rattle.machine.specs.declared.types.Verdict.{Verdict}
use Rattle.machine.specs.declared.types.Verdict.TheVariants as verdict
use Rattle.machine.specs.declared.types.LineRead.TheVariants as found
use Rattle.file.specs.Plain.{Sound}
use Rattle.scan.specs.Run.{Going, stepped, stepped_over, at_first}
use Rattle.scan_laws.proofs.Room.{Ready, ready-first, ready-next, never-short}
use Rattle.scan_laws.specs.Lines.{judged, GoesOn, behind, GoOn, Stands}

-- the line after the first k
pub next-line : (k : ℕ) (ls : List (List ℕ)) → k < length ls → drop k ls ≡ nth k ls ∷ drop (suc k) ls
unfolding nth
next-line k [] h = absurd (not-suc-le-zero h)
next-line zero (l ∷ ls) h = refl
next-line (suc k) (l ∷ ls) h = next-line k ls (le_of_suc-le-suc h)

bytes_next : (k : ℕ) (ls : List (List ℕ)) → k < length ls → bytes_in (take (suc k) ls) ≡ bytes_in (take k ls) + length (nth k ls) + 1
unfolding nth bytes_in
bytes_next k [] h = absurd (not-suc-le-zero h)
bytes_next zero (l ∷ ls) h = omega arith
bytes_next (suc k) (l ∷ ls) h = omega (arith, bytes_next k ls (le_of_suc-le-suc h))

module _ (rules : Rules) where
  -- one line more
  pub behind-next : (k : ℕ) (ls : List (List ℕ)) (g : Going) → k < length ls → behind rules g ls (suc k) ≡ stepped rules (behind rules g ls k) (nth k ls)
  unfolding nth stepped_over
  behind-next k [] g h = absurd (not-suc-le-zero h)
  behind-next zero (l ∷ ls) g h = refl
  behind-next (suc k) (l ∷ ls) g h = behind-next k ls (stepped rules g l) (le_of_suc-le-suc h)

  -- the lines after the first, behind it
  pub go-later : (k : ℕ) (l : List ℕ) (ls : List (List ℕ)) (g : Going) → GoOn rules g (l ∷ ls) (suc k) → GoOn rules (stepped rules g l) ls k
  unfolding nth stepped_over
  go-later k l ls g goes i h = goes (suc i) (omega arith)

  pub go-first : (k : ℕ) (l : List ℕ) (ls : List (List ℕ)) (g : Going) → GoOn rules g (l ∷ ls) (suc k) → GoesOn rules g l
  unfolding nth stepped_over
  go-first k l ls g goes = goes 0 (omega arith)

  pub go-more : (k : ℕ) (l : List ℕ) (ls : List (List ℕ)) (g : Going) → GoesOn rules g l → GoOn rules (stepped rules g l) ls k → GoOn rules g (l ∷ ls) (suc k)
  unfolding nth stepped_over
  go-more k l ls g here later zero h = here
  go-more k l ls g here later (suc i) h = later i (le_of_suc-le-suc h)

  -- a line that goes on moves the place behind its LF, and gives the state and the identifiers
  pub stepped-on : (g : Going) (l : List ℕ) (s : State) → judged rules g l ≡ verdict.Next s
      → stepped rules g l ≡ record { at = g.at + length l + 1; state = s; identifiers = identifiers_brought rules g.state g.identifiers l }
  unfolding stepped
  stepped-on g l s e = rw e

  -- The place behind lines that go on: so many bytes further.
  pub place-behind : (k : ℕ) (ls : List (List ℕ)) (g : Going) → GoOn rules g ls k → k ≤ length ls → (behind rules g ls k).at ≡ g.at + bytes_in (take k ls)
  unfolding bytes_in stepped_over
  place-behind zero ls g goes h = omega arith
  place-behind (suc k) [] g goes h = absurd (not-suc-le-zero h)
  place-behind (suc k) (l ∷ ls) g goes h =
      let here = go-first k l ls g goes in
      let at : (stepped rules g l).at ≡ g.at + length l + 1 = ap (λ (x : Going). x.at) (stepped-on g l here.0 here.1) in
      omega (arith, place-behind k ls (stepped rules g l) (go-later k l ls g goes) (le_of_suc-le-suc h))

  -- Behind lines that go on the judge's list has room for what any line brings.
  pub ready-behind : (k : ℕ) (ls : List (List ℕ)) (g : Going) → Ready rules g → GoOn rules g ls k → k ≤ length ls → Ready rules (behind rules g ls k)
  unfolding stepped_over
  ready-behind zero ls g ready goes h = ready
  ready-behind (suc k) [] g ready goes h = absurd (not-suc-le-zero h)
  ready-behind (suc k) (l ∷ ls) g ready goes h =
      let here = go-first k l ls g goes in
      ready-behind k ls (stepped rules g l) (ready-next rules g l here.0 ready here.1) (go-later k l ls g goes) (le_of_suc-le-suc h)

module _ (rules : Rules) (sound : Sound rules) (bytes : List ℕ) where
  abbrev lines : List (List ℕ)
  lines = lines_of bytes

  abbrev g : ℕ → Going
  g k = behind rules at_first (lines_of bytes) k

  module _ (k : ℕ) (goes : GoOn rules at_first (lines_of bytes) k) (h : k ≤ length (lines_of bytes)) where
    place : (g k).at ≡ bytes_in (take k lines)
    place = omega (arith, place-behind rules k lines at_first goes h)

    rest : lines_of (drop (g k).at bytes) ≡ drop k lines
    rest =
        ap (λ (n : ℕ). lines_of (drop n bytes)) (place ∙ bytes-in (take k lines))
        ∙ (parted (take k lines) bytes (drop k lines) (sym (take-append-drop k lines))).rest_lines

    -- with the judge's list the line reader does what the machine says
    does : (l : List ℕ) → step_within rules (g k).state (g k).identifiers l ≡ step_of rules (g k).state (g k).identifiers l
    does l = never-short rules sound (g k) (ready-behind rules k lines at_first (ready-first rules) goes h) l

    -- Where each of the first k lines goes on, the line reader stands behind them and reads the next, for every k.
    pub stands-behind : Stands rules bytes k (g k)
    unfolding read_first identifiers_first
    stands-behind = record {
      spot = place;
      joined = place ∙ bytes-in (take k lines);
      reads = λ more. rw (rest ∙ next-line k lines more) (ap (λ (v : Verdict). read_as v ((g k).at + length (nth k lines) + 1)) (does (nth k lines)));
      keeps = λ more. rw (rest ∙ next-line k lines more) refl;
      ends = λ none. rw (rest ∙ drop_of_length-le lines none) refl;
    }

    -- Where the next line goes on too, what the line reader gives is the place, the state and the identifiers after k + 1 lines.
    module _ (more : k < length (lines_of bytes)) (on : GoesOn rules (g k) (nth k (lines_of bytes))) where
      after : g (suc k) ≡ record {
        at = (g k).at + length (nth k lines) + 1;
        state = on.0;
        identifiers = identifiers_brought rules (g k).state (g k).identifiers (nth k lines);
      }
      after = behind-next rules k lines at_first more ∙ stepped-on rules (g k) (nth k lines) on.0 on.1

      pub reads-next : line_read rules bytes (g k).at (g k).state (g k).identifiers ≡ found.Next (g (suc k)).at (g (suc k)).state
      reads-next = stands-behind.reads more ∙ rw (on.1, after) refl

      pub identifiers-next : line_identifiers rules bytes (g k).at (g k).state (g k).identifiers ≡ (g (suc k)).identifiers
      unfolding identifiers_kept
      identifiers-next = stands-behind.keeps more ∙ rw (on.1, after) refl
