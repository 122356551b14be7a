-- The room of the line reader: 12 exactly at a line that brings more identifiers than fit into the lent list.
-- Assumes nothing.
use mathlib.Core.Path.{◌≡◌, refl, sym, ◌∙◌}
use mathlib.Core.Bool.{Bool, true, false, cond}
use mathlib.Core.Logic.{◌↔◌}
use mathlib.Core.List.{List, [], ◌∷◌}
use Prim.Native.Nat.{ℕ, ◌+◌, ◌≤◌}
use native.Mathlib.Omega.{arith}
use borrow.Author.Tests.{eq-eqb, eqb-true}
use lib.Dec.{eqb}
use lib.ListN.{length, drop}
use Rattle.layout.specs.Line.{padded}
use Rattle.lines.specs.Lines.{lines_of}
use Rattle.machine.specs.State.{has_room}
use Rattle.machine.specs.Step.{step_of, if_room, step_within, read_as, read_first, identifiers_first, line_known, line_read, line_identifiers, Overfull}
use Rattle.machine.proofs.Stepping.{kept-within}
use Rattle.scan_laws.proofs.Lowest.{step-numbered}
use Rattle.scan_laws.proofs.Room.{ready-first, never-short}
use Rattle.scan_laws.proofs.Stepping.{ready-behind}
use Rattle.scan.specs.Run.{at_first}
use Rattle.theorems.specs.Faults.{after, AllGoOn}
use Rattle.header.specs.declared.types.Rules.{Rules}
use Rattle.machine.specs.declared.types.State.{State}
use Rattle.machine.specs.declared.types.Verdict.{Verdict}
use Rattle.machine.specs.declared.types.Verdict.TheVariants as verdict
use Rattle.machine.specs.declared.types.LineRead.TheVariants as found
use Rattle.canon_laws.specs.Held.{Proper}

module _ (rules : Rules) (bytes : List ℕ) (at : ℕ) (s : State) (identifiers : List ℕ) where
  -- what the line reader makes of such a line
  pub overfull-twelve : (o : Overfull rules bytes at s identifiers) → step_within rules s identifiers o.line ≡ verdict.Fault 12 0
  unfolding step_within
  overfull-twelve o = rw (eq-eqb s.due 3 o.due, o.full, o.good)

  twelve-there : Overfull rules bytes at s identifiers → line_read rules bytes at s identifiers ≡ found.Fault 12 0
  unfolding read_first
  twelve-there o = rw (o.stands, overfull-twelve o)

  pub twelve-keeps : Overfull rules bytes at s identifiers → line_identifiers rules bytes at s identifiers ≡ identifiers
  unfolding identifiers_first
  twelve-keeps o = rw o.stands (kept-within rules s identifiers o.line (verdict.Fault 12 0) (overfull-twelve o))

  module _ (l : List ℕ) (ls : List (List ℕ)) (stands : lines_of (drop at bytes) ≡ l ∷ ls) where
    -- a line by what the machine says of it, by whether a `+ ` line is due, and by the room
    abbrev Parts : Verdict → Bool → Bool → Type 0
    Parts v due room = (step_of rules s identifiers l ≡ v) × (eqb s.due 3 ≡ due) × (has_room rules s identifiers (padded l) ≡ room)

    too_many : (next : State) → Parts (verdict.Next next) true false → Overfull rules bytes at s identifiers
    too_many next p = record { line = l; after = ls; stands = stands; due = eqb-true s.due 3 p.1; next = next; good = p.0; full = p.2 }

    never-next : (p : ℕ) (next : State) → found.Next p next ≡ found.Fault 12 0 → ⊥
    never-next p next x = let z : ◌≡◌ {A = ℕ} 0 1 = cc in absurd (omega arith)

    only-there : (v : Verdict) (due room : Bool) → Parts v due room → read_as (if_room (cond due room true) v) (at + length l + 1) ≡ found.Fault 12 0
        → Overfull rules bytes at s identifiers
    only-there (verdict.Fault m c) due room p x =
        let twelve : m ≡ 12 = cc in
        absurd (omega (arith, step-numbered rules s identifiers l m c p.0))
    only-there verdict.Finished due room p x = let z : ◌≡◌ {A = ℕ} 0 1 = cc in absurd (omega arith)
    only-there (verdict.Next next) true false p x = too_many next p
    only-there (verdict.Next next) true true p x = absurd (never-next _ next x)
    only-there (verdict.Next next) false room p x = absurd (never-next _ next x)

    same-there : (v : Verdict) (due room : Bool) → Parts v due room → (Overfull rules bytes at s identifiers → ⊥)
        → read_as (if_room (cond due room true) v) (at + length l + 1) ≡ read_as v (at + length l + 1)
    same-there (verdict.Fault m c) due room p none = refl
    same-there verdict.Finished due room p none = refl
    same-there (verdict.Next next) true false p none = absurd (none (too_many next p))
    same-there (verdict.Next next) true true p none = refl
    same-there (verdict.Next next) false room p none = refl

  only-twelve : line_read rules bytes at s identifiers ≡ found.Fault 12 0 → Overfull rules bytes at s identifiers
  unfolding read_first step_within
  only-twelve e = go (lines_of (drop at bytes)) refl e
    where
      go : (ls : List (List ℕ)) → lines_of (drop at bytes) ≡ ls → read_first (step_within rules s identifiers) at ls ≡ found.Fault 12 0 → Overfull rules bytes at s identifiers
      go [] is x = let z : ◌≡◌ {A = ℕ} 0 1 = cc in absurd (omega arith)
      go (l ∷ ls) is x = only-there l ls is (step_of rules s identifiers l) (eqb s.due 3) (has_room rules s identifiers (padded l)) (refl, refl, refl) x

  -- 12 EXACTLY where more identifiers are brought than fit;
  pub twelve-exactly : (line_read rules bytes at s identifiers ≡ found.Fault 12 0) ↔ Overfull rules bytes at s identifiers
  twelve-exactly = (only-twelve, twelve-there)

  -- at any other line the room makes no difference.
  pub room-enough : (Overfull rules bytes at s identifiers → ⊥) → line_read rules bytes at s identifiers ≡ line_known rules bytes at s identifiers
  unfolding read_first step_within
  room-enough none = go (lines_of (drop at bytes)) refl
    where
      go : (ls : List (List ℕ)) → lines_of (drop at bytes) ≡ ls → read_first (step_within rules s identifiers) at ls ≡ read_first (step_of rules s identifiers) at ls
      go [] is = refl
      go (l ∷ ls) is = same-there l ls is (step_of rules s identifiers l) (eqb s.due 3) (has_room rules s identifiers (padded l)) (refl, refl, refl) none

module _ {rules : Rules} (proper : Proper rules) where
  -- THE JUDGE'S LIST IS NEVER SHORT: at no line that its run reaches are more identifiers brought than fit.
  pub judge-room : (bytes : List ℕ) (k : ℕ) → AllGoOn rules bytes k → k ≤ length (lines_of bytes)
      → let g = after rules bytes k in Overfull rules bytes g.at g.state g.identifiers → ⊥
  judge-room bytes k goes h o =
      let g = after rules bytes k in
      let same = never-short rules proper.sound g (ready-behind rules k (lines_of bytes) at_first (ready-first rules) goes h) o.line in
      let said : verdict.Fault 12 0 ≡ verdict.Next o.next = sym (overfull-twelve rules bytes g.at g.state g.identifiers o) ∙ same ∙ o.good in
      let z : ◌≡◌ {A = ℕ} 0 1 = cc in
      absurd (omega arith)
