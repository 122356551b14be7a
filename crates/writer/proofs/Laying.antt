-- Lines laid one directly after another: `Laying all entry at now rest` is what a loop or a sequence of writers says. The first of the lines `all` are laid
-- from the first byte of the output on, `at` is the next free byte, and the lines `rest` are still to be laid.
-- Assumes nothing.
use mathlib.Core.Path.{◌≡◌, refl, sym, ap, ◌∙◌}
use mathlib.Core.List.{List, [], ◌∷◌, ◌++◌, append-nil, append_assoc}
use Prim.Native.Nat.{ℕ, ◌+◌, ◌-◌, ◌≤◌, zero-le}
use native.Mathlib.Omega.{arith}
use borrow.Author.Tests.{le-leb}
use borrow.Rule.Slice.PartMut.{put_mid}
use lib.ListN.{length, take, drop, length-append, length-drop}
use Rattle.laws.proofs.Lists.{rest_part}
use Rattle.lines.specs.Lent.{over, flat}
use Rattle.lines.proofs.Picking.{flat_append}
use Rattle.layout.specs.Line.{Lays}
use Rattle.layout.proofs.Lines.{lays-after}

pub record Laying (all : List (List ℕ)) (entry : List ℕ) (at : ℕ) (now : List ℕ) (rest : List (List ℕ)) : Type 0 where
  pub done : List ℕ
  pub parts : flat all ≡ done ++ flat rest
  pub room : length (flat all) ≤ length entry
  pub lays : Lays done entry at now

-- the output after its part from a byte on was lent, and came back so
abbrev pub then : ℕ → List ℕ → List ℕ → List ℕ
then at now part = put_mid at (length now - at) now part

-- where there is room, bytes are laid over the front
pub lays-over : (bytes entry : List ℕ) {r : ℕ} {now : List ℕ} → length bytes ≤ length entry → Lays bytes entry r now → now ≡ over bytes entry
lays-over bytes entry h s = s.laid ∙ rw (le-leb (length bytes) (length entry) h)

-- nothing is laid yet
pub laying-none : (all : List (List ℕ)) (entry : List ℕ) → length (flat all) ≤ length entry → Laying all entry 0 entry all
laying-none all entry h =
    record { done = []; parts = refl; room = h; lays = record { length-told = refl; laid = rw (le-leb 0 (length entry) zero-le) } }

-- the first lines, laid into all of the output
pub laying-first : {entry now : List ℕ} {at : ℕ} (block rest : List (List ℕ)) → length (flat (block ++ rest)) ≤ length entry → Lays (flat block) entry at now
    → Laying (block ++ rest) entry at now rest
laying-first block rest h s = record { done = flat block; parts = flat_append block rest; room = h; lays = s }

pub first-room : (block rest : List (List ℕ)) (entry : List ℕ) → length (flat (block ++ rest)) ≤ length entry → length (flat block) ≤ length entry
first-room block rest entry h = omega (arith, ap length (flat_append block rest), length-append (flat block) (flat rest))

-- what is left, said in another way
pub laying-as : {all rest rest' : List (List ℕ)} {entry now : List ℕ} {at : ℕ} → rest ≡ rest' → Laying all entry at now rest → Laying all entry at now rest'
laying-as e s = record { done = s.done; parts = s.parts ∙ ap (λ (t : List (List ℕ)). s.done ++ flat t) e; room = s.room; lays = s.lays }

pub laying-alone : {all rest : List (List ℕ)} {entry now : List ℕ} {at : ℕ} → Laying all entry at now rest → Laying all entry at now (rest ++ [])
laying-alone {all} {rest} s = laying-as (sym (append-nil rest)) s

module _ {all : List (List ℕ)} {entry now : List ℕ} {at : ℕ} where
  -- all is laid
  pub laying-end : Laying all entry at now [] → Lays (flat all) entry at now
  unfolding flat
  laying-end s =
      let same : flat all ≡ s.done = s.parts ∙ append-nil s.done in
      rw same s.lays

  module _ {rest : List (List ℕ)} (s : Laying all entry at now rest) where
    laying-size : length (flat all) ≡ at + length (flat rest)
    laying-size = omega (arith, s.lays.length-told, ap length s.parts, length-append s.done (flat rest))

    -- the output is as long as it was
    pub laying-kept : length now ≡ length entry
    laying-kept =
        let fits : length s.done ≤ length entry = omega (arith, laying-size, s.lays.length-told, s.room) in
        ap length (lays-over s.done entry fits s.lays)
        ∙ omega (arith, length-append s.done (drop (length s.done) entry), length-drop (length s.done) entry)

    pub laying-within : at ≤ length now
    laying-within = omega (arith, laying-kept, laying-size, s.room)

    pub laying-fits : at ≤ length entry
    laying-fits = omega (arith, laying-size, s.room)

  -- lines are next, with room in the part from the next free byte on
  module _ (block rest : List (List ℕ)) (s : Laying all entry at now (block ++ rest)) where
    parted : flat all ≡ (s.done ++ flat block) ++ flat rest
    parted = s.parts ∙ ap (λ (t : List ℕ). s.done ++ t) (flat_append block rest) ∙ sym (append_assoc s.done (flat block) (flat rest))

    sized : length (flat all) ≡ at + (length (flat block) + length (flat rest))
    sized = omega (arith, laying-size s, ap length (flat_append block rest), length-append (flat block) (flat rest))

    pub laying-room : length (flat block) ≤ length (take (length now - at) (drop at now))
    laying-room = rw (rest_part now at) (omega (arith, length-drop at now, laying-kept s, sized, s.room))

    -- they were laid there
    pub laying-more : {r : ℕ} {part : List ℕ} → Lays (flat block) (take (length now - at) (drop at now)) r part
        → Laying all entry (at + r) (then at now part) rest
    laying-more {r} {part} l =
        record {
          done = s.done ++ flat block;
          parts = parted;
          room = s.room;
          lays = lays-after s.done (flat block) entry now part at r
              (omega (arith, s.room, ap length parted, length-append (s.done ++ flat block) (flat rest))) s.lays l;
        }

-- one line
pub one_line : (line : List ℕ) {out now : List ℕ} {r : ℕ} → Lays line out r now → Lays (flat (line ∷ [])) out r now
unfolding flat
one_line line s = rw append-nil s
