-- What stands directly after a row, and both stored, on plain values: a note begins at a byte exactly where the line there is EP or EV.
-- Assumes nothing.
use mathlib.Core.Path.{◌≡◌, refl, sym, ap, ◌∙◌}
use mathlib.Core.Bool.{Bool, true, false, cond, ◌&&◌, ◌||◌}
use mathlib.Core.List.{List, [], ◌∷◌, ◌++◌, append-nil}
use Prim.Native.Nat.{ℕ, ◌+◌, ◌-◌, ◌<◌, ◌≤◌}
use native.Mathlib.Omega.{arith}
use borrow.Author.Tests.{eqb-true}
use borrow.Rule.Slice.PartMut.{put_mid}
use lib.Dec.{eqb}
use lib.IntN.{ℤ}
use lib.ListN.{length, get_or, take, drop, length-take, length-drop}
use Rattle.lines.specs.Lent.{over}
use Rattle.lines.specs.Lines.{line_length, lines_of}
use Rattle.lines.proofs.Ends.{no_line, first-line}
use Rattle.lines.proofs.Laying.{laying-all, laying-as, laying-block, laying-start, laid-fits}
use Rattle.lines.proofs.Split.{first}
use Rattle.record.specs.LineKinds.{told_kind, kind_by, star_kind, plus_kind, slash_kind, percent_kind, hash_kind, e_kind}
use Rattle.record.specs.Notes.{note_of}
use Rattle.record.specs.Rows.{bare_width, row_width}
use Rattle.record.specs.declared.types.Row.{Row}
use Rattle.record.specs.declared.types.LineKind.{LineKind}
use Rattle.record.specs.declared.types.LineKind.TheVariants as kind
use Rattle.header.specs.declared.types.Rules.{Rules}
use Rattle.file.proofs.Finding.{kind-told}
use Rattle.file.proofs.Wide.{after-wide, part-wide}
use Rattle.file.specs.Kinds.{is_note, begins_note}
use Rattle.file.specs.Table.{row_numbers, note_numbers, no_note, note_after}

-- the kinds of EP and EV
abbrev notes : LineKind → Bool
notes k = eqb (told_kind k) 12 || eqb (told_kind k) 13

-- by the first two bytes
abbrev note_by : ℕ → ℕ → Bool
note_by a b = eqb a 69 && (eqb b 80 || eqb b 86)

module _ (letter a b c : ℕ) where
  star : notes (star_kind b) ≡ false
  star = go (eqb b 32)
    where
      go : (t : Bool) → notes (cond t kind.Epoch kind.Other) ≡ false
      go true = refl
      go false = refl

  slash : notes (slash_kind b) ≡ false
  slash = go (eqb b 42)
    where
      go : (t : Bool) → notes (cond t kind.Comment kind.Other) ≡ false
      go true = refl
      go false = refl

  plus : notes (plus_kind b) ≡ false
  plus = go (eqb b 32) (eqb b 43)
    where
      go : (t u : Bool) → notes (cond t kind.Satellites (cond u kind.Accuracies kind.Other)) ≡ false
      go true u = refl
      go false true = refl
      go false false = refl

  percent : notes (percent_kind b) ≡ false
  percent = go (eqb b 99) (eqb b 102) (eqb b 105)
    where
      go : (t u v : Bool) → notes (cond t kind.Characters (cond u kind.Floats (cond v kind.Integers kind.Other))) ≡ false
      go true u v = refl
      go false true v = refl
      go false false true = refl
      go false false false = refl

  hash : notes (hash_kind letter b) ≡ false
  hash = go (eqb b 35) (eqb b letter)
    where
      go : (t u : Bool) → notes (cond t kind.Second (cond u kind.First kind.Other)) ≡ false
      go true u = refl
      go false true = refl
      go false false = refl

  e-kinds : notes (e_kind b c) ≡ (eqb b 80 || eqb b 86)
  e-kinds = go (eqb b 80) (eqb b 86) (eqb b 79 && eqb c 70)
    where
      go : (t u v : Bool) → notes (cond t kind.PositionCorrelation (cond u kind.VelocityCorrelation (cond v kind.EndOfFile kind.Other))) ≡ (t || u)
      go true u v = refl
      go false true v = refl
      go false false true = refl
      go false false false = refl

  -- by the kind of each first byte
  kinds : notes (kind_by letter a b c) ≡ note_by a b
  kinds = go (eqb a 69) refl
    where
      rest : (p v s q h d n : Bool)
          → notes (cond p kind.Position (cond v kind.Velocity (cond s (star_kind b) (cond false (e_kind b c) (cond q (plus_kind b)
          (cond h (slash_kind b) (cond d (percent_kind b) (cond n (hash_kind letter b) kind.Other)))))))) ≡ false
      rest true v s q h d n = refl
      rest false true s q h d n = refl
      rest false false true q h d n = star
      rest false false false true h d n = plus
      rest false false false false true d n = slash
      rest false false false false false true n = percent
      rest false false false false false false true = hash
      rest false false false false false false false = refl

      go : (t : Bool) → eqb a 69 ≡ t → notes (kind_by letter a b c) ≡ note_by a b
      go true is = rw (eqb-true a 69 is) e-kinds
      go false is = rw is (rest (eqb a 80) (eqb a 86) (eqb a 42) (eqb a 43) (eqb a 47) (eqb a 37) (eqb a 35))

-- a line is EP or EV by its first two bytes
note-told : (rules : Rules) (line : List ℕ) → is_note rules line ≡ note_by (get_or line 0 32) (get_or line 1 32)
note-told rules line =
    sym (ap notes (kind-told rules line (get_or line 0 32) (get_or line 1 32) (get_or line 2 32) refl refl refl))
    ∙ kinds rules.letter (get_or line 0 32) (get_or line 1 32) (get_or line 2 32)

-- and so by those of the bytes that it begins
begun : (l rest : List ℕ) → note_by (get_or l 0 32) (get_or l 1 32) ≡ begins_note (l ++ (10 ∷ rest))
begun [] rest = refl
begun (a ∷ []) rest = refl
begun (a ∷ b ∷ l) rest = refl

line-begun : (rules : Rules) (bytes l : List ℕ) (ls : List (List ℕ)) → lines_of bytes ≡ l ∷ ls → is_note rules l ≡ begins_note bytes
line-begun rules bytes l ls e =
    let f = first bytes l ls e in
    note-told rules l ∙ begun l f.rest ∙ ap begins_note (sym f.bytes-are)

-- no note begins there
none-begun : (rules : Rules) (bytes : List ℕ) (ls : List (List ℕ)) → lines_of bytes ≡ ls → begins_note bytes ≡ false → note_after rules ls ≡ no_note
none-begun rules bytes [] e h = refl
none-begun rules bytes (l ∷ ls) e h = rw (line-begun rules bytes l ls e ∙ h)

-- what is stored
module _ (rules : Rules) (bytes : List ℕ) (at : ℕ) {begins : Bool} (b : begins ≡ begins_note (drop at bytes)) (old : List ℤ) where
  pub after_none : begins ≡ false → over no_note old ≡ over (note_after rules (lines_of (drop at bytes))) old
  after_none is = ap (λ (new : List ℤ). over new old) (sym (none-begun rules (drop at bytes) (lines_of (drop at bytes)) refl (sym b ∙ is)))

  module _ (end : ℕ) (found : end ≡ at + line_length (drop at bytes)) where
    pub after-cut : length bytes ≤ end → over no_note old ≡ over (note_after rules (lines_of (drop at bytes))) old
    after-cut h = rw (no_line bytes at end found h)

    pub after-note : begins ≡ true → end < length bytes
        → over (note_numbers (note_of (take (end - at) (drop at bytes)))) old ≡ over (note_after rules (lines_of (drop at bytes))) old
    after-note is h =
        let lines = first-line bytes at end found h in
        let note : is_note rules (take (end - at) (drop at bytes)) ≡ true =
        line-begun rules (drop at bytes) (take (end - at) (drop at bytes)) (lines_of (drop (end + 1) bytes)) lines ∙ sym b ∙ is in
        let is-note : note_after rules (lines_of (drop at bytes)) ≡ note_numbers (note_of (take (end - at) (drop at bytes))) = rw (lines, note) in
        ap (λ (new : List ℤ). over new old) (sym is-note)

-- a row and what stands directly after it, stored one behind the other
module _ (row : Row) (rules : Rules) (ls : List (List ℕ)) (old : List ℤ) {now part : List ℤ} (room : row_width ≤ length old) (e : now ≡ over (row_numbers row) old)
    (p : part ≡ over (note_after rules ls) (take (length now - bare_width) (drop bare_width now))) where
  pub noted-stored : put_mid bare_width (length now - bare_width) now part ≡ over (row_numbers row ++ note_after rules ls) old
  unfolding row_numbers
  noted-stored =
      let all = row_numbers row ++ note_after rules ls in
      let size = after-wide rules ls in
      let whole = part-wide rules row ls in
      let fits : length (row_numbers row) ≤ length old = omega arith in
      let begun = laying-start (row_numbers row) (note_after rules ls) old (e ∙ sym (laid-fits (row_numbers row) old fits)) in
      let behind : length (note_after rules ls) ≤ length (take (length now - bare_width) (drop bare_width now)) =
      omega (arith, begun.kept, length-take (length now - bare_width) (drop bare_width now), length-drop bare_width now) in
      let laid-part = p ∙ sym (laid-fits (note_after rules ls) (take (length now - bare_width) (drop bare_width now)) behind) in
      let done = laying-block (note_after rules ls) [] (laying-as (sym (append-nil (note_after rules ls))) begun) (omega (arith, begun.kept)) laid-part in
      laying-all done ∙ laid-fits all old (omega arith)
