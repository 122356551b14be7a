-- Locality: what stands after a file changes nothing in it, so no file is the beginning of a longer one.
-- Assumes nothing.
use mathlib.Core.Path.{◌≡◌, refl, sym, ap, ◌∙◌}
use mathlib.Core.Bool.{Bool, true, false}
use mathlib.Core.List.{List, [], ◌∷◌, ◌++◌, append_assoc, append-nil}
use mathlib.Core.Logic.{◌↔◌}
use Prim.Native.Nat.{ℕ, ◌+◌}
use native.Mathlib.Omega.{arith}
use lib.Dec.{ltb}
use lib.ListN.{length, take, length-append}
use lib.Seq.{length-take-le}
use borrow.Author.Tests.{ltb-false, le-ltb}
use Rattle.lines.specs.Lines.{is_lf, lines_of, on_first}
use Rattle.header.specs.declared.types.Rules.{Rules}
use Rattle.machine.specs.State.{start_state, no_identifiers}
use Rattle.scan.specs.declared.Tally.{Tally}
use Rattle.std.specs.Prelude.{Ok, Err}
use Rattle.scan.specs.Front.{Front}
use Rattle.scan.specs.Front as front
use Rattle.scan.specs.Run.{nothing_seen, run, scan_of, whole_front, IsFile}
use Rattle.scan_laws.proofs.Used.{front_lines, accepted-front}

-- bytes more leave the complete lines as they were
abbrev Longer : List ℕ → List ℕ → Type 0
Longer a b = (more : List (List ℕ)) × (lines_of (a ++ b) ≡ lines_of a ++ more)

on-first-more : (x : ℕ) (ls more : List (List ℕ)) → (more' : List (List ℕ)) × (on_first x (ls ++ more) ≡ on_first x ls ++ more')
unfolding on_first
on-first-more x [] more = (on_first x more, refl)
on-first-more x (l ∷ ls) more = (more, refl)

longer-more : (x : ℕ) (a b : List ℕ) → Longer a b → Longer (x ∷ a) b
unfolding lines_of
longer-more x a b (more, e) = go (is_lf x) refl
  where
    go : (t : Bool) → is_lf x ≡ t → Longer (x ∷ a) b
    go true is = (more, rw (is, e))
    go false is = let f = on-first-more x (lines_of a) more in (f.0, rw (is, e) f.1)

-- The lines of some bytes are the first lines of any longer bytes.
pub lines-longer : (a b : List ℕ) → (more : List (List ℕ)) × (lines_of (a ++ b) ≡ lines_of a ++ more)
unfolding lines_of
lines-longer [] b = (lines_of b, refl)
lines-longer (x ∷ a) b = longer-more x a b (lines-longer a b)

module _ (rules : Rules) where
  -- A file at the front of some bytes is at the front of those bytes and any after them.
  pub scan-local : (a b : List ℕ) (t : Tally) → scan_of rules a ≡ front.File t → scan_of rules (a ++ b) ≡ front.File t
  scan-local a b t e =
      let u = accepted-front rules a t e in
      let l = lines-longer a b in
      let lines : lines_of (a ++ b) ≡ front_lines a t ++ (u.rest ++ l.0) =
      l.1 ∙ ap (λ (ls : List (List ℕ)). ls ++ l.0) u.split ∙ append_assoc (front_lines a t) u.rest l.0 in
      ap (run rules start_state no_identifiers nothing_seen) lines ∙ u.alone (u.rest ++ l.0)

  -- A whole file is a file at the front that ends where the bytes end; and the other way round.
  pub whole-ends : (bytes : List ℕ) (t : Tally) → whole_front (length bytes) (scan_of rules bytes) ≡ front.File t
      → (scan_of rules bytes ≡ front.File t) × (t.end ≡ length bytes)
  unfolding whole_front
  whole-ends bytes t e = go (scan_of rules bytes) refl
    where
      go : (f : Front) → scan_of rules bytes ≡ f → (scan_of rules bytes ≡ front.File t) × (t.end ≡ length bytes)
      go (Err refusal) is =
          let refused : front.Refused refusal.number refusal.line refusal.column ≡ front.File t = rw is at e in
          let z : ◌≡◌ {A = ℕ} 0 1 = cc in
          absurd (omega arith)
      go (Ok x) is = judge (ltb x.end (length bytes)) refl
        where
          judge : (b : Bool) → ltb x.end (length bytes) ≡ b → (scan_of rules bytes ≡ front.File t) × (t.end ≡ length bytes)
          judge true lt =
              let refused : front.Refused 11 (x.lines + 1) 0 ≡ front.File t = rw (is, lt) at e in
              let z : ◌≡◌ {A = ℕ} 0 1 = cc in
              absurd (omega arith)
          judge false ge =
              let same : front.File x ≡ front.File t = rw (is, ge) at e in
              let tally : x ≡ t = cc in
              let end : x.end ≡ t.end = ap (λ (y : Tally). y.end) tally in
              (is ∙ same, omega (arith, ltb-false x.end (length bytes) ge, (accepted-front rules bytes x is).within))

  pub ends-whole : (bytes : List ℕ) (t : Tally) → scan_of rules bytes ≡ front.File t → t.end ≡ length bytes
      → whole_front (length bytes) (scan_of rules bytes) ≡ front.File t
  unfolding whole_front
  ends-whole bytes t e end = rw (e, le-ltb t.end (length bytes) (omega arith))

  -- Bytes are one accepted file exactly when a file stands at their front and ends where they end.
  pub is-file : (bytes : List ℕ) → IsFile rules bytes ↔ ((t : Tally) × (scan_of rules bytes ≡ front.File t) × (t.end ≡ length bytes))
  is-file bytes = (
    λ f. (f.0, (whole-ends bytes f.0 f.1).0, (whole-ends bytes f.0 f.1).1),
    λ f. (f.0, ends-whole bytes f.0 f.1 f.2),
  )

  -- No file is the beginning of a longer file.
  pub not-longer : (a b : List ℕ) → IsFile rules a → IsFile rules (a ++ b) → b ≡ []
  not-longer a [] f g = refl
  not-longer a (x ∷ b) (t, e) (u, k) =
      let f = whole-ends a t e in
      let g = whole-ends (a ++ x ∷ b) u k in
      let same : front.File t ≡ front.File u = sym (scan-local a (x ∷ b) t f.0) ∙ g.0 in
      let tally : t ≡ u = cc in
      let end : t.end ≡ u.end = ap (λ (y : Tally). y.end) tally in
      absurd (omega (arith, f.1, g.1, length-append a (x ∷ b)))

  -- A file at the front, taken by itself, is read the same.
  pub scan-again : (bytes : List ℕ) (t : Tally) → scan_of rules bytes ≡ front.File t → scan_of rules (take t.end bytes) ≡ front.File t
  scan-again bytes t e =
      let a = accepted-front rules bytes t e in
      ap (run rules start_state no_identifiers nothing_seen) (sym (append-nil (front_lines bytes t))) ∙ a.alone []

  -- The bytes of a file at the front are a whole file.
  pub front-whole : (bytes : List ℕ) (t : Tally) → scan_of rules bytes ≡ front.File t → IsFile rules (take t.end bytes)
  front-whole bytes t e = (
    t,
    ends-whole (take t.end bytes) t (scan-again bytes t e) (sym (length-take-le t.end bytes (accepted-front rules bytes t e).within)),
  )
