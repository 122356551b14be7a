-- A line drawn item by item over blanks is the line that the layout shows. Unused columns are left as they are.
-- Assumes nothing.
use mathlib.Core.Path.{◌≡◌, refl, sym, ap, ◌∙◌}
use mathlib.Core.Bool.{Bool, true, false, cond}
use mathlib.Core.List.{List, [], ◌∷◌, ◌++◌, append_assoc}
use Prim.Native.Nat.{ℕ, suc, ◌+◌, ◌-◌}
use native.Mathlib.Omega.{arith}
use borrow.Author.Tests.{eqb-true}
use lib.ListN.{length}
use lib.Seq.{take_at, drop_at}
use Rattle.layout.specs.Kind.{Kind, Held, shown_in, is_unused}
use Rattle.laws.specs.Texts.{blanks}
use Rattle.layout.specs.Layout.{Item, Values, width_of, tiled_from, tiled, show_line, bytes_of, left_of}
use Rattle.layout.specs.Inking.{overlaid, drawn}
use Rattle.layout.specs.Kind.Kind.{unused, fixed, whole, decimal, signed, clock, maybe, maybe_signed, flag, letter, listed, identifier, filler, zero_whole, zero_decimal, text}
use Rattle.layout.proofs.Fields.{not-false-true}
use Rattle.layout.proofs.Lines.{blanks-split, drop-blanks}
use Rattle.layout.proofs.Layouts.{start-bound, placed, grown, further}

blank-bytes : (kind : Kind) (w : ℕ) (v : Held) → is_unused kind ≡ true → shown_in kind w v ≡ blanks w
blank-bytes unused w v h = refl
blank-bytes (fixed number these) w v h = absurd (not-false-true h)
blank-bytes (whole low high) w v h = absurd (not-false-true h)
blank-bytes (decimal places low high) w v h = absurd (not-false-true h)
blank-bytes (signed places) w v h = absurd (not-false-true h)
blank-bytes (clock places) w v h = absurd (not-false-true h)
blank-bytes (maybe none) w v h = absurd (not-false-true h)
blank-bytes (maybe_signed none high) w v h = absurd (not-false-true h)
blank-bytes (flag sign) w v h = absurd (not-false-true h)
blank-bytes (letter these) w v h = absurd (not-false-true h)
blank-bytes (listed these) w v h = absurd (not-false-true h)
blank-bytes identifier w v h = absurd (not-false-true h)
blank-bytes filler w v h = absurd (not-false-true h)
blank-bytes zero_whole w v h = absurd (not-false-true h)
blank-bytes (zero_decimal places) w v h = absurd (not-false-true h)
blank-bytes text w v h = absurd (not-false-true h)

-- one item laid over the blanks after `front`, of which m are left
module _ (item : Item) (items : List Item) (vs : Values) (front : List ℕ) (tiles : tiled_from (suc (length front)) (item ∷ items) ≡ true) (k m : ℕ) (left : width_of item + m ≡ k) where
  laid-after : overlaid item.first item.last (bytes_of item vs) (front ++ blanks k) ≡ (front ++ bytes_of item vs) ++ blanks m
  laid-after =
      let before : length front ≡ item.first - 1 = omega (arith, (placed item items vs front tiles).starts) in
      rw (take_at front (blanks k) (item.first - 1) before, drop_at front (blanks k) (item.first - 1) before, drop-blanks (width_of item) m k left)
      (sym (append_assoc front (bytes_of item vs) (blanks m)))

  -- an unused item leaves the blanks, which are what it shows
  left-blank : is_unused item.kind ≡ true → front ++ blanks k ≡ (front ++ bytes_of item vs) ++ blanks m
  left-blank h =
      rw (blank-bytes item.kind (width_of item) _ h, append_assoc front (blanks (width_of item)) (blanks m), ← blanks-split (width_of item) m k left)

  either : (t : Bool) → is_unused item.kind ≡ t
      → cond t (front ++ blanks k) (overlaid item.first item.last (bytes_of item vs) (front ++ blanks k)) ≡ (front ++ bytes_of item vs) ++ blanks m
  either true h = left-blank h
  either false h = laid-after

drawn-on : (items : List Item) (vs : Values) (front : List ℕ) (k : ℕ) → tiled_from (suc (length front)) items ≡ true → length front + k ≡ 80
    → drawn items vs (front ++ blanks k) ≡ front ++ show_line items vs
drawn-on [] vs front k t e =
    let none : k ≡ 0 = omega (arith, eqb-true (suc (length front)) 81 t) in
    ap (λ (n : ℕ). front ++ blanks n) none
drawn-on (item ∷ items) vs front k t e =
    let here = placed item items vs front t in
    let bound = start-bound (suc item.last) items here.later in
    let m = 80 - item.last in
    let split : width_of item + m ≡ k = omega (arith, here.starts, here.ends, bound) in
    rw (either item items vs front t k m split (is_unused item.kind) refl)
    (drawn-on items (left_of item vs) (front ++ bytes_of item vs) m (further item items vs front t) (omega (arith, grown item items vs front t, bound))
    ∙ append_assoc front (bytes_of item vs) (show_line items (left_of item vs)))

-- the law for the writers: over 80 blanks
pub drawn-shown : (items : List Item) (vs : Values) → tiled items ≡ true → drawn items vs (blanks 80) ≡ show_line items vs
drawn-shown items vs t = drawn-on items vs [] 80 t refl
