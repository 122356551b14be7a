-- Where a row's line ends, looked at from the right: with the last flag that is set, else the last exponent, else the last number that fits its columns,
-- else the identifier.
-- Assumes nothing.
use mathlib.Core.Path.{◌≡◌, refl, sym, ap, ◌∙◌}
use mathlib.Core.Bool.{Bool, true, false, cond, not, ◌&&◌}
use Prim.Native.Nat.{ℕ, ◌+◌, ◌^◌, ◌<◌, ◌≤◌}
use native.Mathlib.Numerals.{unary_clauses}
use native.Mathlib.Omega.{arith}
use borrow.Author.Tests.{eqb-true}
use lib.Dec.{eqb}
use Rattle.field.specs.Show.{fits_whole, fits_decimal}
use Rattle.layout.specs.Kind.{unknown, exponent, shown_in}
use Rattle.layout.specs.Kind.Held.{one}
use Rattle.layout.specs.Inking.{text_end, end_from, line_end}
use Rattle.field.specs.declared.Signed.{Signed}
use Rattle.record.specs.declared.types.Row.{Row}
use Rattle.record.specs.Rows.{body_items, body_values, flag_items, flag_values, row_items, row_values}
use Rattle.field.proofs.Fitting.{fits-facts}
use Rattle.layout.proofs.Ends.{Ends, ends, line-ends, end-item, end-several, ended-all}
use Rattle.layout.proofs.Inked.{fills-end, whole-fills, decimal-fills, maybe-fills, flag-fills, identifier-fills}
use Rattle.record.proofs.Tiled.{rows-tiled}

-- a number that fits up to three columns is not the one for unknown
known-fits : (w n : ℕ) → 10 ^ w ≤ unknown → (not (eqb n unknown) && fits_whole w n) ≡ fits_whole w n
known-fits w n h = go (eqb n unknown) refl (fits_whole w n) refl
  where
    go : (t : Bool) → eqb n unknown ≡ t → (u : Bool) → fits_whole w n ≡ u → (not t && u) ≡ u
    go false e u f = refl
    go true e false f = refl
    go true e true f =
        let small : n < 10 ^ w = simp unary_clauses at (fits-facts w false n f).2 in
        absurd (omega (arith, eqb-true n unknown e, h))

exponent-end : (before w n earlier : ℕ) → 0 < w → 10 ^ w ≤ unknown
    → text_end before (shown_in exponent w (one n)) earlier ≡ cond (fits_whole w n) (before + w) earlier
exponent-end before w n earlier some h =
    fills-end before earlier some (maybe-fills w (eqb n unknown) (whole-fills w n))
    ∙ ap (λ (t : Bool). cond t (before + w) earlier) (known-fits w n h)

abbrev fits_amount : Signed → Bool
fits_amount n = fits_decimal 14 6 n.negative n.magnitude

-- the last column up to 60: that of the last number that fits
abbrev numbers_end : Row → ℕ
numbers_end p = cond (fits_amount p.clock) 60 (cond (fits_amount p.z) 46 (cond (fits_amount p.y) 32 (cond (fits_amount p.x) 18 4)))

-- up to 73: that of the last exponent that fits, else of the numbers
abbrev pub body_end : Row → ℕ
body_end p =
    cond (fits_whole 3 p.clock_exponent) 73
    (cond (fits_whole 2 p.z_exponent) 69 (cond (fits_whole 2 p.y_exponent) 66 (cond (fits_whole 2 p.x_exponent) 63 (numbers_end p))))

-- up to 80: that of the last flag that is set, else of what stands before
abbrev pub flagged_end : Row → ℕ
flagged_end p = cond p.orbit_predicted 80 (cond p.maneuver 79 (cond p.predicted 76 (cond p.event 75 (body_end p))))

body-steps : (p : Row) → Ends body_items (body_values p) 1 (body_end p)
body-steps p =
    end-item (sym (fills-end 1 1 (omega arith) (identifier-fills p.satellite)))
    (end-item (sym (fills-end 4 4 (omega arith) (decimal-fills 14 6 p.x.negative p.x.magnitude)))
    (end-item (sym (fills-end 18 _ (omega arith) (decimal-fills 14 6 p.y.negative p.y.magnitude)))
    (end-item (sym (fills-end 32 _ (omega arith) (decimal-fills 14 6 p.z.negative p.z.magnitude)))
    (end-item (sym (fills-end 46 _ (omega arith) (decimal-fills 14 6 p.clock.negative p.clock.magnitude)))
    (end-item refl
    (end-item (sym (exponent-end 61 2 p.x_exponent _ (omega arith) (omega arith)))
    (end-item refl
    (end-item (sym (exponent-end 64 2 p.y_exponent _ (omega arith) (omega arith)))
    (end-item refl
    (end-item (sym (exponent-end 67 2 p.z_exponent _ (omega arith) (omega arith)))
    (end-item refl
    (end-item (sym (exponent-end 70 3 p.clock_exponent _ (omega arith) (omega arith)))
    ended-all))))))))))))

pub body_ends : (p : Row) → body_end p ≡ end_from 1 body_items (body_values p)
body_ends p = ends body_items (body_values p) 1 (body-steps p)

-- a V line ends with its columns up to 73
pub velocity_ends : (p : Row) → end_from 1 body_items (body_values p) ≡ line_end (row_items true) (row_values true p)
velocity_ends p =
    line-ends (row_items true) (row_values true p) (rows-tiled true) (end-item refl (end-several body_items refl (end-item refl ended-all)))

-- a P line with its flags
flag-steps : (p : Row) → Ends flag_items (flag_values p) (body_end p) (flagged_end p)
flag-steps p =
    end-item refl
    (end-item (sym (fills-end 74 _ (omega arith) (flag-fills 69 p.event (omega arith))))
    (end-item (sym (fills-end 75 _ (omega arith) (flag-fills 80 p.predicted (omega arith))))
    (end-item refl
    (end-item (sym (fills-end 78 _ (omega arith) (flag-fills 77 p.maneuver (omega arith))))
    (end-item (sym (fills-end 79 _ (omega arith) (flag-fills 80 p.orbit_predicted (omega arith))))
    ended-all)))))

pub position_ends : (p : Row) → flagged_end p ≡ line_end (row_items false) (row_values false p)
position_ends p =
    line-ends (row_items false) (row_values false p) (rows-tiled false)
    (end-item refl (end-several body_items (body_ends p) (flag-steps p)))
