-- How long the lines of a satellite in an epoch are: a valid row's line ends with its last flag, its last exponent that is known, or the clock.
-- Assumes nothing.
use mathlib.Core.Bool.{Bool, true, false, cond, not, ◌&&◌, ◌||◌}
use mathlib.Core.List.{List, [], ◌∷◌, ◌++◌}
use mathlib.Core.Path.{◌≡◌, refl, ap, ◌∙◌}
use Prim.Native.Nat.{ℕ, suc, ◌+◌, ◌-◌, ◌^◌, ◌≤◌, ◌<◌}
use native.Mathlib.Omega.{arith}
use borrow.Author.Tests.{leb-true, eqb-true, eq-eqb, ne_eqb}
use lib.Dec.{eqb, leb}
use lib.IntN.{ℤ, nat_abs}
use lib.ListN.{length, take, drop}
use Rattle.laws.specs.Texts.{blanks}
use Rattle.field.specs.Sign.{largest, largest_clock, is_negative}
use Rattle.field.specs.Show.{put_whole, put_decimal}
use Rattle.layout.specs.Kind.{unknown}
use Rattle.layout.specs.Kind.Kind.{unused}
use Rattle.layout.specs.Kind.Held.{one, amount}
use Rattle.layout.specs.Layout.{Item, Values, columns}
use Rattle.layout.specs.Line.{trimmed}
use Rattle.record.specs.Rows.{body_items, flag_items, row_items, row_values, flag_values, row_line}
use Rattle.layout.specs.Inking.{text_end, end_from}
use Rattle.canon.specs.Valid.{entry, amount_valid, clock_valid, exponent_valid, most_flag, flag_valid, four_valid, row_valid}
use Rattle.canon.specs.Canonical.{flag_shown, row_shown}
use Rattle.canon.specs.Measured.{exponents_end, row_length}
use Rattle.laws.proofs.Bools.{and_left, and_right, both_true}
use Rattle.field.proofs.Fitting.{fits-true}
use Rattle.record.proofs.Tiled.{rows-tiled}
use Rattle.layout.proofs.Ends.{line-length}
use Rattle.layout.proofs.Inked.{blank_cut, whole-ends, decimal-ends, amount-fits}

-- the clock ends in its last column
amount-end : (before earlier : ℕ) (v : ℤ) → nat_abs v ≤ largest
    → text_end before (put_decimal 6 (is_negative v) (nat_abs v) (blanks 14)) earlier ≡ before + 14
amount-end before earlier v h = rw (decimal-ends 14 5 (is_negative v) (nat_abs v) (amount-fits (is_negative v) (nat_abs v) h))

-- a field that may be unknown ends in its last column, unless it is: an exponent, a deviation, a correlation
pub maybe-end : (before k : ℕ) (none : Bool) (text : List ℕ) {earlier other : ℕ} → (none ≡ false → length (trimmed text) ≡ suc k) → earlier ≡ other
    → text_end before (cond none (blanks (suc k)) text) earlier ≡ cond none other (before + suc k)
maybe-end before k true text ends e = rw (blank_cut k, e)
maybe-end before k false text ends e = rw (ends refl, ne_eqb (suc k) 0 (λ z. omega arith))

-- a flag, if it is set
flag-end : (before sign : ℕ) (v : ℤ) {earlier other : ℕ} → eqb sign 32 ≡ false → earlier ≡ other
    → text_end before (cond (flag_shown v) sign 32 ∷ []) earlier ≡ cond (eqb (nat_abs v) 0) other (before + 1)
flag-end before sign v {earlier} {other} inked e = go (eqb (nat_abs v) 0)
  where
    go : (t : Bool) → text_end before (cond (cond t false true) sign 32 ∷ []) earlier ≡ cond t other (before + 1)
    go true = e
    go false = rw inked

-- what a valid row says of the numbers that its line may end with
record Fine (velocity : Bool) (row : List ℤ) : Type 0 where
  clock : nat_abs (entry row 3) ≤ largest
  x-exponent : (leb (nat_abs (entry row 4)) 99 || eqb (nat_abs (entry row 4)) unknown) ≡ true
  y-exponent : (leb (nat_abs (entry row 5)) 99 || eqb (nat_abs (entry row 5)) unknown) ≡ true
  z-exponent : (leb (nat_abs (entry row 6)) 99 || eqb (nat_abs (entry row 6)) unknown) ≡ true
  clock-exponent : (leb (nat_abs (entry row 7)) 999 || eqb (nat_abs (entry row 7)) unknown) ≡ true
  event : nat_abs (entry row 8) ≤ most_flag velocity
  predicted : nat_abs (entry row 9) ≤ most_flag velocity
  maneuver : nat_abs (entry row 10) ≤ most_flag velocity
  orbit : nat_abs (entry row 11) ≤ most_flag velocity

pub four : (p q r s : Bool) → ((p && q) && (r && s)) ≡ true → (p ≡ true) × (q ≡ true) × (r ≡ true) × (s ≡ true)
four p q r s e =
    let front = both_true p q (and_left (p && q) (r && s) e) in
    let back = both_true r s (and_right (p && q) (r && s) e) in
    (front.0, front.1, back.0, back.1)

-- a valid clock is within the bound of every number
pub clock-bounded : (v : ℤ) → clock_valid v ≡ true → nat_abs v ≤ largest
clock-bounded v e = go (is_negative v) (leb (nat_abs v) largest_clock) refl e
  where
    go : (n t : Bool) → leb (nat_abs v) largest_clock ≡ t → cond n (leb (nat_abs v) largest) (t || eqb (nat_abs v) largest) ≡ true → nat_abs v ≤ largest
    go true t q h = leb-true (nat_abs v) largest h
    go false true q h = omega (arith, leb-true (nat_abs v) largest_clock q)
    go false false q h = omega (arith, eqb-true (nat_abs v) largest h)

fine : (velocity : Bool) (row : List ℤ) → row_valid velocity row ≡ true → Fine velocity row
unfolding row_valid
fine velocity row e =
    let amounts = four_valid amount_valid clock_valid 0 row in
    let exponents = four_valid (exponent_valid false) (exponent_valid true) 4 row in
    let flags = four_valid (flag_valid velocity) (flag_valid velocity) 8 row in
    let a = four (amount_valid (entry row 0)) (amount_valid (entry row 1)) (amount_valid (entry row 2)) (clock_valid (entry row 3)) (and_left amounts (exponents && flags) e) in
    let rest = and_right amounts (exponents && flags) e in
    let x =
    four (exponent_valid false (entry row 4)) (exponent_valid false (entry row 5)) (exponent_valid false (entry row 6)) (exponent_valid true (entry row 7))
    (and_left exponents flags rest) in
    let f =
    four (flag_valid velocity (entry row 8)) (flag_valid velocity (entry row 9)) (flag_valid velocity (entry row 10)) (flag_valid velocity (entry row 11))
    (and_right exponents flags rest) in
    record {
      clock = clock-bounded (entry row 3) a.3;
      x-exponent = and_right (not (is_negative (entry row 4))) _ x.0;
      y-exponent = and_right (not (is_negative (entry row 5))) _ x.1;
      z-exponent = and_right (not (is_negative (entry row 6))) _ x.2;
      clock-exponent = and_right (not (is_negative (entry row 7))) _ x.3;
      event = leb-true (nat_abs (entry row 8)) (most_flag velocity) (and_right (not (is_negative (entry row 8))) _ f.0);
      predicted = leb-true (nat_abs (entry row 9)) (most_flag velocity) (and_right (not (is_negative (entry row 9))) _ f.1);
      maneuver = leb-true (nat_abs (entry row 10)) (most_flag velocity) (and_right (not (is_negative (entry row 10))) _ f.2);
      orbit = leb-true (nat_abs (entry row 11)) (most_flag velocity) (and_right (not (is_negative (entry row 11))) _ f.3);
    }

-- a number that is not the one for unknown is within its bound, and fills its last column
pub known : (n most none : ℕ) → (leb n most || eqb n none) ≡ true → eqb n none ≡ false → n ≤ most
known n most none e u = leb-true n most (go (leb n most) (rw u at e))
  where
    go : (t : Bool) → (t || false) ≡ true → t ≡ true
    go true h = refl
    go false h = h

pub known-ends : (k most none n : ℕ) → suc k ≤ 18 → most < 10 ^ suc k → (leb n most || eqb n none) ≡ true → eqb n none ≡ false
    → length (trimmed (put_whole n (blanks (suc k)))) ≡ suc k
known-ends k most none n narrow room e u =
    let h = known n most none e u in
    let all : suc k - 0 ≡ suc k = omega arith in
    whole-ends k n (fits-true (suc k) false n narrow (omega arith) (rw all (omega arith)))

-- an exponent of two columns, and of three
abbrev exponent_text : ℕ → ℕ → List ℕ
exponent_text w n = put_whole n (blanks w)

two : (n : ℕ) → (leb n 99 || eqb n unknown) ≡ true → eqb n unknown ≡ false → length (trimmed (exponent_text 2 n)) ≡ 2
two n = known-ends 1 99 unknown n (omega arith) (omega arith)

three : (n : ℕ) → (leb n 999 || eqb n unknown) ≡ true → eqb n unknown ≡ false → length (trimmed (exponent_text 3 n)) ≡ 3
three n = known-ends 2 999 unknown n (omega arith) (omega arith)

-- from the clock on a row ends as is measured
abbrev late_values : List ℤ → Values → Values
late_values row vs =
    amount (is_negative (entry row 3)) (nat_abs (entry row 3))
    ∷ one (nat_abs (entry row 4))
    ∷ one (nat_abs (entry row 5))
    ∷ one (nat_abs (entry row 6))
    ∷ one (nat_abs (entry row 7))
    ∷ vs

late-end : (velocity : Bool) (row : List ℤ) → Fine velocity row → (earlier : ℕ) (after : List Item) (vs : Values)
    → end_from earlier (drop 4 body_items ++ after) (late_values row vs) ≡ end_from (exponents_end row) after vs
unfolding exponents_end
late-end velocity row f earlier after vs =
    ap (λ (n : ℕ). end_from n after vs)
    (maybe-end 70 2 (eqb (nat_abs (entry row 7)) unknown) (exponent_text 3 (nat_abs (entry row 7))) (three (nat_abs (entry row 7)) f.clock-exponent)
    (maybe-end 67 1 (eqb (nat_abs (entry row 6)) unknown) (exponent_text 2 (nat_abs (entry row 6))) (two (nat_abs (entry row 6)) f.z-exponent)
    (maybe-end 64 1 (eqb (nat_abs (entry row 5)) unknown) (exponent_text 2 (nat_abs (entry row 5))) (two (nat_abs (entry row 5)) f.y-exponent)
    (maybe-end 61 1 (eqb (nat_abs (entry row 4)) unknown) (exponent_text 2 (nat_abs (entry row 4))) (two (nat_abs (entry row 4)) f.x-exponent) (amount-end 46 earlier (entry row 3) f.clock)))))

-- V has no flags, and those of the row are 0
unset : (v : ℤ) → nat_abs v ≤ 0 → eqb (nat_abs v) 0 ≡ true
unset v h = eq-eqb (nat_abs v) 0 (omega arith)

pub row-length : (velocity : Bool) (identifier : ℕ) (row : List ℤ) → row_valid velocity row ≡ true → length (row_line velocity (row_shown identifier row)) ≡ row_length row
unfolding row_line row_shown row_length
row-length true identifier row e =
    let f = fine true row e in
    let values = row_values true (row_shown identifier row) in
    line-length (row_items true) values (rows-tiled true)
    ∙ ap (λ (n : ℕ). n + 1)
    (late-end true row f (end_from 0 (take 5 (row_items true)) values) (columns 74 80 unused ∷ []) []
    ∙ rw (unset (entry row 8) f.event, unset (entry row 9) f.predicted, unset (entry row 10) f.maneuver, unset (entry row 11) f.orbit))
row-length false identifier row e =
    let f = fine false row e in
    let values = row_values false (row_shown identifier row) in
    line-length (row_items false) values (rows-tiled false)
    ∙ ap (λ (n : ℕ). n + 1)
    (late-end false row f (end_from 0 (take 5 (row_items false)) values) flag_items (flag_values (row_shown identifier row))
    ∙ flag-end 79 80 (entry row 11) refl
    (flag-end 78 77 (entry row 10) refl (flag-end 75 80 (entry row 9) refl (flag-end 74 69 (entry row 8) refl refl))))
