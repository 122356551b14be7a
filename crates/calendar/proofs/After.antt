-- The date so many days after 1980-01-06 has the MJD 44244 and so many: each tomorrow is one more. So the date of an MJD has that MJD,
-- and is the one day of the calendar that has it.
-- Assumes nothing.
use mathlib.Core.Bool.{Bool, true, false, cond}
use mathlib.Core.Path.{◌≡◌, refl, sym, ap, ◌∙◌, subst}
use Prim.Native.Nat.{ℕ, zero, suc, ◌+◌, ◌-◌, ◌≤◌, ◌<◌}
use native.Mathlib.Nat.{add-suc}
use native.Mathlib.Numerals.{add-one}
use native.Mathlib.Omega.{arith}
use borrow.Author.Tests.{ltb-true, ltb-false}
use lib.Dec.{T, leb, leb→le, ltb, lit≤}
use Rattle.laws.specs.Tests.{every_below}
use Rattle.calendar.specs.Gregorian.{leap, year_length, month_length, days_of_years, days_before, mjd_of, ymd, tomorrow, date_after, date_of}
use Rattle.calendar.specs.Facts.{Valid}
use Rattle.calendar.specs.declared.types.Civil.{Civil}
use Rattle.laws.proofs.Bounds.{below}
use Rattle.calendar.proofs.Order.{next-year, next-month, whole-year, same-date}

-- a day of the calendar with its number
pub record Numbered (mjd : ℕ) (c : Civil) : Type 0 where
  pub valid : Valid c.year c.month c.day
  pub number : mjd_of c.year c.month c.day ≡ mjd

lasting : Bool → ℕ → Bool
lasting l k = leb 1 (month_length l (suc k))

every-month : (l : Bool) → T (every_below 12 (lasting l))
unfolding lasting month_length
every-month true = tt
every-month false = tt

-- each of the twelve months has a first day
month-lasts : (l : Bool) (k : ℕ) → k < 12 → 1 ≤ month_length l (suc k)
unfolding lasting
month-lasts l k h = leb→le 1 (month_length l (suc k)) (below 12 (lasting l) (every-month l) k h)

-- nothing comes before January
january-first : (l : Bool) → days_before l 1 ≡ 0
unfolding days_before month_length
january-first l = refl

module _ (y m d n : ℕ) (v : Valid y m d) (e : mjd_of y m d ≡ n) where
  next-day : d < month_length (leap y) m → Numbered (suc n) (ymd y m (d + 1))
  unfolding mjd_of
  next-day h = omega arith

  next-first : month_length (leap y) m ≤ d → m < 12 → Numbered (suc n) (ymd y (m + 1) 1)
  unfolding mjd_of
  next-first h k =
      let s : days_before (leap y) (m + 1) ≡ days_before (leap y) m + month_length (leap y) m =
      ap (days_before (leap y)) (add-one m) ∙ next-month (leap y) m in
      let l : 1 ≤ month_length (leap y) (m + 1) = rw add-one (month-lasts (leap y) m k) in
      omega arith

  new-year : month_length (leap y) m ≤ d → 12 ≤ m → Numbered (suc n) (ymd (y + 1) 1 1)
  unfolding mjd_of
  new-year h k =
      let q : m ≡ 12 = omega arith in
      let s : days_before (leap y) m + month_length (leap y) m ≡ year_length (leap y) =
      sym (next-month (leap y) m) ∙ ap (λ (x : ℕ). days_before (leap y) (suc x)) q ∙ whole-year (leap y) in
      let p : y + 1 - 1980 ≡ suc (y - 1980) = omega arith in
      let u : 1980 + (y - 1980) ≡ y = omega arith in
      let t : days_of_years (y + 1 - 1980) ≡ days_of_years (y - 1980) + year_length (leap y) =
      ap days_of_years p ∙ next-year (y - 1980) ∙ ap (λ (x : ℕ). days_of_years (y - 1980) + year_length (leap x)) u in
      omega (arith, january-first (leap (y + 1)), month-lasts (leap (y + 1)) 0 (lit≤ tt))

  by-case : (a b : Bool) → ltb d (month_length (leap y) m) ≡ a → ltb m 12 ≡ b →
      Numbered (suc n) (cond a (ymd y m (d + 1)) (cond b (ymd y (m + 1) 1) (ymd (y + 1) 1 1)))
  by-case true b p q = next-day (ltb-true _ _ p)
  by-case false true p q = next-first (ltb-false _ _ p) (ltb-true _ _ q)
  by-case false false p q = new-year (ltb-false _ _ p) (ltb-false _ _ q)

tomorrow-numbered : (c : Civil) (n : ℕ) → Numbered n c → Numbered (suc n) (tomorrow c)
unfolding tomorrow
tomorrow-numbered c n h =
    by-case c.year c.month c.day n h.valid h.number
    (ltb c.day (month_length (leap c.year) c.month)) (ltb c.month 12) refl refl

first-numbered : Numbered 44244 (ymd 1980 1 6)
unfolding mjd_of days_of_years days_before month_length leap
first-numbered = omega arith

after-numbered : (n : ℕ) → Numbered (44244 + n) (date_after n)
unfolding date_after
after-numbered zero = first-numbered
after-numbered (suc n) = rw add-suc (tomorrow-numbered (date_after n) (44244 + n) (after-numbered n))

-- the date of an MJD has that MJD
pub of-numbered : (mjd : ℕ) → 44244 ≤ mjd → Numbered mjd (date_of mjd)
unfolding date_of
of-numbered mjd h =
    let e : 44244 + (mjd - 44244) ≡ mjd = omega arith in
    subst (λ (n : ℕ). Numbered n (date_after (mjd - 44244))) e (after-numbered (mjd - 44244))

-- the day of the calendar that has the MJD is the date of the MJD
pub date-numbered : (y m d mjd : ℕ) → Valid y m d → mjd_of y m d ≡ mjd → 44244 ≤ mjd → ymd y m d ≡ date_of mjd
date-numbered y m d mjd v e h =
    let c = date_of mjd in
    let n = of-numbered mjd h in
    same-date y m d c.year c.month c.day v n.valid (e ∙ sym n.number)
