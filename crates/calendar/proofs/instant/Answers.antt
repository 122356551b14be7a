-- `calendar::instant` meets its contract: no time, no date, or the sum, which stays far below 2 ^ 64.
-- Assumes nothing.
use Rattle.std.proofs.Common.{◌≡◌, sym, ap, ◌∙◌, List, [], ◌∷◌, ℕ, Bool, true, Option, Some, None, arith}
use Rattle.calendar.specs.Clock.{is_time, time_of, told_instant}
use Rattle.calendar.specs.Gregorian.{told_date, date_answer}
use Rattle.calendar.specs.declared.types.Dated.{Dated}
use Rattle.calendar.proofs.Days.{DayTold, date-told, date-refused}
use Rattle.calendar.proofs.Instants.{Timed, time-is, no-time, no-date, instant-at}
use Rattle.calendar.proofs.instant.Goals as goal

pub returns-then-not-is_time : goal.returns-then-not-is_time
unfolding told_instant
returns-then-not-is_time c = record { result = sym (no-time _ _ _ _ _ _ (sym c.is_time.ensures.result ∙ c.if-not-is_time.true)) }

-- a time of day, in numbers
timed : (h m s : ℕ) (t : Bool) → t ≡ is_time h m s → t ≡ true → Timed h m s
timed h m s t e f = time-is h m s (sym e ∙ f)

-- what a date gives
dated : (y m d : ℕ) (r : Option Dated) (found : Dated) → told_date r ≡ date_answer y m d → r ≡ Some found
    → DayTold y m d found.mjd found.week found.seconds
unfolding told_date
dated y m d r found e f = date-told y m d found.mjd found.week found.seconds (sym e ∙ ap told_date f)

pub returns-in_err-date : goal.returns-in_err-date
unfolding told_date told_instant
returns-in_err-date c =
    let refused = date-refused c.args.year c.args.month c.args.day (sym c.date.ensures.result ∙ ap told_date c.in_err-date.was) in
    let time = sym c.is_time.ensures.result ∙ c.if-not-is_time.false in
    record { result = ap told_instant c.from_residual.ensures ∙ sym (no-date _ _ _ _ _ _ time refused) }

pub overflow_mul-result : goal.overflow_mul-result
overflow_mul-result c = let d = dated _ _ _ _ _ c.date.ensures.result c.in_ok-date.was in omega arith

pub overflow_mul-result-2 : goal.overflow_mul-result-2
overflow_mul-result-2 c = let t = timed _ _ _ _ c.is_time.ensures.result c.if-not-is_time.false in omega arith

pub overflow_add-result : goal.overflow_add-result
overflow_add-result c =
    let t = timed _ _ _ _ c.is_time.ensures.result c.if-not-is_time.false in
    let d = dated _ _ _ _ _ c.date.ensures.result c.in_ok-date.was in
    omega arith

pub overflow_mul-result-3 : goal.overflow_mul-result-3
overflow_mul-result-3 c = let t = timed _ _ _ _ c.is_time.ensures.result c.if-not-is_time.false in omega arith

pub overflow_add-result-2 : goal.overflow_add-result-2
overflow_add-result-2 c =
    let t = timed _ _ _ _ c.is_time.ensures.result c.if-not-is_time.false in
    let d = dated _ _ _ _ _ c.date.ensures.result c.in_ok-date.was in
    omega arith

pub overflow_add-result-3 : goal.overflow_add-result-3
overflow_add-result-3 c =
    let t = timed _ _ _ _ c.is_time.ensures.result c.if-not-is_time.false in
    let d = dated _ _ _ _ _ c.date.ensures.result c.in_ok-date.was in
    omega arith

pub returns : goal.returns
unfolding told_instant time_of
returns c =
    let d = dated _ _ _ _ _ c.date.ensures.result c.in_ok-date.was in
    record { result = ap (λ (n : ℕ). 0 ∷ n ∷ []) (omega (arith, d)) ∙ sym (instant-at _ _ _ _ _ _ (sym c.is_time.ensures.result ∙ c.if-not-is_time.false) d.is) }
