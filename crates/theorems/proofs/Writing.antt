-- The front page for writing in a version: what `write` answers and leaves. A table is what is lent to `write`: a
-- header and four lists, of which so many first places count as the header says.
-- Assumes nothing.
use mathlib.Core.Path.{◌≡◌, refl, sym, ap, ap₂, ◌∙◌}
use mathlib.Core.Bool.{Bool, true, false, cond, not, ◌&&◌, false≢true}
use mathlib.Core.List.{List}
use mathlib.Core.Logic.{◌⊎◌, inl, inr, ◌↔◌}
use Prim.Native.Nat.{ℕ, ◌<◌, ◌≤◌}
use native.Mathlib.Nat.{lt_of_not-le}
use native.Mathlib.Decide.{dec_le}
use native.Mathlib.Omega.{arith}
use borrow.Author.Tests.{le-leb, lt-leb, leb-true}
use lib.Dec.{leb}
use lib.ListN.{length, take, drop}
use lib.Seq.{take_at, drop_at}
use Rattle.header.specs.Rules.{d}
use Rattle.header.specs.declared.types.Rules.{Rules}
use Rattle.lines.specs.Lent.{over}
use Rattle.canon.specs.Table.{Table}
use Rattle.canon.specs.Valid.{valid}
use Rattle.canon.specs.Canonical.{canonical}
use Rattle.canon.specs.Measured.{fitted, refused_as, measured, measured_in}
use Rattle.canon.specs.declared.types.Measured.{Measured}
use Rattle.writer.specs.Writing.{out_after}
use Rattle.canon_laws.specs.Held.{Proper}
use Rattle.canon_laws.proofs.Versions.{d-proper}
use Rattle.canon_laws.proofs.Wider.{wider}

-- IN SP3-D no table is outside the bounds.
pub in-d : (t : Table) (room : ℕ) → measured_in d t room ≡ measured d t room
unfolding measured_in
in-d t room = rw (never (valid d t))
  where
    never : (v : Bool) → (v && not v) ≡ false
    never true = refl
    never false = refl

module _ {rules : Rules} (proper : Proper rules) where
  module _ (t : Table) (out : List ℕ) where
    abbrev form : List ℕ
    form = canonical rules t

    -- what is valid in the version is valid in SP3-d
    pub valid-in-d : valid rules t ≡ true → valid d t ≡ true
    valid-in-d ok = wider rules d proper.within_d t ok

    -- 13 where the table is not valid in SP3-d, whatever the room,
    pub not-valid-13 : valid d t ≡ false → measured_in rules t (length out) ≡ refused_as 13
    unfolding measured_in measured
    not-valid-13 invalid = rw (invalid, go (valid rules t) refl)
      where
        go : (b : Bool) → valid rules t ≡ b → valid rules t ≡ false
        go true ok = absurd (false≢true (sym invalid ∙ valid-in-d ok))
        go false none = none

    -- then 17 where it is outside the bounds of the version,
    pub outside-17 : valid d t ≡ true → valid rules t ≡ false → measured_in rules t (length out) ≡ refused_as 17
    unfolding measured_in
    outside-17 ok outside = rw (ok, outside)

    -- then 12 where the output is shorter than the form,
    pub too-small-12 : valid rules t ≡ true → length out < length form → measured_in rules t (length out) ≡ refused_as 12
    unfolding measured_in measured fitted
    too-small-12 ok short = rw (valid-in-d ok, ok, lt-leb (length form) (length out) short)

    -- else 0 and the length of the form:
    pub written-0 : valid rules t ≡ true → length form ≤ length out → measured_in rules t (length out) ≡ record { refusal = 0; length = length form }
    unfolding measured_in measured fitted
    written-0 ok room = rw (valid-in-d ok, ok, le-leb (length form) (length out) room)

    -- one of the four, by the table and the room
    abbrev Answered : ℕ → Type 0
    Answered n =
        ((n ≡ 13) × (valid d t ≡ false))
        ⊎ (((n ≡ 17) × (valid d t ≡ true) × (valid rules t ≡ false))
        ⊎ (((n ≡ 12) × (valid rules t ≡ true) × (length out < length form)) ⊎ ((n ≡ 0) × (valid rules t ≡ true) × (length form ≤ length out))))

    answered : Answered (measured_in rules t (length out)).refusal
    answered = go (valid d t) (valid rules t) refl refl (dec_le (length form) (length out))
      where
        said : {m : Measured} → measured_in rules t (length out) ≡ m → (measured_in rules t (length out)).refusal ≡ m.refusal
        said e = ap (λ (m : Measured). m.refusal) e

        go : (v w : Bool) → valid d t ≡ v → valid rules t ≡ w → Dec (length form ≤ length out) → Answered (measured_in rules t (length out)).refusal
        go false w p q room = inl (said (not-valid-13 p), p)
        go true false p q room = inr (inl (said (outside-17 p q), p, q))
        go true true p q (no short) = inr (inr (inl (said (too-small-12 q (lt_of_not-le short)), q, lt_of_not-le short)))
        go true true p q (yes room) = inr (inr (inr (said (written-0 q room), q, room)))

    -- a writing answers 0 exactly when the table is valid in the version and its form has room.
    pub writes-exactly : ((measured_in rules t (length out)).refusal ≡ 0) ↔ ((valid rules t ≡ true) × (length form ≤ length out))
    writes-exactly = ((λ e. go answered e), (λ both. ap (λ (m : Measured). m.refusal) (written-0 both.0 both.1)))
      where
        go : {n : ℕ} → Answered n → n ≡ 0 → (valid rules t ≡ true) × (length form ≤ length out)
        go (inl (n, _)) e = absurd (omega arith)
        go (inr (inl (n, _, _))) e = absurd (omega arith)
        go (inr (inr (inl (n, _, _)))) e = absurd (omega arith)
        go (inr (inr (inr (_, p, q)))) e = (p, q)

    -- It answers 13 exactly when the table is not valid in SP3-d, whatever the room,
    pub thirteen-exactly : ((measured_in rules t (length out)).refusal ≡ 13) ↔ (valid d t ≡ false)
    thirteen-exactly = ((λ e. go answered e), (λ invalid. ap (λ (m : Measured). m.refusal) (not-valid-13 invalid)))
      where
        go : {n : ℕ} → Answered n → n ≡ 13 → valid d t ≡ false
        go (inl (_, found)) e = found
        go (inr (inl (n, _, _))) e = absurd (omega arith)
        go (inr (inr (inl (n, _, _)))) e = absurd (omega arith)
        go (inr (inr (inr (n, _, _)))) e = absurd (omega arith)

    -- 17 exactly when it is valid there and outside the bounds of the version, whatever the room,
    pub seventeen-exactly : ((measured_in rules t (length out)).refusal ≡ 17) ↔ ((valid d t ≡ true) × (valid rules t ≡ false))
    seventeen-exactly = ((λ e. go answered e), (λ both. ap (λ (m : Measured). m.refusal) (outside-17 both.0 both.1)))
      where
        go : {n : ℕ} → Answered n → n ≡ 17 → (valid d t ≡ true) × (valid rules t ≡ false)
        go (inl (n, _)) e = absurd (omega arith)
        go (inr (inl (_, p, q))) e = (p, q)
        go (inr (inr (inl (n, _, _)))) e = absurd (omega arith)
        go (inr (inr (inr (n, _, _)))) e = absurd (omega arith)

    -- and 12 exactly when it is valid in the version and its form is longer than the output.
    pub twelve-exactly : ((measured_in rules t (length out)).refusal ≡ 12) ↔ ((valid rules t ≡ true) × (length out < length form))
    twelve-exactly = ((λ e. go answered e), (λ both. ap (λ (m : Measured). m.refusal) (too-small-12 both.0 both.1)))
      where
        go : {n : ℕ} → Answered n → n ≡ 12 → (valid rules t ≡ true) × (length out < length form)
        go (inl (n, _)) e = absurd (omega arith)
        go (inr (inl (n, _, _))) e = absurd (omega arith)
        go (inr (inr (inl (_, p, q)))) e = (p, q)
        go (inr (inr (inr (n, _, _)))) e = absurd (omega arith)

    -- On a refusal no byte of the output changes.
    pub refusal-keeps-out : ((measured_in rules t (length out)).refusal ≡ 0 → ⊥) → out_after rules t out ≡ out
    unfolding out_after
    refusal-keeps-out refused = go (valid rules t) (leb (length form) (length out)) refl refl
      where
        go : (v r : Bool) → valid rules t ≡ v → leb (length form) (length out) ≡ r → cond (v && r) (over form out) out ≡ out
        go true true p q = absurd (refused (writes-exactly.1 (p, leb-true (length form) (length out) q)))
        go true false p q = refl
        go false r p q = refl

    -- On success the form stands from the first byte on, as long as the answer says, and past it no byte changes.
    module _ (success : (measured_in rules t (length out)).refusal ≡ 0) where
      pub valid-table : valid rules t ≡ true
      valid-table = (writes-exactly.0 success).0

      room : length form ≤ length out
      room = (writes-exactly.0 success).1

      pub written-length : (measured_in rules t (length out)).length ≡ length form
      written-length = ap (λ (m : Measured). m.length) (written-0 valid-table room)

      pub out-is : out_after rules t out ≡ over form out
      unfolding out_after
      out-is = rw (valid-table, le-leb (length form) (length out) room)

      pub written-form : take (measured_in rules t (length out)).length (out_after rules t out) ≡ form
      written-form = ap₂ take written-length out-is ∙ take_at form (drop (length form) out) (length form) refl

      pub rest-kept : drop (measured_in rules t (length out)).length (out_after rules t out) ≡ drop (measured_in rules t (length out)).length out
      rest-kept =
          ap₂ drop written-length out-is
          ∙ drop_at form (drop (length form) out) (length form) refl
          ∙ ap (λ (n : ℕ). drop n out) (sym written-length)

-- so that 17 is never the answer of a writing in SP3-d.
pub never-17 : (t : Table) (out : List ℕ) → (measured_in d t (length out)).refusal ≡ 17 → ⊥
never-17 t out e = let both = (seventeen-exactly d-proper t out).0 e in false≢true (sym both.1 ∙ both.0)
