-- The answer of a writing by what measuring the table says.
-- Assumes nothing.
use mathlib.Core.Bool.{Bool, true, false, cond, ◌&&◌}
use mathlib.Core.Path.{◌≡◌, refl, ◌∙◌}
use Prim.Native.Nat.{ℕ, ◌+◌, ◌-◌}
use native.Mathlib.Omega.{arith}
use borrow.Author.Tests.{le-leb, lt-leb}
use Rattle.std.specs.Prelude.{Some, None}
use Rattle.header.specs.Rules.{d}
use Rattle.header.specs.declared.types.Rules.{Rules}
use Rattle.canon.specs.Table.{Table, cells_in, table_identifiers, exponents_of, comments_of, rows_of}
use Rattle.canon.specs.Valid.{identifiers_valid, exponents_valid, comments_valid, rows_valid, counts_hold, valid}
use Rattle.canon.specs.Measured.{form_length, refused_as, fitted, measured, measured_in}
use Rattle.canon.specs.Spent.{spent, number_of}
use Rattle.canon.specs.declared.types.Measured.{Measured}
use Rattle.canon.specs.declared.types.Unwritten.TheVariants.{Invalid, OutsideVersion}
use Rattle.canon.proofs.Lengths.{canonical-length}

module _ (rules : Rules) (t : Table) where
  -- the identifiers and exponents, and then the comments and rows
  abbrev slots : Bool
  slots = identifiers_valid t.header.file_type (table_identifiers t) && exponents_valid (exponents_of t)

  abbrev lines : Bool
  lines = comments_valid rules t.header.comments (comments_of t) && rows_valid t.header.velocity (cells_in t.header) (rows_of t)

  pub uncounted : counts_hold rules t ≡ false → valid rules t ≡ false
  unfolding valid
  uncounted e = rw e refl

  pub no-slots : slots ≡ false → valid rules t ≡ false
  unfolding valid
  no-slots e = go (counts_hold rules t) (identifiers_valid t.header.file_type (table_identifiers t)) (exponents_valid (exponents_of t)) e
    where
      go : (c i x : Bool) → (i && x) ≡ false → (c && (i && (x && lines))) ≡ false
      go true true x e = rw e refl
      go true false x e = refl
      go false i x e = refl

  pub by-lines : counts_hold rules t ≡ true → slots ≡ true → lines ≡ valid rules t
  unfolding valid
  by-lines c e = rw c (go (identifiers_valid t.header.file_type (table_identifiers t)) (exponents_valid (exponents_of t)) e)
    where
      go : (i x : Bool) → (i && x) ≡ true → lines ≡ (i && (x && lines))
      go true true e = refl
      go true false e = cc
      go false x e = cc

  module _ (room : ℕ) where
    pub no-counts : counts_hold rules t ≡ false → refused_as 13 ≡ measured rules t room
    unfolding measured
    no-counts e = rw (uncounted e) refl

    -- nothing is left of the room where the table is not valid
    pub none-invalid : None ≡ spent (valid rules t) (room + 1) (form_length t) → valid rules t ≡ false
    none-invalid e = go (valid rules t) e
      where
        go : (b : Bool) → None ≡ spent b (room + 1) (form_length t) → b ≡ false
        go true e = cc
        go false e = refl

    pub told-invalid : valid rules t ≡ false → refused_as (number_of (cond (valid d t) OutsideVersion Invalid)) ≡ measured_in rules t room
    unfolding measured_in measured
    told-invalid e = rw e (go (valid d t))
      where
        go : (b : Bool) → refused_as (number_of (cond b OutsideVersion Invalid)) ≡ cond (b && true) (refused_as 17) (refused_as 13)
        go true = refl
        go false = refl

    -- else the table is valid, and its form as long as what is gone
    module _ (left : ℕ) (some : Some left ≡ spent (valid rules t) (room + 1) (form_length t)) where
      good : valid rules t ≡ true
      good = go (valid rules t) some
        where
          go : (b : Bool) → Some left ≡ spent b (room + 1) (form_length t) → b ≡ true
          go true e = refl
          go false e = cc

      rest : left ≡ room + 1 - form_length t
      rest = let e : Some left ≡ Some (room + 1 - form_length t) = rw good at some in cc

      inside : fitted (form_length t) room ≡ measured_in rules t room
      unfolding measured_in measured
      inside = rw (good, canonical-length rules t good) (go (valid d t))
        where
          go : (b : Bool) → fitted (form_length t) room ≡ cond (b && false) (refused_as 17) (fitted (form_length t) room)
          go true = refl
          go false = refl

      long : left ≡ 0 → refused_as 12 ≡ fitted (form_length t) room
      unfolding fitted
      long e = rw (lt-leb (form_length t) room (omega (arith, e, rest))) refl

      short : (left ≡ 0 → ⊥) → ◌≡◌ {A = Measured} (record { refusal = 0; length = room + 1 - left }) (fitted (form_length t) room)
      unfolding fitted
      short apart =
          let back : room + 1 - left ≡ form_length t = omega (arith, apart, rest) in
          rw (le-leb (form_length t) room (omega (arith, apart, rest)), back) refl

      pub too_long : left ≡ 0 → refused_as 12 ≡ measured_in rules t room
      too_long e = long e ∙ inside

      pub written : (left ≡ 0 → ⊥) → ◌≡◌ {A = Measured} (record { refusal = 0; length = room + 1 - left }) (measured_in rules t room)
      written apart = short apart ∙ inside
