-- The identifiers of an accepted file are all different, so in an epoch each satellite has one P line and no other, and with velocities one V line.
-- Assumes nothing.
use mathlib.Core.Path.{◌≡◌, refl, sym, ◌∙◌}
use mathlib.Core.Logic.{◌⊎◌, inl, inr}
use mathlib.Core.Bool.{Bool, true, false, ◌||◌, false≢true}
use mathlib.Core.List.{List, [], ◌∷◌, ◌++◌}
use Prim.Native.Nat.{ℕ, zero, suc, ◌<◌}
use native.Mathlib.Nat.{le_of_suc-le-suc, not-suc-le-zero}
use native.Mathlib.Omega.{arith}
use borrow.Author.Tests.{eqb-true, eqb-false}
use lib.Dec.{eqb}
use lib.ListN.{length, get_or}
use Rattle.layout.specs.Kind.{identifier_code, is_one_of}
use Rattle.layout.specs.Line.{padded}
use Rattle.lines.specs.Lines.{nth}
use Rattle.record.specs.Agrees.{repeats}
use Rattle.record.specs.Rows.{row_fault, cut}
use Rattle.header.specs.declared.types.Rules.{Rules}
use Rattle.file.specs.Kinds.{of_kind}
use Rattle.file.specs.Plain.{is_record, row_kind, is_row_line, Plain}
use Rattle.laws.proofs.Bools.{and_right}
use Rattle.laws.proofs.Bounds.{sides}
use Rattle.file_laws.proofs.Selected.{satellites, identifiers}
use Rattle.file_laws.proofs.Slots.{identifiers-many}
use Rattle.file.specs.Kinds.{row_number}
use Rattle.file_laws.proofs.Rule.{InOrder}

neither : (t u : Bool) → (t || u) ≡ false → (t ≡ false) × (u ≡ false)
neither true u e = absurd (false≢true (sym e))
neither false u e = (refl, e)

-- what is not among some and one more is not among them, nor is it that one
not-among : (b c : ℕ) (known : List ℕ) → is_one_of b (known ++ (c ∷ [])) ≡ false → (is_one_of b known ≡ false) × (b ≡ c → ⊥)
not-among b c [] e = (refl, eqb-false b c (neither (eqb b c) false e).0)
not-among b c (k ∷ known) e =
    let here = neither (eqb b k) (is_one_of b (known ++ (c ∷ []))) e in
    let more = not-among b c known here.1 in
    (rw (here.0, more.0), more.1)

-- where nothing repeats, no identifier is known before
not_known : (known identifiers : List ℕ) → repeats known identifiers ≡ false → (j : ℕ) → j < length identifiers → is_one_of (get_or identifiers j 0) known ≡ false
unfolding repeats
not_known known [] e j h = absurd (not-suc-le-zero h)
not_known known (identifier ∷ identifiers) e zero h = (neither (is_one_of identifier known) (repeats (known ++ (identifier ∷ [])) identifiers) e).0
not_known known (identifier ∷ identifiers) e (suc j) h =
    (not-among (get_or identifiers j 0) identifier known
    (not_known (known ++ (identifier ∷ [])) identifiers (neither (is_one_of identifier known) (repeats (known ++ (identifier ∷ [])) identifiers) e).1 j (le_of_suc-le-suc h))).0

-- and no identifier stands twice
not-twice : (known identifiers : List ℕ) → repeats known identifiers ≡ false → (i j : ℕ) → i < j → j < length identifiers → get_or identifiers i 0 ≡ get_or identifiers j 0 → ⊥
unfolding repeats
not-twice known [] e i j less h same = not-suc-le-zero h
not-twice known (identifier ∷ identifiers) e i zero less h same = not-suc-le-zero less
not-twice known (identifier ∷ identifiers) e zero (suc j) less h same =
    (not-among (get_or identifiers j 0) identifier known
    (not_known (known ++ (identifier ∷ [])) identifiers (neither (is_one_of identifier known) (repeats (known ++ (identifier ∷ [])) identifiers) e).1 j (le_of_suc-le-suc h))).1
    (sym same)
not-twice known (identifier ∷ identifiers) e (suc i) (suc j) less h same =
    not-twice (known ++ (identifier ∷ [])) identifiers (neither (is_one_of identifier known) (repeats (known ++ (identifier ∷ [])) identifiers) e).1 i j (le_of_suc-le-suc less) (le_of_suc-le-suc h) same

module _ {rules : Rules} {lines : List (List ℕ)} (p : Plain rules lines) where
  -- two satellites of one identifier are one
  pub identifiers-differ : (i j : ℕ) → i < satellites p → j < satellites p → get_or (identifiers p) i 0 ≡ get_or (identifiers p) j 0 → i ≡ j
  identifiers-differ i j hi hj same = go (sides i j)
    where
      go : (i < j) ⊎ ((i ≡ j) ⊎ (j < i)) → i ≡ j
      go (inl less) = absurd (not-twice [] (identifiers p) p.all-different i j less (omega (arith, identifiers-many p)) same)
      go (inr (inl e)) = e
      go (inr (inr less)) = absurd (not-twice [] (identifiers p) p.all-different j i less (omega (arith, identifiers-many p)) (sym same))

  -- a line names one satellite
  named : (v : Bool) (identifier : ℕ) (l : List ℕ) → is_row_line rules v identifier l ≡ true → identifier_code (cut 2 4 (padded l)) ≡ identifier
  named v identifier l e =
      eqb-true (identifier_code (cut 2 4 (padded l))) identifier
      (and_right (is_record rules (row_kind v) (row_fault v (padded l)) l) (eqb (identifier_code (cut 2 4 (padded l))) identifier) e)

  -- the row of an epoch that names satellite j is the j-th
  pub one-of-each : (v : Bool) (k : ℕ) (block : List (List ℕ)) → InOrder p v k block → (i j : ℕ) → i < satellites p → j < satellites p
      → is_row_line rules v (get_or (identifiers p) j 0) (nth i (of_kind rules (row_number v) block)) ≡ true → i ≡ j
  one-of-each v k block order i j hi hj e =
      let l = nth i (of_kind rules (row_number v) block) in
      identifiers-differ i j hi hj (sym (named v (get_or (identifiers p) i 0) l (order.each i hi)) ∙ named v (get_or (identifiers p) j 0) l e)
