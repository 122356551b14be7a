-- Which version a file is of is told by its first two bytes (request 9).
-- Assumes nothing.
use mathlib.Core.Path.{◌≡◌, refl, sym, ap, ◌∙◌, subst}
use mathlib.Core.Bool.{Bool, true, false, cond, ◌&&◌}
use mathlib.Core.List.{List, [], ◌∷◌, ◌++◌}
use mathlib.Core.Logic.{◌⊎◌, inl, inr, ◌↔◌}
use Prim.Native.Nat.{ℕ}
use native.Mathlib.Omega.{arith}
use borrow.Author.Tests.{eqb-true}
use lib.Dec.{eqb}
use lib.ListN.{get_or}
use Rattle.laws.proofs.Bools.{and_left}
use Rattle.layout.specs.Line.{padded}
use Rattle.lines.specs.Lines.{join_lines}
use Rattle.header.specs.Rules.{c, d}
use Rattle.header.specs.Versions.{rules_of, version_by, begins_c, rules_in}
use Rattle.header.specs.declared.types.Rules.{Rules}
use Rattle.header.specs.declared.types.Version.{Version}
use Rattle.header.specs.declared.types.Version.TheVariants as version
use Rattle.record.specs.LineKinds.{told_kind, kind_of, kind_by, hash_kind, plus_kind, star_kind, slash_kind, percent_kind, e_kind}
use Rattle.record.specs.Opening.{first_of}
use Rattle.record.specs.declared.types.LineKind.{LineKind}
use Rattle.record.specs.declared.types.LineKind.TheVariants as kind
use Rattle.file.specs.Plain.{is_line, Plain, Accepted, Sound}
use Rattle.file.proofs.Finding.{padded-column}
use Rattle.scan_laws.proofs.Passing.{line-kind}
use Rattle.scan.specs.Run.{IsFile, AnyFile}
use Rattle.scan_laws.proofs.Files.{c-sound, d-sound, accepts-plain}

skip : (t : Bool) (x y : LineKind) → (told_kind x ≡ 1 → ⊥) → told_kind (cond t x y) ≡ 1 → told_kind y ≡ 1
skip true x y never e = absurd (never e)
skip false x y never e = e

neither : (t : Bool) (x y : LineKind) → (told_kind x ≡ 1 → ⊥) → (told_kind y ≡ 1 → ⊥) → told_kind (cond t x y) ≡ 1 → ⊥
neither true x y never also e = never e
neither false x y never also e = also e

-- the letters of line 1
letters : (letter a b c : ℕ) → told_kind (kind_by letter a b c) ≡ 1 → (a ≡ 35) × (b ≡ letter)
letters letter a b c e =
    go (eqb a 35) refl
    (skip (eqb a 37) (percent_kind b) _ (neither (eqb b 99) _ _ (λ z. omega arith) (neither (eqb b 102) _ _ (λ z. omega arith) (neither (eqb b 105) _ _ (λ z. omega arith) (λ z. omega arith))))
    (skip (eqb a 47) (slash_kind b) _ (neither (eqb b 42) _ _ (λ z. omega arith) (λ z. omega arith))
    (skip (eqb a 43) (plus_kind b) _ (neither (eqb b 32) _ _ (λ z. omega arith) (neither (eqb b 43) _ _ (λ z. omega arith) (λ z. omega arith)))
    (skip (eqb a 69) (e_kind b c) _ (neither (eqb b 80) _ _ (λ z. omega arith) (neither (eqb b 86) _ _ (λ z. omega arith) (neither (eqb b 79 && eqb c 70) _ _ (λ z. omega arith) (λ z. omega arith))))
    (skip (eqb a 42) (star_kind b) _ (neither (eqb b 32) _ _ (λ z. omega arith) (λ z. omega arith))
    (skip (eqb a 86) kind.Velocity _ (λ z. omega arith) (skip (eqb a 80) kind.Position _ (λ z. omega arith) e)))))))
  where
    second : (t u : Bool) → eqb b letter ≡ u → told_kind (cond t kind.Second (cond u kind.First kind.Other)) ≡ 1 → b ≡ letter
    second true u p h = absurd (omega arith)
    second false true p h = eqb-true b letter p
    second false false p h = absurd (omega arith)

    go : (t : Bool) → eqb a 35 ≡ t → told_kind (cond t (hash_kind letter b) kind.Other) ≡ 1 → (a ≡ 35) × (b ≡ letter)
    go true p h = (eqb-true a 35 p, second (eqb b 35) (eqb b letter) refl h)
    go false p h = absurd (omega arith)

-- the first two bytes of a line of which two columns are known and not blank
two_bytes : (l : List ℕ) (rest : List (List ℕ)) (a b : ℕ) → get_or l 0 32 ≡ a → get_or l 1 32 ≡ b → (a ≡ 32 → ⊥) → (b ≡ 32 → ⊥)
    → (get_or (join_lines (l ∷ rest)) 0 0 ≡ a) × (get_or (join_lines (l ∷ rest)) 1 0 ≡ b)
unfolding join_lines
two_bytes [] rest a b e f na nb = absurd (na (sym e))
two_bytes (x ∷ []) rest a b e f na nb = absurd (nb (sym f))
two_bytes (x ∷ y ∷ l) rest a b e f na nb = (e, f)

module _ (rules : Rules) (inked : rules.letter ≡ 32 → ⊥) where
  first_two : (lines : List (List ℕ)) → Plain rules lines → (get_or (join_lines lines) 0 0 ≡ 35) × (get_or (join_lines lines) 1 0 ≡ rules.letter)
  unfolding kind_of
  first_two lines p =
      let l = p.first in
      let is = ap told_kind (line-kind rules kind.First l (and_left (is_line rules kind.First l) (eqb (first_of rules (padded l)).fault 0) p.is-first)) in
      let two = letters rules.letter (get_or (padded l) 0 0) (get_or (padded l) 1 0) (get_or (padded l) 2 0) is in
      rw p.lines_are
      (two_bytes l _ 35 rules.letter (sym (padded-column l 0 (omega arith)) ∙ two.0) (sym (padded-column l 1 (omega arith)) ∙ two.1) (λ e. omega arith) inked)

  pub file-letters : (bytes : List ℕ) → Accepted rules bytes → (get_or bytes 0 0 ≡ 35) × (get_or bytes 1 0 ≡ rules.letter)
  file-letters bytes (lines, is, p) =
      subst (λ (s : List ℕ). (get_or s 0 0 ≡ 35) × (get_or s 1 0 ≡ rules.letter)) (sym is) (first_two lines p)

-- so does a file that the machine accepts
pub letters-told : (rules : Rules) → Sound rules → (rules.letter ≡ 32 → ⊥) → (bytes : List ℕ) → IsFile rules bytes
    → (get_or bytes 0 0 ≡ 35) × (get_or bytes 1 0 ≡ rules.letter)
letters-told rules sound inked bytes f = file-letters rules inked bytes (accepts-plain rules sound bytes f)

-- An accepted file of SP3-c is judged by its own rules, and so is one of SP3-d.
pub rules-c : (bytes : List ℕ) → IsFile c bytes → rules_in bytes ≡ c
unfolding rules_in begins_c
rules-c bytes f = let two = letters-told c c-sound (λ e. omega arith) bytes f in rw (two.0, two.1)

pub rules-d : (bytes : List ℕ) → IsFile d bytes → rules_in bytes ≡ d
unfolding rules_in begins_c
rules-d bytes f = let two = letters-told d d-sound (λ e. omega arith) bytes f in rw (two.0, two.1)

pub rules-told : (v : Version) (bytes : List ℕ) → IsFile (rules_of v) bytes → rules_in bytes ≡ rules_of v
rules-told version.C bytes f = rules-c bytes f
rules-told version.D bytes f = rules-d bytes f

-- NO FILE IS OF BOTH VERSIONS,
pub not-both : (bytes : List ℕ) → IsFile c bytes → IsFile d bytes → ⊥
not-both bytes f g =
    let x = letters-told c c-sound (λ e. omega arith) bytes f in
    let y = letters-told d d-sound (λ e. omega arith) bytes g in
    omega (arith, x.1, y.1)

-- the rules that some bytes tell are those of one of them,
pub told-either : (bytes : List ℕ) → (rules_in bytes ≡ c) ⊎ (rules_in bytes ≡ d)
unfolding rules_in
told-either bytes = go (begins_c bytes)
  where
    go : (t : Bool) → (cond t c d ≡ c) ⊎ (cond t c d ≡ d)
    go true = inl refl
    go false = inr refl

-- and their letter tells them,
pub told_back : (bytes : List ℕ) → rules_of (version_by (rules_in bytes).letter) ≡ rules_in bytes
unfolding version_by
told_back bytes = go (told-either bytes)
  where
    go : (rules_in bytes ≡ c) ⊎ (rules_in bytes ≡ d) → rules_of (version_by (rules_in bytes).letter) ≡ rules_in bytes
    go (inl e) = ap (λ (r : Rules). rules_of (version_by r.letter)) e ∙ sym e
    go (inr e) = ap (λ (r : Rules). rules_of (version_by r.letter)) e ∙ sym e

-- which a file that they accept tells again,
pub told-again : (bytes again : List ℕ) → IsFile (rules_in bytes) again → rules_in again ≡ rules_in bytes
told-again bytes again f =
    rules-told (version_by (rules_in bytes).letter) again (subst (λ (r : Rules). IsFile r again) (sym (told_back bytes)) f) ∙ told_back bytes

-- such as the laws ask,
pub told-sound : (bytes : List ℕ) → Sound (rules_in bytes)
told-sound bytes = go (told-either bytes)
  where
    go : (rules_in bytes ≡ c) ⊎ (rules_in bytes ≡ d) → Sound (rules_in bytes)
    go (inl e) = subst Sound (sym e) c-sound
    go (inr e) = subst Sound (sym e) d-sound

-- and they accept the bytes exactly when these are a file of one of the versions.
pub either : (bytes : List ℕ) → AnyFile bytes ↔ (IsFile c bytes ⊎ IsFile d bytes)
either bytes = (forth (told-either bytes), back)
  where
    forth : (rules_in bytes ≡ c) ⊎ (rules_in bytes ≡ d) → AnyFile bytes → IsFile c bytes ⊎ IsFile d bytes
    forth (inl e) f = inl (subst (λ (r : Rules). IsFile r bytes) e f)
    forth (inr e) f = inr (subst (λ (r : Rules). IsFile r bytes) e f)

    back : IsFile c bytes ⊎ IsFile d bytes → AnyFile bytes
    back (inl f) = subst (λ (r : Rules). IsFile r bytes) (sym (rules-c bytes f)) f
    back (inr f) = subst (λ (r : Rules). IsFile r bytes) (sym (rules-d bytes f)) f

-- the first two bytes of a stretch that begins with `#` and another
two-first : (a b : List ℕ) → get_or a 0 0 ≡ 35 → (get_or a 1 0 ≡ 0 → ⊥) → begins_c (a ++ b) ≡ begins_c a
unfolding begins_c
two-first [] b h inked = absurd (omega arith)
two-first (x ∷ []) b h inked = absurd (inked refl)
two-first (x ∷ y ∷ a) b h inked = refl

-- What follows an accepted file does not change the rules that it tells.
pub told-after : (a b : List ℕ) → AnyFile a → rules_in (a ++ b) ≡ rules_in a
unfolding rules_in
told-after a b f = ap (λ (t : Bool). cond t c d) (go ((either a).0 f))
  where
    go : IsFile c a ⊎ IsFile d a → begins_c (a ++ b) ≡ begins_c a
    go (inl g) = let two = letters-told c c-sound (λ e. omega arith) a g in two-first a b two.0 (λ e. omega (arith, two.1))
    go (inr g) = let two = letters-told d d-sound (λ e. omega arith) a g in two-first a b two.0 (λ e. omega (arith, two.1))
