-- The note of a row is its own: directly after a P line EP alone stands as a note, directly after a V line EV alone, each without fault.
-- Assumes nothing.
use mathlib.Core.Path.{◌≡◌, refl, sym, ap, subst, ◌∙◌}
use mathlib.Core.Bool.{Bool, true, false, cond, ◌||◌, false≢true}
use mathlib.Core.List.{List, [], ◌∷◌, ◌++◌}
use Prim.Native.Nat.{ℕ, zero, suc, ◌+◌, ◌<◌}
use native.Mathlib.Nat.{le_of_suc-le-suc, not-suc-le-zero}
use native.Mathlib.Omega.{arith}
use borrow.Author.Tests.{leb-true, ne_eqb}
use lib.Dec.{eqb, leb}
use lib.ListN.{length}
use Rattle.laws.specs.Tests.{within}
use Rattle.lines.specs.Lines.{select, nth, after_nth}
use Rattle.record.specs.LineKinds.{first_kind, comment_kind, position_kind, velocity_kind, position_correlation_kind, velocity_correlation_kind, told_kind}
use Rattle.header.specs.declared.types.Rules.{Rules}
use Rattle.file.specs.Kinds.{kind_in, is_row, is_note}
use Rattle.file.specs.Plain.{every_line, row_kind, note_kind, is_note_line, are_notes, Noted, Rest, Rows, Epochs, Plain}
use Rattle.laws.proofs.Bools.{and_left, and_right}
use Rattle.laws.proofs.Bounds.{within-true}
use Rattle.lines.proofs.Each.{Each, each_weaken}
use Rattle.file_laws.proofs.Sorting.{row-kind, epoch-kind}
use Rattle.file_laws.proofs.Selected.{velocities, identifiers, interval8, epochs, start8, last-kind}
use Rattle.file_laws.proofs.Instants.{header, three-parts, header-kinds}

-- the kinds of P and V lines, and those of EP and EV lines
abbrev pub is_row_kind : ℕ → Bool
is_row_kind k = eqb k position_kind || eqb k velocity_kind

abbrev pub is_note_kind : ℕ → Bool
is_note_kind k = eqb k position_correlation_kind || eqb k velocity_correlation_kind

pub row_told : (v : Bool) → is_row_kind (told_kind (row_kind v)) ≡ true
row_told true = refl
row_told false = refl

pub note-told : (v : Bool) → is_note_kind (told_kind (note_kind v)) ≡ true
note-told true = refl
note-told false = refl

-- a row is no note
pub row-quiet : (v : Bool) → is_note_kind (told_kind (row_kind v)) ≡ false
row-quiet true = refl
row-quiet false = refl

module _ (rules : Rules) where
  -- a note that follows a line of this kind is that of a P line, or of a V line
  abbrev pub Follows : ℕ → List ℕ → Type 0
  Follows k l = is_note rules l ≡ true → (v : Bool) × (k ≡ told_kind (row_kind v)) × (is_note_line rules v l ≡ true)

  abbrev pub Following : ℕ → List (List ℕ) → Type 0
  Following k [] = Unit
  Following k (l ∷ ls) = Follows k l × Following (kind_in rules l) ls

  -- of the line directly after the r-th row
  pub after-row : (ls : List (List ℕ)) (k r : ℕ) → Following k ls → r < length (select (is_row rules) ls) → (next : List ℕ) (more : List (List ℕ))
      → after_nth (is_row rules) r ls ≡ next ∷ more → Follows (kind_in rules (nth r (select (is_row rules) ls))) next
  unfolding select nth after_nth
  after-row [] k r f h next more e = absurd (not-suc-le-zero h)
  after-row (l ∷ ls) k zero f h next more e = go (is_row rules l) h e f.1 (λ q. after-row ls (kind_in rules l) 0 f.1 q next more)
    where
      go : (t : Bool) → 0 < length (cond t (l ∷ select (is_row rules) ls) (select (is_row rules) ls)) → cond t ls (after_nth (is_row rules) 0 ls) ≡ next ∷ more
          → Following (kind_in rules l) ls
          → (0 < length (select (is_row rules) ls) → after_nth (is_row rules) 0 ls ≡ next ∷ more → Follows (kind_in rules (nth 0 (select (is_row rules) ls))) next)
          → Follows (kind_in rules (nth 0 (cond t (l ∷ select (is_row rules) ls) (select (is_row rules) ls)))) next
      go true q is here later = (subst (Following (kind_in rules l)) is here).0
      go false q is here later = later q is
  after-row (l ∷ ls) k (suc r) f h next more e =
      go (is_row rules l) h e (λ q. after-row ls (kind_in rules l) r f.1 q next more) (λ q. after-row ls (kind_in rules l) (suc r) f.1 q next more)
    where
      go : (t : Bool) → suc r < length (cond t (l ∷ select (is_row rules) ls) (select (is_row rules) ls))
          → cond t (after_nth (is_row rules) r ls) (after_nth (is_row rules) (suc r) ls) ≡ next ∷ more
          → (r < length (select (is_row rules) ls) → after_nth (is_row rules) r ls ≡ next ∷ more → Follows (kind_in rules (nth r (select (is_row rules) ls))) next)
          → (suc r < length (select (is_row rules) ls) → after_nth (is_row rules) (suc r) ls ≡ next ∷ more → Follows (kind_in rules (nth (suc r) (select (is_row rules) ls))) next)
          → Follows (kind_in rules (nth (suc r) (cond t (l ∷ select (is_row rules) ls) (select (is_row rules) ls)))) next
      go true q is here later = here (le_of_suc-le-suc q) is
      go false q is here later = later q is

  -- lines, and others after them that begin with no note
  join : (a b : List (List ℕ)) (k : ℕ) → Following k a → ((j : ℕ) → Following j b) → Following k (a ++ b)
  join [] b k f g = g k
  join (l ∷ a) b k f g = (f.0, join a b (kind_in rules l) f.1 g)

  -- a line of a kind that is no note
  no_note : (k j : ℕ) (l : List ℕ) → kind_in rules l ≡ j → is_note_kind j ≡ false → Follows k l
  no_note k j l e none is = absurd (false≢true (sym none ∙ ap is_note_kind (sym e) ∙ is))

  quiet : (ls : List (List ℕ)) (k : ℕ) → Each (λ (l : List ℕ). is_note_kind (kind_in rules l) ≡ false) ls → Following k ls
  quiet [] k p = tt
  quiet (l ∷ ls) k p = (no_note k (kind_in rules l) l refl p.0, quiet ls (kind_in rules l) p.1)

  -- a row and what may stand after it
  noted-follow : (v : Bool) (identifier : ℕ) (ls : List (List ℕ)) → Noted rules v identifier ls → (k : ℕ) → Following k ls
  unfolding every_line
  noted-follow v identifier ls s k =
      let kind = row-kind rules v identifier s.row s.is-row in
      subst (Following k) (sym s.lines_are) (no_note k (told_kind (row_kind v)) s.row kind (row-quiet v), notes s.notes s.are-notes kind)
    where
      notes : (ns : List (List ℕ)) → are_notes rules v ns ≡ true → kind_in rules s.row ≡ told_kind (row_kind v) → Following (kind_in rules s.row) ns
      notes [] are kind = tt
      notes (n ∷ []) are kind = (λ is. (v, kind, and_left (is_note_line rules v n) true (and_right (leb 1 1) _ are)), tt)
      notes (n ∷ m ∷ ns) are kind = absurd (omega (arith, leb-true (length (n ∷ m ∷ ns)) 1 (and_left (leb (length (n ∷ m ∷ ns)) 1) _ are)))

  rest-follow : (v : Bool) (identifier : ℕ) (ls : List (List ℕ)) → Rest rules v identifier ls → (k : ℕ) → Following k ls
  rest-follow true identifier ls r k = noted-follow true identifier ls r k
  rest-follow false identifier ls r k = subst (Following k) (sym r) tt

  rows-follow : (velocity : Bool) (identifiers : List ℕ) (ls : List (List ℕ)) → Rows rules velocity identifiers ls → (k : ℕ) → Following k ls
  rows-follow velocity [] ls r k = subst (Following k) (sym r) tt
  rows-follow velocity (identifier ∷ identifiers) ls r k =
      let s = r.3 in
      subst (Following k) (sym r.2)
      (join r.0 r.1 k
      (subst (Following k) (sym s.lines_are)
      (join s.position s.rest k (noted-follow false identifier s.position s.is-position k) (rest-follow velocity identifier s.rest s.is-rest)))
      (rows-follow velocity identifiers r.1 r.4))

  epochs-follow : (velocity : Bool) (identifiers : List ℕ) (interval8 n at8 : ℕ) (ls : List (List ℕ)) → Epochs rules velocity identifiers interval8 n at8 ls → (k : ℕ)
      → Following k ls
  epochs-follow velocity identifiers interval8 zero at8 ls e k = subst (Following k) (sym e) tt
  epochs-follow velocity identifiers interval8 (suc n) at8 ls e k =
      subst (Following k) (sym e.3) (
        no_note k _ e.0 (epoch-kind rules at8 e.0 e.4) refl,
        join e.1 e.2 (kind_in rules e.0) (rows-follow velocity identifiers e.1 e.5 (kind_in rules e.0))
            (epochs-follow velocity identifiers interval8 n (at8 + interval8) e.2 e.6),
      )

-- THE NOTE OF A ROW: in an accepted file every note stands directly after its own row.
pub file-follows : {rules : Rules} {lines : List (List ℕ)} → Plain rules lines → Following rules 0 lines
file-follows {rules} {lines} p =
    subst (Following rules 0) (sym (three-parts p))
    (join rules (header p) (p.epochs ++ (p.last ∷ [])) 0 (quiet rules (header p) 0 before)
    (λ k.
    join rules p.epochs (p.last ∷ []) k (epochs-follow rules (velocities p) (identifiers p) (interval8 p) (epochs p) (start8 p) p.epochs p.are-epochs k)
    (λ j. (no_note rules j _ p.last (last-kind p).0 refl, tt))))
  where
    apart : (k : ℕ) → within first_kind comment_kind k ≡ true → is_note_kind k ≡ false
    apart k e =
        let b = within-true first_kind comment_kind k e in
        rw (ne_eqb k position_correlation_kind (λ q. omega (arith, b)), ne_eqb k velocity_correlation_kind (λ q. omega (arith, b)))

    before : Each (λ (l : List ℕ). is_note_kind (kind_in rules l) ≡ false) (header p)
    before =
        each_weaken (λ (l : List ℕ). within first_kind comment_kind (kind_in rules l) ≡ true) (λ (l : List ℕ). is_note_kind (kind_in rules l) ≡ false)
        (λ l e. apart (kind_in rules l) e) (header p) (header-kinds p)
