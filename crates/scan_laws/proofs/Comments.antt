-- The comments of a file: as many as the version wants take the machine to the epochs, and a run to a file has read so many.
-- Assumes nothing.
use mathlib.Core.Path.{◌≡◌, refl, sym, ap, ◌∙◌, subst}
use mathlib.Core.Bool.{Bool, true, false, cond}
use mathlib.Core.List.{List, [], ◌∷◌, ◌++◌}
use Prim.Native.Nat.{ℕ, ◌-◌, ◌≤◌}
use native.Mathlib.Omega.{arith}
use lib.Dec.{eqb}
use lib.ListN.{length}
use borrow.Author.Tests.{eqb-true, eqb-false, ne_eqb}
use Rattle.laws.proofs.Bools.{and_left, and_right, and_both}
use Rattle.layout.specs.Layout.{fault_of}
use Rattle.layout.specs.Line.{padded}
use Rattle.record.specs.LineKinds.{no_kind, satellites_kind, comment_kind, epoch_kind, told_kind}
use Rattle.record.specs.Plain.{comment_items}
use Rattle.record.proofs.Determined.{told_kind-one}
use Rattle.header.specs.declared.types.Rules.{Rules}
use Rattle.record.specs.declared.types.LineKind.TheVariants as kind
use Rattle.machine.specs.Next.{allow, comments_due}
use Rattle.machine.specs.declared.types.State.{State}
use Rattle.file.specs.Kinds.{is_kind}
use Rattle.file.specs.Plain.{is_line, every_line, is_comment_line}
use Rattle.scan.specs.Run.{run, counted}
use Rattle.scan.specs.declared.Tally.{Tally}
use Rattle.scan.specs.Front as front
use Rattle.scan_laws.proofs.Passing.{kind_here, taken, is-due, some-line}
use Rattle.scan_laws.proofs.Forgetting.{forget}
use Rattle.scan_laws.proofs.Reaching.{counted_over, Reach, reach-none, reach-append, reach-one, reach-also, identifiers-kept}

module _ (rules : Rules) (s : State) (identifiers : List ℕ) where
  other-due : (needed allowed : ℕ) → eqb (comments_due needed allowed s).due satellites_kind ≡ false
  unfolding comments_due
  other-due needed allowed = go (eqb needed 0)
    where
      go : (b : Bool) → eqb (cond b epoch_kind comment_kind) satellites_kind ≡ false
      go true = refl
      go false = refl

  due-comment : (needed allowed : ℕ) → eqb needed 0 ≡ false → (comments_due needed allowed s).due ≡ comment_kind
  unfolding comments_due
  due-comment needed allowed e = rw e

  none-else : (needed allowed : ℕ) → eqb needed 0 ≡ false → (comments_due needed allowed s).also ≡ no_kind
  unfolding comments_due
  none-else needed allowed e = rw e

  also-comment : (needed allowed : ℕ) → eqb needed 0 ≡ true → eqb allowed 0 ≡ false → (comments_due needed allowed s).also ≡ comment_kind
  unfolding comments_due
  also-comment needed allowed e f = rw (e, f)

  nothing-else : (needed allowed : ℕ) → eqb needed 0 ≡ true → eqb allowed 0 ≡ true → comments_due needed allowed s ≡ allow no_kind (comments_due needed allowed s)
  unfolding comments_due
  nothing-else needed allowed e f = rw (e, f)

  -- one comment
  comment-reach : (needed allowed : ℕ) (l : List ℕ) → 1 ≤ allowed → is_comment_line rules l ≡ true
      → Reach rules (comments_due needed allowed s) identifiers (l ∷ []) (comments_due (needed - 1) (allowed - 1) s) identifiers
  unfolding comments_due
  comment-reach needed allowed l some is = go (eqb needed 0) refl
    where
      is-kind : is_line rules kind.Comment l ≡ true
      is-kind = and_left (is_line rules kind.Comment l) _ is

      clean : fault_of comment_items (padded l) ≡ 0
      clean = eqb-true (fault_of comment_items (padded l)) 0 (and_right (is_line rules kind.Comment l) _ is)

      go : (b : Bool) → eqb needed 0 ≡ b → Reach rules (comments_due needed allowed s) identifiers (l ∷ []) (comments_due (needed - 1) (allowed - 1) s) identifiers
      go true e =
          reach-also rules kind.Comment (comments_due needed allowed s) (comments_due (needed - 1) (allowed - 1) s) identifiers identifiers l
          (also-comment needed allowed e (ne_eqb allowed 0 (λ z. omega arith))) is-kind clean refl
          (identifiers-kept rules (comments_due needed allowed s) identifiers l (other-due needed allowed))
      go false e =
          reach-one rules kind.Comment (comments_due needed allowed s) (comments_due (needed - 1) (allowed - 1) s) identifiers identifiers l
          (due-comment needed allowed e) is-kind clean refl
          (identifiers-kept rules (comments_due needed allowed s) identifiers l (other-due needed allowed))

  -- all of them
  pub comments-reach : (ls : List (List ℕ)) (needed allowed : ℕ) → needed ≤ length ls → length ls ≤ allowed → every_line (is_comment_line rules) ls ≡ true
      → (c : ℕ) × Reach rules (comments_due needed allowed s) identifiers ls (comments_due 0 c s) identifiers
  unfolding every_line
  comments-reach [] needed allowed low high are =
      let none : needed ≡ 0 = omega arith in
      (allowed, subst (λ (k : ℕ). Reach rules (comments_due k allowed s) identifiers [] (comments_due 0 allowed s) identifiers) (sym none) (reach-none rules (comments_due 0 allowed s) identifiers))
  comments-reach (l ∷ ls) needed allowed low high are =
      let others = comments-reach ls (needed - 1) (allowed - 1) (omega arith) (omega arith) (and_right (is_comment_line rules l) _ are) in
      let first = comment-reach needed allowed l (omega arith) (and_left (is_comment_line rules l) _ are) in
      (others.0, reach-append rules (comments_due needed allowed s) (comments_due (needed - 1) (allowed - 1) s) (comments_due 0 others.0 s) identifiers identifiers identifiers (l ∷ []) ls first others.1)

  -- the comments that a run to a file has read
  pub record Commented (needed allowed : ℕ) (t t' : Tally) (ls : List (List ℕ)) : Type 0 where
    pub comments : List (List ℕ)
    pub more : List (List ℕ)
    pub split : ls ≡ comments ++ more
    pub are-comments : every_line (is_comment_line rules) comments ≡ true
    pub enough : needed ≤ length comments
    pub few : length comments ≤ allowed
    pub spare : ℕ
    pub goes : run rules (allow no_kind (comments_due 0 spare s)) identifiers (counted_over rules t comments) more ≡ front.File t'

  one_more : (needed allowed : ℕ) (t t' : Tally) (l : List ℕ) (ls : List (List ℕ)) → 1 ≤ allowed → is_comment_line rules l ≡ true
      → Commented (needed - 1) (allowed - 1) (counted rules t l) t' ls → Commented needed allowed t t' (l ∷ ls)
  unfolding counted_over every_line
  one_more needed allowed t t' l ls some is c = record {
    comments = l ∷ c.comments;
    more = c.more;
    split = ap (λ (r : List (List ℕ)). l ∷ r) c.split;
    are-comments = and_both (is_comment_line rules l) _ is c.are-comments;
    enough = omega (arith, c.enough);
    few = omega (arith, c.few);
    spare = c.spare;
    goes = c.goes;
  }

  comment-read : (needed allowed : ℕ) (t t' : Tally) (l : List ℕ) (ls : List (List ℕ)) → kind_here rules l ≡ kind.Comment
      → run rules (comments_due needed allowed s) identifiers t (l ∷ ls) ≡ front.File t'
      → (is_comment_line rules l ≡ true) × (run rules (comments_due (needed - 1) (allowed - 1) s) identifiers (counted rules t l) ls ≡ front.File t')
  unfolding comments_due
  comment-read needed allowed t t' l ls is e =
      let x = taken rules kind.Comment (comments_due needed allowed s) identifiers t t' l ls is e in
      let kept = identifiers-kept rules (comments_due needed allowed s) identifiers l (other-due needed allowed) in
      (rw (x.is-kind, x.clean), rw kept at x.goes)

  no-comment : (needed allowed : ℕ) (t t' : Tally) (ls : List (List ℕ)) → eqb needed 0 ≡ true → run rules (allow no_kind (comments_due needed allowed s)) identifiers t ls ≡ front.File t'
      → Commented needed allowed t t' ls
  unfolding counted_over every_line
  no-comment needed allowed t t' ls none e =
      let z = eqb-true needed 0 none in
      record {
        comments = [];
        more = ls;
        split = refl;
        are-comments = refl;
        enough = omega (arith, z);
        few = omega arith;
        spare = allowed;
        goes = rw z at e;
      }

  abbrev More : (needed allowed : ℕ) (t t' : Tally) (l : List ℕ) (ls : List (List ℕ)) → Type 0
  More needed allowed t t' l ls =
      run rules (comments_due (needed - 1) (allowed - 1) s) identifiers (counted rules t l) ls ≡ front.File t'
      → Commented (needed - 1) (allowed - 1) (counted rules t l) t' ls

  pub comments-read : (ls : List (List ℕ)) (needed allowed : ℕ) (t t' : Tally) → needed ≤ allowed → run rules (comments_due needed allowed s) identifiers t ls ≡ front.File t'
      → Commented needed allowed t t' ls
  comments-read [] needed allowed t t' h e = absurd (some-line rules (comments_due needed allowed s) identifiers t t' e)
  comments-read (l ∷ ls) needed allowed t t' h e = go (eqb needed 0) refl (is_kind rules comment_kind l) refl (eqb allowed 0) refl (comments-read ls (needed - 1) (allowed - 1) (counted rules t l) t' (omega arith))
    where
      first : 1 ≤ allowed → kind_here rules l ≡ kind.Comment → More needed allowed t t' l ls → Commented needed allowed t t' (l ∷ ls)
      first some is more =
          let x = comment-read needed allowed t t' l ls is e in
          one_more needed allowed t t' l ls some x.0 (more x.1)

      go : (b : Bool) → eqb needed 0 ≡ b → (c : Bool) → is_kind rules comment_kind l ≡ c → (d : Bool) → eqb allowed 0 ≡ d → More needed allowed t t' l ls → Commented needed allowed t t' (l ∷ ls)
      go false some c is d many more =
          first (omega (arith, eqb-false needed 0 some))
          (is-due rules kind.Comment (comments_due needed allowed s) identifiers t t' l ls (due-comment needed allowed some) (none-else needed allowed some) e) more
      go true none c is true many more = no-comment needed allowed t t' (l ∷ ls) none (subst (λ (x : State). run rules x identifiers t (l ∷ ls) ≡ front.File t') (nothing-else needed allowed none many) e)
      go true none true is false many more =
          first (omega (arith, eqb-false allowed 0 many)) (told_kind-one (kind_here rules l) kind.Comment (eqb-true (told_kind (kind_here rules l)) comment_kind is)) more
      go true none false is false many more =
          no-comment needed allowed t t' (l ∷ ls) none
          (sym (forget rules (comments_due needed allowed s) identifiers t l ls (ap (λ (k : ℕ). is_kind rules k l) (also-comment needed allowed none many) ∙ is)) ∙ e)
